-- The status of a verdict is none of another answer.
use Rattle.std.proofs.Common.{◌≡◌, ◌≢◌}
use Rattle.rst_verdict.specs.declared.verdict.Verdict.{Verdict}
use Rattle.rst_verdict.specs.declared.verdict.Verdict.TheVariants.{SignedKnown, SignedRelation, Refuted, Never, Alignable, Unknown}
use Rattle.rst_answer.specs.declared.answer.Status.{Status}
use Rattle.rst_answer.specs.declared.answer.Status.TheVariants.{Usage, ReadFault, WriteFault, Rejected, NoMemory, Shown}
use Rattle.rst_answer.specs.Answers.{status_of}

pub record IsOfVerdict (s : Status) : Type 0 where
  pub usage : s ≢ Usage
  pub read_fault : s ≢ ReadFault
  pub write_fault : s ≢ WriteFault
  pub rejected : s ≢ Rejected
  pub no_memory : s ≢ NoMemory
  pub shown : s ≢ Shown

pub verdict_status : (v : Verdict) → IsOfVerdict (status_of v)
verdict_status (SignedKnown seq) = record { usage = λ is. cc; read_fault = λ is. cc; write_fault = λ is. cc; rejected = λ is. cc; no_memory = λ is. cc; shown = λ is. cc }
verdict_status (SignedRelation seq equal blocked split land) = record { usage = λ is. cc; read_fault = λ is. cc; write_fault = λ is. cc; rejected = λ is. cc; no_memory = λ is. cc; shown = λ is. cc }
verdict_status (Refuted seq a b word) = record { usage = λ is. cc; read_fault = λ is. cc; write_fault = λ is. cc; rejected = λ is. cc; no_memory = λ is. cc; shown = λ is. cc }
verdict_status (Never a b blocked freed escape) = record { usage = λ is. cc; read_fault = λ is. cc; write_fault = λ is. cc; rejected = λ is. cc; no_memory = λ is. cc; shown = λ is. cc }
verdict_status (Alignable seq a b word blocked freed split stuck) = record { usage = λ is. cc; read_fault = λ is. cc; write_fault = λ is. cc; rejected = λ is. cc; no_memory = λ is. cc; shown = λ is. cc }
verdict_status (Unknown equal journal) = record { usage = λ is. cc; read_fault = λ is. cc; write_fault = λ is. cc; rejected = λ is. cc; no_memory = λ is. cc; shown = λ is. cc }
