-- What a run answers: the due answer with its text, and the outcome that it becomes.
use Rattle.std.specs.Prelude.{◌≡◌, ℕ, List, [], ◌∷◌, ◌++◌, codes, slice_get, ◌⊎◌, Option, None, Some}
use Rattle.std.specs.Option.{option_and_then}
use Rattle.rst_certificate.specs.CertText.{cert_text, VersionFits}
use Rattle.rst_reject.specs.declared.reject.Reject.{Reject}
use Rattle.rst_reject.specs.Lines.{file_part, refusal_line}
use Rattle.rst_answer.specs.declared.answer.Status.{Status}
use Rattle.rst_verdict.specs.declared.verdict.Verdict.{Verdict}
use Rattle.rst_verdict.specs.declared.verdict.Verdict.TheVariants as verdict
use Rattle.rst_answer.specs.declared.answer.Status.TheVariants.{Signed, Shown, Usage, ReadFault, WriteFault, Rejected, NoMemory, Refuted, NonResettable, Alignable, Unknown}
use Rattle.rst_answer.specs.declared.answer.Outcome.{Outcome}
use Rattle.rst_answer.specs.declared.answer.Answer.{Answer}
use Rattle.rst_answer.specs.declared.answer.Answer.TheVariants as answer
use Rattle.rst_answer.specs.declared.ready.Ready.{Ready}
use Rattle.rst_answer.specs.declared.ready.Ready.TheVariants.{Put, Save}

-- the exit status of a program that ends so
abbrev pub number_of : Status → ℕ
number_of Signed = 0
number_of Shown = 0
number_of Usage = 2
number_of ReadFault = 3
number_of WriteFault = 4
number_of Rejected = 5
number_of NoMemory = 6
number_of Refuted = 10
number_of NonResettable = 11
number_of Alignable = 12
number_of Unknown = 13

-- the status of a verdict
abbrev pub status_of : Verdict → Status
status_of (verdict.SignedKnown seq) = Signed
status_of (verdict.SignedRelation seq equal blocked split land) = Signed
status_of (verdict.Refuted seq a b word) = Refuted
status_of (verdict.Never a b blocked freed escape) = NonResettable
status_of (verdict.Alignable seq a b word blocked freed split stuck) = Alignable
status_of (verdict.Unknown equal journal) = Unknown

-- the outcome of a run that wrote all that was due: verdict, refusal or unread file exactly where due
abbrev pub outcome_of : Answer → Outcome
outcome_of answer.NoCommand = record { status = Usage; verdict = None; reject = None; unread = None }
outcome_of (answer.Unread place) = record { status = ReadFault; verdict = None; reject = None; unread = Some place }
outcome_of (answer.Refused reject) = record { status = Rejected; verdict = None; reject = Some reject; unread = None }
outcome_of answer.Shown = record { status = Shown; verdict = None; reject = None; unread = None }
outcome_of (answer.Decided found) = record { status = status_of found; verdict = Some found; reject = None; unread = None }

-- the outcome of a run in which a write failed: it keeps what was due
abbrev pub fault_of : Answer → Outcome
fault_of answer = record (outcome_of answer) { status = WriteFault }

-- the outcome of a run that found no memory keeps nothing
abbrev pub no_memory : Outcome
no_memory = record { status = NoMemory; verdict = None; reject = None; unread = None }

-- the outcome carries the due answer, or a fault of writing in its place
abbrev pub Carries : Answer → Outcome → Type 0
Carries answer outcome = (outcome ≡ outcome_of answer) ⊎ (outcome ≡ fault_of answer)

-- the place of the word whose load failed
abbrev pub unread_of : Answer → Option ℕ
unread_of (answer.Unread place) = Some place
unread_of _ = None

-- THE LINES

abbrev pub usage_line : List ℕ
usage_line = codes "usage: resetsign check TOP SCRIPT CERT FILE.. | known TOP SCRIPT FILE.. | demo N\n"

-- the word of a file: the one at its place, if it has one
abbrev pub file_word : List (List ℕ) → Option ℕ → Option (List ℕ)
file_word words file = option_and_then (slice_get words) file

abbrev pub unread_line : Option (List ℕ) → List ℕ
unread_line word = codes "read fault" ++ (file_part word ++ 10 ∷ [])

-- WHAT IS DUE

-- the answer, the text to put, and the certificate's text to save, where there is one
pub record Due : Type 0 where
  pub answer : Answer
  pub text : List ℕ
  pub cert : Option (List ℕ)

abbrev pub usage_due : Due
usage_due = record { answer = answer.NoCommand; text = usage_line; cert = None }

abbrev pub unread_due : List (List ℕ) → ℕ → Due
unread_due words place = record { answer = answer.Unread place; text = unread_line (file_word words (Some place)); cert = None }

abbrev pub refused_due : List (List ℕ) → Reject → Due
refused_due words reject = record { answer = answer.Refused reject; text = refusal_line (file_word words reject.file) reject; cert = None }

-- what the code has ready
abbrev pub plain_due : Ready → Due
plain_due (Put answer text) = record { answer = answer.value; text = text; cert = None }
plain_due (Save cert text) = record { answer = answer.Decided cert.value.verdict; text = text; cert = Some (cert_text cert.value) }

-- the certificate to save writes no free bit in version 1
abbrev pub CertFits : Ready → Type 0
CertFits (Put answer text) = Unit {0}
CertFits (Save cert text) = VersionFits cert.value
