-- What the contract of the top call says in its sentences.
use Rattle.std.specs.Prelude.{◌≡◌, ◌≢◌, ℕ, Bool, true, false, List, Option, Some, None, Err}
use Rattle.rst_outside.specs.declared.desk.DeskFile.{DeskFile}
use Rattle.rst_value.specs.declared.tern.Tern.{Tern}
use Rattle.rst_gate.specs.Machine.{Machine, IsState, IsWord, outs, after}
use Rattle.rst_gate.specs.Patterns.{IsFilling, PatternSigns}
use Rattle.rst_pair.specs.declared.journal.Entry.{Entry}
use Rattle.rst_verdict.specs.declared.verdict.Verdict.{Verdict}
use Rattle.rst_verdict.specs.declared.verdict.Verdict.TheVariants.{SignedKnown, SignedRelation, Refuted, Never, Alignable, Unknown}
use Rattle.rst_relation.specs.Verdicts.{IsAllWork}
use Rattle.rst_design_terms.specs.Gates.{gates_of}
use Rattle.rst_net.specs.Units.{PlainFlat}
use Rattle.rst_cycle.specs.Cycle.{IsMachineOf}
use Rattle.rst_settled.specs.Settling.{HasOneMachine}
use Rattle.rst_command.specs.Commands.{Input, Command, Check, Known, Demo, command_of}
use Rattle.rst_loads.specs.declared.loading.Stop.TheVariants.{Unread}
use Rattle.rst_loads.specs.Loads.{texts_of}
use Rattle.rst_reject.specs.declared.reject.Reject.{Reject}
use Rattle.rst_answer.specs.declared.answer.Outcome.{Outcome}
use Rattle.rst_answer.specs.Answers.{refused_due}
use Rattle.rst_question.specs.Questions.{Question, netlist}
use Rattle.rst_replies.specs.Replies.{Knows}
use Rattle.rst_due.specs.Due.{IsDue}

-- The pattern is an essential reset sequence of the design, however its free bits are filled: any two power-up states behave the same
-- behind it. The design is exactly one machine.
pub record Resets (flat : PlainFlat) (pattern : List (List Tern)) : Type 0 where
  pub one : HasOneMachine flat
  pub signs : (m : Machine) → IsMachineOf flat m → PatternSigns m pattern

-- Behind a filling of the pattern the word tells two power-up states apart by their outputs. The design is exactly one machine.
pub record Refutes (flat : PlainFlat) (pattern : List (List Tern)) (seq : List (List Bool)) (a b : List Bool) (word : List (List Bool)) : Type 0 where
  pub one : HasOneMachine flat
  pub fills : IsFilling pattern seq
  pub apart : (m : Machine) → IsMachineOf flat m → IsState m a × IsState m b × IsWord m word × (outs m (after m a seq) word ≢ outs m (after m b seq) word)

-- the pattern that a verdict signs
abbrev pub signed_pattern : Verdict → Option (List (List Tern))
signed_pattern (SignedKnown seq) = Some seq
signed_pattern (SignedRelation seq equal blocked split land) = Some seq
signed_pattern (Refuted seq a b word) = None
signed_pattern (Never a b blocked freed escape) = None
signed_pattern (Alignable seq a b word blocked freed split stuck) = None
signed_pattern (Unknown equal journal) = None

-- WHAT AN OUTCOME SAYS OF A QUESTION

-- its verdict signs the question's pattern, and this is an essential reset sequence of the design
pub record IsSigned (outcome : Outcome) (q : Question) : Type 0 where
  pub verdict : Verdict
  pub has : outcome.verdict ≡ Some verdict
  pub pattern : signed_pattern verdict ≡ Some q.pattern
  pub resets : Resets q.flat q.pattern

-- its verdict keeps a filling of the question's pattern, two power-up states of the design, and a word that tells them apart behind it
pub record IsRefutedBy (outcome : Outcome) (q : Question) : Type 0 where
  pub seq : List (List Bool)
  pub a : List Bool
  pub b : List Bool
  pub word : List (List Bool)
  pub has : outcome.verdict ≡ Some (Refuted seq a b word)
  pub refutes : Refutes q.flat q.pattern seq a b word

-- its verdict keeps as many entries as the script's budget allows, which are work of a search, and the marked registers; a register is X
-- behind the question's pattern
pub record IsUnknown (outcome : Outcome) (q : Question) : Type 0 where
  pub equal : List Bool
  pub journal : List Entry
  pub has : outcome.verdict ≡ Some (Unknown equal journal)
  pub unknown : Knows q → ⊥
  pub work : IsAllWork (gates_of (netlist q)) q.pattern q.script.budget equal journal

-- only `check` saves a certificate
abbrev pub is_check : Option Command → Bool
is_check None = false
is_check (Some (Check input cert)) = true
is_check (Some (Known input)) = false
is_check (Some (Demo stages)) = false

-- the input of a command that loads files
abbrev pub input_of : Command → Option Input
input_of (Check input cert) = Some input
input_of (Known input) = Some input
input_of (Demo stages) = None

-- the load of the word at this place gives no text, and each load before it gives one
pub record IsUnread (words : List (List ℕ)) (files : List DeskFile) (place : ℕ) : Type 0 where
  pub command : Command
  pub spelled : command_of words ≡ Some command
  pub input : Input
  pub reads : input_of command ≡ Some input
  pub stops : texts_of files (Some place) input ≡ Err (Unread place)

-- the steps of the words come to this refusal
abbrev pub IsRefused : List (List ℕ) → List DeskFile → Option ℕ → Reject → Type 0
IsRefused words files failed reject = IsDue words files failed (refused_due words reject)
