-- How the chain of steps ends.
use Rattle.std.proofs.Common.{◌≡◌, ◌∙◌, inl, inr, ℕ, List, [], ◌∷◌, true, codes, Option, Some, None, Ok, Err, refl, ap}
use Rattle.rst_outside.specs.declared.desk.DeskFile.{DeskFile}
use Rattle.rst_reject.specs.declared.code.Code.TheVariants as code
use Rattle.rst_reject.specs.declared.reject.Reject.{Reject}
use Rattle.rst_reject.specs.Rejects.{at_line}
use Rattle.rst_reject.specs.Steps.{Then}
use Rattle.rst_command.specs.Commands.{Input, Command, Check, Known, Demo, command_of}
use Rattle.rst_loads.specs.declared.loading.Stop as loading
use Rattle.rst_loads.specs.declared.loading.Stop.TheVariants as stopped
use Rattle.rst_loads.specs.Loads.{texts_of}
use Rattle.rst_verdict.specs.declared.verdict.Verdict.{Verdict}
use Rattle.rst_verdict.specs.declared.verdict.Verdict.TheVariants.{SignedKnown, SignedRelation, Refuted, Never, Alignable, Unknown}
use Rattle.rst_answer.specs.declared.answer.Answer.TheVariants as answer
use Rattle.rst_answer.specs.Answers.{Due, usage_due, unread_due, refused_due}
use Rattle.rst_question.specs.Questions.{Question}
use Rattle.rst_question.proofs.Thens.{refusal_of}
use Rattle.rst_replies.specs.Replies.{Knows, IsVerdictOf, check_due, demo_due, shown_due}
use Rattle.rst_due.specs.declared.input.Purpose.{Purpose}
use Rattle.rst_due.specs.declared.input.Purpose.TheVariants as purpose
use Rattle.rst_due.specs.Due.{Stops, LoadStops, LoadsGive, CommandGives, Asks, unfiled, DemoAsks, DecisionGives, QuestionDecides, DemoDecides, InputRuns, CommandRuns, CommandDecides, IsDue}
use Rattle.rst_due.specs.Asked.{InputAsks, is_decided}
use Rattle.rst_sign.specs.Promises.{input_of}

pub data Ending (words : List (List ℕ)) (files : List DeskFile) (failed : Option ℕ) (due : Due) : Type 0 where
  no_command : command_of words ≡ None → due ≡ usage_due → Ending words files failed due
  unread : (command : Command) (input : Input) (place : ℕ) → command_of words ≡ Some command → input_of command ≡ Some input
      → texts_of files failed input ≡ Err (stopped.Unread place) → due ≡ unread_due words place → Ending words files failed due
  rejected : (r : Reject) → due ≡ refused_due words r → Ending words files failed due
  checked : (input : Input) (cert : List ℕ) (q : Question) (verdict : Verdict) → command_of words ≡ Some (Check input cert) → InputAsks words files failed input q
      → IsVerdictOf q verdict → due ≡ check_due input.top q verdict → Ending words files failed due
  demonstrated : (stages : ℕ) (q : Question) (verdict : Verdict) → command_of words ≡ Some (Demo stages) → DemoAsks words stages (Ok q) → IsVerdictOf q verdict
      → due ≡ demo_due stages q verdict → Ending words files failed due
  shown : (input : Input) (q : Question) → command_of words ≡ Some (Known input) → InputAsks words files failed input q
      → due ≡ shown_due q → Ending words files failed due

-- behind a decision stands its verdict
pub verdict_of : (q : Question) (of : Verdict → Due) (due : Due) → Then (DecisionGives q) (λ verdict. Stops (of verdict)) (Err due)
    → (verdict : Verdict) × IsVerdictOf q verdict × (due ≡ of verdict)
verdict_of q of due runs =
    elim (refusal_of {First = DecisionGives q} {Rest = λ verdict. Stops (of verdict)} due runs) [
      | inl stop ↦ absurd stop
      | inr (verdict, decides, is) ↦
          let same : due ≡ of verdict = cc in
          (verdict, decides, same)
    ]

module _ (words : List (List ℕ)) (files : List DeskFile) (failed : Option ℕ) (due : Due) where
  check_end : (input : Input) (cert : List ℕ) (q : Question) → command_of words ≡ Some (Check input cert) → InputAsks words files failed input q
      → QuestionDecides input purpose.Check q (Err due) → Ending words files failed due
  check_end input cert q spelled asks runs =
      let v = verdict_of q (check_due input.top q) due runs in
      checked input cert q v.0 spelled asks v.1 v.2

  known_end : (input : Input) (q : Question) → command_of words ≡ Some (Known input) → InputAsks words files failed input q
      → QuestionDecides input purpose.Known q (Err due) → Ending words files failed due
  known_end input q spelled asks is =
      let same : due ≡ shown_due q = cc in
      shown input q spelled asks same

  load_end : (command : Command) (input : Input) (stop : loading.Stop) → command_of words ≡ Some command → input_of command ≡ Some input
      → texts_of files failed input ≡ Err stop → LoadStops words stop due → Ending words files failed due
  load_end command input (stopped.Unread place) spelled reads gives is = unread command input place spelled reads gives is
  load_end command input (stopped.TooLong place) spelled reads gives is = rejected (at_line code.TooLong place 0) is
  load_end command input stopped.NoMemory spelled reads gives is = absurd is

  input_end : (purpose : Purpose) (command : Command) (input : Input) → command_of words ≡ Some command → input_of command ≡ Some input
      → InputRuns words files failed purpose input (Err due)
      → ((q : Question) → InputAsks words files failed input q → QuestionDecides input purpose q (Err due) → Ending words files failed due)
      → Ending words files failed due
  input_end purpose command input spelled reads runs rest =
      elim (refusal_of {First = LoadsGive words files failed input} {Rest = λ texts. Then (Asks words input texts) (QuestionDecides input purpose)} due runs) [
        | inl (stop, gives, stops) ↦ load_end command input stop spelled reads gives stops
        | inr (texts, gives, more) ↦ elim (refusal_of {First = Asks words input texts} {Rest = QuestionDecides input purpose} due more) [
          | inl (r, asks, is) ↦ rejected r is
          | inr (q, asks, decides) ↦ rest q (texts, gives, asks) decides
        ]
      ]

  demo_end : (stages : ℕ) → command_of words ≡ Some (Demo stages) → Then (DemoAsks words stages) (DemoDecides stages) (Err due) → Ending words files failed due
  demo_end stages spelled runs =
      elim (refusal_of {First = DemoAsks words stages} {Rest = DemoDecides stages} due runs) [
        | inl (r, gives, is) ↦ rejected (unfiled r) is
        | inr (q, asks, more) ↦
            let v = verdict_of q (demo_due stages q) due more in
            demonstrated stages q v.0 spelled asks v.1 v.2
      ]

  command_end : (command : Command) → command_of words ≡ Some command → CommandRuns words files failed command (Err due) → Ending words files failed due
  command_end (Check input cert) spelled runs = input_end purpose.Check (Check input cert) input spelled refl runs (λ q asks decides. check_end input cert q spelled asks decides)
  command_end (Known input) spelled runs = input_end purpose.Known (Known input) input spelled refl runs (λ q asks decides. known_end input q spelled asks decides)
  command_end (Demo stages) spelled runs = demo_end stages spelled runs

  pub ending : IsDue words files failed due → Ending words files failed due
  ending is =
      elim (refusal_of {First = CommandGives words} {Rest = CommandRuns words files failed} due is) [
        | inl (none, usage) ↦ no_command none usage
        | inr (command, spelled, runs) ↦ command_end command spelled runs
      ]

-- A QUESTION THAT IS DECIDED HAS ITS VERDICT

pub decided_verdict : (command : Command) (q : Question) (due : Due) → is_decided command ≡ true → CommandDecides command q (Err due)
    → (verdict : Verdict) × IsVerdictOf q verdict × (due.answer ≡ answer.Decided verdict)
decided_verdict (Check input cert) q due decides runs =
    let v = verdict_of q (check_due input.top q) due runs in
    (v.0, v.1, ap (λ (d : Due). d.answer) v.2)
decided_verdict (Known input) q due decides runs = cc
decided_verdict (Demo stages) q due decides runs =
    let v = verdict_of q (demo_due stages q) due runs in
    (v.0, v.1, ap (λ (d : Due). d.answer) v.2)

-- the verdict on a question whose registers are all known
pub known_verdict : (q : Question) (verdict : Verdict) → IsVerdictOf q verdict → Knows q → verdict ≡ SignedKnown q.pattern
known_verdict q (SignedKnown seq) (known, is) knows = ap (λ (p : _). SignedKnown p) is
known_verdict q (SignedRelation seq equal blocked split land) (never, some, is, relation) knows = absurd (never knows)
known_verdict q (Refuted seq a b word) (never, some, by) knows = absurd (never knows)
known_verdict q (Never a b blocked freed escape) decides knows = absurd decides
known_verdict q (Alignable seq a b word blocked freed split stuck) decides knows = absurd decides
known_verdict q (Unknown equal journal) (never, work) knows = absurd (never knows)
