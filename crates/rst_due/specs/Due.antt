-- The due answer: what words, files and the place of a failed load call for, before anything is written. It is a chain of steps: each stops
-- with the answer that is due, or goes on with what it gives. So at most one answer is due, but for the evidence of a verdict.
use Rattle.std.specs.Prelude.{◌≡◌, ◌≢◌, ◌≤◌, ◌⊎◌, ℕ, List, [], ◌∷◌, length, codes, Option, Some, None, Result, Ok, Err}
use Rattle.std.specs.List.{All}
use Rattle.rst_outside.specs.declared.desk.DeskFile.{DeskFile}
use Rattle.rst_reject.specs.declared.code.Code.TheVariants as code
use Rattle.rst_reject.specs.declared.reject.Reject.{Reject}
use Rattle.rst_reject.specs.Rejects.{at_line}
use Rattle.rst_reject.specs.Steps.{Then}
use Rattle.rst_command.specs.Commands.{Word, Input, Command, Check, Known, Demo, command_of}
use Rattle.rst_loads.specs.declared.loading.Stop.{Stop}
use Rattle.rst_loads.specs.declared.loading.Stop.TheVariants.{Unread, TooLong, NoMemory}
use Rattle.rst_loads.specs.Loads.{Texts, texts_of}
use Rattle.rst_demo.specs.Demo.{demo_source, demo_script}
use Rattle.rst_answer.specs.declared.answer.Answer.TheVariants as answer
use Rattle.rst_answer.specs.Answers.{unread_of, Due, usage_due, unread_due, refused_due}
use Rattle.rst_question.specs.declared.question.Places.{Places}
use Rattle.rst_question.specs.Questions.{Question, QuestionGives}
use Rattle.rst_due.specs.declared.input.Purpose.{Purpose}
use Rattle.rst_due.specs.declared.input.Purpose.TheVariants as purpose
use Rattle.rst_verdict.specs.declared.verdict.Verdict.{Verdict}
use Rattle.rst_replies.specs.Replies.{IsVerdictOf, check_due, demo_due, shown_due}

-- A step gives a value, or stops with what is due.
abbrev pub Step : Type 0 → Type 1
Step A = Result A Due → Type 0

-- the last step: this is due
abbrev pub Stops : Due → Step (Unit {0})
Stops due answer = answer ≡ Err due

-- THE WORDS

-- the command that the words spell; all other words call for the usage line
abbrev pub CommandGives : List (List ℕ) → Step Command
CommandGives words (Ok command) = command_of words ≡ Some command
CommandGives words (Err due) = (command_of words ≡ None) × (due ≡ usage_due)

-- THE LOADS

-- why the first load that gives no text doesn't: it failed, or its file has more than 1,048,576 bytes
abbrev pub LoadStops : List (List ℕ) → Stop → Due → Type 0
LoadStops words (Unread place) due = due ≡ unread_due words place
LoadStops words (TooLong place) due = due ≡ refused_due words (at_line code.TooLong place 0)
LoadStops words NoMemory due = ⊥

-- the texts of the command's files, in the order of its words
abbrev pub LoadsGive : List (List ℕ) → List DeskFile → Option ℕ → Input → Step Texts
LoadsGive words files failed input (Ok texts) = texts_of files failed input ≡ Ok texts
LoadsGive words files failed input (Err due) = (stop : Stop) × (texts_of files failed input ≡ Err stop) × LoadStops words stop due

-- THE QUESTION

abbrev pub first_place : List Word → ℕ
first_place [] = 0
first_place (word ∷ words) = word.place

-- where the words of the files stand
abbrev pub places_of : Input → Places
places_of input = record { script = input.script.place; sources = first_place input.files }

-- the question that the texts ask below TOP, or their first refusal
abbrev pub Asks : List (List ℕ) → Input → Texts → Step Question
Asks words input texts (Ok q) = QuestionGives (places_of input) input.top texts.script texts.sources (Ok q)
Asks words input texts (Err due) = (r : Reject) × QuestionGives (places_of input) input.top texts.script texts.sources (Err r) × (due ≡ refused_due words r)

-- a demonstration's texts have no words
abbrev pub no_places : Places
no_places = record { script = 0; sources = 0 }

abbrev pub unfiled : Reject → Reject
unfiled r = record r { file = None }

-- the question that a demonstration with so many stages asks
abbrev pub DemoGives : ℕ → Result Question Reject → Type 0
DemoGives stages answer = QuestionGives no_places (codes "demo") demo_script (demo_source stages ∷ []) answer

abbrev pub DemoAsks : List (List ℕ) → ℕ → Step Question
DemoAsks words stages (Ok q) = DemoGives stages (Ok q)
DemoAsks words stages (Err due) = (r : Reject) × DemoGives stages (Err r) × (due ≡ refused_due words (unfiled r))

-- WHAT IS DUE OF A COMMAND

-- the decision gives a verdict that may be answered of the question; it never stops
abbrev pub DecisionGives : Question → Step Verdict
DecisionGives q (Ok verdict) = IsVerdictOf q verdict
DecisionGives q (Err due) = ⊥

-- behind a question that is read to be decided: its verdict; behind one that is read for what is known: the rows
abbrev pub QuestionDecides : Input → Purpose → Question → Step (Unit {0})
QuestionDecides input purpose.Check q = Then (DecisionGives q) (λ verdict. Stops (check_due input.top q verdict))
QuestionDecides input purpose.Known q = Stops (shown_due q)

abbrev pub DemoDecides : ℕ → Question → Step (Unit {0})
DemoDecides stages q = Then (DecisionGives q) (λ verdict. Stops (demo_due stages q verdict))

abbrev pub InputRuns : List (List ℕ) → List DeskFile → Option ℕ → Purpose → Input → Step (Unit {0})
InputRuns words files failed purpose input =
    Then (LoadsGive words files failed input) (λ texts. Then (Asks words input texts) (QuestionDecides input purpose))

abbrev pub CommandRuns : List (List ℕ) → List DeskFile → Option ℕ → Command → Step (Unit {0})
CommandRuns words files failed (Check input cert) = InputRuns words files failed purpose.Check input
CommandRuns words files failed (Known input) = InputRuns words files failed purpose.Known input
CommandRuns words files failed (Demo stages) = Then (DemoAsks words stages) (DemoDecides stages)

-- What is due.
abbrev pub IsDue : List (List ℕ) → List DeskFile → Option ℕ → Due → Type 0
IsDue words files failed due = Then (CommandGives words) (CommandRuns words files failed) (Err due)

-- what is due of the question of a command
abbrev pub CommandDecides : Command → Question → Step (Unit {0})
CommandDecides (Check input cert) q = QuestionDecides input purpose.Check q
CommandDecides (Known input) q = QuestionDecides input purpose.Known q
CommandDecides (Demo stages) q = DemoDecides stages q

-- two due answers are one, but for the evidence of a verdict: then both are verdicts
abbrev pub AreOne : Due → Due → Type 0
AreOne a b = (a ≡ b) ⊎ (((v : Verdict) × (a.answer ≡ answer.Decided v)) × ((v : Verdict) × (b.answer ≡ answer.Decided v)))

-- WORDS OF THE CONTRACTS

-- what is due behind the loads is no unread file, and no usage line
pub record IsLater (due : Due) : Type 0 where
  pub unread : unread_of due.answer ≡ None
  pub some : due.answer ≢ answer.NoCommand

-- the chain ends so, and not before the loads
pub record Ends (Chain : Step (Unit {0})) (due : Due) : Type 0 where
  pub chain : Chain (Err due)
  pub later : IsLater due
