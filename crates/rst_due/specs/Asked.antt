-- The question that a command asks.
use Rattle.std.specs.Prelude.{◌≡◌, ℕ, Bool, true, false, List, [], Option, Some, Ok}
use Rattle.rst_outside.specs.declared.desk.DeskFile.{DeskFile}
use Rattle.rst_command.specs.Commands.{Input, Command, Check, Known, Demo, command_of}
use Rattle.rst_loads.specs.Loads.{Texts, places}
use Rattle.rst_flow.specs.Flows.{Passes}
use Rattle.rst_accepted.specs.Elaborated.{IsElaborated}
use Rattle.rst_script.specs.Scripts.{script_of}
use Rattle.rst_script.specs.Fitting.{fit_of}
use Rattle.rst_question.specs.Questions.{Question, input_ports}
use Rattle.rst_due.specs.Due.{LoadsGive, Asks, DemoAsks}

-- the loads of a command's files give texts, and these ask the question
abbrev pub InputAsks : List (List ℕ) → List DeskFile → Option ℕ → Input → Question → Type 0
InputAsks words files failed input q = (texts : Texts) × LoadsGive words files failed input (Ok texts) × Asks words input texts (Ok q)

abbrev pub CommandAsks : List (List ℕ) → List DeskFile → Option ℕ → Command → Question → Type 0
CommandAsks words files failed (Check input cert) q = InputAsks words files failed input q
CommandAsks words files failed (Known input) q = InputAsks words files failed input q
CommandAsks words files failed (Demo stages) q = DemoAsks words stages (Ok q)

-- the places of the words that a command loads
abbrev pub loaded : Command → List ℕ
loaded (Check input cert) = places input
loaded (Known input) = places input
loaded (Demo stages) = []

-- `check` and `demo` decide their question
abbrev pub is_decided : Command → Bool
is_decided (Check input cert) = true
is_decided (Known input) = false
is_decided (Demo stages) = true

-- the words spell a command that decides a question, and ask this one
pub record IsDecided (words : List (List ℕ)) (files : List DeskFile) (failed : Option ℕ) (q : Question) : Type 0 where
  pub command : Command
  pub spelled : command_of words ≡ Some command
  pub decides : is_decided command ≡ true
  pub asks : CommandAsks words files failed command q

-- the words spell `known`, and ask this question
pub record IsShown (words : List (List ℕ)) (files : List DeskFile) (failed : Option ℕ) (q : Question) : Type 0 where
  pub input : Input
  pub spelled : command_of words ≡ Some (Known input)
  pub asks : InputAsks words files failed input q

-- WORDS OF THE CONTRACTS

-- the question is one of a script that its text says, of a design that elaboration and flow accept, and of the pattern that the script gives
-- the design's inputs
pub record IsAccepted (script : List ℕ) (q : Question) : Type 0 where
  pub said : script_of script ≡ Ok q.script
  pub elaborated : IsElaborated q.flat
  pub passes : Passes q.flat q.order
  pub fits : fit_of (input_ports q.flat) q.script.steps ≡ Ok q.pattern
