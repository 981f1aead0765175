-- What the parts of a run came to, as the run of the command that the code was given.
use Rattle.std.proofs.Common.{◌≡◌, ℕ, List, Option, Some, None, Result, Ok, Err, sym, subst}
use Rattle.std.specs.Prelude.{IfSome, IfOk}
use Rattle.rst_outside.specs.declared.desk.DeskFile.{DeskFile}
use Rattle.rst_outside.specs.declared.names.NoMemory.{NoMemory}
use Rattle.rst_reject.specs.Steps.{Then}
use Rattle.rst_command.specs.Commands.{Command, Demo}
use Rattle.rst_answer.specs.declared.ready.Ready.{Ready}
use Rattle.rst_answer.specs.Answers.{unread_of, plain_due}
use Rattle.rst_question.specs.Questions.{Question, netlist}
use Rattle.rst_replies.specs.Replies.{HasOrderedGates}
use Rattle.rst_due.specs.Due.{DemoAsks, DemoDecides, CommandRuns, Ends}
use Rattle.rst_due.specs.Asked.{CommandAsks}

-- the run of a command, where files are told
abbrev pub RunsTo : List (List ℕ) → Option (List DeskFile) → Result Ready NoMemory → Command → Type 0
RunsTo words files result command =
    IfOk result (λ ready. IfSome files (λ fs. CommandRuns words fs (unread_of (plain_due ready).answer) command (Err (plain_due ready))))

-- the gates of the question that it asks
abbrev pub GatesOf : List (List ℕ) → Option (List DeskFile) → Result Ready NoMemory → Command → Type 0
GatesOf words files result command =
    IfOk result (λ ready. IfSome files (λ fs. (q : Question) → CommandAsks words fs (unread_of (plain_due ready).answer) command q → HasOrderedGates (netlist q)))

pub runs_as : (words : List (List ℕ)) (files : Option (List DeskFile)) (result : Result Ready NoMemory) (command other : Command) → other ≡ command
    → RunsTo words files result command → RunsTo words files result other
runs_as words files result command other is h = subst (λ (x : Command). RunsTo words files result x) (sym is) h

pub gates_as : (words : List (List ℕ)) (files : Option (List DeskFile)) (result : Result Ready NoMemory) (command other : Command) → other ≡ command
    → GatesOf words files result command → GatesOf words files result other
gates_as words files result command other is h = subst (λ (x : Command). GatesOf words files result x) (sym is) h

-- a demonstration loads no files
pub demo_runs : (words : List (List ℕ)) (files : Option (List DeskFile)) (result : Result Ready NoMemory) (stages : ℕ)
    → IfOk result (λ ready. Ends (Then (DemoAsks words stages) (DemoDecides stages)) (plain_due ready)) → RunsTo words files result (Demo stages)
demo_runs words None (Ok ready) stages h = tt
demo_runs words (Some fs) (Ok ready) stages h = h.chain
demo_runs words files (Err e) stages h = tt

pub demo_gates : (words : List (List ℕ)) (files : Option (List DeskFile)) (result : Result Ready NoMemory) (stages : ℕ)
    → IfOk result (λ ready. (q : Question) → DemoAsks words stages (Ok q) → HasOrderedGates (netlist q)) → GatesOf words files result (Demo stages)
demo_gates words None (Ok ready) stages h = tt
demo_gates words (Some fs) (Ok ready) stages h = h
demo_gates words files (Err e) stages h = tt

-- the run where loads are sure
abbrev pub SureOf : Type 0 → List (List ℕ) → Option (List DeskFile) → Result Ready NoMemory → Command → Type 0
SureOf S words files result command = IfOk result (λ ready. S → IfSome files (λ fs. CommandRuns words fs None command (Err (plain_due ready))))

pub sure_as : (S : Type 0) (words : List (List ℕ)) (files : Option (List DeskFile)) (result : Result Ready NoMemory) (command other : Command) → other ≡ command
    → SureOf S words files result command → SureOf S words files result other
sure_as S words files result command other is h = subst (λ (x : Command). SureOf S words files result x) (sym is) h

pub demo_sure : (S : Type 0) (words : List (List ℕ)) (files : Option (List DeskFile)) (result : Result Ready NoMemory) (stages : ℕ)
    → IfOk result (λ ready. Ends (Then (DemoAsks words stages) (DemoDecides stages)) (plain_due ready)) → SureOf S words files result (Demo stages)
demo_sure S words None (Ok ready) stages h = λ sure. tt
demo_sure S words (Some fs) (Ok ready) stages h = λ sure. h.chain
demo_sure S words files (Err e) stages h = tt
