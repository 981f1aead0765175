-- The lines `budget N`, `bound N` and `report text` or `report json`, which stand before the steps, in any order, each at most once.
use Rattle.std.specs.Prelude.{◌≢◌, ℕ, Bool, true, false, List, [], ◌∷◌, Option, Some, None, option_map, option_and_then, is_some, Result, Ok, Err, bytes_eq, codes, if◌then◌else◌}
use Rattle.rst_script.specs.declared.choices.Choice.{Choice}
use Rattle.rst_script.specs.declared.choices.Choice.TheVariants.{Budget, Bound, Json}
use Rattle.rst_script.specs.declared.choices.Choices.{Choices}
use Rattle.rst_script.specs.declared.script.ScriptFault.{ScriptFault}
use Rattle.rst_script.specs.declared.script.ScriptFault.TheVariants.{BadLine, Repeated, NoMemory}
use Rattle.rst_script.specs.Lines.{Line, pair_of}
use Rattle.rst_script.specs.Numbers.{number, within}

-- a fault other than want of memory
abbrev pub IsRefusal : ScriptFault → Type 0
IsRefusal fault = fault ≢ NoMemory

-- the answer that comes of another, or its fault
abbrev pub and_then : {A B : Type 0} → Result A ScriptFault → (A → Result B ScriptFault) → Result B ScriptFault
and_then (Ok x) next = next x
and_then (Err fault) next = Err fault

abbrev pub json_of : List ℕ → Option Bool
json_of word = if bytes_eq word (codes "text") then Some false else (if bytes_eq word (codes "json") then Some true else None)

abbrev pub choice_pair : List ℕ × List ℕ → Option Choice
choice_pair pair =
    if bytes_eq pair.0 (codes "budget") then option_map Budget (within 0 100000 (number 10 pair.1))
    else (if bytes_eq pair.0 (codes "bound") then option_map Bound (within 1 128 (number 10 pair.1))
    else (if bytes_eq pair.0 (codes "report") then option_map Json (json_of pair.1) else None))

-- what such a line says
abbrev pub choice_of : List (List ℕ) → Option Choice
choice_of words = option_and_then choice_pair (pair_of words)

-- none of the lines
abbrev pub no_choices : Choices
no_choices = record { budget = None; bound = None; json = None }

-- a line is repeated where an earlier one says the same thing, whatever its value
abbrev pub with_choice : Choices → Choice → ℕ → Result Choices ScriptFault
with_choice before (Budget n) line = if is_some before.budget then Err (Repeated line) else Ok (record { budget = Some n; bound = before.bound; json = before.json })
with_choice before (Bound n) line = if is_some before.bound then Err (Repeated line) else Ok (record { budget = before.budget; bound = Some n; json = before.json })
with_choice before (Json b) line = if is_some before.json then Err (Repeated line) else Ok (record { budget = before.budget; bound = before.bound; json = Some b })

abbrev pub with_read : Choices → Option Choice → ℕ → Result Choices ScriptFault
with_read before None line = Err (BadLine line)
with_read before (Some choice) line = with_choice before choice line

abbrev pub choice_at : Choices → Line → Result Choices ScriptFault
choice_at before line = with_read before (choice_of line.words) line.number

abbrev pub is_step_line : List (List ℕ) → Bool
is_step_line [] = false
is_step_line (word ∷ others) = bytes_eq word (codes "step")

-- what the lines before the first step say, and the lines from there on
abbrev pub choices_in : Choices → List Line → Result (Choices × List Line) ScriptFault
choices_in before [] = Ok (before, [])
choices_in before (line ∷ others) = if is_step_line line.words then Ok (before, line ∷ others) else and_then (choice_at before line) (λ more. choices_in more others)
