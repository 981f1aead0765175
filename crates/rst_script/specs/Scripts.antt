-- The script that a text says, or its first line at fault.
use Rattle.std.specs.Prelude.{ℕ, ◌+◌, Bool, false, List, [], ◌∷◌, length, map, Option, unwrap_or, ok_or, Result, Ok, Err}
use Rattle.rst_script.specs.declared.script.Step.{Step}
use Rattle.rst_script.specs.declared.script.Script.{Script}
use Rattle.rst_script.specs.declared.script.ScriptFault.{ScriptFault}
use Rattle.rst_script.specs.declared.script.ScriptFault.TheVariants.{BadLine}
use Rattle.rst_script.specs.Lines.{Line, lines, said_lines}
use Rattle.rst_script.specs.Opening.{version_of, clock_of}
use Rattle.rst_script.specs.Choices.{and_then, no_choices, choices_in}
use Rattle.rst_script.specs.Steps.{PlainStep, steps_in}

-- a script in plain form
pub record PlainScript : Type 0 where
  pub version : ℕ
  pub clock : Option (List ℕ)
  pub budget : ℕ
  pub bound : ℕ
  pub json : Bool
  pub steps : List PlainStep

abbrev pub plain_step : Step → PlainStep
plain_step step = record { line = step.line; times = step.times; values = step.values.items }

abbrev pub plain_script : Script → PlainScript
plain_script script = record {
  version = script.version;
  clock = script.clock;
  budget = script.budget;
  bound = script.bound;
  json = script.json;
  steps = map plain_step script.steps.items;
}

-- the script behind the line of the clock: what isn't said is a budget of 20,000, a bound of 32 and a report as text
abbrev pub body_of : ℕ → Option (List ℕ) → List Line → Result PlainScript ScriptFault
body_of version clock said =
    and_then (choices_in no_choices said) (λ found. and_then (steps_in version 0 [] found.1) (λ steps. Ok (record {
      version = version;
      clock = clock;
      budget = unwrap_or found.0.budget 20000;
      bound = unwrap_or found.0.bound 32;
      json = unwrap_or found.0.json false;
      steps = steps;
    })))

-- the script behind its first line; a text that ends there is at fault behind its last line
abbrev pub script_behind : ℕ → ℕ → List Line → Result PlainScript ScriptFault
script_behind count version [] = Err (BadLine (count + 1))
script_behind count version (line ∷ others) = and_then (ok_or (clock_of line.words) (BadLine line.number)) (λ clock. body_of version clock others)

-- the script that lines say, of a text with so many lines
abbrev pub script_in : ℕ → List Line → Result PlainScript ScriptFault
script_in count [] = Err (BadLine (count + 1))
script_in count (line ∷ others) = and_then (ok_or (version_of line.words) (BadLine line.number)) (λ version. script_behind count version others)

-- The script that a text says, or the first line at fault.
abbrev pub script_of : List ℕ → Result PlainScript ScriptFault
script_of text = script_in (length (lines text)) (said_lines 0 (lines text))
