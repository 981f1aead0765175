-- What holds of every script that a text says, and of every pattern that a script gives.
use Rattle.std.specs.Prelude.{◌≡◌, ◌≤◌, ◌⊎◌, ℕ, ◌+◌, ◌==◌, Bool, false, List, [], length, sum_by, IfSome, IsTrue}
use Rattle.std.specs.List.{AllByRecursion, list_any}
use Rattle.rst_lex.specs.Words.{IsName}
use Rattle.rst_outside.specs.declared.names.PortBits.{PortBits}
use Rattle.rst_value.specs.declared.tern.Tern.{Tern}
use Rattle.rst_gate.specs.Patterns.{free_bits}
use Rattle.rst_script.specs.declared.script.Setting.{Setting}
use Rattle.rst_script.specs.declared.script.ScriptFault.{ScriptFault}
use Rattle.rst_script.specs.declared.script.ScriptFault.TheVariants.{BadLine, Repeated, TooMany, BadName, BadValue, TooFree, NoMemory}
use Rattle.rst_script.specs.Steps.{PlainStep, names_set, has_twice}
use Rattle.rst_script.specs.Scripts.{PlainScript}

-- how many clock cycles steps have
abbrev pub cycles_of : List PlainStep → ℕ
cycles_of steps = sum_by (λ (step : PlainStep). step.times) steps

-- the inputs of a step have names, and none is set twice
pub record IsStep (step : PlainStep) : Type 0 where
  pub named : AllByRecursion (λ (setting : Setting). IsName setting.name) step.values
  pub once : has_twice [] (names_set step.values) ≡ false

pub record IsScript (script : PlainScript) : Type 0 where
  pub version : (script.version ≡ 1) ⊎ (script.version ≡ 2)
  pub clock : IfSome script.clock IsName
  pub budget : script.budget ≤ 100000
  pub bound_least : 1 ≤ script.bound
  pub bound_most : script.bound ≤ 128
  pub each : AllByRecursion IsStep script.steps
  pub cycles : cycles_of script.steps ≤ 128

-- how many bits inputs have
abbrev pub bits_of : List PortBits → ℕ
bits_of ports = sum_by (λ (port : PortBits). port.width) ports

-- as many cubes as the steps have clock cycles, each with a place for every bit of the inputs, and at most 1,024 free bits
pub record IsFit (ports : List PortBits) (steps : List PlainStep) (pattern : List (List Tern)) : Type 0 where
  pub cycles : length pattern ≡ cycles_of steps
  pub places : AllByRecursion (λ (places : List Tern). length places ≡ bits_of ports) pattern
  pub free : free_bits pattern ≤ 1024

-- A text of so many lines is refused at one of them; where it ends too early, at the line behind them.
abbrev pub IsReadFault : ℕ → ScriptFault → Type 0
IsReadFault count (BadLine line) = (1 ≤ line) × (line ≤ count + 1)
IsReadFault count (Repeated line) = (1 ≤ line) × (line ≤ count)
IsReadFault count (TooMany line) = (1 ≤ line) × (line ≤ count)
IsReadFault count (BadName line) = ⊥
IsReadFault count (BadValue line) = ⊥
IsReadFault count (TooFree line) = ⊥
IsReadFault count NoMemory = ⊥

-- whether one of the steps has this line
abbrev pub has_line : List PlainStep → ℕ → Bool
has_line steps line = list_any (λ (step : PlainStep). step.line == line) steps

-- steps are refused at a line of one of them
abbrev pub IsFitFault : List PlainStep → ScriptFault → Type 0
IsFitFault steps (BadName line) = IsTrue (has_line steps line)
IsFitFault steps (BadValue line) = IsTrue (has_line steps line)
IsFitFault steps (TooFree line) = IsTrue (has_line steps line)
IsFitFault steps (BadLine line) = ⊥
IsFitFault steps (Repeated line) = ⊥
IsFitFault steps (TooMany line) = ⊥
IsFitFault steps NoMemory = ⊥
