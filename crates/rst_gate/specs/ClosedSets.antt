-- Registers whose next values depend on inputs and on registers of a set alone.
-- A set of registers is a list with a bit for each register, true where it is in the set.
use Rattle.std.specs.Prelude.{◌≡◌, ℕ, Bool, true, false, ◌&&◌, List, replicate, slice_index_or}
use Rattle.std.specs.List.{AllZip}
use Rattle.rst_gate.specs.Operations.{Operations}
use Rattle.rst_gate.specs.Circuits.{Circuit}
use Rattle.rst_gate.specs.Nodes.{next_values}

-- the constant has no register below it, and a gate those that are below its operands, its select among them
abbrev pub on_support : Operations Bool
on_support = record {
  low = true;
  negation = λ a. a;
  both = λ a b. a && b;
  differ = λ a b. a && b;
  choice = λ s a b. s && a && b;
}

-- of each register, whether only inputs and registers of the set lie below its next value:
-- an input counts as true, a register as whether it is in the set
abbrev pub next_support : Circuit → List Bool → List Bool
next_support c set = next_values on_support c (replicate c.inputs true) set

-- every member of the first set is one of the second
abbrev pub IsWithin : List Bool → List Bool → Type 0
IsWithin set other = AllZip (λ a b. a ≡ true → b ≡ true) set other

-- the next value of each member has only inputs and members below it
abbrev pub IsClosedSet : Circuit → List Bool → Type 0
IsClosedSet c set = IsWithin set (next_support c set)

-- the two states have the same bit in each register of the set
abbrev pub AgreeOn : List Bool → List Bool → List Bool → Type 0
AgreeOn set s t = (i : ℕ) → slice_index_or set i false ≡ true → slice_index_or s i false ≡ slice_index_or t i false
