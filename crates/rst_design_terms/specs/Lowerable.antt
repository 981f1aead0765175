-- The units and clocked blocks of a design that has gates, and how many they ask for at most.
use Rattle.std.specs.Prelude.{ℕ, ◌+◌, true, false, List, [], ◌∷◌}
use Rattle.std.specs.List.{AllByRecursion}
use Rattle.rst_net.specs.Units.{PlainProcess, PlainDriver}
use Rattle.rst_statement_terms.specs.Weights.{statement_weight}
use Rattle.rst_statement_values.specs.Fits.{StatementFits}
use Rattle.rst_design_terms.specs.Designs.{unit_statement}

-- what a unit reads and sets has the widths that the places ask for
abbrev pub UnitsFit : (ℕ → ℕ) → List PlainDriver → Type 0
UnitsFit widths units = AllByRecursion (λ unit. StatementFits widths true (unit_statement unit)) units

-- the sets of a clocked block are nonblocking
abbrev pub ClockedFit : (ℕ → ℕ) → List PlainProcess → Type 0
ClockedFit widths processes = AllByRecursion (λ process. StatementFits widths false process.body) processes

-- how many gates they ask for at most, by the widths and the number of the signals
abbrev pub units_weight : (ℕ → ℕ) → ℕ → List PlainDriver → ℕ
units_weight widths count [] = 0
units_weight widths count (unit ∷ units) = statement_weight widths count (unit_statement unit) + units_weight widths count units

abbrev pub clocked_weight : (ℕ → ℕ) → ℕ → List PlainProcess → ℕ
clocked_weight widths count [] = 0
clocked_weight widths count (process ∷ processes) = statement_weight widths count process.body + clocked_weight widths count processes
