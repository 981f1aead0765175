-- Wires with a value, and assigns, fit.
use Rattle.std.proofs.Common.{◌≡◌, ℕ, true, Option, Some, None}
use Rattle.std.specs.List.{AllByRecursion}
use Rattle.rst_tree.specs.Trees.{Tree}
use Rattle.rst_tree.specs.Targets.{Place, Whole}
use Rattle.rst_tree.specs.Modules.{PlainNetName, PlainAssign}
use Rattle.rst_net.specs.Statements.{PlainSet}
use Rattle.rst_net.specs.Units.{PlainDriver, Assign}
use Rattle.rst_names.specs.Faults.{first}
use Rattle.rst_names.specs.Names.{if_any}
use Rattle.rst_typing.specs.Typing.{set_faults}
use Rattle.rst_blocks.specs.Blocks.{wrong_in_unit}
use Rattle.rst_statement_values.specs.Fits.{SetFits, StatementFits}
use Rattle.rst_design_terms.specs.Designs.{unit_statement}
use Rattle.rst_settled.specs.Designs.{UnitSound}
use Rattle.rst_items.specs.Seen.{Seen}
use Rattle.rst_items.specs.Items.{set_by, wire_unit, assign_unit}
use Rattle.rst_items.specs.ItemRows.{wire_faults, assign_faults}
use Rattle.rst_typed_fits.proofs.Leaves.{none_first}
use Rattle.rst_typed_fits.proofs.Fitting.{set_fits}
use Rattle.rst_accepted_units.proofs.Seen.{IsRight}

-- a unit is sound, and fits where its sets are blocking
pub record UnitFits (room : ℕ → ℕ) (unit : PlainDriver) : Type 0 where
  pub sound : UnitSound room unit
  pub fits : wrong_in_unit unit ≡ None → StatementFits room true (unit_statement unit)

pub assigned : (room : ℕ → ℕ) (set : PlainSet) → SetFits room true set → UnitFits room (Assign set)
assigned room set fit = record { sound = fit.slices; fits = λ _. fit }

module _ (room : ℕ → ℕ) (s : Seen) (right : IsRight room s) where
  set_by_fits : (t : Place) (e : Tree) → first (set_faults s.names t e) ≡ None → UnitFits room (set_by s.names t e)
  set_by_fits t e none = assigned room _ (set_fits room s.names right.meanings right.widths t e true (none_first (set_faults s.names t e) none))

  pub wire_fits : (n : PlainNetName) → first (wire_faults s.names n) ≡ None → AllByRecursion (UnitFits room) (wire_unit s.names n)
  wire_fits n none = by n.value none
    where
      by : (v : Option Tree) → first (if_any (set_faults s.names (Whole n.name)) v) ≡ None → AllByRecursion (UnitFits room) (wire_unit s.names (record { name = n.name; value = v }))
      by None none = tt
      by (Some e) none = (set_by_fits (Whole n.name) e none, tt)

  pub assign_fits : (a : PlainAssign) → first (assign_faults s.names a) ≡ None → UnitFits room (assign_unit s.names a)
  assign_fits a none = set_by_fits a.target a.value none
