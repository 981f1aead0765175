-- The design that texts spell below a top, and its netlist.
use Rattle.std.specs.Prelude.{◌≡◌, List, Option, None, map}
use Rattle.rst_tree.specs.Trees.{Text}
use Rattle.rst_tree.specs.Modules.{PlainModule}
use Rattle.rst_net.specs.Units.{PlainFlat, plain_signal, plain_driver, plain_process}
use Rattle.rst_names.specs.Faults.{first}
use Rattle.rst_elab.specs.Elaborated.{faults, IsFlat}
use Rattle.rst_accepted.specs.Elaborated.{IsElaborated}
use Rattle.rst_flow.specs.declared.net.Net.{Net}
use Rattle.rst_flow.specs.Results.{IsNet}
use Rattle.rst_design.specs.Texts.{Spells}

-- The texts spell modules in which no row of elaboration finds a fault, and this is their flat design below the top.
pub record IsDesignOf (texts : List Text) (top : Text) (clock : Option Text) (flat : PlainFlat) : Type 0 where
  pub modules : List PlainModule
  pub spelled : Spells texts modules
  pub none : first (faults modules top clock) ≡ None
  pub is : IsFlat modules top clock flat

-- so elaboration accepts it
abbrev pub elaborated : {texts : List Text} {top : Text} {clock : Option Text} {flat : PlainFlat} → IsDesignOf texts top clock flat → IsElaborated flat
elaborated {top = top} {clock = clock} d = record { modules = d.modules; top = top; clock = clock; none = d.none; is = d.is }

-- The netlist is that of the design: no row of flow holds of the flat design, and the netlist has its parts, the units in their order.
pub record IsNetlistOf (texts : List Text) (top : Text) (clock : Option Text) (net : Net) : Type 0 where
  pub flat : PlainFlat
  pub design : IsDesignOf texts top clock flat
  pub made : IsNet flat net

-- a netlist in plain form
abbrev pub plain_net : Net → PlainFlat
plain_net net = record {
  signals = map plain_signal net.signals.items;
  units = map plain_driver net.units.items;
  clocked = map plain_process net.clocked.items;
  outputs = net.outputs.items;
}
