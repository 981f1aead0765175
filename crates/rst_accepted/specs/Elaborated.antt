-- Flat designs that elaboration answers.
use Rattle.std.specs.Prelude.{◌≡◌, List, Option, None}
use Rattle.rst_tree.specs.Trees.{Text}
use Rattle.rst_tree.specs.Modules.{PlainModule}
use Rattle.rst_net.specs.Units.{PlainFlat}
use Rattle.rst_names.specs.Faults.{first}
use Rattle.rst_elab.specs.Elaborated.{faults, IsFlat}

-- the flat design of modules in which no row finds a fault
pub record IsElaborated (flat : PlainFlat) : Type 0 where
  pub modules : List PlainModule
  pub top : Text
  pub clock : Option Text
  pub none : first (faults modules top clock) ≡ None
  pub is : IsFlat modules top clock flat
