-- How the code shows the unit of a link.
use Rattle.std.specs.Prelude.{List, [], ◌∷◌, Option, Some, None}
use Rattle.std.specs.declared.boxed.Box.{Box}
use Rattle.std.specs.declared.alloc.Global.{Global}
use Rattle.rst_net.specs.declared.stmt.TypedSet.{TypedSet}
use Rattle.rst_net.specs.Statements.{plain_set}
use Rattle.rst_net.specs.Units.{PlainDriver, Assign}

-- the unit of a link that has one
abbrev pub set_units : Option (Box TypedSet Global) → List PlainDriver
set_units None = []
set_units (Some s) = Assign (plain_set s.value) ∷ []
