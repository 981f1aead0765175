-- An instance around a copy.
use Rattle.std.specs.Prelude.{List}
use Rattle.rst_tree.specs.Modules.{PlainModule}
use Rattle.rst_instances.specs.declared.places as code
use Rattle.rst_instances.specs.Tables.{module_at, IsPlace, AreTables}

-- an instance, and the tables of its module
pub record AreAround (modules : List PlainModule) (a : code.Around.Around) : Type 0 where
  pub place_right : IsPlace modules a.place.now
  pub tables_right : AreTables (module_at modules a.place.now.of) a.tables
