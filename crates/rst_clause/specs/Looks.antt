-- What a look at one clause tells.
use Rattle.std.specs.Prelude.{ℤ, List}
use Rattle.rst_clause.specs.Trails.{AllFalse, IsUnit, IsQuiet}
use Rattle.rst_clause.specs.declared.status.Status.{Status}
use Rattle.rst_clause.specs.declared.status.Status.TheVariants.{False, Unit, Quiet}

abbrev pub Says : List ℤ → List ℤ → Status → Type 0
Says t clause False = AllFalse t clause
Says t clause (Unit l) = IsUnit t clause l
Says t clause Quiet = IsQuiet t clause
