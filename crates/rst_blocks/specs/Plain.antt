-- How the code's types are seen in contracts.
use Rattle.std.specs.Prelude.{ℕ, Bool, Option, Some, None}
use Rattle.std.specs.Ordering.{nat_cmp}
use Rattle.std.specs.BTreeSet.{BTreeSet, contains}
use Rattle.std.specs.declared.boxed.Box.{Box}
use Rattle.std.specs.declared.alloc.Global.{Global}
use Rattle.rst_net.specs.declared.stmt.TypedStmt.{TypedStmt}
use Rattle.rst_net.specs.Statements.{Default, no_default, default, plain_stmt}

-- the statement of a `default`
abbrev pub plain_default : Option (Box TypedStmt Global) → Default
plain_default None = no_default
plain_default (Some statement) = default (plain_stmt statement.value)

-- whether a set has a signal
abbrev pub has : BTreeSet ℕ → ℕ → Bool
has set i = contains nat_cmp set i
