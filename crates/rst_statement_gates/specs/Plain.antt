-- The statement of a `default` in plain form.
use Rattle.std.specs.Prelude.{Option, Some, None}
use Rattle.std.specs.declared.boxed.Box.{Box}
use Rattle.std.specs.declared.alloc.Global.{Global}
use Rattle.rst_net.specs.declared.stmt.TypedStmt.{TypedStmt}
use Rattle.rst_net.specs.Statements.{Default, no_default, default, plain_stmt}

-- the statement of `default`, if there is one
abbrev pub plain_default : Option (Box TypedStmt Global) → Default
plain_default None = no_default
plain_default (Some b) = default (plain_stmt b.value)
