-- What was read, in plain form, and the symbols after it.
use Rattle.std.specs.Prelude.{List}
use Rattle.std.specs.Borrow.{Bor}
use Rattle.rst_tree.specs.Targets.{Place, Places, plain_target, plain_targets}
use Rattle.rst_tree.specs.Statements.{Statement, Statements, Arms, plain_stmt, plain_stmts, plain_arm, plain_arms, no_arm}
use Rattle.rst_grammar.specs.declared.symbol.Symbol.{Symbol}
use Rattle.rst_statement.specs.declared.parsed.ParsedTarget.{ParsedTarget}
use Rattle.rst_statement.specs.declared.parsed.ManyTargets.{ManyTargets}
use Rattle.rst_statement.specs.declared.parsed.ParsedStmt.{ParsedStmt}
use Rattle.rst_statement.specs.declared.parsed.ManyStmts.{ManyStmts}
use Rattle.rst_statement.specs.declared.parsed.ParsedArm.{ParsedArm}
use Rattle.rst_statement.specs.declared.parsed.ManyArms.{ManyArms}

abbrev pub seen_target : ParsedTarget × Bor (List Symbol) → Place × List Symbol
seen_target x = (plain_target x.0.target, x.1.now)

abbrev pub seen_targets : ManyTargets × Bor (List Symbol) → Places × List Symbol
seen_targets x = (plain_targets x.0.targets.items, x.1.now)

abbrev pub seen_stmt : ParsedStmt × Bor (List Symbol) → Statement × List Symbol
seen_stmt x = (plain_stmt x.0.stmt, x.1.now)

abbrev pub seen_stmts : ManyStmts × Bor (List Symbol) → Statements × List Symbol
seen_stmts x = (plain_stmts x.0.stmts.items, x.1.now)

abbrev pub seen_arm : ParsedArm × Bor (List Symbol) → Arms × List Symbol
seen_arm x = (plain_arm x.0.arm no_arm, x.1.now)

abbrev pub seen_arms : ManyArms × Bor (List Symbol) → Arms × List Symbol
seen_arms x = (plain_arms x.0.arms.items, x.1.now)
