use Rattle.std.proofs.Common.{◌≡◌, filter, drop}
use Rattle.rst_names.specs.Faults.{first}
use Rattle.rst_tree.specs.Statements.{plain_stmts, plain_arms}
use Rattle.rst_names.specs.Names.{names_in_stmts, names_in_arms}
use Rattle.rst_names.proofs.names.+statements.Given as goal

abbrev pub invariant-first_in_arms-loop-arm : goal.invariant-first_in_arms-loop-arm
invariant-first_in_arms-loop-arm g l = first (filter (g.T.NameTest.test l.test) (names_in_arms (plain_arms (drop l.arm-index l.arms)))) ≡ first (filter (g.T.NameTest.test l.test) (names_in_arms (plain_arms l.arms)))

abbrev pub invariant-first_in_stmts-loop-part : goal.invariant-first_in_stmts-loop-part
invariant-first_in_stmts-loop-part g l = first (filter (g.T.NameTest.test l.test) (names_in_stmts (plain_stmts (drop l.part-index l.parts)))) ≡ first (filter (g.T.NameTest.test l.test) (names_in_stmts (plain_stmts l.parts)))
