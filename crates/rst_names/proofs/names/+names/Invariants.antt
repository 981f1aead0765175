use Rattle.std.proofs.Common.{◌≡◌, filter, drop}
use Rattle.rst_names.specs.Faults.{first}
use Rattle.rst_tree.specs.Trees.{plain_all}
use Rattle.rst_names.specs.Names.{names_in_all}
use Rattle.rst_names.proofs.names.+names.Given as goal

abbrev pub invariant-first_in_all-loop-part : goal.invariant-first_in_all-loop-part
invariant-first_in_all-loop-part g l = first (filter (g.T.NameTest.test l.test) (names_in_all (plain_all (drop l.part-index l.parts)))) ≡ first (filter (g.T.NameTest.test l.test) (names_in_all (plain_all l.parts)))
