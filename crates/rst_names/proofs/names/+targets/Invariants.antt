use Rattle.std.proofs.Common.{◌≡◌, filter, drop}
use Rattle.rst_names.specs.Faults.{first}
use Rattle.rst_tree.specs.Targets.{plain_targets}
use Rattle.rst_names.specs.Names.{names_in_targets}
use Rattle.rst_names.proofs.names.+targets.Given as goal

abbrev pub invariant-first_in_targets-loop-part : goal.invariant-first_in_targets-loop-part
invariant-first_in_targets-loop-part g l = first (filter (g.T.NameTest.test l.test) (names_in_targets (plain_targets (drop l.part-index l.parts)))) ≡ first (filter (g.T.NameTest.test l.test) (names_in_targets (plain_targets l.parts)))
