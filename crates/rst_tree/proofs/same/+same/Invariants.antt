use Rattle.std.proofs.Common.{◌≡◌, take}
use Rattle.rst_tree.specs.Trees.{plain_all}
use Rattle.rst_tree.proofs.same.+same.Given as goal

-- the trees so far are the same
abbrev pub invariant-all_same-loop-i : goal.invariant-all_same-loop-i
invariant-all_same-loop-i l = plain_all (take l.i l.a) ≡ plain_all (take l.i l.b)
