use Rattle.std.proofs.Common.{◌+◌, ◌-◌, length}
use Rattle.rst_clause.specs.Occurrences.{KeepsLists}
use Rattle.rst_clause.proofs.indexed.reach.Given as goal

abbrev pub invariant-growing : goal.invariant-growing
invariant-growing l = KeepsLists l.initial.lists.items l.lists.items

abbrev pub decreases-growing : goal.decreases-growing
decreases-growing l = l.place + 1 - length l.lists.items
