use Rattle.std.proofs.Common.{take}
use Rattle.rst_clause.specs.Occurrences.{KeepsLists, IsNotedTo}
use Rattle.rst_clause.proofs.indexed.note_all.Given as goal

abbrev pub invariant-loop-i : goal.invariant-loop-i
invariant-loop-i l = KeepsLists l.initial.lists.items l.lists.items × IsNotedTo l.lists.items (take l.i l.clause) l.number
