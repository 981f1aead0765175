use Rattle.std.proofs.Common.{◌≡◌, ◌++◌, drop}
use Rattle.rst_flow.specs.Tables.{table_of, feeding_all}
use Rattle.rst_flow.proofs.edges.add_all.Given as goal

abbrev pub invariant-loop-slice : goal.invariant-loop-slice
invariant-loop-slice l = l.found.items ++ feeding_all (table_of l.drives) l.own (drop l.slice-index l.slices) ≡ l.initial.found.items ++ feeding_all (table_of l.drives) l.own l.slices
