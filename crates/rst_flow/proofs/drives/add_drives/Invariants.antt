use Rattle.std.proofs.Common.{◌≡◌, ℕ, ◌<◌, ◌++◌, length, drop}
use Rattle.rst_flow.specs.Tables.{table_of, row, picked}
use Rattle.rst_flow.proofs.drives.add_drives.Given as goal

-- with what is left each row has all of it
abbrev pub invariant-loop-slice : goal.invariant-loop-slice
invariant-loop-slice l = record {
  same_length : length l.drives.items ≡ length l.initial.drives.items;
  rows : (i : ℕ) → i < length l.initial.drives.items
      → row (table_of l.drives.items) i ++ picked i l.unit (drop l.slice-index l.slices) ≡ row (table_of l.initial.drives.items) i ++ picked i l.unit l.slices;
}
