use Rattle.std.proofs.Common.{◌≡◌, ℕ, [], length}
use Rattle.rst_flow.specs.Tables.{table_of, row}
use Rattle.rst_flow.proofs.drives.no_drives.Given as goal

abbrev pub invariant-loop : goal.invariant-loop
invariant-loop l = record { same_length : length l.drives.items ≡ l.counter; none : (i : ℕ) → row (table_of l.drives.items) i ≡ [] }
