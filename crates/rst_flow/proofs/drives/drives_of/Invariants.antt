use Rattle.std.proofs.Common.{◌≡◌, ℕ, ◌<◌, ◌++◌, length, drop, map}
use Rattle.rst_net.specs.Units.{plain_driver}
use Rattle.rst_flow.specs.Tables.{table_of, row, drives_at}
use Rattle.rst_flow.proofs.drives.drives_of.Given as goal

-- with those of the units that are left each row has all drives
abbrev pub invariant-loop-unit : goal.invariant-loop-unit
invariant-loop-unit l = record {
  same_length : length l.drives.items ≡ l.signals;
  rows : (i : ℕ) → i < l.signals → row (table_of l.drives.items) i ++ drives_at i l.unit (map plain_driver (drop l.unit l.units)) ≡ drives_at i 0 (map plain_driver l.units);
}
