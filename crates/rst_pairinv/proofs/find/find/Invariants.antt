use Rattle.std.proofs.Common.{◌≤◌, length}
use Rattle.rst_pairinv.specs.Turns.{GoesOn}
use Rattle.rst_pairinv.proofs.find.find.Given as goal

abbrev pub invariant-draws : goal.invariant-draws
invariant-draws l = record {
  goes : GoesOn l.pair l.initial.so_far l.so_far;
  few : length l.so_far.journal ≤ l.left;
}
