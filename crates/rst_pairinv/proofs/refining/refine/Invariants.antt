use Rattle.std.proofs.Common.{◌≡◌, ◌<◌, ◌≤◌, ◌-◌, length}
use Rattle.rst_pairinv.specs.Turns.{IsRefining, IsFresh}
use Rattle.rst_pairinv.proofs.refining.refine.Given as goal

abbrev pub invariant-turns : goal.invariant-turns
invariant-turns l = record {
  at : IsRefining l.pair l.so_far;
  equal : l.so_far.front.equal ≡ l.equal;
  few : length l.so_far.journal ≤ l.left;
  fresh : length l.so_far.journal < l.left → IsFresh l.so_far.journal;
}

abbrev pub decreases-turns : goal.decreases-turns
decreases-turns l = l.left - length l.so_far.journal
