use Rattle.std.proofs.Common.{◌≡◌, ◌++◌, map, take}
use Rattle.rst_pairinv.specs.Turns.{conflict_of}
use Rattle.rst_pairinv.proofs.turn.note_paths.Given as goal

abbrev pub invariant-loop-path : goal.invariant-loop-path
invariant-loop-path l = record {
  front : l.so_far.front ≡ l.initial.so_far.front;
  journal : l.so_far.journal ≡ l.initial.so_far.journal ++ map conflict_of (take l.path-index l.paths);
}
