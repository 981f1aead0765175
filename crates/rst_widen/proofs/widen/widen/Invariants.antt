use Rattle.std.proofs.Common.{◌≡◌, drop}
use Rattle.rst_widen.specs.Widening.{widened, plain_aim, IsAt}
use Rattle.rst_widen.proofs.widen.widen.Given as goal

abbrev pub invariant-loop-place : goal.invariant-loop-place
invariant-loop-place l = record {
  at : IsAt l.pair l.known l.now;
  so_far : widened l.pair (plain_aim l.aim) l.input l.cube l.place-items
      ≡ widened l.pair (plain_aim l.aim) l.input l.now.cube.items (drop l.place-index l.place-items);
}
