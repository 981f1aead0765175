use Rattle.rst_widen.specs.Widening.{IsOrder}
use Rattle.rst_widen.proofs.order.first_places.Given as goal

abbrev pub invariant-loop-i : goal.invariant-loop-i
invariant-loop-i l = IsOrder l.i l.places.items
