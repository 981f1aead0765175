use Rattle.std.proofs.Common.{length, ap, arith}
use Rattle.rst_widen.proofs.Orders.{place_below}
use Rattle.rst_widen.proofs.widen.widen.Goals as goal

pub try_place-requires-clause-place : goal.try_place-requires-clause-place
try_place-requires-clause-place c =
    place_below _ c.in_ok-order.order.items c.as_slice-place-items.result.now c.loop-place.place-index (length c.loop-place.now.cube.items)
    c.in_ok-order.ensures c.as_slice-place-items.ensures.value c.loop-place-test.true
    (omega (arith, c.loop-place.invariant.at.cube, ap (λ p. p.left.states) c.pair.view_is, ap (λ p. p.right.states) c.pair.view_is))
