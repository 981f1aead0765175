use Rattle.rst_widen.proofs.Orders.{no_places, one_place_more}
use Rattle.rst_widen.proofs.order.first_places.Goals as goal

pub loop-i-init : goal.loop-i-init
loop-i-init c = no_places c.new-places.result.items c.new-places.ensures.items

pub loop-i-preserved : goal.loop-i-preserved
loop-i-preserved c = one_place_more c.loop-i.i c.loop-i.places.items c.push.new.self.items c.loop-i.invariant c.in_ok-push.ensures.items
