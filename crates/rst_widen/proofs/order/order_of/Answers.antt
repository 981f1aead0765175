use Rattle.std.proofs.Common.{◌≡◌, ◌∙◌, ◌+◌, length, ap, subst, length-append, arith}
use Rattle.rst_widen.specs.Widening.{IsOrder}
use Rattle.rst_widen.proofs.Orders.{moved_places}
use Rattle.rst_widen.proofs.order.order_of.Goals as goal

pub returns : goal.returns
returns c =
    let all : length c.extend_from_slice.new.self.items ≡ length c.in_ok-counts.counts.items + length c.in_ok-more.more.items =
    ap length c.in_ok-extend_from_slice.ensures.items
    ∙ length-append c.in_ok-counts.counts.items c.as_slice.result.now
    ∙ ap (λ s. length c.in_ok-counts.counts.items + length s) c.as_slice.ensures.value in
    let count : c.len.result ≡ c.args.left.now.states + c.args.right.now.states =
    omega (arith, c.len.ensures, all, c.in_ok-counts.ensures, c.in_ok-more.ensures) in
    subst (λ n. IsOrder n c.sort_by_key.new.self.items) count
    (moved_places c.len.result c.in_ok-places.places.items c.sort_by_key.new.self.items c.in_ok-places.ensures c.sort_by_key.ensures.permutation)
