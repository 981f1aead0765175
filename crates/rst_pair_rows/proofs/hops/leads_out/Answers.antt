use Rattle.std.proofs.Common.{◌≡◌, ◌∙◌, length, ap}
use Rattle.std.specs.Prelude.{Some}
use Rattle.rst_pair.specs.Sides.{left_machine, right_machine}
use Rattle.rst_pair.specs.Hops.{cubes_of}
use Rattle.rst_pair_rows.proofs.Pairs.{leads_into_none}
use Rattle.rst_pair_rows.proofs.hops.leads_out.Goals as goal

pub returns-in-Some-true : goal.returns-in-Some-true
returns-in-Some-true c = λ yes.
    let p = c.args.pair.now in
    let first = c.as_slice.ensures.value ∙ ap (λ f. f.nexts) c.first.view_is in
    let second = c.as_slice-2.ensures.value ∙ ap (λ f. f.nexts) c.second.view_is in
    let left = first ∙ c.in_ok-first.ensures.nexts ∙ ap (λ q. (left_machine q).step c.args.left.now c.args.input.now) c.pair.view_is in
    let right = second ∙ c.in_ok-second.ensures.nexts ∙ ap (λ q. (right_machine q).step c.args.right.now c.args.input.now) c.pair.view_is in
    let count : length c.as_slice.result.now ≡ p.left.states = ap length first ∙ c.in_ok-first.ensures.each_next ∙ ap (λ q. q.left.states) c.pair.view_is in
    leads_into_none p (cubes_of c.args.front.now.blocked) c.args.left.now c.args.right.now c.args.input.now c.in_ok-next.next c.as_slice.result.now
    c.as_slice-2.result.now left right count c.in_ok-next.ensures (c.related.ensures (c.in-Some-true.is ∙ ap (λ b. Some b) c.in-Some-true.field-0-test))
