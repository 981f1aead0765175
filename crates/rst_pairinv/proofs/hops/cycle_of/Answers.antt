use Rattle.std.proofs.Common.{◌≡◌, ◌∙◌, length, ap, sym, refl, arith, length-append}
use Rattle.std.proofs.lemmas.Slice.Eq.{slice_eq-Decides}
use Rattle.std.specs.Cmp.{booleans_Decides}
use Rattle.rst_pair.specs.Sides.{left_machine, right_machine}
use Rattle.rst_pairinv.proofs.Leading.{not_true, not_false}
use Rattle.rst_pairinv.proofs.hops.cycle_of.Goals as goal

pub returns : goal.returns
returns c =
    let p = c.args.pair.now in
    let first = c.as_slice.ensures.value ∙ ap (λ f. f.outs) c.first.view_is ∙ c.in_ok-first.ensures.outs
    ∙ ap (λ q. (left_machine q).out c.args.left.now c.args.input.now) c.pair.view_is in
    let second = c.as_slice-2.ensures.value ∙ ap (λ f. f.outs) c.second.view_is ∙ c.in_ok-second.ensures.outs
    ∙ ap (λ q. (right_machine q).out c.args.right.now c.args.input.now) c.pair.view_is in
    let decides = slice_eq-Decides booleans_Decides c.as_slice.result.now c.as_slice-2.result.now _ refl in
    let left : c.as_slice-3.result.now ≡ (left_machine p).step c.args.left.now c.args.input.now =
    c.as_slice-3.ensures.value ∙ ap (λ f. f.nexts) c.first.view_is ∙ c.in_ok-first.ensures.nexts
    ∙ ap (λ q. (left_machine q).step c.args.left.now c.args.input.now) c.pair.view_is in
    let right : c.as_slice-4.result.now ≡ (right_machine p).step c.args.right.now c.args.input.now =
    c.as_slice-4.ensures.value ∙ ap (λ f. f.nexts) c.second.view_is ∙ c.in_ok-second.ensures.nexts
    ∙ ap (λ q. (right_machine q).step c.args.right.now c.args.input.now) c.pair.view_is in
    let left_count : length c.as_slice-3.result.now ≡ p.left.states =
    ap length (c.as_slice-3.ensures.value ∙ ap (λ f. f.nexts) c.first.view_is) ∙ c.in_ok-first.ensures.each_next ∙ ap (λ q. q.left.states) c.pair.view_is in
    let right_count : length c.as_slice-4.result.now ≡ p.right.states =
    ap length (c.as_slice-4.ensures.value ∙ ap (λ f. f.nexts) c.second.view_is) ∙ c.in_ok-second.ensures.each_next ∙ ap (λ q. q.right.states) c.pair.view_is in
    record {
      apart = λ differ same. not_true _ (sym c.ne-differ.ensures ∙ differ) (decides.1 (first ∙ same ∙ sym second));
      alike = λ alike. sym first ∙ decides.0 (not_false _ (sym c.ne-differ.ensures ∙ alike)) ∙ second;
      successors = rw (left, right) at c.in_ok-successors.ensures;
      count = omega (
        arith,
        ap length c.in_ok-successors.ensures,
        length-append c.as_slice-3.result.now c.as_slice-4.result.now,
        left_count,
        right_count,
      );
    }
