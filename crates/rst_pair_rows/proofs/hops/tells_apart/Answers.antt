use Rattle.std.proofs.Common.{◌≡◌, ◌∙◌, ap, sym, subst, not, refl}
use Rattle.std.proofs.lemmas.Bool.{false≢true}
use Rattle.std.proofs.lemmas.Slice.Eq.{slice_eq-Decides}
use Rattle.std.specs.Cmp.{booleans_Decides}
use Rattle.rst_pair.specs.Sides.{left_machine, right_machine}
use Rattle.rst_pair_rows.proofs.hops.tells_apart.Goals as goal

pub returns : goal.returns
returns c apart same =
    let there = subst (λ p. (left_machine p).out c.args.left.now c.args.input.now ≡ (right_machine p).out c.args.right.now c.args.input.now) (sym c.pair.view_is) same in
    let first = c.as_slice.ensures.value ∙ ap (λ f. f.outs) c.first.view_is ∙ c.in_ok-first.ensures.outs in
    let second = c.as_slice-2.ensures.value ∙ ap (λ f. f.outs) c.second.view_is ∙ c.in_ok-second.ensures.outs in
    let equal : c.as_slice.result.now ≡ c.as_slice-2.result.now = first ∙ there ∙ sym second in
    let decides = slice_eq-Decides booleans_Decides c.as_slice.result.now c.as_slice-2.result.now _ refl in
    false≢true (sym (c.ne.ensures ∙ ap not (decides.1 equal)) ∙ apart)
