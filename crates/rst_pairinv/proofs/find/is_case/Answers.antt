use Rattle.std.proofs.Common.{◌≡◌, ◌∙◌, ◌++◌, true, length, refl, ap, arith}
use Rattle.std.proofs.lemmas.Result.{IfOk-weaker}
use Rattle.rst_pair.specs.Sides.{IsPair}
use Rattle.rst_pairinv.specs.Turns.{Leaves, IsCasePart}
use Rattle.rst_pairinv.proofs.Blocked.{hops_few}
use Rattle.rst_pairinv.proofs.Finding.{guess_wide, guess_marked, guess_related}
use Rattle.rst_pairinv.proofs.find.is_case.Goals as goal

pub in_relation-requires-clause-cubes : goal.in_relation-requires-clause-cubes
in_relation-requires-clause-cubes c =
    let g = c.args.guess.now in
    let is : c.in_ok-both.both ≡ g.left ++ g.right = rw (c.as_slice-left.ensures, c.as_slice-right.ensures) at c.in_ok-both.ensures in
    let pair : IsPair c.args.pair.now g.left g.right = (c.if-not-fits.ensures.left refl, c.if-not-fits.ensures.right refl) in
    guess_wide c.args.pair.now c.args.so_far.now g.left g.right c.in_ok-both.both c.requires.at pair is

pub in_relation-requires-clause-marked : goal.in_relation-requires-clause-marked
in_relation-requires-clause-marked c =
    let g = c.args.guess.now in
    let is : c.in_ok-both.both ≡ g.left ++ g.right = rw (c.as_slice-left.ensures, c.as_slice-right.ensures) at c.in_ok-both.ensures in
    let pair : IsPair c.args.pair.now g.left g.right = (c.if-not-fits.ensures.left refl, c.if-not-fits.ensures.right refl) in
    guess_marked c.args.pair.now c.args.so_far.now.front g.left g.right c.in_ok-both.both c.requires.marked pair is

pub leaves-requires-clause-few : goal.leaves-requires-clause-few
leaves-requires-clause-few c =
    let is : c.as_slice.result.now ≡ c.args.so_far.now.front.blocked = c.as_slice.ensures.value ∙ ap (λ f. f.blocked) c.front.view_is in
    omega (arith, ap length is, hops_few c.args.pair.now c.args.so_far.now c.requires.at, c.requires.few)

pub returns : goal.returns
returns c =
    let p = c.args.pair.now in
    let f = c.args.so_far.now.front in
    let g = c.args.guess.now in
    let is : c.in_ok-both.both ≡ g.left ++ g.right = rw (c.as_slice-left.ensures, c.as_slice-right.ensures) at c.in_ok-both.ensures in
    let pair : IsPair p g.left g.right = (c.if-not-fits.ensures.left refl, c.if-not-fits.ensures.right refl) in
    let related = guess_related p f g.left g.right c.in_ok-both.both true c.requires.marked pair is c.if-not-in_relation.ensures refl in
    let blocked : c.as_slice.result.now ≡ f.blocked = c.as_slice.ensures.value ∙ ap (λ h. h.blocked) c.front.view_is in
    IfOk-weaker c.leaves.result (λ yes. yes ≡ true → Leaves p f.blocked g.input g.left g.right) (λ yes. yes ≡ true → IsCasePart p f g.input g.left g.right)
    (λ yes leaves is. record { width = c.if-not-fits.ensures.input refl; states = pair; related = related; leaves = leaves is })
    (rw (c.as_slice-input.ensures, c.as_slice-left.ensures, c.as_slice-right.ensures, blocked) at c.leaves.ensures)
