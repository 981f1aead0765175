use Rattle.std.proofs.Common.{◌∙◌, ap}
use Rattle.rst_pose.proofs.Askings.{cubes_wide}
use Rattle.rst_pose.proofs.posing.ask_leaving.Goals as goal

pub in_none-requires-clause-wide : goal.in_none-requires-clause-wide
in_none-requires-clause-wide c =
    let is = c.as_slice.ensures.value ∙ ap (λ f. f.blocked) c.front.view_is in
    rw is (cubes_wide c.args.pair.now c.args.front.now.blocked _ c.requires.within.front.blocked c.requires.each)

pub in_cubes-requires-clause-wide : goal.in_cubes-requires-clause-wide
in_cubes-requires-clause-wide c =
    let is = c.as_slice-2.ensures.value ∙ ap (λ f. f.freed) c.front.view_is in
    rw is (cubes_wide c.args.pair.now c.args.front.now.freed _ c.requires.within.front.freed c.requires.each)
