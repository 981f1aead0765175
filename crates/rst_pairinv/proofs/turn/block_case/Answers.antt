use Rattle.std.proofs.Common.{◌∙◌, ap}
use Rattle.rst_pairinv.proofs.Exact.{read_case}
use Rattle.rst_pairinv.proofs.turn.block_case.Goals as goal

pub block-requires-clause-states : goal.block-requires-clause-states
block-requires-clause-states c =
    (read_case c.args.pair.now c.args.so_far.now c.args.bits.now _ _ _ c.as_slice.result.now
    (c.left_gates.view_is ∙ ap (λ q. q.left) c.pair.view_is) (c.right_gates.view_is ∙ ap (λ q. q.right) c.pair.view_is)
    (c.as_slice-marks.ensures ∙ ap (λ g. g.equal) c.front.view_is) c.are_sides.ensures c.requires.marked c.requires.at c.requires.solution
    (c.as_slice.ensures.value ∙ c.in_ok-right.ensures)).states

pub block-requires-clause-related : goal.block-requires-clause-related
block-requires-clause-related c =
    (read_case c.args.pair.now c.args.so_far.now c.args.bits.now _ _ _ c.as_slice.result.now
    (c.left_gates.view_is ∙ ap (λ q. q.left) c.pair.view_is) (c.right_gates.view_is ∙ ap (λ q. q.right) c.pair.view_is)
    (c.as_slice-marks.ensures ∙ ap (λ g. g.equal) c.front.view_is) c.are_sides.ensures c.requires.marked c.requires.at c.requires.solution
    (c.as_slice.ensures.value ∙ c.in_ok-right.ensures)).related

pub block-requires-clause-leaves : goal.block-requires-clause-leaves
block-requires-clause-leaves c =
    (read_case c.args.pair.now c.args.so_far.now c.args.bits.now _ _ _ c.as_slice.result.now
    (c.left_gates.view_is ∙ ap (λ q. q.left) c.pair.view_is) (c.right_gates.view_is ∙ ap (λ q. q.right) c.pair.view_is)
    (c.as_slice-marks.ensures ∙ ap (λ g. g.equal) c.front.view_is) c.are_sides.ensures c.requires.marked c.requires.at c.requires.solution
    (c.as_slice.ensures.value ∙ c.in_ok-right.ensures)).leaves
