use Rattle.std.proofs.Common.{◌≡◌, ◌∙◌, true, replicate, ap}
use Rattle.rst_gate.specs.Circuits.{Circuit}
use Rattle.rst_sim.proofs.Cycles.{support_cycle}
use Rattle.rst_sim.proofs.support.support.Goals as goal

pub returns-clause-value : goal.returns-clause-value
returns-clause-value c =
    let counted : c.gates.inside.inputs ≡ c.args.gates.now.inputs = ap (λ (g : Circuit). g.inputs) c.gates.view_is in
    let places : c.as_slice.result.now ≡ replicate c.args.gates.now.inputs true =
    c.as_slice.ensures.value ∙ (rw counted at (c.in_ok-inputs.ensures.items_if_clones_equal (λ y e. e))) in
    let gives = rw (← c.frame.view_is) at c.in_ok-frame.ensures.gives in
    support_cycle c.args.gates.now c.args.set.now c.as_slice.result.now c.frame.inside.outs.items c.frame.inside.nexts.items _ _ places gives
