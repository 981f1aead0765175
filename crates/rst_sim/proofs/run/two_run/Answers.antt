use Rattle.std.proofs.Common.{◌∙◌, ◌≡◌, ◌<◌, ap, length, get_or, subst}
use Rattle.rst_gate.specs.GateMachines.{machine_of}
use Rattle.rst_sim.proofs.Turns.{outs_more, after_more}
use Rattle.rst_sim.proofs.run.two_run.Goals as goal

pub loop-input-preserved : goal.loop-input-preserved
loop-input-preserved c =
    let so_far = c.loop-input.invariant in
    let one = c.in_ok-frame.ensures in
    let outs = rw (c.as_slice-in-loop-input.ensures, c.as_slice-in-loop-input-2.ensures, ← c.frame.view_is) at one.outs in
    let nexts = rw (c.as_slice-in-loop-input.ensures, c.as_slice-in-loop-input-2.ensures, ← c.frame.view_is) at one.nexts in
    let push = rw c.from_vec.ensures at c.in_ok-push.ensures.items in
    let below : c.loop-input.input-index < length c.args.inputs.now = rw (← c.as_slice-input-items.ensures) c.loop-input-test.true in
    let item : c.input-item.result ≡ get_or c.args.inputs.now c.loop-input.input-index c.input-item.result =
    subst (λ word. c.input-item.result ≡ get_or word c.loop-input.input-index c.input-item.result) c.as_slice-input-items.ensures c.input-item.is in
    record {
      is_state = ap length c.from_vec-current.ensures ∙ (rw (← c.frame.view_is) at one.each_next);
      outs_so_far = so_far.outs_so_far ∙ outs_more (machine_of c.args.gates.now) c.loop-input.current c.from_vec-current.result c.args.inputs.now
          c.loop-input.input-index c.input-item.result c.loop-input.shown.items c.push.new.self.items c.frame.inside.outs.items
          below item outs (c.from_vec-current.ensures ∙ nexts) push;
      after_rest = so_far.after_rest ∙ after_more (machine_of c.args.gates.now) c.loop-input.current c.from_vec-current.result c.args.inputs.now
          c.loop-input.input-index c.input-item.result below item (c.from_vec-current.ensures ∙ nexts);
    }
