use Rattle.std.proofs.Common.{◌∙◌, ◌≡◌, ◌<◌, ◌≤◌, ap, length, get_or, subst}
use Rattle.rst_gate.specs.GateMachines.{terns_of}
use Rattle.rst_sim.proofs.Turns.{trail_more, trail_end, length-trail, last-trail}
use Rattle.rst_sim.proofs.run.tern_run_free.Goals as goal

pub loop-input-preserved : goal.loop-input-preserved
loop-input-preserved c =
    let so_far = c.loop-input.invariant in
    let one = c.in_ok-frame.ensures in
    let nexts = rw (c.as_slice-in-loop-input.ensures, c.as_slice-in-loop-input-2.ensures, ← c.frame.view_is) at one.nexts in
    let below : c.loop-input.input-index < length c.args.inputs.now = rw (← c.as_slice-input-items.ensures) c.loop-input-test.true in
    let item : c.input-item.result ≡ get_or c.args.inputs.now c.loop-input.input-index c.input-item.result =
    subst (λ word. c.input-item.result ≡ get_or word c.loop-input.input-index c.input-item.result) c.as_slice-input-items.ensures c.input-item.is in
    record {
      is_state = ap length c.from_vec-current.ensures ∙ (rw (← c.frame.view_is) at one.each_next);
      so_far = so_far.so_far ∙ trail_more (terns_of c.args.gates.now) c.loop-input.current c.from_vec-current.result c.args.inputs.now
          c.loop-input.input-index c.input-item.result c.loop-input.states.items c.push.new.self.items
          below item (c.from_vec-current.ensures ∙ nexts) c.in_ok-push.ensures.items;
    }

pub returns-clause-count : goal.returns-clause-count
returns-clause-count c =
    let past : length c.args.inputs.now ≤ c.loop-input.input-index = rw (← c.as_slice-input-items.ensures) c.loop-input-test.false in
    ap length
    (trail_end (terns_of c.args.gates.now) c.args.start.now c.loop-input.current c.args.inputs.now c.loop-input.input-index
    c.loop-input.states.items c.push-2.new.self.items past c.loop-input.invariant.so_far c.in_ok-push-2.ensures.items)
    ∙ length-trail (terns_of c.args.gates.now) c.args.start.now c.args.inputs.now

pub returns-clause-last : goal.returns-clause-last
returns-clause-last c =
    let past : length c.args.inputs.now ≤ c.loop-input.input-index = rw (← c.as_slice-input-items.ensures) c.loop-input-test.false in
    rw
    (trail_end (terns_of c.args.gates.now) c.args.start.now c.loop-input.current c.args.inputs.now c.loop-input.input-index
    c.loop-input.states.items c.push-2.new.self.items past c.loop-input.invariant.so_far c.in_ok-push-2.ensures.items)
    (last-trail (terns_of c.args.gates.now) c.args.start.now c.args.inputs.now)
