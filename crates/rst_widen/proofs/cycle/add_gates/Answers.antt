use Rattle.std.proofs.Common.{◌∙◌, sym, arith}
use Rattle.std.proofs.lemmas.Grind.{common_steps}
use Rattle.rst_widen.proofs.Cycles.{nodes_more}
use Rattle.rst_widen.proofs.cycle.add_gates.Goals as goal

pub loop-gate-preserved : goal.loop-gate-preserved
loop-gate-preserved c =
    let so_far = c.loop-gate.invariant in
    let value = rw c.as_slice.ensures.value at c.gate_of-value.ensures in
    record {
      values = sym
          (nodes_more c.args.gates.now c.loop-gate.gate-index _ c.loop-gate.nodes.items c.push.new.self.items c.gate_of-value.result c.loop-gate-test.true value
          c.in_ok-push.ensures.items)
          ∙ so_far.values;
      count = rw c.in_ok-push.ensures.items (grind (arith, common_steps, so_far.count));
    }
