use Rattle.std.proofs.Common.{arith, ◌-◌, get_or, take, drop, length}
use Rattle.rst_net.specs.declared.signal.Slice.{Slice}
use Rattle.rst_statement_gates.proofs.Steps.{target_turn, rest_whole}
use Rattle.rst_statement_gates.proofs.statements.put_target.Goals as goal

none : Slice
none = record { signal = 0; low = 0; width = 0 }

pub loop-slice-preserved : goal.loop-slice-preserved
unfolding none
loop-slice-preserved c =
    let n = c.loop-slice.left - (get_or c.args.target.now c.loop-slice.slice-index none).width in
    target_turn c.args.wires.now c.args.target.now c.args.part.now (take (length c.args.part.now - n) (drop n c.args.part.now)) c.loop-slice.wires c.put_slice.new.wires c.loop-slice.left c.loop-slice.slice-index none
    (omega arith) c.loop-slice.invariant (rest_whole c.args.part.now n) c.in_ok-put_slice.ensures
