use Rattle.std.proofs.Common.{◌∙◌, false, arith, ap, get_or}
use Rattle.std.specs.Option.{option_map}
use Rattle.rst_gate.specs.declared.edge.Edge.{Edge}
use Rattle.rst_cycle.specs.Bits.{digit}
use Rattle.rst_word_gates.specs.GateAlgebra.{gates_so_far}
use Rattle.rst_design_terms.specs.Designs.{reset_bit}
use Rattle.rst_reset_gates.specs.Tables.{plain_reset, reset_at}
use Rattle.rst_reset_gates.specs.Counts.{is_reset}
use Rattle.rst_reset_gates.proofs.Registers.{bit_room, bits_turn}
use Rattle.rst_reset_gates.proofs.resets.reset_bits.Goals as goal

pub reset_bit-requires-clause-room : goal.reset_bit-requires-clause-room
reset_bit-requires-clause-room c =
    bit_room c.args.start.now (reset_at c.args.table.now c.args.signal) c.args.gates.now c.args.bits.now c.loop-k.gates c.loop-k.done.items c.loop-k.k (option_map plain_reset c.at-reset.result) 2147483648
    c.loop-k-test.true c.loop-k.invariant (ap (option_map plain_reset) c.at-reset.ensures) c.requires.room

pub loop-k-preserved : goal.loop-k-preserved
loop-k-preserved c =
    let d : Edge = record { node = 0; inverted = false } in
    let start = c.args.start.now in
    let gates = c.loop-k.gates in
    let bit = get_or c.args.bits.now c.loop-k.k d in
    let r = ap (option_map plain_reset) c.at-reset.ensures in
    let few = c.in_ok-bit.ensures.few in
    let here = ap (λ z. digit (is_reset z)) r in
    bits_turn start (reset_at c.args.table.now c.args.signal) c.args.gates.now c.args.bits.now gates c.reset_bit.new.gates c.loop-k.done.items c.push.new.self.items c.in_ok-bit.bit c.loop-k.k d
    c.loop-k-test.true c.loop-k.invariant
    (c.in_ok-bit.ensures.gates ∙ ap (λ z. (reset_bit gates_so_far start z gates bit).0) r)
    (c.in_ok-bit.ensures.edge ∙ ap (λ z. (reset_bit gates_so_far start z gates bit).1) r)
    c.in_ok-bit.ensures.stands c.in_ok-bit.ensures.grows (omega (arith, few, here)) c.in_ok-push.ensures.items
