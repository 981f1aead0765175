use Rattle.std.proofs.Common.{◌+◌, ◌∙◌, arith, ap, length}
use Rattle.rst_gate.specs.GateLists.{next_node}
use Rattle.rst_gate.specs.SharedGates.{constant_edge}
use Rattle.std.proofs.Common.{false}
use Rattle.rst_cycle.specs.Bits.{has_bit}
use Rattle.rst_word_gates.specs.GateAlgebra.{gates_so_far}
use Rattle.rst_statement_terms.specs.Targets.{merged_word}
use Rattle.rst_statement_gates.proofs.Merging.{one_more, places_room, places_more, edges_later, joined_stand, length_one}
use Rattle.rst_statement_gates.proofs.waiting.merge_word.Goals as goal

pub choose_bit-requires-clause-room : goal.choose_bit-requires-clause-room
choose_bit-requires-clause-room c =
    let fits = places_room (has_bit c.args.mask) c.loop-place.place 64 (omega arith) in
    omega (arith, fits)

pub loop-place-preserved : goal.loop-place-preserved
loop-place-preserved c =
    let more = places_more (has_bit c.args.mask) c.loop-place.place in
    let is = c.in_ok-push.ensures.items in
    let size = ap length is ∙ length_one c.loop-place.bits.items c.in_ok-bit.bit in
    record {
      run = one_more gates_so_far c.args.one.now c.args.zero.now c.loop-place.place (constant_edge false) (constant_edge false) (has_bit c.args.mask) c.loop-place.bits.items c.push.new.self.items
          (merged_word gates_so_far c.args.gates.now c.args.select (has_bit c.args.mask) 0 c.args.one.now c.args.zero.now) c.loop-place.gates c.choose_bit.new.gates c.args.select c.in_ok-bit.bit
          (omega arith) (omega arith) c.loop-place.invariant.run c.in_ok-bit.ensures.gates c.in_ok-bit.ensures.edge is;
      stand = rw is (joined_stand (next_node c.choose_bit.new.gates) c.loop-place.bits.items c.in_ok-bit.bit
          (edges_later (next_node c.loop-place.gates) (next_node c.choose_bit.new.gates) c.loop-place.bits.items c.in_ok-bit.ensures.grows c.loop-place.invariant.stand) c.in_ok-bit.ensures.stands);
      width = omega (arith, size);
      few = let f = c.in_ok-bit.ensures.few in omega (arith, more, f);
      grows = let g = c.in_ok-bit.ensures.grows in omega (arith, g);
    }
