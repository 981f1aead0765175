use Rattle.std.proofs.Common.{◌≡◌, ◌+◌, ◌<◌, ◌^◌, ◌∙◌, arith}
use Rattle.rst_gate.specs.GateLists.{next_node}
use Rattle.rst_gate.specs.Circuits.{ReadsBelow}
use Rattle.rst_gate.specs.SharedGates.{shared, with_shared, place_of}
use Rattle.rst_gate.proofs.Sharing.{same_derived, shared_gates, shared_place, in_order_shared, shared_length}
use Rattle.rst_gate.proofs.builder.GateBuilder.share.Goals as goal

pub invariant_of-self-2 : goal.invariant_of-self-2
invariant_of-self-2 c =
    let keys : c.insert_full.new.self.keys ≡ with_shared c.self.inside.gates.keys c.args.gate
    = c.in_ok-place.ensures.keys ∙ shared_gates _ same_derived c.self.inside.gates.keys c.args.gate in
    let room : next_node (record { inputs = c.self.inside.inputs; states = c.self.inside.states; gates = c.self.inside.gates.keys }) < 2 ^ 31
    = rw (← c.self.view_is) at c.requires.room in
    let stands : ReadsBelow (next_node (record { inputs = c.self.inside.inputs; states = c.self.inside.states; gates = c.self.inside.gates.keys })) c.args.gate
    = rw (← c.self.view_is) at c.requires.stands in
    rw keys (record {
      few_inputs = c.self.invariant.few_inputs;
      few_states = c.self.invariant.few_states;
      few = omega (arith, room, shared_length c.self.inside.gates.keys c.args.gate);
      in_order = in_order_shared (1 + c.self.inside.inputs + c.self.inside.states) c.self.inside.gates.keys c.args.gate c.self.invariant.in_order stands;
    })

pub returns-clause-gates : goal.returns-clause-gates
unfolding shared
returns-clause-gates c =
    let keys : c.insert_full.new.self.keys ≡ with_shared c.self.inside.gates.keys c.args.gate
    = c.in_ok-place.ensures.keys ∙ shared_gates _ same_derived c.self.inside.gates.keys c.args.gate in
    rw (← c.self.view_is, keys)

pub returns-clause-edge : goal.returns-clause-edge
unfolding shared
returns-clause-edge c =
    let place : c.in_ok-place.place ≡ place_of c.self.inside.gates.keys c.args.gate
    = c.in_ok-place.ensures.index ∙ shared_place _ same_derived c.self.inside.gates.keys c.args.gate in
    rw (← c.self.view_is, place)
