use Rattle.std.proofs.Common.{◌∙◌, ◌≡◌, ◌+◌, arith, sym, ap, map}
use Rattle.rst_gate.specs.GateLists.{next_node, finished}
use Rattle.rst_net.specs.declared.signal.Role.TheVariants.{Input, Register}
use Rattle.rst_net.specs.Units.{plain_signal, plain_process}
use Rattle.rst_cycle.specs.Signals.{with_role}
use Rattle.rst_lower.proofs.Stands.{wires_later}
use Rattle.rst_reset_gates.specs.NodeWords.{role_bits, node_words}
use Rattle.rst_net_gates.specs.Netlists.{plain_net, numbers_of}
use Rattle.rst_net_gates.proofs.Lowered.{narrow, few_inputs, few_states, Begun, begun_stands, begun_wide, begun_count, begun_room, begun_narrow, clocked_fit, clocked_room, Made, last_is, outs_are, nexts_are, states_stay, gates_few, listed_stand, nexts_long, made_gates, made_few}
use Rattle.rst_net_gates.proofs.lowering.lower.Goals as goal

pub input_bits-inputs-requires : goal.input_bits-inputs-requires
input_bits-inputs-requires c =
    let flat = plain_net c.args.net.now in
    let few = c.args.net.now.few in
    narrow c.deref.result.now c.args.net.now.signals.items Input 256 4294967296 c.deref.ensures.value (few_inputs flat.signals flat.outputs few) (omega arith)

pub state_bits-states-requires : goal.state_bits-states-requires
state_bits-states-requires c =
    let flat = plain_net c.args.net.now in
    let few = c.args.net.now.few in
    narrow c.deref-2.result.now c.args.net.now.signals.items Register 512 4294967296 c.deref-2.ensures.value (few_states flat.signals flat.outputs few) (omega arith)

pub new-requires-clause-few_inputs : goal.new-requires-clause-few_inputs
new-requires-clause-few_inputs c =
    let flat = plain_net c.args.net.now in
    let few = c.args.net.now.few in
    let inputs = c.input_bits-inputs.result in
    let states = c.state_bits-states.result in
    let inputs_are : inputs ≡ role_bits Input flat.signals = c.input_bits-inputs.ensures ∙ ap (λ ss. role_bits Input (map plain_signal ss)) c.deref.ensures.value in
    let states_are : states ≡ role_bits Register flat.signals = c.state_bits-states.ensures ∙ ap (λ ss. role_bits Register (map plain_signal ss)) c.deref-2.ensures.value in
    let most = few_inputs flat.signals flat.outputs few in
    omega (arith, inputs_are, most)

pub new-requires-clause-few_states : goal.new-requires-clause-few_states
new-requires-clause-few_states c =
    let flat = plain_net c.args.net.now in
    let few = c.args.net.now.few in
    let inputs = c.input_bits-inputs.result in
    let states = c.state_bits-states.result in
    let inputs_are : inputs ≡ role_bits Input flat.signals = c.input_bits-inputs.ensures ∙ ap (λ ss. role_bits Input (map plain_signal ss)) c.deref.ensures.value in
    let states_are : states ≡ role_bits Register flat.signals = c.state_bits-states.ensures ∙ ap (λ ss. role_bits Register (map plain_signal ss)) c.deref-2.ensures.value in
    let most = few_states flat.signals flat.outputs few in
    omega (arith, states_are, most)

pub settled-requires-clause-stand : goal.settled-requires-clause-stand
settled-requires-clause-stand c =
    let flat = plain_net c.args.net.now in
    let few = c.args.net.now.few in
    let inputs = c.input_bits-inputs.result in
    let states = c.state_bits-states.result in
    let inputs_are : inputs ≡ role_bits Input flat.signals = c.input_bits-inputs.ensures ∙ ap (λ ss. role_bits Input (map plain_signal ss)) c.deref.ensures.value in
    let states_are : states ≡ role_bits Register flat.signals = c.state_bits-states.ensures ∙ ap (λ ss. role_bits Register (map plain_signal ss)) c.deref-2.ensures.value in
    let gates = c.in_ok-gates.gates in
    let start = c.in_ok-start.start in
    let begun : Begun flat inputs states gates start =
    record {
      inputs_are = inputs_are;
      states_are = states_are;
      none = c.in_ok-gates.ensures;
      words = c.in_ok-start.ensures ∙ ap (λ ss. node_words (map plain_signal ss) 1 (1 + inputs)) c.deref-3.ensures.value;
      few = few;
      light = c.args.net.now.light;
      lowerable = c.requires.lowerable;
    } in
    begun_stands flat inputs states gates start begun

pub settled-requires-clause-widths : goal.settled-requires-clause-widths
settled-requires-clause-widths c =
    let flat = plain_net c.args.net.now in
    let few = c.args.net.now.few in
    let inputs = c.input_bits-inputs.result in
    let states = c.state_bits-states.result in
    let inputs_are : inputs ≡ role_bits Input flat.signals = c.input_bits-inputs.ensures ∙ ap (λ ss. role_bits Input (map plain_signal ss)) c.deref.ensures.value in
    let states_are : states ≡ role_bits Register flat.signals = c.state_bits-states.ensures ∙ ap (λ ss. role_bits Register (map plain_signal ss)) c.deref-2.ensures.value in
    let gates = c.in_ok-gates.gates in
    let start = c.in_ok-start.start in
    let begun : Begun flat inputs states gates start =
    record {
      inputs_are = inputs_are;
      states_are = states_are;
      none = c.in_ok-gates.ensures;
      words = c.in_ok-start.ensures ∙ ap (λ ss. node_words (map plain_signal ss) 1 (1 + inputs)) c.deref-3.ensures.value;
      few = few;
      light = c.args.net.now.light;
      lowerable = c.requires.lowerable;
    } in
    begun_wide flat inputs states gates start begun

pub settled-requires-clause-count : goal.settled-requires-clause-count
settled-requires-clause-count c =
    let flat = plain_net c.args.net.now in
    let few = c.args.net.now.few in
    let inputs = c.input_bits-inputs.result in
    let states = c.state_bits-states.result in
    let inputs_are : inputs ≡ role_bits Input flat.signals = c.input_bits-inputs.ensures ∙ ap (λ ss. role_bits Input (map plain_signal ss)) c.deref.ensures.value in
    let states_are : states ≡ role_bits Register flat.signals = c.state_bits-states.ensures ∙ ap (λ ss. role_bits Register (map plain_signal ss)) c.deref-2.ensures.value in
    let gates = c.in_ok-gates.gates in
    let start = c.in_ok-start.start in
    let begun : Begun flat inputs states gates start =
    record {
      inputs_are = inputs_are;
      states_are = states_are;
      none = c.in_ok-gates.ensures;
      words = c.in_ok-start.ensures ∙ ap (λ ss. node_words (map plain_signal ss) 1 (1 + inputs)) c.deref-3.ensures.value;
      few = few;
      light = c.args.net.now.light;
      lowerable = c.requires.lowerable;
    } in
    begun_count flat inputs states gates start begun

pub settled-requires-clause-room : goal.settled-requires-clause-room
settled-requires-clause-room c =
    let flat = plain_net c.args.net.now in
    let few = c.args.net.now.few in
    let inputs = c.input_bits-inputs.result in
    let states = c.state_bits-states.result in
    let inputs_are : inputs ≡ role_bits Input flat.signals = c.input_bits-inputs.ensures ∙ ap (λ ss. role_bits Input (map plain_signal ss)) c.deref.ensures.value in
    let states_are : states ≡ role_bits Register flat.signals = c.state_bits-states.ensures ∙ ap (λ ss. role_bits Register (map plain_signal ss)) c.deref-2.ensures.value in
    let gates = c.in_ok-gates.gates in
    let start = c.in_ok-start.start in
    let begun : Begun flat inputs states gates start =
    record {
      inputs_are = inputs_are;
      states_are = states_are;
      none = c.in_ok-gates.ensures;
      words = c.in_ok-start.ensures ∙ ap (λ ss. node_words (map plain_signal ss) 1 (1 + inputs)) c.deref-3.ensures.value;
      few = few;
      light = c.args.net.now.light;
      lowerable = c.requires.lowerable;
    } in
    begun_room flat inputs states gates start begun

pub clocked-requires-clause-fit : goal.clocked-requires-clause-fit
clocked-requires-clause-fit c =
    let flat = plain_net c.args.net.now in
    let few = c.args.net.now.few in
    let inputs = c.input_bits-inputs.result in
    let states = c.state_bits-states.result in
    let inputs_are : inputs ≡ role_bits Input flat.signals = c.input_bits-inputs.ensures ∙ ap (λ ss. role_bits Input (map plain_signal ss)) c.deref.ensures.value in
    let states_are : states ≡ role_bits Register flat.signals = c.state_bits-states.ensures ∙ ap (λ ss. role_bits Register (map plain_signal ss)) c.deref-2.ensures.value in
    let gates = c.in_ok-gates.gates in
    let start = c.in_ok-start.start in
    let begun : Begun flat inputs states gates start =
    record {
      inputs_are = inputs_are;
      states_are = states_are;
      none = c.in_ok-gates.ensures;
      words = c.in_ok-start.ensures ∙ ap (λ ss. node_words (map plain_signal ss) 1 (1 + inputs)) c.deref-3.ensures.value;
      few = few;
      light = c.args.net.now.light;
      lowerable = c.requires.lowerable;
    } in
    clocked_fit flat inputs states gates start begun (map plain_process c.deref-5.result.now) (ap (map plain_process) c.deref-5.ensures.value)

pub clocked-requires-clause-stand : goal.clocked-requires-clause-stand
clocked-requires-clause-stand c =
    let flat = plain_net c.args.net.now in
    let few = c.args.net.now.few in
    let inputs = c.input_bits-inputs.result in
    let states = c.state_bits-states.result in
    let inputs_are : inputs ≡ role_bits Input flat.signals = c.input_bits-inputs.ensures ∙ ap (λ ss. role_bits Input (map plain_signal ss)) c.deref.ensures.value in
    let states_are : states ≡ role_bits Register flat.signals = c.state_bits-states.ensures ∙ ap (λ ss. role_bits Register (map plain_signal ss)) c.deref-2.ensures.value in
    let gates = c.in_ok-gates.gates in
    let start = c.in_ok-start.start in
    let begun : Begun flat inputs states gates start =
    record {
      inputs_are = inputs_are;
      states_are = states_are;
      none = c.in_ok-gates.ensures;
      words = c.in_ok-start.ensures ∙ ap (λ ss. node_words (map plain_signal ss) 1 (1 + inputs)) c.deref-3.ensures.value;
      few = few;
      light = c.args.net.now.light;
      lowerable = c.requires.lowerable;
    } in
    wires_later (next_node gates) (next_node c.settled.new.gates) start c.in_ok-wires.ensures.grows (begun_stands flat inputs states gates start begun)

pub clocked-requires-clause-at_most_64 : goal.clocked-requires-clause-at_most_64
clocked-requires-clause-at_most_64 c =
    let flat = plain_net c.args.net.now in
    let few = c.args.net.now.few in
    let inputs = c.input_bits-inputs.result in
    let states = c.state_bits-states.result in
    let inputs_are : inputs ≡ role_bits Input flat.signals = c.input_bits-inputs.ensures ∙ ap (λ ss. role_bits Input (map plain_signal ss)) c.deref.ensures.value in
    let states_are : states ≡ role_bits Register flat.signals = c.state_bits-states.ensures ∙ ap (λ ss. role_bits Register (map plain_signal ss)) c.deref-2.ensures.value in
    let gates = c.in_ok-gates.gates in
    let start = c.in_ok-start.start in
    let begun : Begun flat inputs states gates start =
    record {
      inputs_are = inputs_are;
      states_are = states_are;
      none = c.in_ok-gates.ensures;
      words = c.in_ok-start.ensures ∙ ap (λ ss. node_words (map plain_signal ss) 1 (1 + inputs)) c.deref-3.ensures.value;
      few = few;
      light = c.args.net.now.light;
      lowerable = c.requires.lowerable;
    } in
    begun_narrow flat inputs states gates start begun

pub clocked-requires-clause-room : goal.clocked-requires-clause-room
clocked-requires-clause-room c =
    let flat = plain_net c.args.net.now in
    let few = c.args.net.now.few in
    let inputs = c.input_bits-inputs.result in
    let states = c.state_bits-states.result in
    let inputs_are : inputs ≡ role_bits Input flat.signals = c.input_bits-inputs.ensures ∙ ap (λ ss. role_bits Input (map plain_signal ss)) c.deref.ensures.value in
    let states_are : states ≡ role_bits Register flat.signals = c.state_bits-states.ensures ∙ ap (λ ss. role_bits Register (map plain_signal ss)) c.deref-2.ensures.value in
    let gates = c.in_ok-gates.gates in
    let start = c.in_ok-start.start in
    let begun : Begun flat inputs states gates start =
    record {
      inputs_are = inputs_are;
      states_are = states_are;
      none = c.in_ok-gates.ensures;
      words = c.in_ok-start.ensures ∙ ap (λ ss. node_words (map plain_signal ss) 1 (1 + inputs)) c.deref-3.ensures.value;
      few = few;
      light = c.args.net.now.light;
      lowerable = c.requires.lowerable;
    } in
    clocked_room flat inputs states gates start begun (map plain_process c.deref-5.result.now) (next_node c.settled.new.gates) (ap (map plain_process) c.deref-5.ensures.value) c.in_ok-wires.ensures.few

pub finish-requires-clause-outs_stand : goal.finish-requires-clause-outs_stand
finish-requires-clause-outs_stand c =
    let last = c.clocked.new.gates in
    let wires = c.in_ok-wires.wires in
    listed_stand (next_node last) wires c.deref-4.result.now c.in_ok-outs.outs.items
    (wires_later (next_node c.settled.new.gates) (next_node last) wires c.in_ok-clocked.ensures.grows c.in_ok-wires.ensures.stand) c.in_ok-outs.ensures

pub finish-requires-clause-nexts_stand : goal.finish-requires-clause-nexts_stand
finish-requires-clause-nexts_stand c =
    listed_stand (next_node c.clocked.new.gates) c.clocked.new.wires c.deref-7.result.now c.in_ok-nexts.nexts.items c.in_ok-clocked.ensures.stand c.in_ok-nexts.ensures

pub finish-requires-clause-each_state : goal.finish-requires-clause-each_state
finish-requires-clause-each_state c =
    let flat = plain_net c.args.net.now in
    let few = c.args.net.now.few in
    let inputs = c.input_bits-inputs.result in
    let states = c.state_bits-states.result in
    let inputs_are : inputs ≡ role_bits Input flat.signals = c.input_bits-inputs.ensures ∙ ap (λ ss. role_bits Input (map plain_signal ss)) c.deref.ensures.value in
    let states_are : states ≡ role_bits Register flat.signals = c.state_bits-states.ensures ∙ ap (λ ss. role_bits Register (map plain_signal ss)) c.deref-2.ensures.value in
    let gates = c.in_ok-gates.gates in
    let start = c.in_ok-start.start in
    let begun : Begun flat inputs states gates start =
    record {
      inputs_are = inputs_are;
      states_are = states_are;
      none = c.in_ok-gates.ensures;
      words = c.in_ok-start.ensures ∙ ap (λ ss. node_words (map plain_signal ss) 1 (1 + inputs)) c.deref-3.ensures.value;
      few = few;
      light = c.args.net.now.light;
      lowerable = c.requires.lowerable;
    } in
    let ps = map plain_process c.deref-5.result.now in
    let ps_are = ap (map plain_process) c.deref-5.ensures.value in
    let middle = c.settled.new.gates in
    let last = c.clocked.new.gates in
    let wires = c.in_ok-wires.wires in
    let held = c.clocked.new.wires in
    let made : Made flat inputs states gates start begun middle last wires held ps =
    record {
      settled_gates = c.in_ok-wires.ensures.gates;
      settled_wires = c.in_ok-wires.ensures.wires;
      blocks = ps_are;
      next_gates = c.in_ok-clocked.ensures.gates;
      next_wires = c.in_ok-clocked.ensures.wires;
    } in
    let numbers_are = c.deref-7.ensures.value ∙ (c.in_ok-numbers.ensures ∙ ap (λ ss. numbers_of (with_role Register (map plain_signal ss))) c.deref-6.ensures.value) in
    let wide = c.in_ok-clocked.ensures.widths ∙ begun_wide flat inputs states gates start begun in
    nexts_long flat.signals held c.deref-7.result.now c.in_ok-nexts.nexts.items wide numbers_are c.in_ok-nexts.ensures ∙ sym (states_stay flat inputs states gates start begun middle last wires held ps made)

pub returns-clause-gates : goal.returns-clause-gates
returns-clause-gates c =
    let flat = plain_net c.args.net.now in
    let few = c.args.net.now.few in
    let inputs = c.input_bits-inputs.result in
    let states = c.state_bits-states.result in
    let inputs_are : inputs ≡ role_bits Input flat.signals = c.input_bits-inputs.ensures ∙ ap (λ ss. role_bits Input (map plain_signal ss)) c.deref.ensures.value in
    let states_are : states ≡ role_bits Register flat.signals = c.state_bits-states.ensures ∙ ap (λ ss. role_bits Register (map plain_signal ss)) c.deref-2.ensures.value in
    let gates = c.in_ok-gates.gates in
    let start = c.in_ok-start.start in
    let begun : Begun flat inputs states gates start =
    record {
      inputs_are = inputs_are;
      states_are = states_are;
      none = c.in_ok-gates.ensures;
      words = c.in_ok-start.ensures ∙ ap (λ ss. node_words (map plain_signal ss) 1 (1 + inputs)) c.deref-3.ensures.value;
      few = few;
      light = c.args.net.now.light;
      lowerable = c.requires.lowerable;
    } in
    let ps = map plain_process c.deref-5.result.now in
    let ps_are = ap (map plain_process) c.deref-5.ensures.value in
    let middle = c.settled.new.gates in
    let last = c.clocked.new.gates in
    let wires = c.in_ok-wires.wires in
    let held = c.clocked.new.wires in
    let made : Made flat inputs states gates start begun middle last wires held ps =
    record {
      settled_gates = c.in_ok-wires.ensures.gates;
      settled_wires = c.in_ok-wires.ensures.wires;
      blocks = ps_are;
      next_gates = c.in_ok-clocked.ensures.gates;
      next_wires = c.in_ok-clocked.ensures.wires;
    } in
    let numbers_are = c.deref-7.ensures.value ∙ (c.in_ok-numbers.ensures ∙ ap (λ ss. numbers_of (with_role Register (map plain_signal ss))) c.deref-6.ensures.value) in
    let behind = last_is flat inputs states gates start begun middle last wires held ps made in
    let outs = outs_are flat inputs states gates start begun middle last wires held ps made c.deref-4.result.now c.in_ok-outs.outs.items c.deref-4.ensures.value c.in_ok-outs.ensures in
    let nexts = nexts_are flat inputs states gates start begun middle last wires held ps made c.deref-7.result.now c.in_ok-nexts.nexts.items numbers_are c.in_ok-nexts.ensures in
    made_gates c.finish.result (finished last c.in_ok-outs.outs.items c.in_ok-nexts.nexts.items) _ (λ j. finished (behind j) (outs j) (nexts j)) c.finish.ensures

pub returns-clause-few : goal.returns-clause-few
returns-clause-few c =
    let flat = plain_net c.args.net.now in
    let few = c.args.net.now.few in
    let inputs = c.input_bits-inputs.result in
    let states = c.state_bits-states.result in
    let inputs_are : inputs ≡ role_bits Input flat.signals = c.input_bits-inputs.ensures ∙ ap (λ ss. role_bits Input (map plain_signal ss)) c.deref.ensures.value in
    let states_are : states ≡ role_bits Register flat.signals = c.state_bits-states.ensures ∙ ap (λ ss. role_bits Register (map plain_signal ss)) c.deref-2.ensures.value in
    let gates = c.in_ok-gates.gates in
    let start = c.in_ok-start.start in
    let begun : Begun flat inputs states gates start =
    record {
      inputs_are = inputs_are;
      states_are = states_are;
      none = c.in_ok-gates.ensures;
      words = c.in_ok-start.ensures ∙ ap (λ ss. node_words (map plain_signal ss) 1 (1 + inputs)) c.deref-3.ensures.value;
      few = few;
      light = c.args.net.now.light;
      lowerable = c.requires.lowerable;
    } in
    let ps = map plain_process c.deref-5.result.now in
    let ps_are = ap (map plain_process) c.deref-5.ensures.value in
    let middle = c.settled.new.gates in
    let last = c.clocked.new.gates in
    let wires = c.in_ok-wires.wires in
    let held = c.clocked.new.wires in
    let made : Made flat inputs states gates start begun middle last wires held ps =
    record {
      settled_gates = c.in_ok-wires.ensures.gates;
      settled_wires = c.in_ok-wires.ensures.wires;
      blocks = ps_are;
      next_gates = c.in_ok-clocked.ensures.gates;
      next_wires = c.in_ok-clocked.ensures.wires;
    } in
    let numbers_are = c.deref-7.ensures.value ∙ (c.in_ok-numbers.ensures ∙ ap (λ ss. numbers_of (with_role Register (map plain_signal ss))) c.deref-6.ensures.value) in
    made_few c.finish.result (finished last c.in_ok-outs.outs.items c.in_ok-nexts.nexts.items) _ (gates_few flat inputs states gates start begun middle last wires held ps made c.in_ok-wires.ensures.few c.in_ok-clocked.ensures.few) c.finish.ensures
