-- The gates go through the states of the terms.
use Rattle.std.proofs.Common.{◌≡◌, subst}
use Rattle.rst_gate.specs.Circuits.{Circuit, IsCircuit}
use Rattle.rst_design.specs.Netlists.{plain_net}
use Rattle.rst_replies.proofs.Known.{pattern_fits, trace_ok}
use Rattle.rst_replies.proofs.replies.known_trace.Goals as goal

pub known_states-requires : goal.known_states-requires
known_states-requires c = pattern_fits (plain_net c.args.net.now) c.in_ok-gates.gates c.args.pattern.now c.in_ok-gates.ensures.gates c.requires.places

pub returns-clause-states : goal.returns-clause-states
returns-clause-states c =
    let e = c.gates.view_is in
    let same : (let x : Circuit = record { inputs = c.gates.inside.inputs; states = c.gates.inside.states; gates = c.gates.inside.gates.items; outs = c.gates.inside.outs.items; nexts = c.gates.inside.nexts.items } in x) ≡ c.in_ok-gates.gates = cc in
    let circuit : IsCircuit c.in_ok-gates.gates = subst IsCircuit same c.gates.invariant in
    trace_ok (plain_net c.args.net.now) c.in_ok-gates.gates c.args.pattern.now c.known_states.result c.in_ok-gates.ensures.gates circuit c.requires.places c.known_states.ensures.states
