-- The gates are within the limits, and know what the terms know.
use Rattle.std.proofs.Common.{◌≡◌, ◌∙◌, ◌≤◌, ℕ, List, length, ap, sym, subst}
use Rattle.rst_value.specs.declared.tern.Tern.{Tern}
use Rattle.rst_gate.specs.Circuits.{Circuit, IsCircuit}
use Rattle.rst_gate.specs.GateMachines.{machine_of}
use Rattle.rst_gate.specs.Patterns.{IsPattern}
use Rattle.rst_design.specs.Netlists.{plain_net}
use Rattle.rst_replies.proofs.Known.{pattern_fits, decides_ok, gates_small}
use Rattle.rst_replies.proofs.replies.decided.Goals as goal

pub decide_check-requires-clause-small : goal.decide_check-requires-clause-small
decide_check-requires-clause-small c =
    let e = c.gates.view_is in
    let same : (let x : Circuit = record { inputs = c.gates.inside.inputs; states = c.gates.inside.states; gates = c.gates.inside.gates.items; outs = c.gates.inside.outs.items; nexts = c.gates.inside.nexts.items } in x) ≡ c.in_ok-gates.gates = cc in
    let circuit : IsCircuit c.in_ok-gates.gates = subst IsCircuit same c.gates.invariant in
    gates_small c.args.net.now c.in_ok-gates.gates c.in_ok-gates.ensures.gates circuit c.requires.orderly c.requires.lowerable.fits c.in_ok-gates.ensures.few

pub decide_check-requires-clause-pattern : goal.decide_check-requires-clause-pattern
decide_check-requires-clause-pattern c =
    subst (IsPattern (machine_of c.in_ok-gates.gates)) (sym (c.in_ok-own.ensures ∙ c.as_slice.ensures))
    (pattern_fits (plain_net c.args.net.now) c.in_ok-gates.gates c.args.pattern.now c.in_ok-gates.ensures.gates c.requires.places)

pub decide_check-requires-clause-cycles : goal.decide_check-requires-clause-cycles
decide_check-requires-clause-cycles c = subst (λ (n : ℕ). n ≤ 128) (sym (ap (λ (p : List (List Tern)). length p) (c.in_ok-own.ensures ∙ c.as_slice.ensures))) c.requires.cycles

pub returns-clause-verdict : goal.returns-clause-verdict
returns-clause-verdict c =
    let e = c.gates.view_is in
    let same : (let x : Circuit = record { inputs = c.gates.inside.inputs; states = c.gates.inside.states; gates = c.gates.inside.gates.items; outs = c.gates.inside.outs.items; nexts = c.gates.inside.nexts.items } in x) ≡ c.in_ok-gates.gates = cc in
    let circuit : IsCircuit c.in_ok-gates.gates = subst IsCircuit same c.gates.invariant in
    decides_ok (plain_net c.args.net.now) c.in_ok-gates.gates c.args.pattern.now c.in_ok-own.own c.args.budget c.decide_check.result (c.in_ok-own.ensures ∙ c.as_slice.ensures) c.in_ok-gates.ensures.gates circuit
    c.requires.places c.decide_check.ensures
