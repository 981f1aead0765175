use Rattle.rst_sign.proofs.Reading.{known_resets, signed_resets, refuted_apart}
use Rattle.rst_sign.proofs.laws.verdicts_hold.Goals as goal

pub returns-clause-known : goal.returns-clause-known
returns-clause-known c =
    known_resets c.sources_are_machines.ensures.one c.sources_are_machines.ensures.keeps_states c.gates_are_sources.ensures.is c.patterns_of_gates.ensures.known

pub returns-clause-signed : goal.returns-clause-signed
returns-clause-signed c =
    signed_resets c.sources_are_machines.ensures.one c.sources_are_machines.ensures.keeps_states c.gates_are_sources.ensures.is c.patterns_of_gates.ensures.known
    c.patterns_of_gates.ensures.to_source

pub returns-clause-refuted : goal.returns-clause-refuted
returns-clause-refuted c =
    refuted_apart c.sources_are_machines.ensures.one c.sources_are_machines.ensures.keeps_states c.gates_are_sources.ensures.is c.gates_are_sources.ensures.alike
    c.alike_machines.ensures.outs c.alike_machines.ensures.after
