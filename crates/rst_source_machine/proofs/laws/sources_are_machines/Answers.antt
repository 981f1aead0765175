use Rattle.rst_settled.proofs.Settling.{accepted, one_machine}
use Rattle.rst_source_machine.proofs.Sources.{machine_to, machine_from, keeps_states}
use Rattle.rst_source_machine.proofs.laws.sources_are_machines.Goals as goal

pub returns : goal.returns
returns c = record {
  one = λ flat order e passes. one_machine flat (λ state input. accepted flat order state input (c.accepted_designs_are_designs.ensures flat e) passes);
  in_order = λ flat order m passes is. machine_to flat order passes m is;
  from_order = λ flat order m passes is. machine_from flat order passes m is;
  keeps_states = keeps_states;
}
