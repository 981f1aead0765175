-- The three-valued reading of a flat design: the terms of its operators and statements over three values, without a gate. The units are
-- read in the order in which they stand.
use Rattle.rst_value.specs.Terns.{known}
use Rattle.rst_gate.specs.Operations.{on_terns}
use Rattle.rst_gate.specs.TernMachine.{TernMachine}
use Rattle.rst_terms.specs.Algebras.{pure}
use Rattle.rst_net.specs.Units.{PlainFlat}
use Rattle.rst_design_terms.specs.Designs.{design_bits}
use Rattle.rst_design_terms.specs.Gates.{state_bits}

abbrev pub design_terns : PlainFlat → TernMachine
design_terns flat = record {
  registers = state_bits flat;
  out = λ state input. (design_bits (pure known on_terns) flat tt input state).outs;
  step = λ state input. (design_bits (pure known on_terns) flat tt input state).nexts;
}
