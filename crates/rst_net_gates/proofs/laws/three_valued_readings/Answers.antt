use Rattle.rst_value.specs.Terns.{known}
use Rattle.rst_gate.specs.Operations.{on_terns}
use Rattle.rst_gate.proofs.FoldLaws.{terns_fold}
use Rattle.rst_word_gates.proofs.Meaning.{terns_constant}
use Rattle.rst_design_terms.proofs.Meaning.{designs_are}
use Rattle.rst_net_gates.proofs.laws.three_valued_readings.Goals as goal

pub returns : goal.returns
returns c = λ flat circuit. record {
  out = λ state input tall wide. (designs_are known on_terns terns_fold terns_constant flat input state wide tall circuit.in_order).outs;
  step = λ state input tall wide. (designs_are known on_terns terns_fold terns_constant flat input state wide tall circuit.in_order).nexts;
}
