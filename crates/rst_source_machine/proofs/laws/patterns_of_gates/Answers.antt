use Rattle.rst_source_machine.proofs.Sources.{signs_to_source, signs_to_gates, known_signs}
use Rattle.rst_source_machine.proofs.laws.patterns_of_gates.Goals as goal

pub returns : goal.returns
returns c = record {
  to_source = λ flat order m pattern e passes stand is p signs.
      signs_to_source flat order (c.accepted_designs_are_designs.ensures flat e) (c.expressions_fit.ensures flat e passes.blocks.blocking) passes stand m is pattern p signs;
  to_gates = λ flat order m pattern e passes stand is p signs.
      signs_to_gates flat order (c.accepted_designs_are_designs.ensures flat e) (c.expressions_fit.ensures flat e passes.blocks.blocking) passes stand m is pattern p signs;
  known = λ flat order m pattern e passes stand is p known.
      known_signs flat order (c.accepted_designs_are_designs.ensures flat e) (c.expressions_fit.ensures flat e passes.blocks.blocking) passes stand m is pattern p known;
}
