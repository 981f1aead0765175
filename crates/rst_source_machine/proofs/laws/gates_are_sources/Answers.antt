use Rattle.rst_source_machine.proofs.Sources.{gates_are, gates_alike}
use Rattle.rst_source_machine.proofs.laws.gates_are_sources.Goals as goal

pub returns : goal.returns
returns c = record {
  is = λ flat order e passes stand.
      gates_are flat order (c.accepted_designs_are_designs.ensures flat e) (c.expressions_fit.ensures flat e passes.blocks.blocking) passes stand;
  alike = λ flat order m e passes stand is.
      gates_alike flat order (c.accepted_designs_are_designs.ensures flat e) (c.expressions_fit.ensures flat e passes.blocks.blocking) passes stand m is;
}
