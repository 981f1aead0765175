use Rattle.rst_settled.proofs.Accepted.{orderly_net}
use Rattle.rst_source_machine.proofs.Designs.{fits_in_order}
use Rattle.rst_source_machine.proofs.laws.netlists_are_orderly.Goals as goal

pub returns : goal.returns
returns c = record {
  orderly = λ flat order e passes. orderly_net flat order (c.accepted_designs_are_designs.ensures flat e) passes;
  fits = λ flat order e passes. fits_in_order flat order (c.expressions_fit.ensures flat e passes.blocks.blocking);
  widths = λ flat order e. (c.accepted_designs_are_designs.ensures flat e).widths;
}
