use Rattle.rst_source_machine.proofs.Nets.{in_order, net_fits, net_widths, net_alike, net_signs, net_known}
use Rattle.rst_source_machine.proofs.laws.nets_are_sources.Goals as goal

pub returns : goal.returns
returns c = record {
  ordered = in_order;
  fits = λ flat net e is. net_fits flat net is (c.expressions_fit.ensures flat e is.passes.blocks.blocking);
  widths = λ flat net e is. net_widths flat net is (c.accepted_designs_are_designs.ensures flat e);
  alike = λ flat net gates m e is made stand source.
      net_alike flat net is (c.accepted_designs_are_designs.ensures flat e) (c.expressions_fit.ensures flat e is.passes.blocks.blocking) gates made stand m source;
  signs = λ flat net gates m pattern e is made stand source p signs.
      net_signs flat net is (c.accepted_designs_are_designs.ensures flat e) (c.expressions_fit.ensures flat e is.passes.blocks.blocking) gates made stand m source pattern p signs;
  known = λ flat net gates m pattern e is made stand source p known.
      net_known flat net is (c.accepted_designs_are_designs.ensures flat e) (c.expressions_fit.ensures flat e is.passes.blocks.blocking) gates made stand m source pattern p known;
}
