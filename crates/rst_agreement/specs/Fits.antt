-- Designs whose expressions and statements fit together, so that their terms spell what they do.
use Rattle.rst_net.specs.Units.{PlainFlat}
use Rattle.rst_cycle.specs.Signals.{width_of}
use Rattle.rst_design_terms.specs.Lowerable.{UnitsFit, ClockedFit}

pub record DesignFits (flat : PlainFlat) : Type 0 where
  pub units : UnitsFit (width_of flat.signals) flat.units
  pub clocked : ClockedFit (width_of flat.signals) flat.clocked
