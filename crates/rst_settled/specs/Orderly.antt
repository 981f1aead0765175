-- Flat designs whose units stand in order, so that they can be settled one behind the other.
use Rattle.std.specs.Prelude.{◌≡◌, length, None}
use Rattle.std.specs.List.{Contains}
use Rattle.rst_net.specs.Units.{PlainDriver, PlainFlat}
use Rattle.rst_blocks.specs.Blocks.{wrong_in_unit, HeldInUnit}
use Rattle.rst_flow.specs.Nets.{IsInOrder}
use Rattle.rst_settled.specs.Designs.{IsDesign}

pub record IsOrderly (flat : PlainFlat) : Type 0 where
  pub design : IsDesign flat
  -- the sets of blocks are blocking
  pub blocking : (unit : PlainDriver) → Contains flat.units unit → wrong_in_unit unit ≡ None
  -- each unit reads only what earlier units drive, what no unit drives and, in a block, that block's own bits
  pub order : IsInOrder (length flat.signals) flat.units
  -- a block sets all of its bits each time, and reads none of them before
  pub latch : (unit : PlainDriver) → Contains flat.units unit → HeldInUnit unit None
