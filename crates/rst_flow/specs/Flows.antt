-- What passes, and why a flat design has no netlist: the first of the rows that holds of it.
use Rattle.std.specs.Prelude.{◌≡◌, ℕ, ◌<◌, ◌≤◌, List, [], length, slice_get, Option, Some, None}
use Rattle.rst_tree.specs.Trees.{Text}
use Rattle.rst_net.specs.Units.{PlainSignal, PlainFlat}
use Rattle.rst_blocks.specs.Blocks.{wrong_set, first_unlisted, HeldIs}
use Rattle.rst_weight.specs.Weights.{weight}
use Rattle.rst_flow.specs.declared.flowing.FlowError.{FlowError}
use Rattle.rst_flow.specs.declared.flowing.FlowError.TheVariants as fault
use Rattle.rst_flow.specs.Edges.{IsUnitOrder, IsFirstLooped}

abbrev pub name_in : Option PlainSignal → Text
name_in None = []
name_in (Some s) = s.name

-- the name of a signal
abbrev pub name_at : PlainFlat → ℕ → Text
name_at flat i = name_in (slice_get flat.signals i)

-- none of the rows on blocks holds
pub record BlocksPass (flat : PlainFlat) : Type 0 where
  pub blocking : wrong_set flat.units flat.clocked ≡ None
  pub sensitivity : first_unlisted flat.units ≡ None
  pub latch : HeldIs flat.units None

-- none of the rows holds, and the units have this order
pub record Passes (flat : PlainFlat) (order : List ℕ) : Type 0 where
  pub blocks : BlocksPass flat
  pub ordered : IsUnitOrder (length flat.signals) flat.units order
  pub light : weight flat ≤ 16384

-- a block has a set of the wrong kind
pub record IsBlocking (flat : PlainFlat) (name : Text) : Type 0 where
  pub signal : ℕ
  pub wrong : wrong_set flat.units flat.clocked ≡ Some signal
  pub named : name ≡ name_at flat signal

-- no such set, and a block with an event list reads what it doesn't list
pub record IsSensitivity (flat : PlainFlat) (name : Text) : Type 0 where
  pub blocking : wrong_set flat.units flat.clocked ≡ None
  pub signal : ℕ
  pub unlisted : first_unlisted flat.units ≡ Some signal
  pub named : name ≡ name_at flat signal

-- neither, and a block can hold a bit
pub record IsLatch (flat : PlainFlat) (name : Text) : Type 0 where
  pub blocking : wrong_set flat.units flat.clocked ≡ None
  pub sensitivity : first_unlisted flat.units ≡ None
  pub signal : ℕ
  pub held : HeldIs flat.units (Some signal)
  pub named : name ≡ name_at flat signal

-- all blocks pass, and a bit is driven on a cycle
pub record IsLoop (flat : PlainFlat) (name : Text) : Type 0 where
  pub blocks : BlocksPass flat
  pub signal : ℕ
  pub looped : IsFirstLooped (length flat.signals) flat.units signal
  pub named : name ≡ name_at flat signal

-- all blocks pass, no unit lies on a cycle, and the design weighs too much
pub record IsHeavy (flat : PlainFlat) : Type 0 where
  pub blocks : BlocksPass flat
  pub order : List ℕ
  pub ordered : IsUnitOrder (length flat.signals) flat.units order
  pub heavy : 16384 < weight flat

abbrev pub IsRefusal : PlainFlat → FlowError → Type 0
IsRefusal flat (fault.Blocking name) = IsBlocking flat name
IsRefusal flat (fault.Sensitivity name) = IsSensitivity flat name
IsRefusal flat (fault.Latch name) = IsLatch flat name
IsRefusal flat (fault.Loop name) = IsLoop flat name
IsRefusal flat fault.Limit = IsHeavy flat
IsRefusal flat fault.NoMemory = Unit {0}
