-- Signals, units and the flat design in plain form.
use Rattle.std.specs.Prelude.{ℕ, List, Option, map}
use Rattle.std.specs.Option.{option_map}
use Rattle.rst_tree.specs.Trees.{Text}
use Rattle.rst_width.specs.Scopes.{Extent, extent_of}
use Rattle.rst_net.specs.declared.signal.Role.{Role}
use Rattle.rst_net.specs.declared.signal.Signal.{Signal}
use Rattle.rst_net.specs.declared.unit.Process as unit
use Rattle.rst_net.specs.declared.unit.Reset.{Reset}
use Rattle.rst_net.specs.declared.unit.Driver.{Driver}
use Rattle.rst_net.specs.declared.unit.Driver.TheVariants as driver
use Rattle.rst_net.specs.declared.flat.Flat.{Flat}
use Rattle.rst_net.specs.Statements.{Statement, PlainSet, plain_stmt, plain_set}

pub record PlainSignal : Type 0 where
  pub name : Text
  pub extent : Extent
  pub role : Role

pub record PlainProcess : Type 0 where
  pub body : Statement
  pub listens : Option (List ℕ)
  pub path : Text
  pub item : ℕ
  pub reset : Option Reset

pub data PlainDriver : Type 0 where
  Assign : PlainSet → PlainDriver
  Process : PlainProcess → PlainDriver

pub record PlainFlat : Type 0 where
  pub signals : List PlainSignal
  pub units : List PlainDriver
  pub clocked : List PlainProcess
  pub outputs : List ℕ

abbrev pub plain_signal : Signal → PlainSignal
plain_signal s = record { name = s.name; extent = extent_of s.shape; role = s.role }

abbrev pub plain_process : unit.Process → PlainProcess
plain_process p = record {
  body = plain_stmt p.body.value;
  listens = option_map (λ signals. signals.items) p.listens;
  path = p.path;
  item = p.item;
  reset = p.reset;
}

abbrev pub plain_driver : Driver → PlainDriver
plain_driver (driver.Assign s) = Assign (plain_set s.value)
plain_driver (driver.Process p) = Process (plain_process p.value)

abbrev pub plain_flat : Flat → PlainFlat
plain_flat f = record {
  signals = map plain_signal f.signals.items;
  units = map plain_driver f.units.items;
  clocked = map plain_process f.clocked.items;
  outputs = f.outputs.items;
}
