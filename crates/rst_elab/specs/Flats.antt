-- The flat design of a hierarchy: what results when each instance is replaced by the items of its module.
use Rattle.std.specs.Prelude.{ℕ, Bool, true, false, ◌&&◌, cond, List, [], ◌∷◌, map, filter}
use Rattle.std.specs.List.{flat_map, list_any, enumerate_from}
use Rattle.rst_tree.specs.Trees.{Text}
use Rattle.rst_net.specs.declared.signal.Role.{Role}
use Rattle.rst_net.specs.declared.signal.Role.TheVariants as role
use Rattle.rst_net.specs.Units.{PlainSignal, PlainDriver, PlainProcess, PlainFlat}
use Rattle.rst_names.specs.Declarations.{Declared, signals}
use Rattle.rst_instances.specs.Places.{Located, extent_in, flat_name}
use Rattle.rst_items.specs.Seen.{Seen, seen}
use Rattle.rst_items.specs.Items.{is_clock_name, units, clocked}
use Rattle.rst_drivers.specs.Drives.{is_of, all_assigned, all_blocks, sets_signal}

-- What role a signal has by its drivers: clocked blocks count before combinational ones, and these before assigns and links.
abbrev pub driven_role : List PlainDriver → List PlainProcess → ℕ → Role
driven_role us cs signal =
    cond (list_any (sets_signal signal) cs) role.Register
    (cond (list_any (sets_signal signal) (all_blocks us)) role.Block
    (cond (list_any (is_of signal) (all_assigned us)) role.Wire role.Idle))

-- the names of the top begin with nothing
abbrev pub is_top : Text → Bool
is_top [] = true
is_top (x ∷ xs) = false

-- The role of a signal: clock names and the inputs of the top have theirs whatever drives them. (`driven` says what role a signal
-- has by its drivers.)
abbrev pub role_of : (ℕ → Role) → Seen → ℕ → Declared → Role
role_of driven s signal d = cond (is_clock_name (s.leads d.name)) role.Clock (cond (is_top s.prefix && d.input) role.Input (driven signal))

abbrev pub signal_at : List PlainDriver → List PlainProcess → Located → ℕ × Declared → PlainSignal
signal_at us cs l numbered = record {
  name = flat_name l.place numbered.1.name;
  extent = extent_in l.place numbered.1;
  role = role_of (driven_role us cs) (seen l) numbered.0 numbered.1;
}

abbrev pub signals_at : List PlainDriver → List PlainProcess → Located → List PlainSignal
signals_at us cs l = map (signal_at us cs l) (enumerate_from l.base (signals l.place.of))

-- the numbers of the outputs among these signals
abbrev pub outputs_in : List Declared → List ℕ
outputs_in ds = map (λ numbered. numbered.0) (filter (λ numbered. numbered.1.output) (enumerate_from 0 ds))

-- The flat design of these instances, the first of which is of the module `top`. Its outputs stand in the order of the header.
abbrev pub flat_of : List Declared → List Located → PlainFlat
flat_of top ls = record {
  signals = flat_map (signals_at (units ls) (clocked ls)) ls;
  units = units ls;
  clocked = clocked ls;
  outputs = outputs_in top;
}
