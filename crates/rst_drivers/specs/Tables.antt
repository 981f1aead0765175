-- How the code shows what drives the signals.
use Rattle.std.specs.Prelude.{◌≡◌, ℕ, ◌<◌, nat_lt, List, length, slice_get, Some}
use Rattle.std.specs.List.{list_any}
use Rattle.rst_net.specs.Units.{PlainDriver, PlainProcess}
use Rattle.rst_drivers.specs.declared.drives.Drive.{Drive}
use Rattle.rst_drivers.specs.Drives.{is_of, is_set, all_assigned, all_blocks, sets_signal, drivers_of_bit, blocks_of_signal}

-- What drives a signal of this number. Bits count below 64.
pub record IsDrive (us : List PlainDriver) (cs : List PlainProcess) (signal : ℕ) (d : Drive) : Type 0 where
  pub bits : (bit : ℕ) → bit < 64 → is_set d.bits bit ≡ nat_lt 0 (drivers_of_bit us cs signal bit)
  pub twice : (bit : ℕ) → bit < 64 → is_set d.twice bit ≡ nat_lt 1 (drivers_of_bit us cs signal bit)
  pub shared : d.shared ≡ nat_lt 1 (blocks_of_signal us cs signal)
  pub assigned : d.assigned ≡ list_any (is_of signal) (all_assigned us)
  pub by_block : d.by_block ≡ list_any (sets_signal signal) (all_blocks us)
  pub by_clocked : d.by_clocked ≡ list_any (sets_signal signal) cs

-- what drives each of so many signals
pub record AreDrives (us : List PlainDriver) (cs : List PlainProcess) (signals : ℕ) (ds : List Drive) : Type 0 where
  pub count : length ds ≡ signals
  pub each : (i : ℕ) (d : Drive) → slice_get ds i ≡ Some d → IsDrive us cs i d
