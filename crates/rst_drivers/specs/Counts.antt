-- How the code counts what drives a signal.
use Rattle.std.specs.Prelude.{◌≡◌, ℕ, ◌+◌, ◌<◌, ◌≤◌, ◌-◌, ◌*◌, ◌%◌, ◌^◌, min, nat_eq, nat_lt, Bool, true, false, not, ◌&&◌, ◌||◌, cond, List, length, count_by, bit_and, slice_index_or}
use Rattle.std.specs.List.{fold, list_any, slice_set}
use Rattle.std.specs.Int.RustNames.{bit_or}
use Rattle.rst_net.specs.declared.signal.Slice.{Slice}
use Rattle.rst_net.specs.Units.{PlainProcess}
use Rattle.rst_drivers.specs.declared.drives.Drive.{Drive}
use Rattle.rst_drivers.specs.Drives.{is_set, is_of, has_bit, sets_bit, sets_signal}

-- so many ones, at most 64
abbrev pub ones : ℕ → ℕ
ones width = 2 ^ min width 64 - 1

-- the bits of a slice below 64
abbrev pub bits_of : Slice → ℕ
bits_of s = cond (nat_lt s.low 64) (ones s.width * 2 ^ s.low % 2 ^ 64) 0

-- a signal of which nothing is counted yet
abbrev pub nothing : Drive
nothing = record {
  bits = 0;
  twice = 0;
  shared = false;
  assigned = false;
  by_block = false;
  by_clocked = false;
  last = 0;
  others = 0;
}

-- a place of the target of an assign or a link
abbrev pub with_assign : Drive → Slice → Drive
with_assign d s = record {
  bits = bit_or d.bits (bits_of s);
  twice = bit_or d.twice (bit_and d.bits (bits_of s));
  shared = d.shared;
  assigned = true;
  by_block = d.by_block;
  by_clocked = d.by_clocked;
  last = d.last;
  others = d.others;
}

-- the bits that had a driver before the block of this number
abbrev pub others_of : ℕ → Drive → ℕ
others_of number d = cond (nat_eq d.last number) d.others d.bits

-- a slice that the block of this number sets
abbrev pub with_block : ℕ → Bool → Drive → Slice → Drive
with_block number clocked d s = record {
  bits = bit_or d.bits (bits_of s);
  twice = bit_or d.twice (bit_and (others_of number d) (bits_of s));
  shared = d.shared || (not (nat_eq d.last number) && (d.by_block || d.by_clocked));
  assigned = d.assigned;
  by_block = d.by_block || not clocked;
  by_clocked = d.by_clocked || clocked;
  last = number;
  others = others_of number d;
}

-- a slice counted at its signal
abbrev pub at_signal : (Drive → Slice → Drive) → List Drive → Slice → List Drive
at_signal step ds s = slice_set ds s.signal (step (slice_index_or ds s.signal nothing) s)

-- some slices, one after the other
abbrev pub counted : (Drive → Slice → Drive) → List Drive → List Slice → List Drive
counted step ds slices = fold (at_signal step) ds slices

-- ---- what is counted of a signal

-- the drivers of a bit among places of targets, and combinational and clocked blocks
abbrev pub drivers : List Slice → List PlainProcess → List PlainProcess → ℕ → ℕ → ℕ
drivers places bs cs signal bit =
    count_by (has_bit signal bit) places + (count_by (sets_bit signal bit) bs + count_by (sets_bit signal bit) cs)

-- All these are counted; blocks have numbers up to this one.
pub record IsCounted (places : List Slice) (bs cs : List PlainProcess) (number signal : ℕ) (d : Drive) : Type 0 where
  pub bits : (bit : ℕ) → bit < 64 → is_set d.bits bit ≡ nat_lt 0 (drivers places bs cs signal bit)
  pub twice : (bit : ℕ) → bit < 64 → is_set d.twice bit ≡ nat_lt 1 (drivers places bs cs signal bit)
  pub shared : d.shared ≡ nat_lt 1 (count_by (sets_signal signal) bs + count_by (sets_signal signal) cs)
  pub assigned : d.assigned ≡ list_any (is_of signal) places
  pub by_block : d.by_block ≡ list_any (sets_signal signal) bs
  pub by_clocked : d.by_clocked ≡ list_any (sets_signal signal) cs
  pub last : d.last ≤ number

-- the same of all signals
pub record AreCounted (places : List Slice) (bs cs : List PlainProcess) (number : ℕ) (ds : List Drive) : Type 0 where
  pub each : (i : ℕ) → i < length ds → IsCounted places bs cs number i (slice_index_or ds i nothing)
