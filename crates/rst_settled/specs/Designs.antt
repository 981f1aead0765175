-- What elaboration gives of every flat design, as far as its settled valuation rests on it.
use Rattle.std.specs.Prelude.{◌≡◌, ℕ, ◌≤◌, true, false, List, [], ◌∷◌, slice_get, Some}
use Rattle.std.specs.List.{AllByRecursion, Contains}
use Rattle.rst_net.specs.declared.signal.Role.TheVariants.{Input}
use Rattle.rst_net.specs.declared.signal.Slice.{Slice}
use Rattle.rst_net.specs.declared.unit.Reset.{Reset}
use Rattle.rst_net.specs.Statements.{Statement, Statements, Arms, Default, Block, If, Case, Set, Empty, end, more, no_arm, arm, no_default, default}
use Rattle.rst_net.specs.Units.{PlainProcess, PlainDriver, Assign, Process, PlainFlat}
use Rattle.rst_cycle.specs.Signals.{width_of, role_of, is_wired}
use Rattle.rst_cycle.specs.Drivers.{slice_has, target_has, drives}
use Rattle.rst_statement_values.specs.Fits.{SliceInside, IsCovered}

abbrev mutual
  -- the parts of targets lie inside their signals, and a full case takes one of its ways
  pub IsSound : (ℕ → ℕ) → Statement → Type 0
  IsSound widths (Block statements) = AllSound widths statements
  IsSound widths (If condition first second) = IsSound widths first × IsSound widths second
  IsSound widths (Case selector arms otherwise full) =
      ArmsSound widths arms × DefaultSound widths otherwise × IsCovered widths full selector arms otherwise
  IsSound widths (Set set) = AllByRecursion (SliceInside widths) set.target
  IsSound widths Empty = Unit {0}

  pub AllSound : (ℕ → ℕ) → Statements → Type 0
  AllSound widths end = Unit {0}
  AllSound widths (more statement statements) = IsSound widths statement × AllSound widths statements

  pub ArmsSound : (ℕ → ℕ) → Arms → Type 0
  ArmsSound widths no_arm = Unit {0}
  ArmsSound widths (arm labels body arms) = IsSound widths body × ArmsSound widths arms

  pub DefaultSound : (ℕ → ℕ) → Default → Type 0
  DefaultSound widths no_default = Unit {0}
  DefaultSound widths (default statement) = IsSound widths statement

abbrev pub UnitSound : (ℕ → ℕ) → PlainDriver → Type 0
UnitSound widths (Assign set) = AllByRecursion (SliceInside widths) set.target
UnitSound widths (Process process) = IsSound widths process.body

-- no bit stands in two slices
abbrev pub AreApart : List Slice → Type 0
AreApart [] = Unit {0}
AreApart (slice ∷ slices) =
    ((i place : ℕ) → slice_has i place slice ≡ true → target_has slices i place ≡ false) × AreApart slices

-- an assign or a link sets each bit of its target once
abbrev pub SetsOnce : PlainDriver → Type 0
SetsOnce (Assign set) = AreApart set.target
SetsOnce (Process process) = Unit {0}

-- no two units drive one bit
abbrev pub HaveOneDriver : List PlainDriver → Type 0
HaveOneDriver units =
    (a b : ℕ) (first second : PlainDriver) (i place : ℕ) → slice_get units a ≡ Some first
    → slice_get units b ≡ Some second → drives first i place ≡ true → drives second i place ≡ true → a ≡ b

pub record IsDesign (flat : PlainFlat) : Type 0 where
  -- no signal has more than 64 bits
  pub widths : (i : ℕ) → width_of flat.signals i ≤ 64
  pub sound : (unit : PlainDriver) → Contains flat.units unit → UnitSound (width_of flat.signals) unit
  -- no bit has two drivers
  pub once : (unit : PlainDriver) → Contains flat.units unit → SetsOnce unit
  pub single : HaveOneDriver flat.units
  -- units drive neither inputs nor registers nor clocks
  pub wired : (unit : PlainDriver) (i place : ℕ) → Contains flat.units unit → drives unit i place ≡ true
      → is_wired (role_of flat.signals i) ≡ true
  -- resets are inputs
  pub resets : (process : PlainProcess) (reset : Reset) → Contains flat.clocked process → process.reset ≡ Some reset
      → role_of flat.signals reset.signal ≡ Input
