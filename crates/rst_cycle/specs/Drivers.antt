-- Which bits statements and units set.
use Rattle.std.specs.Prelude.{ℕ, ◌+◌, nat_eq, nat_lt, Bool, false, not, ◌&&◌, ◌||◌, List}
use Rattle.std.specs.List.{list_any}
use Rattle.rst_net.specs.declared.signal.Slice.{Slice}
use Rattle.rst_net.specs.Statements.{Statement, Statements, Arms, Default, Block, If, Case, Set, Empty, end, more, no_arm, arm, no_default, default}
use Rattle.rst_net.specs.Units.{PlainDriver, Assign, Process}

-- whether a slice has the bit of a signal at a place
abbrev pub slice_has : ℕ → ℕ → Slice → Bool
slice_has i place slice = nat_eq i slice.signal && (not (nat_lt place slice.low) && nat_lt place (slice.low + slice.width))

abbrev pub target_has : List Slice → ℕ → ℕ → Bool
target_has slices i place = list_any (slice_has i place) slices

abbrev mutual
  -- whether a statement sets the bit anywhere
  pub sets : Statement → ℕ → ℕ → Bool
  sets (Block statements) i place = all_set statements i place
  sets (If condition first second) i place = sets first i place || sets second i place
  sets (Case selector arms otherwise full) i place = arms_set arms i place || default_sets otherwise i place
  sets (Set set) i place = target_has set.target i place
  sets Empty i place = false

  pub all_set : Statements → ℕ → ℕ → Bool
  all_set end i place = false
  all_set (more statement statements) i place = sets statement i place || all_set statements i place

  pub arms_set : Arms → ℕ → ℕ → Bool
  arms_set no_arm i place = false
  arms_set (arm labels body arms) i place = sets body i place || arms_set arms i place

  pub default_sets : Default → ℕ → ℕ → Bool
  default_sets no_default i place = false
  default_sets (default statement) i place = sets statement i place

-- whether a unit drives the bit
abbrev pub drives : PlainDriver → ℕ → ℕ → Bool
drives (Assign set) i place = target_has set.target i place
drives (Process process) i place = sets process.body i place
