-- Which statements fit together: what their expressions read, set and compare has the widths that the places ask for.
use Rattle.std.specs.Prelude.{◌≡◌, ℕ, ◌+◌, ◌^◌, ◌<◌, ◌≤◌, Bool, true, false, ◌||◌, List}
use Rattle.std.specs.List.{AllByRecursion}
use Rattle.rst_word.specs.Words.{PlainWord}
use Rattle.rst_width.specs.Typed.{Typed, shape_of}
use Rattle.rst_width.specs.Values.{Valuation, value}
use Rattle.rst_width.specs.Fit.{IsFit}
use Rattle.rst_width.specs.Reads.{ReadsInside}
use Rattle.rst_net.specs.declared.signal.Slice.{Slice}
use Rattle.rst_net.specs.Statements.{Label, PlainSet, Statement, Statements, Arms, Default, Block, If, Case, Set, Empty, end, more, no_arm, arm, no_default, default}
use Rattle.rst_cycle.specs.Effects.{is_chosen, target_width}
use Rattle.rst_statement_terms.specs.Statements.{Sight, Held, Current}

-- an expression that fits together, and reads inside its signals
pub record ExpressionFits (room : ℕ → ℕ) (e : Typed) : Type 0 where
  pub fit : IsFit e
  pub inside : ReadsInside room e

-- a label has the selector's width
pub record LabelFits (room : ℕ → ℕ) (w : ℕ) (label : Label) : Type 0 where
  pub value : ExpressionFits room label.value
  pub width : (shape_of label.value).width ≡ w

-- a part of a target lies inside its signal
pub record SliceInside (room : ℕ → ℕ) (slice : Slice) : Type 0 where
  pub some_bits : 0 < slice.width
  pub inside : slice.low + slice.width ≤ room slice.signal

-- a set is of the kind that its block asks for, and its value is at least as wide as its target
pub record SetFits (room : ℕ → ℕ) (blocking : Bool) (set : PlainSet) : Type 0 where
  pub value : ExpressionFits room set.value
  pub slices : AllByRecursion (SliceInside room) set.target
  pub wide : target_width set.target ≤ (shape_of set.value).width
  pub kind : set.blocking ≡ blocking

-- whether an arm is chosen
abbrev pub any_chosen : Valuation → PlainWord → Arms → Bool
any_chosen signals selector no_arm = false
any_chosen signals selector (arm labels body arms) = is_chosen signals selector labels || any_chosen signals selector arms

abbrev pub has_default : Default → Bool
has_default no_default = false
has_default (default statement) = true

-- a full case takes one of its ways, whatever the signals' values are
abbrev pub IsCovered : (ℕ → ℕ) → Bool → Typed → Arms → Default → Type 0
IsCovered room full selector arms otherwise =
    full ≡ true → (signals : Valuation) → ((i : ℕ) → signals i < 2 ^ room i) → (any_chosen signals (value signals selector) arms || has_default otherwise) ≡ true

-- reads of a combinational block see each blocking set; in a clocked block all sets are nonblocking
abbrev pub blocking_of : {X : Type 0} → Sight X → Bool
blocking_of (Held words) = false
blocking_of Current = true

abbrev mutual
  pub StatementFits : (ℕ → ℕ) → Bool → Statement → Type 0
  StatementFits room blocking (Block statements) = AllFit room blocking statements
  StatementFits room blocking (If condition first second) = ExpressionFits room condition × StatementFits room blocking first × StatementFits room blocking second
  StatementFits room blocking (Case selector arms otherwise full) =
      ExpressionFits room selector × ArmsFit room blocking (shape_of selector).width arms × DefaultFits room blocking otherwise × IsCovered room full selector arms otherwise
  StatementFits room blocking (Set set) = SetFits room blocking set
  StatementFits room blocking Empty = Unit {0}

  pub AllFit : (ℕ → ℕ) → Bool → Statements → Type 0
  AllFit room blocking end = Unit {0}
  AllFit room blocking (more statement statements) = StatementFits room blocking statement × AllFit room blocking statements

  pub ArmsFit : (ℕ → ℕ) → Bool → ℕ → Arms → Type 0
  ArmsFit room blocking width no_arm = Unit {0}
  ArmsFit room blocking width (arm labels body arms) =
      AllByRecursion (LabelFits room width) labels × StatementFits room blocking body × ArmsFit room blocking width arms

  pub DefaultFits : (ℕ → ℕ) → Bool → Default → Type 0
  DefaultFits room blocking no_default = Unit {0}
  DefaultFits room blocking (default statement) = StatementFits room blocking statement
