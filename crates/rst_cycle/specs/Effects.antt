-- What statements do, in two values (IEEE 1364-2001, clause 9).
use Rattle.std.specs.Prelude.{ℕ, zero, suc, ◌+◌, ◌*◌, ◌/◌, ◌%◌, ◌^◌, nat_eq, Bool, true, false, cond, ◌||◌, List, [], ◌∷◌}
use Rattle.std.specs.List.{list_any}
use Rattle.rst_word.specs.Words.{PlainWord}
use Rattle.rst_word.specs.Unary.{is_true}
use Rattle.rst_width.specs.Values.{Valuation, value}
use Rattle.rst_net.specs.declared.signal.Slice.{Slice}
use Rattle.rst_net.specs.Statements.{PlainSet, Label, Statement, Statements, Arms, Default, Block, If, Case, Set, Empty, end, more, no_arm, arm, no_default, default}
use Rattle.rst_cycle.specs.Bits.{has_bit, same_bit, replaced}

-- How far a block has come: what its reads see, and the last value of each bit. A blocking set is seen by the reads behind it;
-- a nonblocking one is seen by none of them (clause 9.2).
pub record Progress : Type 0 where
  pub seen : Valuation
  pub last : Valuation

-- nothing is set yet: reads see a valuation, and each bit holds its value in another
abbrev pub beginning : Valuation → Valuation → Progress
beginning seen last = record { seen = seen; last = last }

-- the bits of a slice set to the lowest bits of a number
abbrev pub with_slice : Slice → ℕ → Valuation → Valuation
with_slice slice n signals i = cond (nat_eq i slice.signal) (replaced slice.low slice.width (signals i) n) (signals i)

abbrev pub target_width : List Slice → ℕ
target_width [] = 0
target_width (slice ∷ slices) = slice.width + target_width slices

-- A target set to a number: its first slice takes the most significant bits. The slices are set in the order of the text, so
-- that of a bit that stands in two of them the last one wins.
abbrev pub with_target : List Slice → ℕ → Valuation → Valuation
with_target [] n signals = signals
with_target (slice ∷ slices) n signals = with_target slices n (with_slice slice (n / 2 ^ target_width slices) signals)

-- the number that the bits of a target spell
abbrev pub target_number : List Slice → Valuation → ℕ
target_number [] signals = 0
target_number (slice ∷ slices) signals = signals slice.signal / 2 ^ slice.low % 2 ^ slice.width * 2 ^ target_width slices + target_number slices signals

abbrev pub set_to : PlainSet → ℕ → Progress → Progress
set_to set n p = record {
  seen = cond set.blocking (with_target set.target n p.seen) p.seen;
  last = with_target set.target n p.last;
}

abbrev pub set_effect : PlainSet → Progress → Progress
set_effect set p = set_to set (value p.seen set.value).value p

-- Two numbers agree on the lowest bits that a mask leaves out.
abbrev pub agree : ℕ → ℕ → ℕ → ℕ → Bool
agree zero mask m n = true
agree (suc width) mask m n = cond (has_bit mask width || same_bit (has_bit m width) (has_bit n width)) (agree width mask m n) false

-- A label matches where it agrees with the selector on every bit that it doesn't mask (clause 9.5.1).
abbrev pub matches : Valuation → PlainWord → Label → Bool
matches signals selector label = agree selector.width label.mask selector.value (value signals label.value).value

-- an arm is chosen where one of its labels matches
abbrev pub is_chosen : Valuation → PlainWord → List Label → Bool
is_chosen signals selector labels = list_any (matches signals selector) labels

abbrev mutual
  -- What a statement has done once it is over, by how far its block had come before it.
  pub effect : Statement → Progress → Progress
  effect (Block statements) p = effects statements p
  effect (If condition first second) p = cond (is_true (value p.seen condition)) (effect first p) (effect second p)
  effect (Case selector arms otherwise full) p = arms_effect (value p.seen selector) arms (λ q. default_effect otherwise q) p
  effect (Set set) p = set_effect set p
  effect Empty p = p

  pub effects : Statements → Progress → Progress
  effects end p = p
  effects (more statement statements) p = effects statements (effect statement p)

  -- The first arm that is chosen; where none is, what comes behind the arms.
  pub arms_effect : PlainWord → Arms → (Progress → Progress) → Progress → Progress
  arms_effect selector no_arm behind p = behind p
  arms_effect selector (arm labels body arms) behind p = cond (is_chosen p.seen selector labels) (effect body p) (arms_effect selector arms behind p)

  -- without a default, nothing
  pub default_effect : Default → Progress → Progress
  default_effect no_default p = p
  default_effect (default statement) p = effect statement p
