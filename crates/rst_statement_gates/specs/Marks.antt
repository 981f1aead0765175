-- The bits that statements set, signal by signal, as the code keeps them.
use Rattle.std.specs.Prelude.{ℕ, suc, ◌+◌, ◌-◌, ◌*◌, ◌%◌, ◌^◌, ◌<◌, ◌≤◌, ◌≡◌, min, nat_eq, nat_lt, Bool, true, false, ◌&&◌, ◌||◌, cond, List, [], ◌∷◌, ◌++◌, length, slice_index_or}
use Rattle.std.specs.Int.RustNames.{bit_or}
use Rattle.rst_net.specs.declared.signal.Slice.{Slice}
use Rattle.rst_net.specs.Statements.{Statement, Statements, Arms, Default, Block, If, Case, Set, Empty, end, more, no_arm, arm, no_default, default}
use Rattle.rst_cycle.specs.Bits.{has_bit}
use Rattle.rst_cycle.specs.Drivers.{sets}
use Rattle.rst_statement_gates.specs.declared.marks.Mark.{Mark}

-- so many ones, at most 64
abbrev pub ones : ℕ → ℕ
ones width = 2 ^ min width 64 - 1

-- the bits of a slice below 64
abbrev pub slice_mask : Slice → ℕ
slice_mask slice = cond (nat_lt slice.low 64) (ones slice.width * 2 ^ slice.low % 2 ^ 64) 0

-- whether a bit is marked
abbrev pub is_marked : List Mark → ℕ → ℕ → Bool
is_marked [] i place = false
is_marked (m ∷ marks) i place = nat_eq i m.signal && has_bit m.mask place || is_marked marks i place

-- marks of ascending signals, from one on and below another
abbrev pub Ascend : ℕ → ℕ → List Mark → Type 0
Ascend n count [] = Unit {0}
Ascend n count (m ∷ marks) = (n ≤ m.signal) × (m.signal < count) × Ascend (suc m.signal) count marks

-- bits of a signal marked beside others
abbrev pub with_mark : List Mark → ℕ → ℕ → List Mark
with_mark [] i mask = record { signal = i; mask = mask } ∷ []
with_mark (m ∷ marks) i mask =
    cond (nat_lt i m.signal) (record { signal = i; mask = mask } ∷ m ∷ marks)
    (cond (nat_eq i m.signal) (record { signal = i; mask = bit_or m.mask mask } ∷ marks) (m ∷ with_mark marks i mask))

-- the bits of a slice of one of the first signals
abbrev pub mark_slice : ℕ → List Mark → Slice → List Mark
mark_slice count marks slice = cond (nat_lt slice.signal count) (with_mark marks slice.signal (slice_mask slice)) marks

abbrev pub mark_target : ℕ → List Slice → List Mark → List Mark
mark_target count [] marks = marks
mark_target count (slice ∷ slices) marks = mark_target count slices (mark_slice count marks slice)

abbrev mutual
  -- the bits that a statement sets
  pub mark_statement : ℕ → Statement → List Mark → List Mark
  mark_statement count (Block statements) marks = mark_all count statements marks
  mark_statement count (If condition first second) marks = mark_statement count second (mark_statement count first marks)
  mark_statement count (Case selector arms otherwise full) marks = mark_default count otherwise (mark_arms count arms marks)
  mark_statement count (Set set) marks = mark_target count set.target marks
  mark_statement count Empty marks = marks

  pub mark_all : ℕ → Statements → List Mark → List Mark
  mark_all count end marks = marks
  mark_all count (more statement statements) marks = mark_all count statements (mark_statement count statement marks)

  pub mark_arms : ℕ → Arms → List Mark → List Mark
  mark_arms count no_arm marks = marks
  mark_arms count (arm labels body arms) marks = mark_arms count arms (mark_statement count body marks)

  pub mark_default : ℕ → Default → List Mark → List Mark
  mark_default count no_default marks = marks
  mark_default count (default statement) marks = mark_statement count statement marks

-- the bits that arms and what stands behind them set
abbrev pub arm_marks : ℕ → Arms → Default → List Mark
arm_marks count no_arm otherwise = mark_default count otherwise []
arm_marks count (arm labels body arms) otherwise = mark_statement count body (arm_marks count arms otherwise)

-- those of each arm and the arms behind it, the last arm's in front
abbrev pub chain_marks : ℕ → Arms → Default → List (List Mark)
chain_marks count no_arm otherwise = []
chain_marks count (arm labels body arms) otherwise = chain_marks count arms otherwise ++ arm_marks count (arm labels body arms) otherwise ∷ []

abbrev pub mark_of : ℕ → ℕ → Mark
mark_of i mask = record { signal = i; mask = mask }

-- the signal of a mark
abbrev pub signal_at : List Mark → ℕ → ℕ
signal_at marks k = (slice_index_or marks k (mark_of 0 0)).signal

-- where the mark of a signal stands or would stand
pub record IsPlace (marks : List Mark) (i place : ℕ) : Type 0 where
  pub within : place ≤ length marks
  pub below : (k : ℕ) → k < place → signal_at marks k < i
  pub above : (k : ℕ) → place ≤ k → k < length marks → i ≤ signal_at marks k

-- Marks of the bits of the first signals that pass a test.
pub record AreMarks (count : ℕ) (which : ℕ → ℕ → Bool) (marks : List Mark) : Type 0 where
  pub ascend : Ascend 0 count marks
  pub same : (i place : ℕ) → i < count → place < 64 → is_marked marks i place ≡ which i place

-- each bit that a statement sets is marked
abbrev pub CoversSets : ℕ → Statement → List Mark → Type 0
CoversSets count st marks = (i place : ℕ) → i < count → place < 64 → sets st i place ≡ true → is_marked marks i place ≡ true
