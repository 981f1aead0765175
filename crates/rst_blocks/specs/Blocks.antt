-- The rows on blocks: sets of the wrong kind, event lists that leave out what is read, and bits that are held. Combinational blocks
-- stand in flat order, behind them the clocked ones.
use Rattle.std.specs.Prelude.{◌≡◌, ℕ, ◌<◌, nat_eq, Bool, true, false, not, cond, ◌&&◌, ◌||◌, ◌⊎◌, List, [], ◌∷◌, Option, Some, None}
use Rattle.std.specs.List.{list_any}
use Rattle.rst_net.specs.declared.signal.Slice.{Slice}
use Rattle.rst_net.specs.Statements.{Statement}
use Rattle.rst_net.specs.Units.{PlainDriver, PlainProcess, Assign, Process}
use Rattle.rst_cycle.specs.Drivers.{sets}
use Rattle.rst_blocks.specs.Reads.{reads_in}
use Rattle.rst_blocks.specs.Sets.{targets_in, or_else, first_set}
use Rattle.rst_blocks.specs.Surely.{surely, early}

-- ---- a clocked block has a blocking set, or another block a nonblocking one

abbrev pub wrong_in_unit : PlainDriver → Option ℕ
wrong_in_unit (Assign set) = None
wrong_in_unit (Process process) = first_set false process.body

abbrev pub wrong_in_units : List PlainDriver → Option ℕ
wrong_in_units [] = None
wrong_in_units (unit ∷ units) = or_else (wrong_in_unit unit) (wrong_in_units units)

abbrev pub wrong_in_clocked : List PlainProcess → Option ℕ
wrong_in_clocked [] = None
wrong_in_clocked (process ∷ processes) = or_else (first_set true process.body) (wrong_in_clocked processes)

-- the first target of the first set of the wrong kind
abbrev pub wrong_set : List PlainDriver → List PlainProcess → Option ℕ
wrong_set units clocked = or_else (wrong_in_units units) (wrong_in_clocked clocked)

-- ---- a combinational block with an event list reads a signal that it doesn't set and doesn't list

-- whether some slices have bits of a signal
abbrev pub names : List Slice → ℕ → Bool
names slices i = list_any (λ slice. nat_eq i slice.signal) slices

abbrev pub lists : List ℕ → ℕ → Bool
lists signals i = list_any (λ j. nat_eq i j) signals

-- the signal of the first slice whose signal isn't known
abbrev pub first_unknown : (ℕ → Bool) → List Slice → Option ℕ
first_unknown known [] = None
first_unknown known (slice ∷ slices) = cond (known slice.signal) (first_unknown known slices) (Some slice.signal)

abbrev pub unlisted_by : Statement → List ℕ → Option ℕ
unlisted_by body listens = first_unknown (λ i. names (targets_in body) i || lists listens i) (reads_in body)

abbrev pub unlisted : Statement → Option (List ℕ) → Option ℕ
unlisted body None = None
unlisted body (Some listens) = unlisted_by body listens

abbrev pub unlisted_in_unit : PlainDriver → Option ℕ
unlisted_in_unit (Assign set) = None
unlisted_in_unit (Process process) = unlisted process.body process.listens

abbrev pub first_unlisted : List PlainDriver → Option ℕ
first_unlisted [] = None
first_unlisted (unit ∷ units) = or_else (unlisted_in_unit unit) (first_unlisted units)

-- ---- a combinational block can end with a bit that it sets not set, or can read such a bit before it is set

abbrev pub is_held : Statement → ℕ → ℕ → Bool
is_held body i place = sets body i place && (not (surely i place body false) || early i place body false)

-- a block can hold a bit of a signal; none has more than 64
pub record Holds (body : Statement) (i : ℕ) : Type 0 where
  pub place : ℕ
  pub below : place < 64
  pub held : is_held body i place ≡ true

-- no bit of a signal is held
abbrev pub HoldsNone : Statement → ℕ → Type 0
HoldsNone body i = (place : ℕ) → place < 64 → is_held body i place ≡ false

-- the first signal, in flat order, of which a bit is held
pub record FirstHeld (body : Statement) (i : ℕ) : Type 0 where
  pub holds : Holds body i
  pub first : (j : ℕ) → j < i → HoldsNone body j

abbrev pub NoneHeld : Statement → Type 0
NoneHeld body = (i : ℕ) → HoldsNone body i

-- what a block answers: the first signal that it can hold, if there is one
abbrev pub HeldBy : Statement → Option ℕ → Type 0
HeldBy body None = NoneHeld body
HeldBy body (Some i) = FirstHeld body i

abbrev pub HeldInUnit : PlainDriver → Option ℕ → Type 0
HeldInUnit (Assign set) answer = answer ≡ None
HeldInUnit (Process process) answer = HeldBy process.body answer

-- what the first unit with such a bit answers
abbrev pub HeldIs : List PlainDriver → Option ℕ → Type 0
HeldIs [] answer = answer ≡ None
HeldIs (unit ∷ units) None = HeldInUnit unit None × HeldIs units None
HeldIs (unit ∷ units) (Some i) = HeldInUnit unit (Some i) ⊎ (HeldInUnit unit None × HeldIs units (Some i))
