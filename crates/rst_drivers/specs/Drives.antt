-- What drives and what reads the signals of a flat design.
use Rattle.std.specs.Prelude.{ℕ, zero, suc, ◌+◌, ◌/◌, ◌%◌, ◌^◌, nat_eq, nat_le, nat_lt, Bool, false, ◌&&◌, ◌||◌, List, [], ◌∷◌, ◌++◌, count_by}
use Rattle.std.specs.List.{flat_map, list_any}
use Rattle.rst_width.specs.Typed.{Typed, TypedList, Node, typed}
use Rattle.rst_width.specs.Typed as node
use Rattle.rst_net.specs.declared.signal.Slice.{Slice}
use Rattle.rst_net.specs.Statements.{Label, Statement, Statements, Arms, Default, Block, If, Case, Set, Empty, end, more, no_arm, arm, no_default, default}
use Rattle.rst_net.specs.Units.{PlainDriver, PlainProcess, Assign, Process}

-- ---- drivers

-- the slices that a statement sets
abbrev mutual
  pub sets_of : Statement → List Slice
  sets_of (Block ss) = sets_of_all ss
  sets_of (If c s t) = sets_of s ++ sets_of t
  sets_of (Case e arms otherwise full) = sets_of_arms arms ++ sets_of_default otherwise
  sets_of (Set s) = s.target
  sets_of Empty = []

  pub sets_of_all : Statements → List Slice
  sets_of_all end = []
  sets_of_all (more s ss) = sets_of s ++ sets_of_all ss

  pub sets_of_arms : Arms → List Slice
  sets_of_arms no_arm = []
  sets_of_arms (arm ls s others) = sets_of s ++ sets_of_arms others

  pub sets_of_default : Default → List Slice
  sets_of_default no_default = []
  sets_of_default (default s) = sets_of s

-- a slice of this signal, and one that has this bit of it
abbrev pub is_of : ℕ → Slice → Bool
is_of signal s = nat_eq s.signal signal

abbrev pub has_bit : ℕ → ℕ → Slice → Bool
has_bit signal bit s = is_of signal s && (nat_le s.low bit && nat_lt bit (s.low + s.width))

abbrev pub assigned : PlainDriver → List Slice
assigned (Assign s) = s.target
assigned (Process p) = []

abbrev pub blocks_of : PlainDriver → List PlainProcess
blocks_of (Assign s) = []
blocks_of (Process p) = p ∷ []

-- all places of the targets of assigns and links
abbrev pub all_assigned : List PlainDriver → List Slice
all_assigned units = flat_map assigned units

-- all combinational blocks
abbrev pub all_blocks : List PlainDriver → List PlainProcess
all_blocks units = flat_map blocks_of units

abbrev pub sets_signal : ℕ → PlainProcess → Bool
sets_signal signal p = list_any (is_of signal) (sets_of p.body)

abbrev pub sets_bit : ℕ → ℕ → PlainProcess → Bool
sets_bit signal bit p = list_any (has_bit signal bit) (sets_of p.body)

-- whether a bit of a number is 1
abbrev pub is_set : ℕ → ℕ → Bool
is_set bits bit = nat_eq (bits / 2 ^ bit % 2) 1

-- a test of one of the numbers below a width
unfoldable pub any_below : ℕ → (ℕ → Bool) → Bool
any_below zero test = false
any_below (suc n) test = any_below n test || test n

-- The drivers of a bit: the places of the targets of assigns and links that have it, and the blocks that set it.
abbrev pub drivers_of_bit : List PlainDriver → List PlainProcess → ℕ → ℕ → ℕ
drivers_of_bit us cs signal bit =
    count_by (has_bit signal bit) (all_assigned us)
    + (count_by (sets_bit signal bit) (all_blocks us) + count_by (sets_bit signal bit) cs)

-- the blocks that set a signal
abbrev pub blocks_of_signal : List PlainDriver → List PlainProcess → ℕ → ℕ
blocks_of_signal us cs signal = count_by (sets_signal signal) (all_blocks us) + count_by (sets_signal signal) cs

-- a bit has two drivers, or two blocks set the signal
abbrev pub has_many_drivers : List PlainDriver → List PlainProcess → ℕ → ℕ → Bool
has_many_drivers us cs signal width =
    any_below width (λ bit. nat_lt 1 (drivers_of_bit us cs signal bit)) || nat_lt 1 (blocks_of_signal us cs signal)

-- ---- reads

-- whether an expression names a signal
abbrev mutual
  pub reads : ℕ → Typed → Bool
  reads signal (typed shape n) = reads_at signal n

  pub reads_at : ℕ → Node → Bool
  reads_at signal (node.Word w) = false
  reads_at signal (node.Signal i) = nat_eq i signal
  reads_at signal (node.Slice i low width) = nat_eq i signal
  reads_at signal (node.Pick i e) = nat_eq i signal || reads signal e
  reads_at signal (node.Unary op e) = reads signal e
  reads_at signal (node.Binary op a b) = reads signal a || reads signal b
  reads_at signal (node.Choose c a b) = reads signal c || (reads signal a || reads signal b)
  reads_at signal (node.Join es) = one_reads signal es
  reads_at signal (node.Repeat n es) = one_reads signal es
  reads_at signal (node.Extend e) = reads signal e
  reads_at signal (node.Sign e) = reads signal e

  pub one_reads : ℕ → TypedList → Bool
  one_reads signal node.end = false
  one_reads signal (node.more x xs) = reads signal x || one_reads signal xs

abbrev pub one_label_reads : ℕ → List Label → Bool
one_label_reads signal ls = list_any (λ l. reads signal l.value) ls

-- A statement reads a signal in values, conditions, selectors and labels. Targets are slices, which read nothing.
abbrev mutual
  pub stmt_reads : ℕ → Statement → Bool
  stmt_reads signal (Block ss) = stmts_read signal ss
  stmt_reads signal (If c s t) = reads signal c || (stmt_reads signal s || stmt_reads signal t)
  stmt_reads signal (Case e arms otherwise full) =
      reads signal e || (arms_read signal arms || default_reads signal otherwise)
  stmt_reads signal (Set s) = reads signal s.value
  stmt_reads signal Empty = false

  pub stmts_read : ℕ → Statements → Bool
  stmts_read signal end = false
  stmts_read signal (more s ss) = stmt_reads signal s || stmts_read signal ss

  pub arms_read : ℕ → Arms → Bool
  arms_read signal no_arm = false
  arms_read signal (arm ls s others) = one_label_reads signal ls || (stmt_reads signal s || arms_read signal others)

  pub default_reads : ℕ → Default → Bool
  default_reads signal no_default = false
  default_reads signal (default s) = stmt_reads signal s

abbrev pub unit_reads : ℕ → PlainDriver → Bool
unit_reads signal (Assign s) = reads signal s.value
unit_reads signal (Process p) = stmt_reads signal p.body

abbrev pub process_reads : ℕ → PlainProcess → Bool
process_reads signal p = stmt_reads signal p.body

abbrev pub is_read : List PlainDriver → List PlainProcess → ℕ → Bool
is_read units clocked signal = list_any (unit_reads signal) units || list_any (process_reads signal) clocked
