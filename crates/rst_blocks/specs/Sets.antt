-- What statements set.
use Rattle.std.specs.Prelude.{ℕ, Bool, cond, List, [], ◌∷◌, ◌++◌, Option, Some, None}
use Rattle.rst_net.specs.declared.signal.Slice.{Slice}
use Rattle.rst_net.specs.Statements.{Statement, Statements, Arms, Default, Block, If, Case, Set, Empty, end, more, no_arm, arm, no_default, default}
use Rattle.rst_net.specs.Units.{PlainDriver, Assign, Process}
use Rattle.rst_cycle.specs.Bits.{same_bit}

abbrev mutual
  -- the targets of a statement's sets, in the order of the text, those of a default behind those of the arms
  pub targets_in : Statement → List Slice
  targets_in (Block statements) = targets_in_all statements
  targets_in (If condition first second) = targets_in first ++ targets_in second
  targets_in (Case selector arms otherwise full) = targets_in_arms arms ++ targets_in_default otherwise
  targets_in (Set set) = set.target
  targets_in Empty = []

  pub targets_in_all : Statements → List Slice
  targets_in_all end = []
  targets_in_all (more statement statements) = targets_in statement ++ targets_in_all statements

  pub targets_in_arms : Arms → List Slice
  targets_in_arms no_arm = []
  targets_in_arms (arm labels body arms) = targets_in body ++ targets_in_arms arms

  pub targets_in_default : Default → List Slice
  targets_in_default no_default = []
  targets_in_default (default statement) = targets_in statement

-- what a unit drives
abbrev pub unit_targets : PlainDriver → List Slice
unit_targets (Assign set) = set.target
unit_targets (Process process) = targets_in process.body

abbrev pub or_else : Option ℕ → Option ℕ → Option ℕ
or_else None other = other
or_else (Some i) other = Some i

-- the signal of the first target of a set; each set has one
abbrev pub front : List Slice → Option ℕ
front [] = None
front (slice ∷ slices) = Some slice.signal

abbrev mutual
  -- The first target of the first set that is written with `=`, or of the first that isn't: in the order of the text, but that a
  -- default comes behind the arms.
  pub first_set : Bool → Statement → Option ℕ
  first_set blocking (Block statements) = first_set_in blocking statements
  first_set blocking (If condition first second) = or_else (first_set blocking first) (first_set blocking second)
  first_set blocking (Case selector arms otherwise full) = or_else (first_set_in_arms blocking arms) (first_set_in_default blocking otherwise)
  first_set blocking (Set set) = cond (same_bit set.blocking blocking) (front set.target) None
  first_set blocking Empty = None

  pub first_set_in : Bool → Statements → Option ℕ
  first_set_in blocking end = None
  first_set_in blocking (more statement statements) = or_else (first_set blocking statement) (first_set_in blocking statements)

  pub first_set_in_arms : Bool → Arms → Option ℕ
  first_set_in_arms blocking no_arm = None
  first_set_in_arms blocking (arm labels body arms) = or_else (first_set blocking body) (first_set_in_arms blocking arms)

  pub first_set_in_default : Bool → Default → Option ℕ
  first_set_in_default blocking no_default = None
  first_set_in_default blocking (default statement) = first_set blocking statement
