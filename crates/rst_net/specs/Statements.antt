-- Typed statements in plain form: the same variants, with lists in place of what lies in memory.
use Rattle.std.specs.Prelude.{ℕ, Bool, List, [], ◌∷◌, map}
use Rattle.rst_width.specs.Typed.{Typed, plain_typed}
use Rattle.rst_net.specs.declared.signal.Slice.{Slice}
use Rattle.rst_net.specs.declared.stmt.TypedLabel.{TypedLabel}
use Rattle.rst_net.specs.declared.stmt.TypedSet.{TypedSet}
use Rattle.rst_net.specs.declared.stmt.TypedArm.{TypedArm}
use Rattle.rst_net.specs.declared.stmt.TypedStmt.{TypedStmt, Row_of-TypedStmt, end_of-TypedStmt, more_of-TypedStmt}
use Rattle.rst_net.specs.declared.stmt.TypedCase.{TypedCase, TypedCase', Row_of-TypedArm, end_of-TypedArm, more_of-TypedArm, None', Some'}
use Rattle.rst_net.specs.declared.stmt.TypedStmt.TheVariants as stmt

pub record Label : Type 0 where
  pub value : Typed
  pub mask : ℕ

-- a slice has nothing in memory, so it is its own plain form
pub record PlainSet : Type 0 where
  pub target : List Slice
  pub value : Typed
  pub blocking : Bool

mutual
  pub data Statement : Type 0 where
    Block : Statements → Statement
    If : Typed → Statement → Statement → Statement
    Case : Typed → Arms → Default → Bool → Statement
    Set : PlainSet → Statement
    Empty : Statement

  pub data Statements : Type 0 where
    end : Statements
    more : Statement → Statements → Statements

  -- the arms of a case, and the statement of its `default`
  pub data Arms : Type 0 where
    no_arm : Arms
    arm : List Label → Statement → Arms → Arms

  pub data Default : Type 0 where
    no_default : Default
    default : Statement → Default

abbrev pub plain_label : TypedLabel → Label
plain_label l = record { value = plain_typed l.value.value; mask = l.mask }

abbrev pub plain_set : TypedSet → PlainSet
plain_set s = record { target = s.target.items; value = plain_typed s.value.value; blocking = s.blocking }

abbrev mutual
  pub plain_stmt : TypedStmt → Statement
  plain_stmt (stmt.Block' shape row) = Block (plain_row row)
  plain_stmt (stmt.If' c p s q t) = If (plain_typed c.value) (plain_stmt s) (plain_stmt t)
  plain_stmt (stmt.Case c) = plain_case c
  plain_stmt (stmt.Set s) = Set (plain_set s.value)
  plain_stmt stmt.Empty = Empty

  pub plain_case : TypedCase → Statement
  plain_case (TypedCase' selector shape row None' full) = Case (plain_typed selector.value) (plain_arm_row row) no_default full
  plain_case (TypedCase' selector shape row (Some' q s) full) = Case (plain_typed selector.value) (plain_arm_row row) (default (plain_stmt s)) full

  pub plain_row : {m : _} → Row_of-TypedStmt m → Statements
  plain_row end_of-TypedStmt = end
  plain_row (more_of-TypedStmt s ss) = more (plain_stmt s) (plain_row ss)

  pub plain_arm_row : {m : _} → Row_of-TypedArm m → Arms
  plain_arm_row end_of-TypedArm = no_arm
  plain_arm_row (more_of-TypedArm ls s others) = arm (map plain_label ls.items) (plain_stmt s) (plain_arm_row others)

-- the plain forms of lists
abbrev pub plain_stmts : List TypedStmt → Statements
plain_stmts [] = end
plain_stmts (s ∷ ss) = more (plain_stmt s) (plain_stmts ss)

abbrev pub plain_arms : List TypedArm → Arms
plain_arms [] = no_arm
plain_arms (a ∷ others) = arm (map plain_label a.labels.items) (plain_stmt a.body) (plain_arms others)
