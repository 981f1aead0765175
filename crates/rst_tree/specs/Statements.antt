-- Statements in plain form.
use Rattle.std.specs.Prelude.{ℕ, suc, max, List, [], ◌∷◌, Bool}
use Rattle.rst_tree.specs.declared.stmt.Stmt.{Stmt, Row_of-Stmt, end_of-Stmt, more_of-Stmt, Row_of-Arm, end_of-Arm, more_of-Arm, None', Some'}
use Rattle.rst_tree.specs.declared.stmt.Stmt.TheVariants as stmt
use Rattle.rst_tree.specs.declared.stmt.Arm.{Arm}
use Rattle.rst_tree.specs.declared.stmt.Arm.TheVariants as arm
use Rattle.rst_tree.specs.Trees.{Tree, Trees, plain, plain_all, height, greatest}
use Rattle.rst_tree.specs.Targets.{Place, plain_target, height_of_target}

mutual
  pub data Statement : Type 0 where
    Block : Statements → Statement
    If : Tree → Statement → Statement
    IfElse : Tree → Statement → Statement → Statement
    Case : Bool → Tree → Arms → Statement
    Set : Place → Tree → Bool → Statement
    Empty : Statement

  pub data Statements : Type 0 where
    end : Statements
    more : Statement → Statements → Statements

  pub data Arms : Type 0 where
    no_arm : Arms
    labels : Trees → Statement → Arms → Arms
    otherwise : Statement → Arms → Arms

abbrev mutual
  pub plain_stmt : Stmt → Statement
  plain_stmt (stmt.Block' shape row) = Block (plain_stmt_row row)
  plain_stmt (stmt.If' c p s None') = If (plain c) (plain_stmt s)
  plain_stmt (stmt.If' c p s (Some' q t)) = IfElse (plain c) (plain_stmt s) (plain_stmt t)
  plain_stmt (stmt.Case' wild selector shape row) = Case wild (plain selector) (plain_arm_row row)
  plain_stmt (stmt.Set s) = Set (plain_target s.target) (plain s.value) s.blocking
  plain_stmt stmt.Empty = Empty

  pub plain_stmt_row : {m : _} → Row_of-Stmt m → Statements
  plain_stmt_row end_of-Stmt = end
  plain_stmt_row (more_of-Stmt s ss) = more (plain_stmt s) (plain_stmt_row ss)

  pub plain_arm_row : {m : _} → Row_of-Arm m → Arms
  plain_arm_row end_of-Arm = no_arm
  plain_arm_row (more_of-Arm (arm.Labels es s) others) = labels (plain_all es.items) (plain_stmt s) (plain_arm_row others)
  plain_arm_row (more_of-Arm (arm.Otherwise s) others) = otherwise (plain_stmt s) (plain_arm_row others)

-- the plain forms of lists
abbrev pub plain_stmts : List Stmt → Statements
plain_stmts [] = end
plain_stmts (s ∷ ss) = more (plain_stmt s) (plain_stmts ss)

abbrev pub plain_arm : Arm → Arms → Arms
plain_arm (arm.Labels es s) others = labels (plain_all es.items) (plain_stmt s) others
plain_arm (arm.Otherwise s) others = otherwise (plain_stmt s) others

abbrev pub plain_arms : List Arm → Arms
plain_arms [] = no_arm
plain_arms (a ∷ others) = plain_arm a (plain_arms others)

-- the height of a statement, by the rule on nodes and their parts: sets, arms and lists add nothing
abbrev mutual
  pub height_of : Statement → ℕ
  height_of (Block ss) = suc (greatest_of ss)
  height_of (If c s) = suc (max (height c) (height_of s))
  height_of (IfElse c s t) = suc (max (height c) (max (height_of s) (height_of t)))
  height_of (Case wild selector arms) = suc (max (height selector) (greatest_of_arms arms))
  height_of (Set t e blocking) = suc (max (height_of_target t) (height e))
  height_of Empty = 1

  pub greatest_of : Statements → ℕ
  greatest_of end = 0
  greatest_of (more s ss) = max (height_of s) (greatest_of ss)

  pub greatest_of_arms : Arms → ℕ
  greatest_of_arms no_arm = 0
  greatest_of_arms (labels es s others) = max (max (greatest es) (height_of s)) (greatest_of_arms others)
  greatest_of_arms (otherwise s others) = max (height_of s) (greatest_of_arms others)

-- a statement behind the others, and arms behind others
abbrev pub appended : Statements → Statement → Statements
appended end s = more s end
appended (more t ts) s = more t (appended ts s)

abbrev pub appended_arms : Arms → Arms → Arms
appended_arms no_arm new = new
appended_arms (labels es s others) new = labels es s (appended_arms others new)
appended_arms (otherwise s others) new = otherwise s (appended_arms others new)
