-- Typed statements and targets (IEEE 1364-2001, clauses 4.4, 4.5, 9.2 and 9.5), with their faults.
use Rattle.std.specs.Prelude.{ℕ, zero, suc, ◌-◌, ◌^◌, bit_and, nat_eq, nat_le, Bool, true, false, not, ◌&&◌, List, [], ◌∷◌, ◌++◌, Result, Ok, Err}
use Rattle.std.specs.List.{list_any, list_all}
use Rattle.rst_word.specs.Words.{extended}
use Rattle.rst_tree.specs.Trees.{Text, Tree, Trees}
use Rattle.rst_tree.specs.Trees as expr
use Rattle.rst_tree.specs.Targets.{Place}
use Rattle.rst_tree.specs.Statements as stmt
use Rattle.rst_width.specs.declared.typed_expr.Shape.{Shape}
use Rattle.rst_width.specs.declared.typed_expr.WidthFault.{WidthFault}
use Rattle.rst_width.specs.Scopes.{Names}
use Rattle.rst_width.specs.Typed.{Typed, TypedList, typed, sized_as, shape_of, names_signal}
use Rattle.rst_width.specs.Typed as node
use Rattle.rst_width.specs.Sized.{Answer, larger}
use Rattle.rst_width.specs.Targets.{target_expr}
use Rattle.rst_width.specs.Values.{constant_word}
use Rattle.rst_width.specs.Answers.{own_shape, typed_answer, placed_answer}
use Rattle.rst_net.specs.declared.signal.Slice.{Slice}
use Rattle.rst_net.specs.Statements.{Label, PlainSet, Statement, Statements, Arms, Default, Block, If, Case, Set, Empty, end, more, no_arm, arm, no_default, default}

-- ---- expressions and targets

-- the typed form, or a plain default where there is a fault
abbrev pub typed_or : Answer → Typed
typed_or (Ok e) = e
typed_or (Err fault) = typed (sized_as 1 false) (node.Word (record { width = 1; signed = false; value = 0 }))

abbrev pub typed_at : Names → Tree → ℕ → Typed
typed_at names e width = typed_or (typed_answer names e width)

-- the fault of an answer, if it has one
abbrev pub answer_faults : {X : Type 0} → Result X WidthFault → List WidthFault
answer_faults (Ok x) = []
answer_faults (Err fault) = fault ∷ []

-- The parts of a target, the most significant first; none of a part that cannot be set.
abbrev mutual
  pub slices_of : Typed → List Slice
  slices_of (typed shape n) = slices_at shape n

  pub slices_at : Shape → node.Node → List Slice
  slices_at shape (node.Signal i) = record { signal = i; low = 0; width = shape.width } ∷ []
  slices_at shape (node.Slice i low width) = record { signal = i; low = low; width = width } ∷ []
  slices_at shape (node.Join es) = slices_of_all es
  slices_at shape _ = []

  pub slices_of_all : TypedList → List Slice
  slices_of_all node.end = []
  slices_of_all (node.more x xs) = slices_of x ++ slices_of_all xs

-- Whether all parts can be set: signals, and bits of them that are fixed.
abbrev mutual
  pub is_settable : Typed → Bool
  is_settable (typed shape n) = is_settable_at n

  pub is_settable_at : node.Node → Bool
  is_settable_at (node.Signal i) = true
  is_settable_at (node.Slice i low width) = true
  is_settable_at (node.Join es) = are_settable es
  is_settable_at _ = false

  pub are_settable : TypedList → Bool
  are_settable node.end = true
  are_settable (node.more x xs) = is_settable x && are_settable xs

-- A target is typed as the expression of the same text by itself.
abbrev pub target_answer : Names → Place → Answer
target_answer names t = typed_answer names (target_expr t) 0

abbrev pub target_slices : Names → Place → List Slice
target_slices names t = slices_of (typed_or (target_answer names t))

abbrev pub target_width : Names → Place → ℕ
target_width names t = (own_shape names (target_expr t)).width

-- The value of a set works at the larger of its own width and the target's. The faults of the target come first.
abbrev pub typed_set : Names → Place → Tree → Bool → PlainSet
typed_set names t e blocking = record {
  target = target_slices names t;
  value = typed_at names e (target_width names t);
  blocking = blocking;
}

abbrev pub set_faults : Names → Place → Tree → List WidthFault
set_faults names t e = answer_faults (target_answer names t) ++ answer_faults (typed_answer names e (target_width names t))

-- ---- cases

-- The shape that the selector and the labels of a case are brought to: the widest of them, signed where all are.
abbrev pub shape_of_labels : Names → Shape → Trees → Shape
shape_of_labels names shape expr.end = shape
shape_of_labels names shape (expr.more e es) = shape_of_labels names (larger shape (own_shape names e)) es

abbrev pub shape_of_arms : Names → Shape → stmt.Arms → Shape
shape_of_arms names shape stmt.no_arm = shape
shape_of_arms names shape (stmt.labels es s others) = shape_of_arms names (shape_of_labels names shape es) others
shape_of_arms names shape (stmt.otherwise s others) = shape_of_arms names shape others

-- the bits of a label that match anything: those of a literal under casez
abbrev pub mask_of : Tree → ℕ
mask_of (expr.Number n) = n.mask
mask_of _ = 0

abbrev pub typed_label : Names → Shape → Tree → Label
typed_label names shape e = record { value = typed_or (placed_answer names e shape); mask = mask_of e }

abbrev pub typed_labels : Names → Shape → Trees → List Label
typed_labels names shape expr.end = []
typed_labels names shape (expr.more e es) = typed_label names shape e ∷ typed_labels names shape es

abbrev pub label_faults : Names → Shape → Trees → List WidthFault
label_faults names shape expr.end = []
label_faults names shape (expr.more e es) = answer_faults (placed_answer names e shape) ++ label_faults names shape es

-- all labels of the arms
abbrev pub labels_of : Names → Shape → stmt.Arms → List Label
labels_of names shape stmt.no_arm = []
labels_of names shape (stmt.labels es s others) = typed_labels names shape es ++ labels_of names shape others
labels_of names shape (stmt.otherwise s others) = labels_of names shape others

-- The width of what is extended, where the topmost node is an extension.
abbrev pub inner_width : Typed → ℕ
inner_width (typed shape (node.Extend e)) = (shape_of e).width
inner_width (typed shape n) = shape.width

-- the value of this many bits, brought to the width and sign of the case
abbrev pub brought_value : Shape → ℕ → ℕ → ℕ
brought_value shape k value = (extended shape.width shape.signed (record { width = k; signed = shape.signed; value = value })).value

-- a constant label matches where the bits that are not masked agree; masked bits of a label are 0
abbrev pub matches : ℕ → Label → Bool
matches value l = nat_eq (value - bit_and value l.mask) (constant_word l.value).value

-- a test of all numbers below one
unfoldable pub all_below : ℕ → (ℕ → Bool) → Bool
all_below zero test = true
all_below (suc n) test = all_below n test && test n

-- Whether a label matches whatever value the selector has: the labels are constant, the selector by itself has k bits, at most 8,
-- what the case compares is that value or an extension of it, and each of the 2 ^ k values, at the width and sign of the case,
-- matches a label.
abbrev pub is_full : ℕ → Typed → List Label → Bool
is_full k selector ls =
    nat_le k 8 && (nat_eq (inner_width selector) k && (list_all (λ l. not (names_signal l.value)) ls
    && all_below (2 ^ k) (λ v. list_any (matches (brought_value (shape_of selector) k v)) ls)))

abbrev pub typed_case : Names → Shape → Tree → Arms → Default → List Label → Statement
typed_case names shape selector arms otherwise ls =
    let s = typed_or (placed_answer names selector shape) in
    Case s arms otherwise (is_full (own_shape names selector).width s ls)

-- ---- statements

abbrev mutual
  pub typed_stmt : Names → stmt.Statement → Statement
  typed_stmt names (stmt.Block ss) = Block (typed_stmts names ss)
  typed_stmt names (stmt.If c s) = If (typed_at names c 0) (typed_stmt names s) Empty
  typed_stmt names (stmt.IfElse c s t) = If (typed_at names c 0) (typed_stmt names s) (typed_stmt names t)
  typed_stmt names (stmt.Case wild e arms) =
      let shape = shape_of_arms names (own_shape names e) arms in
      typed_case names shape e (typed_arms names shape arms) (typed_default names arms) (labels_of names shape arms)
  typed_stmt names (stmt.Set t e blocking) = Set (typed_set names t e blocking)
  typed_stmt names stmt.Empty = Empty

  pub typed_stmts : Names → stmt.Statements → Statements
  typed_stmts names stmt.end = end
  typed_stmts names (stmt.more s ss) = more (typed_stmt names s) (typed_stmts names ss)

  -- the arms without `default`, in their order
  pub typed_arms : Names → Shape → stmt.Arms → Arms
  typed_arms names shape stmt.no_arm = no_arm
  typed_arms names shape (stmt.labels es s others) = arm (typed_labels names shape es) (typed_stmt names s) (typed_arms names shape others)
  typed_arms names shape (stmt.otherwise s others) = typed_arms names shape others

  -- the statement of `default`, wherever it is written
  pub typed_default : Names → stmt.Arms → Default
  typed_default names stmt.no_arm = no_default
  typed_default names (stmt.labels es s others) = typed_default names others
  typed_default names (stmt.otherwise s others) = default (typed_stmt names s)

-- the faults of a statement, in the order of the text
abbrev mutual
  pub stmt_faults : Names → stmt.Statement → List WidthFault
  stmt_faults names (stmt.Block ss) = stmts_faults names ss
  stmt_faults names (stmt.If c s) = answer_faults (typed_answer names c 0) ++ stmt_faults names s
  stmt_faults names (stmt.IfElse c s t) = answer_faults (typed_answer names c 0) ++ (stmt_faults names s ++ stmt_faults names t)
  stmt_faults names (stmt.Case wild e arms) =
      let shape = shape_of_arms names (own_shape names e) arms in answer_faults (placed_answer names e shape) ++ arms_faults names shape arms
  stmt_faults names (stmt.Set t e blocking) = set_faults names t e
  stmt_faults names stmt.Empty = []

  pub stmts_faults : Names → stmt.Statements → List WidthFault
  stmts_faults names stmt.end = []
  stmts_faults names (stmt.more s ss) = stmt_faults names s ++ stmts_faults names ss

  pub arms_faults : Names → Shape → stmt.Arms → List WidthFault
  arms_faults names shape stmt.no_arm = []
  arms_faults names shape (stmt.labels es s others) = label_faults names shape es ++ (stmt_faults names s ++ arms_faults names shape others)
  arms_faults names shape (stmt.otherwise s others) = stmt_faults names s ++ arms_faults names shape others
