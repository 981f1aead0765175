-- The weight of a design: how many gates its operators, statements and resets ask for.
use Rattle.std.specs.Prelude.{ℕ, ◌+◌, ◌*◌, cond, List, [], ◌∷◌, length, Option, Some, None}
use Rattle.rst_width.specs.declared.typed_expr.Shape.{Shape}
use Rattle.rst_width.specs.Typed.{Typed, Node, TypedList, typed, shape_of}
use Rattle.rst_width.specs.Typed as node
use Rattle.rst_width.specs.Sized.{is_division}
use Rattle.rst_net.specs.declared.unit.Reset.{Reset}
use Rattle.rst_net.specs.Statements.{Label, Statement, Statements, Arms, Default, Block, If, Case, Set, Empty, end, more, no_arm, arm, no_default, default}
use Rattle.rst_net.specs.Units.{PlainSignal, PlainDriver, PlainProcess, Assign, Process, PlainFlat}
use Rattle.rst_cycle.specs.Signals.{width_of}
use Rattle.rst_weight.specs.Operators.{unary_weight, binary_weight}
use Rattle.rst_weight.specs.Counts.{bits_set}

module _ (signals : List PlainSignal) where
  abbrev mutual
    pub expr_weight : Typed → ℕ
    expr_weight (typed shape n) = node_weight shape n

    -- Words, whole signals, constant selects, joins, repetitions, casts and extensions weigh nothing by themselves; the operands of
    -- a quotient or a remainder are constant and weigh nothing either.
    pub node_weight : Shape → Node → ℕ
    node_weight shape (node.Word w) = 0
    node_weight shape (node.Signal i) = 0
    node_weight shape (node.Slice i low width) = 0
    node_weight shape (node.Pick i e) = width_of signals i + expr_weight e
    node_weight shape (node.Unary op e) = unary_weight op shape.width (shape_of e).width + expr_weight e
    node_weight shape (node.Binary op a b) = cond (is_division op) 0 (binary_weight op shape.width (shape_of a).width (shape_of b).width + (expr_weight a + expr_weight b))
    node_weight shape (node.Choose c a b) = shape.width + (shape_of c).width + (expr_weight c + (expr_weight a + expr_weight b))
    node_weight shape (node.Join es) = list_weight es
    node_weight shape (node.Repeat count es) = list_weight es
    node_weight shape (node.Extend e) = expr_weight e
    node_weight shape (node.Sign e) = expr_weight e

    pub list_weight : TypedList → ℕ
    list_weight node.end = 0
    list_weight (node.more e es) = expr_weight e + list_weight es

  -- the labels of an arm, each of which is compared with a selector of this width
  abbrev pub labels_weight : ℕ → List Label → ℕ
  labels_weight width [] = 0
  labels_weight width (label ∷ labels) = 2 * width + 1 + (expr_weight label.value + labels_weight width labels)

  abbrev mutual
    -- Behind an `if`, and behind each arm, every bit that the statement sets anywhere is chosen.
    pub stmt_weight : Statement → ℕ
    stmt_weight (Block statements) = stmts_weight statements
    stmt_weight (If condition first second) =
        (shape_of condition).width + bits_set (length signals) (If condition first second) + (expr_weight condition + (stmt_weight first + stmt_weight second))
    stmt_weight (Case selector arms otherwise full) =
        expr_weight selector + (arms_weight (shape_of selector).width (bits_set (length signals) (Case selector arms otherwise full)) arms + default_weight otherwise)
    stmt_weight (Set set) = expr_weight set.value
    stmt_weight Empty = 0

    pub stmts_weight : Statements → ℕ
    stmts_weight end = 0
    stmts_weight (more statement statements) = stmt_weight statement + stmts_weight statements

    pub arms_weight : ℕ → ℕ → Arms → ℕ
    arms_weight width bits no_arm = 0
    arms_weight width bits (arm labels body arms) = labels_weight width labels + (bits + (stmt_weight body + arms_weight width bits arms))

    pub default_weight : Default → ℕ
    default_weight no_default = 0
    default_weight (default statement) = stmt_weight statement

  abbrev pub unit_weight : PlainDriver → ℕ
  unit_weight (Assign set) = expr_weight set.value
  unit_weight (Process process) = stmt_weight process.body

  abbrev pub units_weight : List PlainDriver → ℕ
  units_weight [] = 0
  units_weight (unit ∷ units) = unit_weight unit + units_weight units

  -- the bits that get a reset: those that the first branch sets
  abbrev pub branch_bits : Statement → ℕ
  branch_bits (If condition first second) = bits_set (length signals) first
  branch_bits _ = 0

  abbrev pub reset_bits : Option Reset → Statement → ℕ
  reset_bits None body = 0
  reset_bits (Some reset) body = branch_bits body

  abbrev pub clocked_weight : List PlainProcess → ℕ
  clocked_weight [] = 0
  clocked_weight (process ∷ processes) = stmt_weight process.body + (reset_bits process.reset process.body + clocked_weight processes)

  abbrev pub parts_weight : List PlainDriver → List PlainProcess → ℕ
  parts_weight units clocked = units_weight units + clocked_weight clocked

-- all expressions and statements of the units and the clocked blocks, and one for each bit of a register that has a reset
abbrev pub weight : PlainFlat → ℕ
weight flat = parts_weight flat.signals flat.units flat.clocked
