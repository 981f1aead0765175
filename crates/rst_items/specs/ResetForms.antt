-- Clocked blocks in reset form: an asynchronous reset beside the clock.
use Rattle.std.specs.Prelude.{Bool, true, false, not, cond, ◌&&◌, List, [], ◌∷◌, Option, Some, None}
use Rattle.std.specs.List.{list_any}
use Rattle.rst_word.specs.declared.ops.UnaryOp.{UnaryOp}
use Rattle.rst_word.specs.declared.ops.UnaryOp.TheVariants as unary
use Rattle.rst_tree.specs.declared.module.Event.{Event}
use Rattle.rst_tree.specs.declared.module.EdgeKind.{EdgeKind}
use Rattle.rst_tree.specs.declared.module.EdgeKind.TheVariants as edge
use Rattle.rst_tree.specs.Trees.{Text, Tree}
use Rattle.rst_tree.specs.Trees as expr
use Rattle.rst_tree.specs.Statements.{Statement, Statements, Block, IfElse, Set, Empty, end, more}
use Rattle.rst_tree.specs.Modules.{PlainEvents, PlainAlways, PlainModule, Any, OneOf}
use Rattle.rst_names.specs.Names.{same_text, names_in}
use Rattle.rst_names.specs.Declarations.{declares, declarations, is_signal}

abbrev pub is_level : EdgeKind → Bool
is_level edge.Level = true
is_level _ = false

abbrev pub is_rising : EdgeKind → Bool
is_rising edge.Rising = true
is_rising _ = false

abbrev pub is_falling : EdgeKind → Bool
is_falling edge.Falling = true
is_falling _ = false

-- A clocked block has an event list with an edge; any other block is combinational.
abbrev pub is_clocked : PlainEvents → Bool
is_clocked Any = false
is_clocked (OneOf es) = list_any (λ e. not (is_level e.edge)) es

-- A statement without the `begin` and `end` that hold nothing else, however many.
abbrev pub bare_stmt : Statement → Statement
bare_stmt (Block (more s end)) = bare_stmt s
bare_stmt s = s

-- An expression without the parentheses around it.
abbrev pub bare : Tree → Tree
bare (expr.Paren e) = bare e
bare e = e

-- A condition that names a reset: `R`, which holds at 1, or `!R` or `~R`, which hold at 0.
pub record Condition : Type 0 where
  pub name : Text
  pub level : Bool

abbrev pub named_at : Bool → Tree → Option Condition
named_at level (expr.Name n) = Some (record { name = n; level = level })
named_at level _ = None

abbrev pub inverted : UnaryOp → Tree → Option Condition
inverted unary.Not e = named_at false e
inverted unary.Invert e = named_at false e
inverted _ e = None

abbrev pub condition_at : Tree → Option Condition
condition_at (expr.Unary op e) = inverted op (bare e)
condition_at e = named_at true e

abbrev pub condition_of : Tree → Option Condition
condition_of e = condition_at (bare e)

-- the event at which the reset begins: `posedge R` for level 1, `negedge R` for level 0
abbrev pub begins : Condition → Event → Bool
begins c e = same_text e.name c.name && cond c.level (is_rising e.edge) (is_falling e.edge)

-- The branch of the reset has nonblocking sets alone, whose values name no signal.
-- (`test` says of a name whether it is one of a signal.)
abbrev pub names_none : (Text → Bool) → Tree → Bool
names_none test e = not (list_any test (names_in e))

abbrev mutual
  pub is_reset_branch : (Text → Bool) → Statement → Bool
  is_reset_branch test (Block ss) = are_reset_branches test ss
  is_reset_branch test Empty = true
  is_reset_branch test (Set t e blocking) = not blocking && names_none test e
  is_reset_branch test _ = false

  pub are_reset_branches : (Text → Bool) → Statements → Bool
  are_reset_branches test end = true
  are_reset_branches test (more s ss) = is_reset_branch test s && are_reset_branches test ss

-- The reset of a block, the level at which it holds, and the name that the other event waits for.
pub record ResetForm : Type 0 where
  pub reset : Text
  pub level : Bool
  pub clock : Text

abbrev pub reset_form_of : Condition → Event → ResetForm
reset_form_of c other = record { reset = c.name; level = c.level; clock = other.name }

-- The reset is the event that the condition names, with the edge at which the condition begins to hold: the first where both are.
-- The other event is a `posedge`.
abbrev pub of_events : Condition → List Event → Option ResetForm
of_events c (e ∷ f ∷ []) =
    cond (begins c e && is_rising f.edge) (Some (reset_form_of c f))
    (cond (begins c f && is_rising e.edge) (Some (reset_form_of c e)) None)
of_events c _ = None

abbrev pub of_condition : List Event → Option Condition → Option ResetForm
of_condition es None = None
of_condition es (Some c) = of_events c es

-- an `if` with an `else`
abbrev pub of_body : (Text → Bool) → List Event → Statement → Option ResetForm
of_body test es (IfElse c a b) = cond (is_reset_branch test a) (of_condition es (condition_of c)) None
of_body test es _ = None

abbrev pub form_in : (Text → Bool) → PlainEvents → Statement → Option ResetForm
form_in test Any body = None
form_in test (OneOf es) body = of_body test es (bare_stmt body)

-- The signals of a module, as a test of names.
abbrev pub is_signal_of : PlainModule → Text → Bool
is_signal_of m name = declares is_signal (declarations m) name

-- The reset form of a block, if it has one.
abbrev pub reset_form : PlainModule → PlainAlways → Option ResetForm
reset_form m a = form_in (is_signal_of m) a.events a.body
