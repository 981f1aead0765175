-- Statements and arms that are read in part, with what follows behind them.
use Rattle.std.specs.Prelude.{◌≡◌, ◌++◌, Option, Some, None}
use Rattle.std.specs.declared.boxed.Box.{Box}
use Rattle.std.specs.declared.alloc.Global.{Global}
use Rattle.rst_tree.specs.Trees.{Trees}
use Rattle.rst_tree.specs.Trees as expr
use Rattle.rst_tree.specs.Statements as tree
use Rattle.rst_width.specs.declared.typed_expr.Shape.{Shape}
use Rattle.rst_width.specs.Scopes.{Names}
use Rattle.rst_width.specs.Sized.{larger}
use Rattle.rst_width.specs.Cut.{cut_shape}
use Rattle.rst_width.specs.Answers.{own_shape}
use Rattle.rst_net.specs.declared.stmt.TypedStmt.{TypedStmt}
use Rattle.rst_net.specs.Statements.{Statements, Arms, Default, end, more, no_arm, arm, no_default, default, plain_stmt, plain_arms}
use Rattle.rst_typing.specs.declared.stmts.ReadArms.{ReadArms}
use Rattle.rst_typing.specs.Typing.{labels_of, typed_arms, typed_default, arms_faults}
use Rattle.rst_typing.specs.Refusals.{labels_in, AreFit}

-- statements behind others
abbrev pub joined : Statements → Statements → Statements
joined end others = others
joined (more s ss) others = more s (joined ss others)

-- arms behind others
abbrev pub joined_arms : Arms → Arms → Arms
joined_arms no_arm others = others
joined_arms (arm ls s rest) others = arm ls s (joined_arms rest others)

-- the first `default`
abbrev pub either_default : Default → Default → Default
either_default no_default other = other
either_default (default s) other = default s

abbrev pub plain_default : Option (Box TypedStmt Global) → Default
plain_default None = no_default
plain_default (Some s) = default (plain_stmt s.value)

-- What was read of the arms, with the others behind it, is what all of them are; and what was read has no fault.
pub record Left (names : Names) (shape : Shape) (made : ReadArms) (others all : tree.Arms) : Type 0 where
  pub arms : joined_arms (plain_arms made.arms.items) (typed_arms names shape others) ≡ typed_arms names shape all
  pub otherwise : either_default (plain_default made.otherwise) (typed_default names others) ≡ typed_default names all
  pub labels : (labels_in made.arms.items ++ labels_of names shape others) ≡ labels_of names shape all
  pub faults : arms_faults names shape others ≡ arms_faults names shape all
  pub fit : AreFit made.arms.items

-- The larger of a shape and the own shapes of labels, which the code cuts at 65 bits.
abbrev pub cut_labels : Names → Shape → Trees → Shape
cut_labels names shape expr.end = shape
cut_labels names shape (expr.more e es) = cut_labels names (larger shape (cut_shape (own_shape names e))) es

abbrev pub cut_arms : Names → Shape → tree.Arms → Shape
cut_arms names shape tree.no_arm = shape
cut_arms names shape (tree.labels es s others) = cut_arms names (cut_labels names shape es) others
cut_arms names shape (tree.otherwise s others) = cut_arms names shape others
