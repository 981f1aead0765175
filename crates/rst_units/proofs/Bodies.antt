-- The faults of a statement out of its `begin` and `end`.
use Rattle.std.proofs.Common.{◌≡◌, [], Option, Some, None, refl, sym, ap, subst, ◌∙◌, append-nil}
use Rattle.rst_tree.specs.Statements.{Statement, Block, If, IfElse, Case, Set, Empty, end, more}
use Rattle.rst_width.specs.declared.typed_expr.WidthFault.{WidthFault}
use Rattle.rst_width.specs.Scopes.{Names}
use Rattle.rst_typing.specs.Typing.{stmt_faults}
use Rattle.rst_typing.specs.Refusals.{IsFirst}
use Rattle.rst_items.specs.ResetForms.{ResetForm, bare_stmt}
use Rattle.rst_items.specs.Items.{clocked_body}

-- a statement has the faults of what `begin` and `end` around it hold
pub faults-bare : (names : Names) (s : Statement) → stmt_faults names (bare_stmt s) ≡ stmt_faults names s
faults-bare names (Block end) = refl
faults-bare names (Block (more s end)) = faults-bare names s ∙ sym (append-nil (stmt_faults names s))
faults-bare names (Block (more s (more t ss))) = refl
faults-bare names (If c s) = refl
faults-bare names (IfElse c s t) = refl
faults-bare names (Case wild e arms) = refl
faults-bare names (Set t e blocking) = refl
faults-bare names Empty = refl

-- so has the statement of a clocked block
pub faults-clocked : (names : Names) (form : Option ResetForm) (s : Statement) → stmt_faults names (clocked_body form s) ≡ stmt_faults names s
faults-clocked names None s = refl
faults-clocked names (Some f) s = faults-bare names s

pub clocked_passes : (names : Names) (form : Option ResetForm) (s t : Statement) → t ≡ clocked_body form s → stmt_faults names t ≡ [] → stmt_faults names s ≡ []
clocked_passes names form s t is none = sym (ap (stmt_faults names) is ∙ faults-clocked names form s) ∙ none

pub clocked_refuses : (names : Names) (form : Option ResetForm) (s t : Statement) (e : WidthFault) → t ≡ clocked_body form s
    → IsFirst e (stmt_faults names t) → IsFirst e (stmt_faults names s)
clocked_refuses names form s t e is h = subst (IsFirst e) (ap (stmt_faults names) is ∙ faults-clocked names form s) h
