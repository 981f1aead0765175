-- What the calls say of a fault, and how they see the arms of a case.
use Rattle.std.specs.Prelude.{◌≡◌, List, Some, map}
use Rattle.std.specs.List.{All, flat_map}
use Rattle.rst_width.specs.declared.typed_expr.WidthFault.{WidthFault}
use Rattle.rst_width.specs.declared.typed_expr.WidthFault.TheVariants.{NoMemory}
use Rattle.rst_width.specs.Typed.{plain_typed}
use Rattle.rst_width.specs.Fit.{IsFit}
use Rattle.rst_net.specs.declared.stmt.TypedArm.{TypedArm}
use Rattle.rst_net.specs.Statements.{Label, plain_label}
use Rattle.rst_names.specs.Faults.{first}

-- the first of these faults, unless memory ran out
pub record IsFirst (e : WidthFault) (faults : List WidthFault) : Type 0 where
  pub is_first : (e ≡ NoMemory → ⊥) → first faults ≡ Some e

-- the labels of these arms
abbrev pub labels_in : List TypedArm → List Label
labels_in arms = flat_map (λ a. map plain_label a.labels.items) arms

-- the values of all labels fit
abbrev pub AreFit : List TypedArm → Type 0
AreFit arms = All (λ a. All (λ l. IsFit (plain_typed l.value.value)) a.labels.items) arms
