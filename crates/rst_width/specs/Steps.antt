-- What stands above parts that are brought to the context: the first fault of the parts, from left to right, or the operator over
-- them with the width and sign of the context.
use Rattle.std.specs.Prelude.{Bool, Ok}
use Rattle.rst_word.specs.declared.ops.UnaryOp.{UnaryOp}
use Rattle.rst_word.specs.declared.ops.BinaryOp.{BinaryOp}
use Rattle.rst_width.specs.declared.typed_expr.Shape.{Shape}
use Rattle.rst_width.specs.Typed.{typed}
use Rattle.rst_width.specs.Typed as node
use Rattle.rst_width.specs.Sized.{Answer, operated, divided, ◌>>=◌}

abbrev pub unary_step : UnaryOp → Answer → Shape → Answer
unary_step op a context = a >>= λ x. Ok (typed context (node.Unary op x))

abbrev pub binary_step : Bool → BinaryOp → Answer → Answer → Shape → Answer
binary_step tests op a b context = a >>= λ x. b >>= λ y. operated tests context op x y

-- an operator that is no division, and one that is
abbrev pub sum_step : BinaryOp → Answer → Answer → Shape → Answer
sum_step op a b context = a >>= λ x. b >>= λ y. Ok (typed context (node.Binary op x y))

abbrev pub division_step : Bool → BinaryOp → Answer → Answer → Shape → Answer
division_step tests op a b context = a >>= λ x. b >>= λ y. divided tests context op x y

abbrev pub shift_step : BinaryOp → Answer → Answer → Shape → Answer
shift_step op a amount context = a >>= λ x. amount >>= λ y. Ok (typed context (node.Binary op x y))

abbrev pub choose_step : Answer → Answer → Answer → Shape → Answer
choose_step c a b context = c >>= λ x. a >>= λ y. b >>= λ z. Ok (typed context (node.Choose x y z))
