-- What the calls answer.
use Rattle.std.specs.Prelude.{◌≡◌, ℕ, max, false, true, Result, Ok, Err}
use Rattle.rst_tree.specs.Trees.{Tree}
use Rattle.rst_word.specs.Words.{PlainWord}
use Rattle.rst_width.specs.declared.typed_expr.Shape.{Shape}
use Rattle.rst_width.specs.declared.typed_expr.WidthFault.{WidthFault}
use Rattle.rst_width.specs.declared.typed_expr.WidthFault.TheVariants as fault
use Rattle.rst_width.specs.Scopes.{Names}
use Rattle.rst_width.specs.Sized.{Answer, own, in_context, ◌>>=◌}
use Rattle.rst_width.specs.Sizing.{sized}
use Rattle.rst_width.specs.Typed.{Typed}
use Rattle.rst_width.specs.Values.{Valuation, value, constant_word}

-- The width and sign that an expression has by itself, whatever faults it has.
abbrev pub own_shape : Names → Tree → Shape
own_shape names e = own (sized false names e)

-- What an expression of this width and sign is brought to in a context of this width, 0 for none: the larger width, with its own
-- sign.
abbrev pub widened_shape : Shape → ℕ → Shape
widened_shape own width = record { width = max own.width width; signed = own.signed }

-- And in a context that has a width and a sign: the larger width, with the sign of the context.
abbrev pub placed_shape : Shape → Shape → Shape
placed_shape own context = record { width = max own.width context.width; signed = context.signed }

-- The width and sign of an expression by itself. Its divisors are not looked at, where a wider context could change them.
abbrev pub shape_answer : Names → Tree → Result Shape WidthFault
shape_answer names e = let s = sized false names e in in_context false s (own s) >>= λ _. Ok (own s)

-- The typed expression in a context of this width, 0 for none.
abbrev pub typed_answer : Names → Tree → ℕ → Answer
typed_answer names e width = let s = sized false names e in in_context true s (widened_shape (own s) width)

-- The typed expression in a context with this width and sign.
abbrev pub placed_answer : Names → Tree → Shape → Answer
placed_answer names e context = let s = sized false names e in in_context true s (placed_shape (own s) context)

-- The word of a constant expression in a context of this width, 0 for none.
abbrev pub constant_answer : Names → Tree → ℕ → Result PlainWord WidthFault
constant_answer names e width =
    let s = sized true names e in in_context true s (widened_shape (own s) width) >>= λ t. Ok (constant_word t)

-- What a call answers, seen by `view`, is this answer, unless memory ran out.
abbrev pub Gives : {X Y : Type 0} → (X → Y) → Result X WidthFault → Result Y WidthFault → Type 0
Gives view (Ok x) answer = answer ≡ Ok (view x)
Gives view (Err fault.NoMemory) answer = Unit {0}
Gives view (Err e) answer = answer ≡ Err e

-- a width and sign, as they stand
abbrev pub same_shape : Shape → Shape
same_shape shape = shape

-- The word is the value of the typed expression in a context of this width, whatever the signals are.
abbrev pub HasValue : Names → Tree → ℕ → PlainWord → Type 0
HasValue names e width w = (t : Typed) × (typed_answer names e width ≡ Ok t) × ((signals : Valuation) → value signals t ≡ w)
