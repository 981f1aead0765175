-- Typed parts, as lists in memory and in plain form.
use Rattle.std.proofs.Common.{◌≡◌, ℕ, ◌<◌, List, [], ◌∷◌, ◌++◌, length, cond, Ok, Some, refl, ap, arith}
use Rattle.std.specs.Prelude.{ℤ, pos, int_le, unsigned_abs}
use Rattle.rst_width.specs.declared.typed_expr.TypedExpr.{TypedExpr}
use Rattle.rst_width.specs.declared.typed_expr.WidthFault.TheVariants.{ZeroWidth}
use Rattle.rst_width.specs.Typed.{plain_all, plain_typed, appended, more, Join}
use Rattle.rst_width.specs.Sized.{Own, Good}
use Rattle.rst_width.specs.Sizing.{join_found, repeat_found, times}
use Rattle.rst_width.specs.Cut.{HasWidth}

pub plain_all-push : (xs : List TypedExpr) (x : TypedExpr) → plain_all (xs ++ x ∷ []) ≡ appended (plain_all xs) (plain_typed x)
plain_all-push [] x = refl
plain_all-push (y ∷ ys) x = ap (more (plain_typed y)) (plain_all-push ys x)

pub join_found-some : (xs : List TypedExpr) → 0 < length xs → join_found (Ok (plain_all xs)) ≡ Good (Join (plain_all xs))
join_found-some [] h = absurd (omega arith)
join_found-some (x ∷ xs) h = refl

pub repeat_found-some : (count : ℤ) (width : ℕ) (xs : List TypedExpr) → 0 < length xs → repeat_found (Some count) width (plain_all xs) ≡ cond (int_le (pos 1) count) (times (unsigned_abs count) width (plain_all xs)) (Own ZeroWidth)
repeat_found-some count width [] h = absurd (omega arith)
repeat_found-some count width (x ∷ xs) h = refl

pub has_width-some : (width : ℕ) (xs : List TypedExpr) → 0 < length xs → HasWidth width (plain_all xs) → 0 < width
has_width-some width [] h k = absurd (omega arith)
has_width-some width (x ∷ xs) h k = k

pub ruleset part_lists = (plain_all-push, join_found-some, repeat_found-some, has_width-some)
