-- Numbers and their digits.
use Rattle.std.proofs.Common.{◌≡◌, refl, true, bytes_eq, ℕ, ◌<◌, ◌^◌, List, sym, ap, ◌∙◌}
use Rattle.std.specs.Fmt.{decimal}
use Rattle.std.specs.Str.Parse.{digits_value}
use Rattle.std.proofs.lemmas.Slice.Eq.{bytes_eq-Decides}
use Rattle.std.proofs.lemmas.Fmt.{decimal_is_IsNumeral}

-- the digits of a number write it
pub written_number : (number : ℕ) (word : List ℕ) → number < 2 ^ 64 → decimal number ≡ word → digits_value 10 word ≡ number
written_number number word small is = ap (digits_value 10) (sym is) ∙ (decimal_is_IsNumeral number small).1

pub same_bytes : (bytes : List ℕ) → bytes_eq bytes bytes ≡ true
same_bytes bytes = (bytes_eq-Decides bytes bytes).1 refl
