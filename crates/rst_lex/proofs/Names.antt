-- Names are identifiers that are no keywords.
use Rattle.std.proofs.Common.{◌≡◌, ℕ, Bool, true, false, List, refl}
use Rattle.std.specs.Prelude.{◌&&◌, not}
use Rattle.rst_lex.specs.Words.{is_keyword, is_identifier, IsIdentifier, IsName}

pub name_identifier : (bs : List ℕ) → IsName bs → IsIdentifier bs
name_identifier bs n = first (is_identifier bs) (is_keyword bs) n
  where
    first : (s t : Bool) → (s && not t) ≡ true → s ≡ true
    first true t e = refl
    first false t e = absurd cc

pub name_no_keyword : (bs : List ℕ) → IsName bs → is_keyword bs ≡ false
name_no_keyword bs n = second (is_identifier bs) (is_keyword bs) n
  where
    second : (s t : Bool) → (s && not t) ≡ true → t ≡ false
    second true true e = absurd cc
    second true false e = refl
    second false t e = absurd cc

pub make_name : (bs : List ℕ) → IsIdentifier bs → is_keyword bs ≡ false → IsName bs
make_name bs i k = rw (i, k) refl
