-- An expression has as many bits as its width, over every algebra.
use Rattle.std.proofs.Common.{◌≡◌, ℕ, Bool, false, List, [], ◌∷◌, length, replicate, ◌∙◌}
use Rattle.std.specs.List.{AllZip}
use Rattle.std.proofs.lemmas.List.{length-replicate}
use Rattle.rst_width.specs.Typed.{Typed, shape_of}
use Rattle.rst_width.specs.Fit.{IsFit}
use Rattle.rst_width.specs.Reads.{ReadsInside}
use Rattle.rst_terms.specs.Algebras.{Algebra, bits}
use Rattle.rst_terms.proofs.Places.{number_zeros}
use Rattle.rst_terms.proofs.Respects.{Respects, same_length}
use Rattle.rst_typed_terms.specs.Expressions.{expression_bits}
use Rattle.rst_typed_terms.proofs.Operands.{value_width}
use Rattle.rst_typed_terms.proofs.Values.{expression_spells}
use Rattle.rst_typed_terms.proofs.Related.{expression_related}

-- any value beside any bit
abbrev beside : {X : Type 0} → X → Bool → Type 0
beside x b = Unit {0}

abbrev always : {S : Type 0} → S → Type 0
always s = Unit {0}

all_beside : {S X : Type 0} (A : Algebra S X) → Respects always beside A bits
all_beside A = record {
  constant = λ b. tt;
  negation = λ a x p. tt;
  both_good = λ s a b g. tt;
  differ_good = λ s a b g. tt;
  choice_good = λ s c a b g. tt;
  both = λ s t a b x y g p q. tt;
  differ = λ s t a b x y g p q. tt;
  choice = λ s t c a b z x y g o p q. tt;
}

zeros_beside : {X : Type 0} (xs : List X) → AllZip beside xs (replicate (length xs) false)
zeros_beside [] = tt
zeros_beside (x ∷ xs) = (tt, zeros_beside xs)

pub expression_width :
    {S X : Type 0} (A : Algebra S X) (words : ℕ → List X) (s : S) (e : Typed) → IsFit e → ReadsInside (λ i. length (words i)) e
    → length (expression_bits A words s e).1 ≡ (shape_of e).width
expression_width A words s e fit reads =
    let zeros : ℕ → List Bool = λ i. replicate (length (words i)) false in
    same_length beside (expression_bits A words s e).1 (expression_bits bits zeros tt e).1
    (expression_related always beside A bits (all_beside A) words zeros (λ i. zeros_beside (words i)) e s tt tt)
    ∙ ((expression_spells (λ i. length (words i)) zeros (λ _. 0) (λ i. record { width = length-replicate (length (words i)) false; value = number_zeros (length (words i)) }) e fit reads).width
    ∙ value_width (λ _. 0) e)
