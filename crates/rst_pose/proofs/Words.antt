-- A word is posed as the pattern without free bits.
use Rattle.std.proofs.Common.{◌≡◌, ◌∙◌, ℕ, ◌+◌, Bool, true, false, List, [], ◌∷◌, length, map, refl, ap, arith}
use Rattle.std.specs.List.{AllByRecursion}
use Rattle.rst_value.specs.Terns.{known}
use Rattle.rst_gate.specs.Patterns.{free_count, free_bits, known_pattern}
use Rattle.rst_pair.specs.declared.query.Query.TheVariants.{Land, LandFree}
use Rattle.rst_pair.specs.Sides.{Sides}
use Rattle.rst_pair.specs.Fronts.{Front'}
use Rattle.rst_pose.specs.Posed.{true_literal, first_clauses, asked_land, with_free, posed}
use Rattle.rst_pose.specs.Posing.{IsPosable}

none_free : (bits : List Bool) → free_count (map known bits) ≡ 0
none_free [] = refl
none_free (true ∷ bits) = omega (arith, none_free bits)
none_free (false ∷ bits) = omega (arith, none_free bits)

pub no_free : (word : List (List Bool)) → free_bits (known_pattern word) ≡ 0
no_free [] = refl
no_free (bits ∷ word) = omega (arith, none_free bits, no_free word)

length_known : (bits : List Bool) → length (map known bits) ≡ length bits
length_known [] = refl
length_known (bit ∷ bits) = omega (arith, length_known bits)

length_pattern : (word : List (List Bool)) → length (known_pattern word) ≡ length word
length_pattern [] = refl
length_pattern (bits ∷ word) = omega (arith, length_pattern word)

is_pattern : (n : ℕ) (word : List (List Bool)) → AllByRecursion (λ input. length input ≡ n) word
    → AllByRecursion (λ places. length places ≡ n) (known_pattern word)
is_pattern n [] h = tt
is_pattern n (bits ∷ word) h = (length_known bits ∙ h.0, is_pattern n word h.1)

pub word_posable : (p : Sides) (f : Front') (word : List (List Bool)) → IsPosable p f (Land word) → IsPosable p f (LandFree (known_pattern word))
word_posable p f word h = record {
  within = h.within;
  speaks = is_pattern p.left.inputs word h.speaks;
  cycles = omega (arith, h.cycles, length_pattern word);
}

pub word_posed : (p : Sides) (f : Front') (word : List (List Bool)) → posed p f (LandFree (known_pattern word)) ≡ posed p f (Land word)
word_posed p f word =
    let same : p.left.states + p.right.states + free_bits (known_pattern word) ≡ p.left.states + p.right.states = omega (arith, no_free word) in
    ap (λ (free : ℕ). with_free free (asked_land p f (true_literal free) (known_pattern word) (first_clauses free))) same
