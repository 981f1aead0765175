-- The cube of one pair holds this pair alone.
use Rattle.std.proofs.Common.{◌≡◌, ◌∙◌, ℕ, Bool, true, false, List, [], ◌∷◌, ◌++◌, length, map, take, drop, refl, sym, ap, subst, arith}
use Rattle.std.specs.List.{AllZip}
use Rattle.rst_value.specs.declared.tern.Tern.{Tern}
use Rattle.rst_value.specs.Terns.{known, StandsFor}
use Rattle.rst_pair.specs.Sides.{Sides, left_machine, right_machine}
use Rattle.rst_pair.specs.Aims.{Aim', Leads, LeadsAll, LiesInNone}
use Rattle.rst_pair.specs.Aims.Aim'.{Outside}
use Rattle.rst_pair.proofs.Lists.{take-length, drop-length}

known_bit : (bit x : Bool) → StandsFor (known bit) x → x ≡ bit
known_bit true x h = h
known_bit false x h = h

known_bits : (bits xs : List Bool) → AllZip StandsFor (map known bits) xs → xs ≡ bits
known_bits [] [] h = refl
known_bits [] (x ∷ xs) h = absurd h
known_bits (bit ∷ bits) [] h = absurd h
known_bits (bit ∷ bits) (x ∷ xs) h = let first : x ≡ bit = known_bit bit x h.0 in let rest : xs ≡ bits = known_bits bits xs h.1 in cc

pub one_pair_right :
    (p : Sides) (aim : Aim') (s t input : List Bool) (cube : List Tern) → cube ≡ map known (s ++ t) → length s ≡ p.left.states
    → Leads p aim input s t → LeadsAll p aim cube input
one_pair_right p aim s t input cube is same leads s' t' pair holds =
    let both : s' ++ t' ≡ s ++ t = known_bits (s ++ t) (s' ++ t') (subst (λ (c : List Tern). AllZip StandsFor c (s' ++ t')) is holds) in
    let count : length s' ≡ length s = pair.0 ∙ sym same in
    let left : s' ≡ s = sym (take-length s' t') ∙ ap (take (length s')) both ∙ ap (λ (n : ℕ). take n (s ++ t)) count ∙ take-length s t in
    let right : t' ≡ t = sym (drop-length s' t') ∙ ap (drop (length s')) both ∙ ap (λ (n : ℕ). drop n (s ++ t)) count ∙ drop-length s t in
    subst (λ (x : List Bool). Leads p aim input x t') (sym left) (subst (λ (x : List Bool). Leads p aim input s x) (sym right) leads)

pub length_known : (bits : List Bool) → length (map known bits) ≡ length bits
length_known [] = refl
length_known (bit ∷ bits) = omega (arith, length_known bits)

-- the two states behind a cycle lie in none of the cubes
pub leads_into_none :
    (p : Sides) (cubes : List (List Tern)) (s t input both us vs : List Bool) → us ≡ (left_machine p).step s input
    → vs ≡ (right_machine p).step t input → length us ≡ p.left.states → both ≡ us ++ vs
    → LiesInNone cubes (take p.left.states both) (drop p.left.states both) → Leads p (Outside cubes) input s t
leads_into_none p cubes s t input both us vs left right count is none =
    let first : take p.left.states both ≡ us = rw (is, sym count) (take-length us vs) in
    let second : drop p.left.states both ≡ vs = rw (is, sym count) (drop-length us vs) in
    subst (λ (x : List Bool). LiesInNone cubes x ((right_machine p).step t input)) (first ∙ left)
    (subst (λ (y : List Bool). LiesInNone cubes (take p.left.states both) y) (second ∙ right) none)
