-- Words in bit order are the bits of the numbers that they spell.
use Rattle.std.proofs.Common.{◌≡◌, ◌∙◌, ℕ, zero, suc, ◌+◌, ◌<◌, Bool, true, false, cond, List, [], ◌∷◌, ◌++◌, length, map, arith, refl, sym, ap, subst}
use Rattle.std.specs.List.{AllByRecursion, slice_get, flat_map}
use Rattle.rst_width.specs.Typed.{sized_as}
use Rattle.rst_width.specs.Values.{Valuation, word_at}
use Rattle.rst_net.specs.declared.signal.Role.{Role}
use Rattle.rst_net.specs.declared.signal.Role.TheVariants as role
use Rattle.rst_net.specs.Units.{PlainSignal}
use Rattle.rst_cycle.specs.Bits.{has_bit, bits_of}
use Rattle.rst_cycle.specs.Signals.{Whole, same_role, with_role_from, with_role, width_in, width_of, role_in, role_of}
use Rattle.rst_cycle.specs.Cycle.{listed}
use Rattle.rst_terms.specs.Numbers.{number}
use Rattle.rst_terms.specs.Spelling.{Spells}
use Rattle.rst_typed_terms.specs.Valuations.{AreSpelled}
use Rattle.rst_statement_terms.specs.Targets.{Words, word_of}
use Rattle.rst_design_terms.specs.Designs.{turned, listed_words}
use Rattle.rst_agreement.proofs.Turned.{length_turned, turned_twice, first_place, later_place}

bits_same : (w m n : ℕ) → ((p : ℕ) → p < w → has_bit m p ≡ has_bit n p) → bits_of w m ≡ bits_of w n
bits_same zero m n same = refl
bits_same (suc w) m n same =
    let here = same w (omega arith) in
    let rest = bits_same w m n (λ p below. same p (omega (arith, below))) in
    λ i. here i ∷ rest i

own_bits : (xs : List Bool) → xs ≡ bits_of (length xs) (number (turned xs))
own_bits [] = refl
own_bits (x ∷ xs) =
    let here = first_place x xs in
    let rest : xs ≡ bits_of (length xs) (number (turned (x ∷ xs))) =
    own_bits xs ∙ bits_same (length xs) (number (turned xs)) (number (turned (x ∷ xs))) (λ p below. sym (later_place x xs p below)) in
    λ i. sym here i ∷ rest i

pub turned_bits : (word : List Bool) (w n : ℕ) → Spells word (word_at (sized_as w false) n) → turned word ≡ bits_of w n
turned_bits word w n spells =
    let long = length_turned word ∙ spells.width in
    let value = ap number (turned_twice word) ∙ spells.value in
    own_bits (turned word) ∙ (λ i. bits_of (long i) (value i))

module _ (signals : List PlainSignal) (words : Words Bool) (v : Valuation) (spelled : AreSpelled (λ i. width_of signals i) (word_of words) v) where
  pub shown : (outputs : List ℕ) → listed_words words outputs ≡ flat_map (λ i. bits_of (width_of signals i) (v i)) outputs
  shown [] = refl
  shown (o ∷ outputs) =
      let here = turned_bits (word_of words o) (width_of signals o) (v o) (spelled o) in
      let rest = shown outputs in
      λ i. here i ++ rest i

-- ---- registers

same_roles : (r q : Role) → same_role r q ≡ true → r ≡ q
same_roles role.Clock role.Clock h = refl
same_roles role.Input role.Input h = refl
same_roles role.Register role.Register h = refl
same_roles role.Block role.Block h = refl
same_roles role.Wire role.Wire h = refl
same_roles role.Idle role.Idle h = refl
same_roles role.Clock role.Input h = cc
same_roles role.Clock role.Register h = cc
same_roles role.Clock role.Block h = cc
same_roles role.Clock role.Wire h = cc
same_roles role.Clock role.Idle h = cc
same_roles role.Input role.Clock h = cc
same_roles role.Input role.Register h = cc
same_roles role.Input role.Block h = cc
same_roles role.Input role.Wire h = cc
same_roles role.Input role.Idle h = cc
same_roles role.Register role.Clock h = cc
same_roles role.Register role.Input h = cc
same_roles role.Register role.Block h = cc
same_roles role.Register role.Wire h = cc
same_roles role.Register role.Idle h = cc
same_roles role.Block role.Clock h = cc
same_roles role.Block role.Input h = cc
same_roles role.Block role.Register h = cc
same_roles role.Block role.Wire h = cc
same_roles role.Block role.Idle h = cc
same_roles role.Wire role.Clock h = cc
same_roles role.Wire role.Input h = cc
same_roles role.Wire role.Register h = cc
same_roles role.Wire role.Block h = cc
same_roles role.Wire role.Idle h = cc
same_roles role.Idle role.Clock h = cc
same_roles role.Idle role.Input h = cc
same_roles role.Idle role.Register h = cc
same_roles role.Idle role.Block h = cc
same_roles role.Idle role.Wire h = cc

-- the width and the role of a listed signal
abbrev pub IsListed : List PlainSignal → Role → Whole → Type 0
IsListed signals r s = (s.width ≡ width_of signals s.number) × (role_of signals s.number ≡ r)

one_more : (signals : List PlainSignal) (r : Role) (b : Bool) (s : Whole) (rest : List Whole) → (b ≡ true → IsListed signals r s) → AllByRecursion (IsListed signals r) rest
    → AllByRecursion (IsListed signals r) (cond b (s ∷ rest) rest)
one_more signals r true s rest h k = (h refl, k)
one_more signals r false s rest h k = k

listed_from :
    (signals : List PlainSignal) (k : ℕ) (r : Role) (tail : List PlainSignal) → ((j : ℕ) → slice_get tail j ≡ slice_get signals (k + j))
    → AllByRecursion (IsListed signals r) (with_role_from k r tail)
listed_from signals k r [] at = tt
listed_from signals k r (s ∷ tail) at =
    let here : k + 0 ≡ k = omega arith in
    let first = at 0 ∙ ap (slice_get signals) here in
    one_more signals r (same_role s.role r) (record { number = k; width = s.extent.width }) (with_role_from (suc k) r tail)
    (λ e. (ap width_in first, ap role_in (sym first) ∙ same_roles s.role r e))
    (listed_from signals (suc k) r tail (λ j. let next : k + suc j ≡ suc k + j = omega arith in at (suc j) ∙ ap (slice_get signals) next))

pub all_listed : (signals : List PlainSignal) (r : Role) → AllByRecursion (IsListed signals r) (with_role r signals)
all_listed signals r = listed_from signals 0 r signals (λ j. let e : j ≡ 0 + j = omega arith in ap (slice_get signals) e)

module _ (signals : List PlainSignal) (words : Words Bool) (v u : Valuation) (spelled : AreSpelled (λ i. width_of signals i) (word_of words) v)
    (same : (i : ℕ) → role_of signals i ≡ role.Register → v i ≡ u i) where
  kept_from : (some : List Whole) → AllByRecursion (IsListed signals role.Register) some → listed_words words (map (λ s. s.number) some) ≡ listed some u
  kept_from [] all = refl
  kept_from (s ∷ some) all =
      let here : turned (word_of words s.number) ≡ bits_of s.width (u s.number) =
      turned_bits (word_of words s.number) (width_of signals s.number) (v s.number) (spelled s.number)
      ∙ (ap (λ w. bits_of w (v s.number)) (sym all.0.0) ∙ ap (bits_of s.width) (same s.number all.0.1)) in
      let rest = kept_from some all.1 in
      λ i. here i ++ rest i

  pub kept : listed_words words (map (λ s. s.number) (with_role role.Register signals)) ≡ listed (with_role role.Register signals) u
  kept = kept_from (with_role role.Register signals) (all_listed signals role.Register)
