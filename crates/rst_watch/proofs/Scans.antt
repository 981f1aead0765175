-- The loop over a clause's literals.
use Rattle.std.proofs.Common.{◌≡◌, ◌≢◌, ℕ, ◌+◌, ◌<◌, ◌≤◌, ◌⊎◌, inl, inr, ℤ, List, [], ◌∷◌, ◌++◌, length, take, get_or, sym, ◌∙◌, subst, ap, arith}
use Rattle.std.specs.List.{Contains}
use Rattle.std.proofs.Math.Seq.{take-length}
use Rattle.std.proofs.lemmas.Bool.{cases_lt}
use Rattle.std.proofs.lemmas.List.{take_more, get_or_default}
use Rattle.std.proofs.lemmas.List.Elements.{Contains-push_cases, Contains-get_or}
use Rattle.rst_clause.specs.Literals.{opposite}
use Rattle.rst_clause.specs.Trails.{IsConsistent}
use Rattle.rst_clause.proofs.Members.{same_or_not, Contains-nil}
use Rattle.rst_watch.specs.Looks.{AreFalseBut, AreFalseWithin, HasTrue}

pub false_but_start : (t c : List ℤ) (other : ℤ) → AreFalseBut t (take 0 c) other
false_but_start t c other = record { none = λ k h. absurd (Contains-nil k h); others = λ k h. absurd (Contains-nil k h) }

pub false_but_more : (t c : List ℤ) (i : ℕ) (l other : ℤ) → i < length c → l ≡ get_or c i l → (Contains t l → ⊥) → (l ≡ other) ⊎ Contains t (opposite l)
    → AreFalseBut t (take i c) other → AreFalseBut t (take (i + 1) c) other
false_but_more t c i l other lt is open' false_or f =
    let one_more : take (i + 1) c ≡ take i c ++ l ∷ [] = take_more c i l lt ∙ ap (λ z. take i c ++ z ∷ []) (sym is) in
    subst (λ z. AreFalseBut t z other) (sym one_more) (record {
      none = λ k h. elim (Contains-push_cases (take i c) l k h) [ inl j ↦ f.none k j | inr e ↦ subst (λ z. Contains t z → ⊥) e open' ];
      others = λ k h ne. elim (Contains-push_cases (take i c) l k h) [
        | inl j ↦ f.others k j ne
        | inr e ↦ elim false_or [ inl same ↦ absurd (ne (sym e ∙ same)) | inr against ↦ subst (λ z. Contains t (opposite z)) e against ]
      ];
    })

pub false_but_all : (t c : List ℤ) (i : ℕ) (other : ℤ) → length c ≤ i → i ≤ length c → AreFalseBut t (take i c) other → AreFalseBut t c other
false_but_all t c i other le ge f =
    let e : i ≡ length c = omega (arith, le, ge) in
    subst (λ z. AreFalseBut t z other) (ap (λ n. take n c) e ∙ take-length c) f

pub false_within_start : (t c : List ℤ) (other : ℤ) (from i : ℕ) → i ≤ from → AreFalseWithin t c other from i
false_within_start t c other from i le j k ge lt = absurd (omega (arith, le, ge, lt))

pub false_within_more : (t c : List ℤ) (from i : ℕ) (l other : ℤ) → i < length c → l ≡ get_or c i l → (l ≡ other) ⊎ Contains t (opposite l)
    → AreFalseWithin t c other from i → AreFalseWithin t c other from (i + 1)
false_within_more t c from i l other lt is false_or f j k ge below at ne = elim (cases_lt j i) [
  | inl low ↦ f j k ge low at ne
  | inr high ↦
      let e : j ≡ i = omega (arith, high, below) in
      let same : k ≡ l = sym at ∙ ap (λ n. get_or c n k) e ∙ get_or_default c i k l lt ∙ sym is in
      elim false_or [ inl o ↦ absurd (ne (same ∙ o)) | inr against ↦ subst (λ z. Contains t (opposite z)) (sym same) against ]
]

pub false_within_all : (t c : List ℤ) (other : ℤ) (from : ℕ) → IsConsistent t → (Contains t other → ⊥) → AreFalseWithin t c other from (length c)
    → AreFalseWithin t c other 0 from → AreFalseBut t c other
false_within_all t c other from con open' high low = record {
  none = λ k h s. elim (same_or_not k other) [ inl e ↦ open' (subst (λ z. Contains t z) e s) | inr ne ↦ con k s (others k h ne) ];
  others = others;
}
  where
    others : (k : ℤ) → Contains c k → k ≢ other → Contains t (opposite k)
    others k (q, lt, at) ne = elim (cases_lt q from) [ inl below ↦ low q k (omega arith) below at ne | inr above ↦ high q k above lt at ne ]

pub true_at : (t c : List ℤ) (i : ℕ) (l : ℤ) → i < length c → l ≡ get_or c i l → Contains t l → HasTrue t c
true_at t c i l lt is h = (l, subst (λ z. Contains c z) (sym is) (Contains-get_or c i l lt), h)
