-- The places in order.
use Rattle.std.proofs.Common.{◌≡◌, ℕ, zero, suc, ◌<◌, ◌+◌, inl, inr, List, [], ◌∷◌, ◌++◌, length, refl, subst, arith}
use Rattle.std.specs.Prelude.{slice_index_or}
use Rattle.std.specs.List.Sorted.{IsPermutation}
use Rattle.std.proofs.lemmas.List.Elements.{Contains-push, Contains-push_cases, Contains-append_left}
use Rattle.std.proofs.lemmas.List.Sorted.{Contains-permutation, IsPermutation-sym}
use Rattle.rst_widen.specs.Widening.{IsOrder}
use Rattle.rst_pair.proofs.Loops.{last_or_before}

pub no_places : (places : List ℕ) → places ≡ [] → IsOrder 0 places
no_places places none = rw none record {
  below = λ i h. absurd (omega (arith, h.1));
  all = λ i h. absurd (omega (arith, h));
}

pub one_place_more : (n : ℕ) (places places' : List ℕ) → IsOrder n places → places' ≡ places ++ n ∷ [] → IsOrder (n + 1) places'
one_place_more n places places' is push = rw push
    (record {
      below = λ i h. elim (Contains-push_cases places n i h) [
        | inl before ↦ let b : i < n = is.below i before in omega (arith, b)
        | inr e ↦ omega (arith, e)
      ];
      all = λ i h. elim (last_or_before i n h) [
        | inl b ↦ Contains-append_left places (n ∷ []) i (is.all i b)
        | inr e ↦ rw e (Contains-push places n)
      ];
    })

pub moved_places : (n : ℕ) (places places' : List ℕ) → IsOrder n places → IsPermutation places places' → IsOrder n places'
moved_places n places places' is moved = record {
  below = λ i h. is.below i (Contains-permutation places' places i (IsPermutation-sym places places' moved) h);
  all = λ i h. Contains-permutation places places' i moved (is.all i h);
}

read_any : (xs : List ℕ) (i d e : ℕ) → i < length xs → slice_index_or xs i d ≡ slice_index_or xs i e
read_any [] i d e below = absurd (omega arith)
read_any (x ∷ xs) zero d e below = refl
read_any (x ∷ xs) (suc i) d e below = read_any xs i d e (omega arith)

-- the place that a turn reads is one of the cube
pub place_below :
    (n : ℕ) (order items : List ℕ) (i m : ℕ) → IsOrder n order → items ≡ order → i < length items → m ≡ n → slice_index_or items i 0 < m
place_below n order items i m is same below count =
    let below' : i < length order = subst (λ xs. i < length xs) same below in
    let item = slice_index_or order i 0 in
    let small : item < n = is.below item (i, below', read_any order i item 0 below') in
    rw (same, count) small
