-- What the occurrence lists keep as they grow.
use Rattle.std.proofs.Common.{◌≡◌, ◌≢◌, ℕ, ◌+◌, ◌<◌, ◌⊎◌, inl, inr, ℤ, List, [], ◌∷◌, ◌++◌, length, take, set, get_or, sym, ◌∙◌, subst, ap, arith, add-one, length-append, get_or-set_other, get_or-set_same}
use Rattle.std.specs.List.{Contains}
use Rattle.std.proofs.Math.ListN.{get_or-append}
use Rattle.std.proofs.Math.Seq.{get_or-append_seam, take-suc}
use Rattle.std.proofs.lemmas.Bool.{cases_lt}
use Rattle.std.proofs.lemmas.List.{get_or_past}
use Rattle.std.proofs.lemmas.List.Elements.{Contains-push, Contains-push_cases}
use Rattle.rst_clause.specs.Trails.{place_of}
use Rattle.rst_clause.specs.Occurrences.{IsNotedTo, IsIndexed, KeepsLists}
use Rattle.rst_clause.proofs.Members.{Contains-nil}

pub keeps_same : (lists : List (List ℕ)) → KeepsLists lists lists
keeps_same lists p n h = h

pub keeps_join : (a b c : List (List ℕ)) → KeepsLists a b → KeepsLists b c → KeepsLists a c
keeps_join a b c f g p n h = g p n (f p n h)

-- one more list
pub keeps_pushed : (lists : List (List ℕ)) (x : List ℕ) → KeepsLists lists (lists ++ x ∷ [])
keeps_pushed lists x p n h = elim (cases_lt p (length lists)) [
  | inl low ↦ subst (λ z. Contains z n) (sym (get_or-append lists (x ∷ []) [] p low)) h
  | inr high ↦ absurd (Contains-nil n (subst (λ z. Contains z n) (get_or_past lists p [] high) h))
]

-- two places are the same or not
same_place : (a b : ℕ) → (a ≡ b) ⊎ (a ≢ b)
same_place a b = elim (cases_lt a b) [
  | inl low ↦ inr (λ e. absurd (omega arith))
  | inr le ↦ elim (cases_lt b a) [ inl high ↦ inr (λ e. absurd (omega arith)) | inr ge ↦ inl (omega arith) ]
]

-- a list at a place that has what stood there
pub keeps_set : (lists : List (List ℕ)) (place : ℕ) (x : List ℕ) → place < length lists
    → ((n : ℕ) → Contains (get_or lists place []) n → Contains x n) → KeepsLists lists (set lists place x)
keeps_set lists place x lt more p n h = elim (same_place p place) [
  | inl e ↦
      subst (λ q. Contains (get_or (set lists place x) q []) n) (sym e)
      (subst (λ z. Contains z n) (sym (get_or-set_same lists place x [] lt)) (more n (subst (λ q. Contains (get_or lists q []) n) e h)))
  | inr ne ↦ subst (λ z. Contains z n) (sym (get_or-set_other lists place p x [] ne)) h
]

-- one more number in the list at a place
pub noted_set : (lists : List (List ℕ)) (place number : ℕ) (list : List ℕ) → place < length lists
    → Contains (get_or (set lists place (list ++ number ∷ [])) place []) number
noted_set lists place number list lt =
    subst (λ z. Contains z number) (sym (get_or-set_same lists place (list ++ number ∷ []) [] lt)) (Contains-push list number)

-- the first literals of the clause are noted
pub noted_start : (lists : List (List ℕ)) (clause : List ℤ) (number : ℕ) → IsNotedTo lists (take 0 clause) number
noted_start lists clause number k h = absurd (Contains-nil k h)

pub noted_more : (old new : List (List ℕ)) (clause : List ℤ) (i number : ℕ) (l : ℤ) → i < length clause → l ≡ get_or clause i l
    → KeepsLists old new → Contains (get_or new (place_of l) []) number → IsNotedTo old (take i clause) number → IsNotedTo new (take (i + 1) clause) number
noted_more old new clause i number l lt is keeps here before k h =
    let one_more : take (i + 1) clause ≡ take i clause ++ l ∷ [] = rw add-one (take-suc clause i l lt ∙ ap (λ z. take i clause ++ z ∷ []) (sym is)) in
    elim (Contains-push_cases (take i clause) l k (subst (λ z. Contains z k) one_more h)) [
      | inl j ↦ keeps (place_of k) number (before k j)
      | inr e ↦ subst (λ z. Contains (get_or new (place_of z) []) number) e here
    ]

-- longer lists
pub indexed_kept : (clauses : List (List ℤ)) (old new : List (List ℕ)) → KeepsLists old new → IsIndexed clauses old → IsIndexed clauses new
indexed_kept clauses old new keeps ok i lt k h = keeps (place_of k) i (ok i lt k h)

-- one more clause
pub indexed_pushed : (clauses : List (List ℤ)) (clause : List ℤ) (old new : List (List ℕ)) (number : ℕ) → number ≡ length clauses → KeepsLists old new
    → IsNotedTo new clause number → IsIndexed clauses old → IsIndexed (clauses ++ clause ∷ []) new
indexed_pushed clauses clause old new number n keeps noted ok i lt k h =
    let len : length (clauses ++ clause ∷ []) ≡ length clauses + 1 = length-append clauses (clause ∷ []) in
    elim (cases_lt i (length clauses)) [
      | inl low ↦ keeps (place_of k) i (ok i low k (subst (λ z. Contains z k) (get_or-append clauses (clause ∷ []) [] i low) h))
      | inr high ↦
          let e : i ≡ length clauses = omega arith in
          let last : get_or (clauses ++ clause ∷ []) i [] ≡ clause = ap (λ m. get_or (clauses ++ clause ∷ []) m []) e ∙ get_or-append_seam clauses clause [] [] in
          subst (λ m. Contains (get_or new (place_of k) []) m) (n ∙ sym e) (noted k (subst (λ z. Contains z k) last h))
    ]
