-- Members of lists, and marks.
use Rattle.std.proofs.Common.{◌≡◌, ℕ, zero, suc, ◌+◌, ◌<◌, ◌≤◌, Bool, true, false, cond, ◌⊎◌, inl, inr, List, [], ◌∷◌, length, get_or, refl, sym, ◌∙◌, ap, subst, arith, add-zero, ◌++◌, take, drop}
use Rattle.std.proofs.Math.ListN.{set}
use Rattle.std.specs.List.{Contains, sum_by}
use Rattle.std.proofs.lemmas.Bool.{cases_eq, cases_lt}
use Rattle.std.proofs.Math.ListN.{replicate}
use Rattle.std.proofs.Math.Seq.{take-append_seam}
use Rattle.std.proofs.lemmas.List.{get_or-set_other, get_or-set_same, get_or-replicate, get_or_past, length-replicate}
use Rattle.std.proofs.lemmas.List.Sums.{sum_by-set}
use Rattle.rst_order.specs.Walks.{stands, missing}

pub contains_none : (v : ℕ) → Contains [] v → ⊥
contains_none v (k, below, same) = absurd (omega arith)

pub contains_cons : (x : ℕ) (xs : List ℕ) (v : ℕ) → Contains (x ∷ xs) v → (x ≡ v) ⊎ Contains xs v
contains_cons x xs v (zero, below, same) = inl same
contains_cons x xs v (suc k, below, same) = inr (k, omega arith, same)

-- within a list the other value doesn't count
pub at_place : {X : Type 0} (xs : List X) (k : ℕ) (d e : X) → k < length xs → get_or xs k d ≡ get_or xs k e
at_place [] k d e below = absurd (omega arith)
at_place (x ∷ xs) zero d e below = refl
at_place (x ∷ xs) (suc k) d e below = at_place xs k d e (omega arith)

-- the place of a member
pub place_of : (xs : List ℕ) (v : ℕ) → Contains xs v → (k : ℕ) × (k < length xs) × (get_or xs k 0 ≡ v)
place_of xs v (k, below, same) = (k, below, at_place xs k 0 v below ∙ same)

pub member_at : (xs : List ℕ) (k v : ℕ) → k < length xs → get_or xs k 0 ≡ v → Contains xs v
member_at xs k v below same = (k, below, at_place xs k v 0 below ∙ same)

-- a mark that is there lies within the marks
pub mark_within : (marks : List Bool) (v : ℕ) → stands marks v ≡ true → v < length marks
mark_within [] v here = absurd (cc)
mark_within (m ∷ marks) zero here = omega arith
mark_within (m ∷ marks) (suc v) here = let h : v < length marks = mark_within marks v here in omega arith

-- one more mark
pub marked_here : (marks : List Bool) (v : ℕ) → v < length marks → stands (set marks v true) v ≡ true
marked_here marks v below = get_or-set_same marks v true false below

pub marked_still : (marks : List Bool) (v u : ℕ) → v < length marks → stands marks u ≡ true → stands (set marks v true) u ≡ true
marked_still marks v u below here = elim (cases_eq u v) [
  | inl e ↦ subst (λ w. stands (set marks v true) w ≡ true) (sym e) (marked_here marks v below)
  | inr apart ↦ get_or-set_other marks v u true false apart ∙ here
]

pub marked_before : (marks : List Bool) (v u : ℕ) → stands (set marks v true) u ≡ true → (u ≡ v) ⊎ (stands marks u ≡ true)
marked_before marks v u here = elim (cases_eq u v) [
  | inl e ↦ inl e
  | inr apart ↦ inr (sym (get_or-set_other marks v u true false apart) ∙ here)
]

pub fewer_missing : (marks : List Bool) (v : ℕ) → v < length marks → stands marks v ≡ false → missing (set marks v true) + 1 ≡ missing marks
fewer_missing marks v below here =
    let P : Bool → Type 0 = λ b. missing (set marks v true) + cond {A = ℕ} b 0 1 ≡ missing marks + 0 in
    let e : P false = subst P here (sum_by-set (λ mark. cond {A = ℕ} mark 0 1) marks v true false below) in
    rw add-zero at e

-- what holds of all members holds of the one at a place
pub member_below : (xs : List ℕ) (n : ℕ) → ((v : ℕ) → Contains xs v → v < n) → (i : ℕ) → i < length xs → get_or xs i 0 < n
member_below xs n all i within = all (get_or xs i 0) (member_at xs i (get_or xs i 0) within refl)

-- a slice of all that a vector has, written back
pub written_back : {X : Type 0} (old new : List X) (n : ℕ) → length new ≡ n → take n (new ++ drop (length new) old) ≡ new
written_back old new n len = subst (λ k. take k (new ++ drop (length new) old) ≡ new) len (take-append_seam new (drop (length new) old))

-- no vertex is marked
pub unmarked : (n v : ℕ) → stands (replicate n false) v ≡ false
unmarked n v = elim (cases_lt v n) [
  | inl below ↦ get_or-replicate n v false false below
  | inr past ↦ get_or_past (replicate n false) v false (omega (arith, length-replicate n false))
]

pub take_none : (xs : List ℕ) → take 0 xs ≡ []
take_none [] = refl
take_none (x ∷ xs) = refl
