-- The path of the decisions that stand.
use Rattle.std.proofs.Common.{◌≡◌, ℕ, zero, suc, ◌<◌, inl, inr, ℤ, Bool, true, false, List, [], ◌∷◌, ◌++◌, length, take, replicate, set, get_or, refl, sym, ◌∙◌, subst, arith, get_or-set_other, get_or-set_same}
use Rattle.std.specs.List.{Contains}
use Rattle.std.proofs.Math.ListN.{length-set}
use Rattle.std.proofs.lemmas.Bool.{cases_eq}
use Rattle.std.proofs.lemmas.List.Elements.{Contains-append_cases}
use Rattle.rst_value.specs.declared.tern.Tern.{Tern}
use Rattle.rst_value.specs.declared.tern.Tern.TheVariants.{Unknown}
use Rattle.rst_value.specs.Terns.{known}
use Rattle.rst_clause.specs.Literals.{literal_holds}
use Rattle.rst_clause.specs.Propagation.{Closes, units}
use Rattle.rst_clause.specs.Extension.{literal_of}
use Rattle.rst_clause.specs.Paths.{path_literals, HasNoSolution, IsTight, IsPath}
use Rattle.rst_clause.specs.Trails.{IsComplete, IsQuiet, IsConsistent}
use Rattle.rst_clause.proofs.Members.{Contains-nil, Contains-first, Contains-later, Contains-one, Contains-cons_cases, Contains-from_map, Contains-take}
use Rattle.rst_clause.proofs.Grown.{complete_open}
use Rattle.rst_clause.proofs.Sound.{closes_refutes}
use Rattle.rst_clause.specs.Literals.{Solves}
use Rattle.rst_solve.specs.Choices.{IsOpen}
use Rattle.rst_solve.specs.Tree.{decided, decisions, path_of, Stands, IsPlace}
use Rattle.rst_solve.specs.declared.levels.Level.{Level}
use Rattle.rst_solve.proofs.Places.{place_cases, place_kept, place_has, set-back, known-not_unknown, no_literals}

pub get_or-replicate : (n i : ℕ) → get_or (replicate n Unknown) i Unknown ≡ Unknown
get_or-replicate zero i = refl
get_or-replicate (suc n) zero = refl
get_or-replicate (suc n) (suc i) = get_or-replicate n i

pub length-replicate : (n : ℕ) → length (replicate n Unknown) ≡ n
length-replicate zero = refl
length-replicate (suc n) = let ih : length (replicate n Unknown) ≡ n = length-replicate n in omega arith

pub path_width : (free : ℕ) (ls : List Level) → length (path_of free ls) ≡ free
path_width free [] = length-replicate free
path_width free (l ∷ ls) = length-set (path_of free ls) l.bit (known l.value) ∙ path_width free ls

open_not : (lits : List ℤ) (bit : ℕ) (b : Bool) → IsOpen lits bit → Contains lits (literal_of b bit) → ⊥
open_not lits bit true o h = o.not_one h
open_not lits bit false o h = o.not_zero h

-- the place of an open bit is unknown
pub path_open : (free : ℕ) (ls : List Level) (lits : List ℤ) (bit : ℕ) → ((k : ℤ) → Contains (decisions ls) k → Contains lits k) → IsOpen lits bit
    → get_or (path_of free ls) bit Unknown ≡ Unknown
path_open free [] lits bit h o = get_or-replicate free bit
path_open free (l ∷ ls) lits bit h o = elim (cases_eq l.bit bit) [
  | inl e ↦ absurd (open_not lits bit l.value o (subst (λ n. Contains lits (literal_of l.value n)) e (h (decided l) (Contains-first (decided l) (decisions ls)))))
  | inr ne ↦ get_or-set_other (path_of free ls) l.bit bit (known l.value) Unknown (λ e. ne (sym e))
      ∙ path_open free ls lits bit (λ k i. h k (Contains-later (decided l) (decisions ls) k i)) o
]

pub place_stands : (free : ℕ) (cs : List (List ℤ)) (ls : List Level) (lits : List ℤ) → IsPlace free cs ls lits → Stands cs (decisions ls) lits
place_stands free cs [] lits p = p
place_stands free cs (l ∷ ls) lits p = p.0

level_unknown : (free : ℕ) (cs : List (List ℤ)) (l : Level) (ls : List Level) (lits : List ℤ) → IsPlace free cs (l ∷ ls) lits
    → get_or (path_of free ls) l.bit Unknown ≡ Unknown
level_unknown free cs l ls lits p = path_open free ls (take l.floor lits) l.bit (place_stands free cs ls (take l.floor lits) p.2).has p.1.was_open

level_inside : (free : ℕ) (cs : List (List ℤ)) (l : Level) (ls : List Level) (lits : List ℤ) → IsPlace free cs (l ∷ ls) lits → l.bit < length (path_of free ls)
level_inside free cs l ls lits p = subst (λ n. l.bit < n) (sym (path_width free ls)) p.1.bit

-- the path without its deepest decision
pub path_back : (free : ℕ) (cs : List (List ℤ)) (l : Level) (ls : List Level) (lits : List ℤ) → IsPlace free cs (l ∷ ls) lits
    → set (path_of free (l ∷ ls)) l.bit Unknown ≡ path_of free ls
path_back free cs l ls lits p = set-back (path_of free ls) l.bit (known l.value) (level_inside free cs l ls lits p) (level_unknown free cs l ls lits p)

-- the known places are those of the decisions
pub path_from : (free : ℕ) (cs : List (List ℤ)) (ls : List Level) (lits : List ℤ) → IsPlace free cs ls lits
    → (k : ℤ) → Contains (path_literals (path_of free ls)) k → Contains (decisions ls) k
path_from free cs [] lits p k h = absurd (Contains-nil k (subst (λ z. Contains z k) (no_literals 0 (replicate free Unknown) (get_or-replicate free)) h))
path_from free cs (l ∷ ls) lits p k h =
    elim (place_cases (path_of free ls) l.bit l.value (level_inside free cs l ls lits p) (level_unknown free cs l ls lits p) k h) [
      | inl i ↦ Contains-later (decided l) (decisions ls) k (path_from free cs ls (take l.floor lits) p.2 k i)
      | inr e ↦ subst (λ z. Contains (decided l ∷ decisions ls) z) (sym e) (Contains-first (decided l) (decisions ls))
    ]

pub path_has : (free : ℕ) (cs : List (List ℤ)) (ls : List Level) (lits : List ℤ) → IsPlace free cs ls lits
    → (k : ℤ) → Contains (decisions ls) k → Contains (path_literals (path_of free ls)) k
path_has free cs [] lits p k h = absurd (Contains-nil k h)
path_has free cs (l ∷ ls) lits p k h = elim (Contains-cons_cases (decided l) (decisions ls) k h) [
  | inl e ↦ subst (λ z. Contains (path_literals (path_of free (l ∷ ls))) z) e (place_has (path_of free ls) l.bit l.value (level_inside free cs l ls lits p))
  | inr i ↦ place_kept (path_of free ls) l.bit l.value (level_unknown free cs l ls lits p) k (path_has free cs ls (take l.floor lits) p.2 k i)
]

units_solved : (v : ℕ → Bool) (ls : List ℤ) → ((k : ℤ) → Contains ls k → literal_holds v k ≡ true) → Solves v (units ls)
units_solved v ls h c cin =
    let r : (k : ℤ) × Contains ls k × (c ≡ k ∷ []) = Contains-from_map (λ l. l ∷ []) ls c cin in
    (r.0, subst (λ z. Contains z r.0) (sym r.2) (Contains-first r.0 []), h r.0 r.1)

-- a path whose decisions close has no solution
path_empty : (free : ℕ) (cs : List (List ℤ)) (ls : List Level) (lits : List ℤ) → IsPlace free cs ls lits → Closes (units (decisions ls) ++ cs)
    → HasNoSolution cs (path_of free ls)
path_empty free cs ls lits p closes v lies solves = closes_refutes (units (decisions ls) ++ cs) v closes (λ c h.
    elim (Contains-append_cases (units (decisions ls)) cs c h) [
      | inl j ↦ units_solved v (decisions ls) (λ k kin. lies k (path_has free cs ls lits p k kin)) c j
      | inr j ↦ solves c j
    ])

consistent_first : (n : ℕ) (lits : List ℤ) → IsConsistent lits → IsConsistent (take n lits)
consistent_first n lits con k h o = con k (Contains-take n lits k h) (Contains-take n lits _ o)

-- a complete trail that has the decisions closes nothing
nothing_closes : (cs : List (List ℤ)) (path : List Tern) (t : List ℤ) → IsConsistent t → IsComplete t cs → ((k : ℤ) → Contains (path_literals path) k → Contains t k)
    → Closes (units (path_literals path) ++ cs) → ⊥
nothing_closes cs path t con q stands = complete_open (units (path_literals path) ++ cs) t (λ c h.
    elim (Contains-append_cases (units (path_literals path)) cs c h) [
      | inr i ↦ q c i
      | inl i ↦
          let r : (k : ℤ) × Contains (path_literals path) k × (c ≡ k ∷ []) = Contains-from_map (λ l. l ∷ []) (path_literals path) c i in
          let here : Contains t r.0 = stands r.0 r.1 in
          subst (λ z. IsQuiet t z) (sym r.2) (record {
            not_false = λ f. con r.0 here (f r.0 (Contains-first r.0 []));
            implied = λ l lin b. subst (λ z. Contains t z) (Contains-one r.0 l lin) here;
          })
    ])

-- a path is tight by its deepest decision
path_tight : (free : ℕ) (cs : List (List ℤ)) (ls : List Level) (lits : List ℤ) → IsConsistent lits → IsPlace free cs ls lits → IsTight cs (path_of free ls)
path_tight free cs [] lits con p = inl (λ i lt. get_or-replicate free i)
path_tight free cs (l ∷ ls) lits con p = inr (
  l.bit,
  subst (λ n. l.bit < n) (sym (path_width free (l ∷ ls))) p.1.bit,
  λ e. known-not_unknown l.value (sym (get_or-set_same (path_of free ls) l.bit (known l.value) Unknown (level_inside free cs l ls lits p)) ∙ e),
  λ closes. nothing_closes cs (path_of free ls) (take l.floor lits) (consistent_first l.floor lits con) p.1.complete
      (λ k h. (place_stands free cs ls (take l.floor lits) p.2).has k (path_from free cs ls (take l.floor lits) p.2 k h))
      (subst (λ z. Closes (units (path_literals z) ++ cs)) (path_back free cs l ls lits p) closes),
)

pub path_is : (free : ℕ) (cs : List (List ℤ)) (ls : List Level) (lits : List ℤ) → IsConsistent lits → IsPlace free cs ls lits → Closes (units (decisions ls) ++ cs)
    → IsPath free cs (path_of free ls)
path_is free cs ls lits con p closes = record {
  width = path_width free ls;
  tight = path_tight free cs ls lits con p;
  empty = path_empty free cs ls lits p closes;
}
