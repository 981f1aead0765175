-- What a trail that grew by propagation has, and what a complete trail lacks.
use Rattle.std.proofs.Common.{◌≡◌, inl, inr, ℤ, List, [], ◌∷◌, ◌++◌, length, get_or, sym, ◌∙◌, subst, ap, take, append_assoc}
use Rattle.std.specs.List.{Contains}
use Rattle.std.proofs.Math.Seq.{take-append_seam}
use Rattle.std.proofs.lemmas.List.Elements.{Contains-get_or, Contains-push_cases, Contains-append_left}
use Rattle.rst_clause.specs.Literals.{opposite}
use Rattle.rst_clause.specs.Propagation.{Derived, Closes, AllDerived}
use Rattle.rst_clause.specs.Propagation.Derived.{unit}
use Rattle.rst_clause.proofs.Extending.{AreAmong}
use Rattle.rst_clause.specs.Trails.{Trail', Grows, IsComplete, AllFalse}
use Rattle.rst_clause.specs.Trails.Grows.{same, more}

pub grown_derived : (clauses cs : List (List ℤ)) (s t : Trail') → AreAmong clauses cs → Grows clauses s t → AllDerived cs s.lits → AllDerived cs t.lits
grown_derived clauses cs s _ in' same d = d
grown_derived clauses cs s _ in' (more t l r g lt slot u) d = λ k h.
    let ih : AllDerived cs t.lits = grown_derived clauses cs s t in' g d in
    elim (Contains-push_cases t.lits l k h) [
      | inl i ↦ ih k i
      | inr e ↦ subst (λ z. Derived cs z) e
          (unit (get_or clauses r []) l (in' (get_or clauses r []) (Contains-get_or clauses r [] lt)) u.has (λ j jin ne. ih (opposite j) (u.others j jin ne)))
    ]

-- a false clause closes
pub false_closes : (cs : List (List ℤ)) (t c : List ℤ) → Contains cs c → AllDerived cs t → AllFalse t c → Closes cs
false_closes cs t c cin d f = (c, cin, λ k kin. d (opposite k) (f k kin))

-- what is derived stands on each complete trail
pub derived_stands : (cs : List (List ℤ)) (t : List ℤ) → IsComplete t cs → (l : ℤ) → Derived cs l → Contains t l
derived_stands cs t q l (unit c _ cin lin rest) = (q c cin).implied l lin (λ k kin ne. derived_stands cs t q (opposite k) (rest k kin ne))

pub complete_open : (cs : List (List ℤ)) (t : List ℤ) → IsComplete t cs → Closes cs → ⊥
complete_open cs t q r = (q r.0 r.1).not_false (λ k kin. derived_stands cs t q (opposite k) (r.2 k kin))

-- a longer trail with the same beginning
abbrev pub Continues : List ℤ → List ℤ → Type 0
Continues old new = (more : List ℤ) × (new ≡ old ++ more)

pub continues_more : (old t : List ℤ) (l : ℤ) → Continues old t → Continues old (t ++ l ∷ [])
continues_more old t l c = (c.0 ++ l ∷ [], ap (λ z. z ++ l ∷ []) c.1 ∙ append_assoc old c.0 (l ∷ []))

pub grown_continues : (cs : List (List ℤ)) (old : List ℤ) (s t : Trail') → Grows cs s t → Continues old s.lits → Continues old t.lits
grown_continues cs old s _ same c = c
grown_continues cs old s _ (more t l r g lt slot u) c = continues_more old t.lits l (grown_continues cs old s t g c)

pub continues_has : (old new : List ℤ) → Continues old new → (k : ℤ) → Contains old k → Contains new k
continues_has old new c k h = subst (λ z. Contains z k) (sym c.1) (Contains-append_left old c.0 k h)

pub continues_take : (old new : List ℤ) → Continues old new → take (length old) new ≡ old
continues_take old new c = ap (λ z. take (length old) z) c.1 ∙ take-append_seam old c.0
