-- What stands behind a decision, behind propagation, and once a decision was taken back.
use Rattle.std.proofs.Common.{◌≡◌, ℕ, suc, ◌+◌, ◌<◌, ◌≤◌, inl, inr, ℤ, pos, negsuc, Bool, true, false, List, [], ◌∷◌, ◌++◌, length, take, sym, ◌∙◌, subst, ap, arith, length-append, append-nil}
use Rattle.std.specs.List.{Contains}
use Rattle.std.proofs.Math.Nat.{eq-or-lt_of_le}
use Rattle.std.proofs.Math.Seq.{take-append_seam}
use Rattle.std.proofs.lemmas.List.{take-append-le}
use Rattle.std.proofs.lemmas.List.Elements.{Contains-push, Contains-push_cases, Contains-append_left, Contains-append_right}
use Rattle.rst_clause.specs.Propagation.{Derived, Closes, units}
use Rattle.rst_clause.specs.Extension.{literal_of}
use Rattle.rst_clause.specs.Trails.{Trail', Grows, IsComplete}
use Rattle.rst_clause.proofs.Members.{Contains-first, Contains-later, Contains-cons_cases}
use Rattle.rst_clause.proofs.Extending.{derived_more, unit1}
use Rattle.rst_clause.proofs.Grown.{grown_derived, grown_continues, continues_has, false_closes, Continues}
use Rattle.rst_solve.specs.Choices.{Knows, AllKnownTo, IsOpen}
use Rattle.rst_solve.specs.Tree.{decided, decisions, Stands, IsPlace, HasFalse}
use Rattle.rst_solve.specs.declared.levels.Level.{Level}
use Rattle.rst_solve.proofs.Paths.{place_stands}

-- a decision stands, and what stood
decided_stands : (cs : List (List ℤ)) (ds lits : List ℤ) (l : ℤ) → Stands cs ds lits → Stands cs (l ∷ ds) (lits ++ l ∷ [])
decided_stands cs ds lits l s = record {
  has = λ k h. elim (Contains-cons_cases l ds k h) [
    | inl e ↦ subst (λ z. Contains (lits ++ l ∷ []) z) e (Contains-push lits l)
    | inr i ↦ Contains-append_left lits (l ∷ []) k (s.has k i)
  ];
  derived = λ k h. elim (Contains-push_cases lits l k h) [
    | inl i ↦ derived_more (units ds ++ cs) (units (l ∷ ds) ++ cs) (λ c j. Contains-later (l ∷ []) (units ds ++ cs) c j) k (s.derived k i)
    | inr e ↦ subst (λ z. Derived (units (l ∷ ds) ++ cs) z) e (unit1 (units (l ∷ ds) ++ cs) l (Contains-first (l ∷ []) (units ds ++ cs)))
  ];
}

pub decided_place : (free : ℕ) (cs : List (List ℤ)) (ls : List Level) (lits : List ℤ) (l : Level) → l.floor ≡ length lits → IsPlace free cs ls lits → IsComplete lits cs
    → l.bit < free → AllKnownTo lits l.bit → IsOpen lits l.bit → IsPlace free cs (l ∷ ls) (lits ++ decided l ∷ [])
decided_place free cs ls lits l floor p q lt known open' =
    let front : take l.floor (lits ++ decided l ∷ []) ≡ lits = ap (λ n. take n (lits ++ decided l ∷ [])) floor ∙ take-append_seam lits (decided l ∷ []) in
    let len : length (lits ++ decided l ∷ []) ≡ length lits + 1 = length-append lits (decided l ∷ []) in (
      decided_stands cs (decisions ls) lits (decided l) (place_stands free cs ls lits p),
      record {
        bit = lt;
        floor = omega (arith, floor, len);
        complete = subst (λ z. IsComplete z cs) (sym front) q;
        known = subst (λ z. AllKnownTo z l.bit) (sym front) known;
        was_open = subst (λ z. IsOpen z l.bit) (sym front) open';
      },
      subst (λ z. IsPlace free cs ls z) (sym front) p,
    )

known_more : (t new : List ℤ) → ((k : ℤ) → Contains t k → Contains new k) → (bit : ℕ) → Knows t bit → Knows new bit
known_more t new h bit (inl i) = inl (h (pos (suc bit)) i)
known_more t new h bit (inr i) = inr (h (negsuc bit) i)

pub decided_known : (t : List ℤ) (bit : ℕ) (value : Bool) → AllKnownTo t bit → AllKnownTo (t ++ literal_of value bit ∷ []) (suc bit)
decided_known t bit value a i lt =
    let le : i ≤ bit = omega arith in
    elim (eq-or-lt_of_le le) [
      | inl e ↦ subst (λ n. Knows (t ++ literal_of value bit ∷ []) n) (sym e) (newest value)
      | inr b ↦ known_more t (t ++ literal_of value bit ∷ []) (λ k h. Contains-append_left t (literal_of value bit ∷ []) k h) i (a i b)
    ]
  where
    newest : (value : Bool) → Knows (t ++ literal_of value bit ∷ []) bit
    newest true = inl (Contains-push t (pos (suc bit)))
    newest false = inr (Contains-push t (negsuc bit))

grown_has : (cs : List (List ℤ)) (s t : Trail') → Grows cs s t → Continues s.lits t.lits
grown_has cs s t g = grown_continues cs s.lits s t g ([], sym (append-nil s.lits))

pub grown_known : (cs : List (List ℤ)) (s t : Trail') → Grows cs s t → (n : ℕ) → AllKnownTo s.lits n → AllKnownTo t.lits n
grown_known cs s t g n a bit lt = known_more s.lits t.lits (continues_has s.lits t.lits (grown_has cs s t g)) bit (a bit lt)

pub grown_place : (free : ℕ) (cs : List (List ℤ)) (ls : List Level) (s t : Trail') → Grows cs s t → IsPlace free cs ls s.lits → IsPlace free cs ls t.lits
grown_place free cs [] s t g p = record {
  has = λ k h. continues_has s.lits t.lits (grown_has cs s t g) k (p.has k h);
  derived = grown_derived cs cs s t (λ c h. h) g p.derived;
}
grown_place free cs (l ∷ ls) s t g p =
    let c : Continues s.lits t.lits = grown_has cs s t g in
    let le : l.floor ≤ length s.lits = p.1.floor in
    let len : length t.lits ≡ length s.lits + length c.0 = ap length c.1 ∙ length-append s.lits c.0 in
    let front : take l.floor t.lits ≡ take l.floor s.lits = ap (λ z. take l.floor z) c.1 ∙ take-append-le l.floor s.lits c.0 le in (
      record {
        has = λ k h. continues_has s.lits t.lits c k (p.0.has k h);
        derived = grown_derived cs (units (decisions (l ∷ ls)) ++ cs) s t (λ d h. Contains-append_right (units (decisions (l ∷ ls))) cs d h) g p.0.derived;
      },
      record {
        bit = p.1.bit;
        floor = omega (arith, le, len);
        complete = subst (λ z. IsComplete z cs) (sym front) p.1.complete;
        known = subst (λ z. AllKnownTo z l.bit) (sym front) p.1.known;
        was_open = subst (λ z. IsOpen z l.bit) (sym front) p.1.was_open;
      },
      subst (λ z. IsPlace free cs ls z) (sym front) p.2,
    )

-- where a clause is false the decisions close
pub place_closes : (free : ℕ) (cs : List (List ℤ)) (ls : List Level) (lits : List ℤ) → IsPlace free cs ls lits → HasFalse cs lits → Closes (units (decisions ls) ++ cs)
place_closes free cs ls lits p f =
    false_closes (units (decisions ls) ++ cs) lits f.0 (Contains-append_right (units (decisions ls)) cs f.0 f.1) (place_stands free cs ls lits p).derived f.2
