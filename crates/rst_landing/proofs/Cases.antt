-- The cases of the query, and that a refutation leaves none.
use Rattle.std.proofs.Common.{◌≡◌, ◌∙◌, ℕ, suc, ◌+◌, ℤ, Bool, List, [], ◌∷◌, ◌++◌, length, take, drop, sym, ap, arith}
use Rattle.std.proofs.Math.Logic.{∥∥₁_elim}
use Rattle.std.proofs.lemmas.List.{length-append}
use Rattle.rst_value.specs.declared.tern.Tern.{Tern}
use Rattle.rst_gate.specs.Machine.{after}
use Rattle.rst_gate.specs.Patterns.{free_bits, filled}
use Rattle.rst_gate.proofs.Filling.{each_filling}
use Rattle.rst_clause.specs.Solutions.{IsSolution}
use Rattle.rst_clause.specs.Propagation.{IsRefutation}
use Rattle.rst_clause.proofs.Sound.{refutation_refutes}
use Rattle.rst_pair.specs.declared.query.Query.TheVariants.{LandFree}
use Rattle.rst_pair.specs.Sides.{Sides, AreSides, left_machine, right_machine, IsPair}
use Rattle.rst_pair.specs.Aims.{LiesInSome}
use Rattle.rst_pair.specs.Fronts.{Front'}
use Rattle.rst_pair.specs.Hops.{cubes_of}
use Rattle.rst_pair.specs.Queries.{IsQueryCase}
use Rattle.rst_pair.proofs.Lists.{take-length, drop-length}
use Rattle.rst_pose.specs.Posed.{posed}
use Rattle.rst_pose.specs.Posing.{IsPosable}
use Rattle.rst_pose.specs.Works.{HasNoCase}
use Rattle.rst_query_laws.specs.Conditions.{IsAbout}
use Rattle.rst_query_laws.proofs.Solutions.{solutions_are}
use Rattle.rst_landing.specs.Landings.{land_clauses, AreKnownBehind, EndsInside}
use Rattle.rst_landing.proofs.Ends.{ends_agree, known_shared}

pub land_about :
    (p : Sides) (f : Front') (pattern : List (List Tern)) → AreSides p → IsPosable p f (LandFree pattern) → AreKnownBehind p f.equal pattern
    → IsAbout p f (LandFree pattern)
land_about p f pattern sides posable known = record {
  sides = sides;
  front = posable.within.front;
  shared = known_shared p f pattern sides known;
  speaks = posable.speaks;
}

-- solutions of the posed clauses are cases
pub solution_case :
    (p : Sides) (f : Front') (pattern : List (List Tern)) (bits : List Bool) → IsAbout p f (LandFree pattern)
    → IsSolution (posed p f (LandFree pattern)).free (land_clauses p f pattern) bits → IsQueryCase p f (LandFree pattern) bits
solution_case p f pattern bits about is = (solutions_are p f (LandFree pattern) bits about).0 is

no_case :
    (p : Sides) (f : Front') (pattern : List (List Tern)) (vars : ℕ) (log : List (List ℤ)) → IsAbout p f (LandFree pattern)
    → IsRefutation vars (land_clauses p f pattern) log → HasNoCase p f (LandFree pattern)
no_case p f pattern vars log about refutation bits case =
    let solution : IsSolution (posed p f (LandFree pattern)).free (land_clauses p f pattern) bits = (solutions_are p f (LandFree pattern) bits about).1 case in
    ∥∥₁_elim solution.1 (λ x y. absurd x) (λ w. refutation_refutes vars (land_clauses p f pattern) log refutation w.0 w.2)

-- the parts of bits that stand behind each other
drop_two : (s t free : List Bool) → drop (length s + length t) (s ++ (t ++ free)) ≡ free
drop_two [] t free = ap (λ (n : ℕ). drop n (t ++ free)) (let e : 0 + length t ≡ length t = omega arith in e) ∙ drop-length t free
drop_two (x ∷ s) t free = ap (λ (n : ℕ). drop n ((x ∷ s) ++ (t ++ free))) (let e : length (x ∷ s) + length t ≡ suc (length s + length t) = omega arith in e) ∙ drop_two s t free

-- a pair that lands behind a filling is a case
lands_at :
    (p : Sides) (f : Front') (pattern : List (List Tern)) (s t free : List Bool) → IsPair p s t → length free ≡ free_bits pattern
    → LiesInSome (cubes_of f.blocked) (after (left_machine p) s (filled pattern free)) (after (right_machine p) t (filled pattern free))
    → IsQueryCase p f (LandFree pattern) (s ++ (t ++ free))
lands_at p f pattern s t free pair count lies =
    let bits : List Bool = s ++ (t ++ free) in
    let left : take p.left.states bits ≡ s = ap (λ (n : ℕ). take n bits) (sym pair.0) ∙ take-length s (t ++ free) in
    let rest : drop p.left.states bits ≡ t ++ free = ap (λ (n : ℕ). drop n bits) (sym pair.0) ∙ drop-length s (t ++ free) in
    let right : take p.right.states (drop p.left.states bits) ≡ t =
    ap (λ (xs : List Bool). take p.right.states xs) rest ∙ ap (λ (n : ℕ). take n (t ++ free)) (sym pair.1) ∙ take-length t free in
    let behind : drop (p.left.states + p.right.states) bits ≡ free =
    ap (λ (n : ℕ). drop n bits) (let e : p.left.states + p.right.states ≡ length s + length t = omega (arith, pair.0, pair.1) in e) ∙ drop_two s t free in
    record {
      count = omega (arith, length-append s (t ++ free), length-append t free, pair.0, pair.1, count);
      holds = moved _ _ _ _ _ _ (sym left) (sym right) (sym behind) lies;
    }
  where
    moved :
        (s s' t t' free free' : List Bool) → s ≡ s' → t ≡ t' → free ≡ free'
        → LiesInSome (cubes_of f.blocked) (after (left_machine p) s (filled pattern free)) (after (right_machine p) t (filled pattern free))
        → LiesInSome (cubes_of f.blocked) (after (left_machine p) s' (filled pattern free')) (after (right_machine p) t' (filled pattern free'))
    moved s s' t t' free free' es et ef h = rw (← es, ← et, ← ef) h

-- a refutation says that no pair leaves the relation
pub refuted_inside :
    (p : Sides) (f : Front') (pattern : List (List Tern)) (vars : ℕ) (log : List (List ℤ)) → IsAbout p f (LandFree pattern)
    → AreKnownBehind p f.equal pattern → IsRefutation vars (land_clauses p f pattern) log → EndsInside p f pattern
refuted_inside p f pattern vars log about known refutation word s t fills pair = record {
  equal = ends_agree p f.equal pattern word s t known fills pair;
  outside = λ i below holds.
      let e = each_filling pattern word fills in
      no_case p f pattern vars log about refutation (s ++ (t ++ e.0))
      (lands_at p f pattern s t e.0 pair e.1 (rw e.2 (i, below, holds)));
}
