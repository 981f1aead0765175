-- Solutions of posed clauses, without a choice among them.
use Rattle.std.proofs.Common.{◌≡◌, ◌∙◌, ◌↔◌, ℕ, zero, suc, ◌-◌, ℤ, pos, negsuc, Bool, true, false, not, ◌&&◌, List, [], ◌∷◌, ◌++◌, length, refl, sym, ap, arith}
use Rattle.std.specs.Prelude.{slice_index_or}
use Rattle.std.specs.Coded.{Coded-set, coded_bool}
use Rattle.std.proofs.Math.Logic.{∥∥₁_elim}
use Rattle.std.proofs.lemmas.List.Elements.{All-contains}
use Rattle.rst_clause.specs.Literals.{literal_holds, Holds, Solves, IsLiteral, AreLiterals, AreClauses}
use Rattle.rst_clause.specs.Standing.{BeginsWith}
use Rattle.rst_clause.specs.Solutions.{IsSolution}
use Rattle.rst_clause.specs.Operations.{IsDefined}
use Rattle.rst_clause.specs.Extension.{AgreeTo, HasOneExtension}
use Rattle.rst_clause.specs.Results.{largest}
use Rattle.rst_clause.proofs.Gates.{some_holds, AllHold, solves_all, all_solve, Solves-left, Solves-right}
use Rattle.rst_clause.proofs.Extending.{defined_extends}
use Rattle.rst_pair.specs.declared.query.Query.{Query}
use Rattle.rst_pair.specs.declared.query.Query.TheVariants.{Split, Land, LandFree, Escape, Stuck}
use Rattle.rst_pair.specs.Sides.{Sides}
use Rattle.rst_pair.specs.Fronts.{Front'}
use Rattle.rst_pair.specs.Queries.{query_bits, IsQueryCase}
use Rattle.rst_pose.specs.Posed.{posed}
use Rattle.rst_query_laws.specs.Conditions.{IsAbout}
use Rattle.rst_query_laws.proofs.Demands.{solves_both}
use Rattle.rst_query_laws.proofs.Starts.{IsExact}
use Rattle.rst_query_laws.proofs.Exact.{posed_exact}

-- whether all clauses hold, as one test
abbrev all_hold : (ℕ → Bool) → List (List ℤ) → Bool
all_hold v [] = true
all_hold v (clause ∷ clauses) = some_holds v clause && all_hold v clauses

and_first : (a b : Bool) → (a && b) ≡ true → a ≡ true
and_first true b h = refl
and_first false b h = h

and_second : (a b : Bool) → (a && b) ≡ true → b ≡ true
and_second true b h = h
and_second false b h = absurd (let f : false ≡ true = h in cc)

test_of : (v : ℕ → Bool) (cs : List (List ℤ)) → AllHold v cs → all_hold v cs ≡ true
test_of v [] h = refl
test_of v (c ∷ cs) h = ap (λ (b : Bool). b && all_hold v cs) h.0 ∙ test_of v cs h.1

of_test : (v : ℕ → Bool) (cs : List (List ℤ)) → all_hold v cs ≡ true → AllHold v cs
of_test v [] e = tt
of_test v (c ∷ cs) e = (and_first (some_holds v c) (all_hold v cs) e, of_test v cs (and_second (some_holds v c) (all_hold v cs) e))

-- choices that agree on the variables of clauses solve the same of them
literal_agrees : (n : ℕ) (v w : ℕ → Bool) → AgreeTo n v w → (k : ℤ) → IsLiteral n k → literal_holds v k ≡ literal_holds w k
literal_agrees n v w h (pos zero) isl = refl
literal_agrees n v w h (pos (suc m)) isl = h (suc m) (omega arith) (omega (arith, isl.1))
literal_agrees n v w h (negsuc m) isl = ap not (h (suc m) (omega arith) (omega (arith, isl.1)))

solves_agrees : (n : ℕ) (v w : ℕ → Bool) (cs : List (List ℤ)) → AgreeTo n v w → AreClauses n cs → Solves v cs → Solves w cs
solves_agrees n v w cs h ok s c cin =
    let r : Holds v c = s c cin in
    let isl : IsLiteral n r.0 = All-contains (IsLiteral n) c r.0 (All-contains (AreLiterals n) cs c ok cin) r.1 in
    (r.0, r.1, sym (literal_agrees n v w h r.0 isl) ∙ r.2)

-- the choice of the free bits
abbrev choice_of : List Bool → ℕ → Bool
choice_of bits i = slice_index_or bits (i - 1) false

pub free_is : (p : Sides) (f : Front') (query : Query) → (posed p f query).free ≡ query_bits p f query
free_is p f Split = refl
free_is p f (Land word) = refl
free_is p f (LandFree pattern) = refl
free_is p f Escape = refl
free_is p f Stuck = refl

-- the one choice that begins with the bits and solves the fixed clauses
record Extended (free : ℕ) (fixed : List (List ℤ)) (bits : List Bool) : Type 0 where
  choice : ℕ → Bool
  begins : BeginsWith free bits choice
  solves : Solves choice fixed
  only : (w : ℕ → Bool) → BeginsWith free bits w → Solves w fixed → AgreeTo (largest fixed) w choice

extended : (free : ℕ) (fixed : List (List ℤ)) (bits : List Bool) → IsDefined free (largest fixed) fixed → Extended free fixed bits
extended free fixed bits defined =
    let one : HasOneExtension free (largest fixed) fixed = defined_extends free (largest fixed) fixed defined in
    let r = one.exists (choice_of bits) in
    let begins : BeginsWith free bits r.0 = λ i lt. sym (r.1 (suc i) (omega arith) (omega (arith, lt))) ∙ back i in
    record {
      choice = r.0;
      begins = begins;
      solves = r.2;
      only = λ w also s. one.only w r.0 s r.2 (agree w r.0 also begins);
    }
  where
    back : (i : ℕ) → choice_of bits (suc i) ≡ slice_index_or bits i false
    back i = let e : suc i - 1 ≡ i = omega arith in ap (λ (k : ℕ). slice_index_or bits k false) e

    agree : (v w : ℕ → Bool) → BeginsWith free bits v → BeginsWith free bits w → AgreeTo free v w
    agree v w p q zero low high = absurd (omega (arith, low))
    agree v w p q (suc i) low high = p i (omega (arith, high)) ∙ sym (q i (omega (arith, high)))

pub solutions_are :
    (p : Sides) (f : Front') (query : Query) (bits : List Bool) → IsAbout p f query
    → IsSolution (posed p f query).free ((posed p f query).fixed ++ (posed p f query).required) bits ↔ IsQueryCase p f query bits
solutions_are p f query bits about =
    let x : IsExact p f query = posed_exact p f query about in
    let free = (posed p f query).free in
    let fixed = (posed p f query).fixed in
    let required = (posed p f query).required in
    let e : Extended free fixed bits = extended free fixed bits x.ready in
    let v = e.choice in (
      λ solution.
          let test : all_hold v required ≡ true =
          ∥∥₁_elim solution.1 (Coded-set coded_bool _ _) (λ w.
          test_of v required (solves_all v required
          (solves_agrees (largest fixed) w.0 v required (e.only w.0 w.1 (Solves-left w.0 fixed required w.2)) x.held (Solves-right w.0 fixed required w.2)))) in
          (x.exact bits v solution.0 e.begins e.solves).0 (all_solve v required (of_test v required test)),
      λ case.
          let count : length bits ≡ free = case.count ∙ sym (free_is p f query) in
          (count, ∣ (v, e.begins, solves_both v fixed required e.solves ((x.exact bits v count e.begins e.solves).1 case)) ∣₁),
    )
