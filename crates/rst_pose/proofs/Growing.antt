-- How the domain grows, and that literals stay in range.
use Rattle.std.proofs.Common.{◌≡◌, ◌∙◌, ℕ, zero, suc, ◌+◌, ◌-◌, ◌^◌, ◌≤◌, inl, inr, ℤ, pos, unsigned_abs, List, [], ◌∷◌, ◌++◌, Some, Result, Ok, Err, refl, sym, ap, subst, arith}
use Rattle.std.specs.Result.{IfOk}
use Rattle.std.proofs.lemmas.List.Elements.{Contains-append_cases, All-contains, All-push}
use Rattle.rst_value.specs.Domains.{Spends}
use Rattle.rst_clause.specs.Literals.{IsLiteral, AreLiterals}
use Rattle.rst_clause.specs.Results.{Aside}
use Rattle.rst_clause.specs.declared.clause_domain.ClauseDomain.{ClauseDomain}
use Rattle.rst_clause.proofs.Ranges.{All-from_members, AreLiterals-more}
use Rattle.rst_pose.specs.Posing.{Grows}

abbrev pub aside_of : ClauseDomain → Aside
aside_of d = record { free = d.clauses.free; required = d.clauses.required }

-- what an operation of the domain says of it
pub grown :
    (n : ℕ) (old new : ClauseDomain) → ((z : ℤ) → IsLiteral old.clauses.vars z → IsLiteral new.clauses.vars z) → aside_of new ≡ aside_of old
    → Spends n (Some (2 ^ 31 - 1 - old.clauses.vars)) (Some (2 ^ 31 - 1 - new.clauses.vars)) → Grows n old new
grown n old new keeps aside spends = record {
  least = at_least old.clauses.vars refl;
  most = omega (arith, spends, old.clauses.few, new.clauses.few);
  free = ap (λ a. a.free) aside;
  required = ap (λ a. a.required) aside;
} where
  at_least : (v : ℕ) → old.clauses.vars ≡ v → old.clauses.vars ≤ new.clauses.vars
  at_least zero e = omega (arith, e)
  at_least (suc v) e =
      let top : IsLiteral new.clauses.vars (pos (suc v)) = keeps (pos (suc v)) (omega arith, omega (arith, e)) in
      let high : suc v ≤ new.clauses.vars = top.1 in
      omega (arith, e, high)

pub grown_not : (d : ClauseDomain) → Grows 0 d d
grown_not d = record { least = omega arith; most = omega arith; free = refl; required = refl }

pub grown_more : (m n : ℕ) (a b : ClauseDomain) → m ≤ n → Grows m a b → Grows n a b
grown_more m n a b le g = record { least = g.least; most = omega (arith, g.most); free = g.free; required = g.required }

pub grown_twice : (m n k : ℕ) (a b c : ClauseDomain) → Grows m a b → Grows n b c → m + n ≤ k → Grows k a c
grown_twice m n k a b c g h le = record {
  least = omega (arith, g.least, h.least);
  most = omega (arith, g.most, h.most);
  free = h.free ∙ g.free;
  required = h.required ∙ g.required;
}

pub literal_more : (m n : ℕ) (z : ℤ) → m ≤ n → IsLiteral m z → IsLiteral n z
literal_more m n z le isl = let high : unsigned_abs z ≤ m = isl.1 in (isl.0, omega arith)

pub literals_one : (n : ℕ) (z : ℤ) → IsLiteral n z → AreLiterals n (z ∷ [])
literals_one n z isl = All-push (IsLiteral n) [] z (λ i d lt. absurd (omega arith)) isl

pub literals_append : (n : ℕ) (xs ys : List ℤ) → AreLiterals n xs → AreLiterals n ys → AreLiterals n (xs ++ ys)
literals_append n xs ys p q = All-from_members (IsLiteral n) (xs ++ ys) (λ z h. elim (Contains-append_cases xs ys z h) [
  | inl i ↦ All-contains (IsLiteral n) xs z p i
  | inr i ↦ All-contains (IsLiteral n) ys z q i
])

-- one more literal at the end, where there are more variables
pub literals_push :
    (m n : ℕ) (xs ys : List ℤ) (z : ℤ) → m ≤ n → AreLiterals m xs → IsLiteral n z → ys ≡ xs ++ z ∷ [] → AreLiterals n ys
literals_push m n xs ys z le p q e =
    subst (λ zs. AreLiterals n zs) (sym e) (All-push (IsLiteral n) xs z (AreLiterals-more m n xs le p) q)

pub ok_always : {T E : Type 0} (r : Result T E) {P : Type 0} → P → IfOk r (λ _. P)
ok_always (Ok x) p = p
ok_always (Err e) p = tt
