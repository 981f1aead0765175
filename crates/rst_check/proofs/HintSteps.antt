-- The hints of one line, and one line more.
use Rattle.std.proofs.Common.{◌≡◌, ℕ, ◌+◌, ◌-◌, ◌≤◌, List, [], ◌∷◌, ◌++◌, length, take, drop, slice_range, sym, ◌∙◌, subst, ap, arith}
use Rattle.std.proofs.lemmas.List.{drop-take}
use Rattle.rst_clause.specs.Parts.{AreEnds}
use Rattle.rst_clause.proofs.PartLemmas.{ends-push}
use Rattle.rst_check.specs.Hints.{AreRising}

-- a part as what is left of a front
pub range_split : (all : List ℕ) (a b : ℕ) → a ≤ b → drop a (take b all) ≡ slice_range all a b
range_split all a b le =
    let e : a + (b - a) ≡ b = omega arith in
    ap (λ n. drop a (take n all)) (sym e) ∙ drop-take a (b - a) all

-- the numbers of one more line end
pub rising_end : (numbers ends new : List ℕ) (n : ℕ) → AreRising numbers ends → n ≡ length numbers → new ≡ ends ++ n ∷ [] → AreRising numbers new
rising_end numbers ends new n r e f = (
  n,
  subst (λ z. AreEnds 0 z n) (sym f) (ends-push 0 ends r.0 n r.1 (omega (arith, e, r.2))),
  omega (arith, e),
)
