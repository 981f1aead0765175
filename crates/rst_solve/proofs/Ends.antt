-- What a search says at its end, and what a finder's answer says once it was checked.
use Rattle.std.proofs.Common.{◌≡◌, ◌≢◌, ℕ, zero, suc, ◌+◌, ◌-◌, ◌^◌, ◌<◌, ◌≤◌, inl, inr, ℤ, Bool, false, List, [], ◌∷◌, ◌++◌, length, take, replicate, get_or, sym, ◌∙◌, subst, ap, arith, length-append}
use Rattle.std.specs.List.{Contains, All}
use Rattle.std.proofs.Math.ListN.{get_or-append}
use Rattle.std.proofs.Math.Nat.{eq-or-lt_of_le}
use Rattle.std.proofs.Math.Seq.{take-suc, get_or-append_seam}
use Rattle.std.proofs.lemmas.List.{length-take-le, get_or-take}
use Rattle.std.proofs.lemmas.List.Elements.{Contains-get_or, Contains-push_cases, Contains-append_cases, All-contains}
use Rattle.rst_value.specs.declared.tern.Tern.{Tern}
use Rattle.rst_value.specs.declared.tern.Tern.TheVariants.{Unknown}
use Rattle.rst_clause.specs.Literals.{Solves}
use Rattle.rst_clause.specs.Propagation.{IsRefutation}
use Rattle.rst_clause.specs.Paths.{IsPath, AreApart, AreWide, ArePaths}
use Rattle.rst_clause.specs.Solutions.{IsSolution}
use Rattle.rst_clause.proofs.Members.{Contains-nil}
use Rattle.rst_clause.proofs.Ranges.{All-from_members}
use Rattle.rst_clause.proofs.Sound.{refutation_refutes}
use Rattle.rst_clause.proofs.Apart.{apart_few}
use Rattle.rst_solve.specs.Choices.{AreSome, choice_of}
use Rattle.rst_solve.specs.Tree.{decisions, denied, path_of, IsPlace}
use Rattle.rst_solve.specs.Records.{IsLog, HasLines, IsOpenBelow, IsClosedBelow}
use Rattle.rst_solve.specs.Answers.{EndsEmptyAlone, HasPaths}
use Rattle.rst_solve.specs.declared.tree.Tree.{Tree}
use Rattle.rst_solve.proofs.Paths.{path_width, path_has, get_or-replicate, length-replicate}
use Rattle.rst_solve.proofs.Lines.{leaves_apart, apart_push}

-- of a log whose earlier lines are not empty only the last is
pub ends_alone : (earlier : List (List ℤ)) (c : List ℤ) → AreSome earlier → EndsEmptyAlone (earlier ++ c ∷ [])
ends_alone earlier c some i lt e =
    let len : length (earlier ++ c ∷ []) ≡ length earlier + 1 = length-append earlier (c ∷ []) in
    let b : i < length earlier = omega arith in
    some (get_or earlier i []) (Contains-get_or earlier i [] b) (sym (get_or-append earlier (c ∷ []) [] i b) ∙ e)

-- a search that closed everything refutes
pub closed_refutes : (free vars : ℕ) (cs : List (List ℤ)) (t : Tree) → IsClosedBelow free vars cs t → t.levels ≡ []
    → IsRefutation vars cs t.log × EndsEmptyAlone t.log
closed_refutes free vars cs t c none =
    let last : t.log ≡ c.earlier ++ [] ∷ [] = c.last ∙ ap (λ z. c.earlier ++ denied (decisions z) ∷ []) none in (
      record { in_range = c.log.in_range; follows = c.log.follows; ends = (c.earlier, last) },
      subst (λ z. EndsEmptyAlone z) (sym last) (ends_alone c.earlier [] c.some),
    )

-- the paths of an open search are fewer than the choices: the decisions' own path meets none of them
pub open_few : (free vars : ℕ) (cs : List (List ℤ)) (t : Tree) → IsOpenBelow free vars cs t → length t.paths.items < 2 ^ free
open_few free vars cs t o =
    let own = path_of free t.levels in
    let all = t.paths.items ++ own ∷ [] in
    let len : length all ≡ length t.paths.items + 1 = length-append t.paths.items (own ∷ []) in
    let wide : AreWide free all = λ i lt.
    let le : i ≤ length t.paths.items = omega arith in
    elim (eq-or-lt_of_le le) [
      | inl e ↦ ap (λ n. length (get_or all n [])) e ∙ ap length (get_or-append_seam t.paths.items own [] []) ∙ path_width free t.levels
      | inr b ↦ ap length (get_or-append t.paths.items (own ∷ []) [] i b) ∙ (o.paths.each i b).width
    ] in
    let apart : AreApart all = apart_push t.paths.items own o.paths.apart (λ i lt. leaves_apart t.levels (get_or t.paths.items i []) own (o.apart i lt)
    (path_has free cs t.levels t.trail.lits o.at.place)) in
    let few : length all ≤ 2 ^ free = apart_few free all wide apart in
    omega arith

no_paths : (free : ℕ) (cs : List (List ℤ)) → ArePaths free cs []
no_paths free cs = record { each = λ i lt. absurd (omega arith); apart = λ i j ij lt. absurd (omega arith) }

pub has_none : (free : ℕ) (cs : List (List ℤ)) (left : ℕ) (paths : List (List Tern)) → paths ≡ [] → HasPaths free cs left paths
has_none free cs left paths e = subst (λ z. HasPaths free cs left z) (sym e) (no_paths free cs, omega arith)

-- a search at its start
pub start_open : (free vars : ℕ) (cs : List (List ℤ)) (t : Tree) → t.trail.vars ≡ vars → t.trail.lits ≡ [] → t.levels ≡ [] → t.path.items ≡ replicate free Unknown
    → t.log ≡ [] → t.paths.items ≡ [] → IsOpenBelow free vars cs t
start_open free vars cs t v lits levels path log paths = record {
  at = record {
    range = v;
    path = path ∙ ap (λ z. path_of free z) (sym levels);
    place = subst (λ z. IsPlace free cs z t.trail.lits) (sym levels) (record {
      has = λ k h. absurd (Contains-nil k h);
      derived = λ k h. absurd (Contains-nil k (subst (λ z. Contains z k) lits h));
    });
  };
  log = subst (λ z. IsLog vars cs z) (sym log) (record { in_range = λ i d lt. absurd (omega arith); follows = λ i lt. absurd (omega arith) });
  some = λ c h. absurd (Contains-nil c (subst (λ z. Contains z c) log h));
  lines = subst (λ z. HasLines t.log z) (sym levels) tt;
  paths = subst (λ z. ArePaths free cs z) (sym paths) (no_paths free cs);
  apart = λ i lt. let len : length t.paths.items ≡ 0 = ap length paths in absurd (omega arith);
}

-- the path in which no place is known, of clauses without a solution
pub whole_path : (free vars : ℕ) (cs log : List (List ℤ)) (left : ℕ) (paths : List (List Tern)) → IsRefutation vars cs log → 0 < left
    → paths ≡ replicate free Unknown ∷ [] → (0 < length paths) × HasPaths free cs left paths
whole_path free vars cs log left paths r some e =
    subst (λ z. (0 < length z) × HasPaths free cs left z) (sym e) (
      omega arith,
      (
        record {
          each = λ i lt. only i lt;
          apart = λ i j ij lt. absurd (omega arith);
        },
        omega arith,
      ),
    )
  where
    only : (i : ℕ) → i < length (replicate free Unknown ∷ []) → IsPath free cs (get_or (replicate free Unknown ∷ []) i [])
    only zero lt = record {
      width = length-replicate free;
      tight = inl (λ i l. get_or-replicate free i);
      empty = λ v lies solves. refutation_refutes vars cs log r v solves;
    }
    only (suc i) lt = absurd (omega arith)

-- one more line of a log without an empty one
pub some_more : (log : List (List ℤ)) (c : List ℤ) → AreSome log → c ≢ [] → AreSome (log ++ c ∷ [])
some_more log c s n x h e = elim (Contains-push_cases log c x h) [ inl i ↦ s x i e | inr m ↦ n (m ∙ e) ]

-- fixed and required clauses together
pub solves_both : (v : ℕ → Bool) (xs ys : List (List ℤ)) → Solves v xs → Solves v ys → Solves v (xs ++ ys)
solves_both v xs ys p q c h = elim (Contains-append_cases xs ys c h) [ inl i ↦ p c i | inr i ↦ q c i ]

-- values of all variables that solve give a solution
pub values_solve : (free : ℕ) (fixed required : List (List ℤ)) (values : List Bool) → free ≤ length values → Solves (choice_of values) fixed → Solves (choice_of values) required
    → IsSolution free (fixed ++ required) (take free values)
values_solve free fixed required values le f r = (
  length-take-le free values le,
  ∣ (choice_of values, λ i lt. let e : suc i - 1 ≡ i = omega arith in ap (λ n. get_or values n false) e ∙ sym (get_or-take free values i false lt), solves_both (choice_of values) fixed required f r) ∣₁,
)

-- what holds of the first clauses, and of the next
pub all_more : (P : List ℤ → Type 0) (xs : List (List ℤ)) (i : ℕ) → i < length xs → All P (take i xs) → P (get_or xs i []) → All P (take (i + 1) xs)
all_more P xs i lt all p =
    let n : i + 1 ≡ suc i = omega arith in
    subst (λ m. All P (take m xs)) (sym n) (subst (λ z. All P z) (sym (take-suc xs i [] lt)) (All-from_members P (take i xs ++ get_or xs i [] ∷ []) (λ x h.
    elim (Contains-push_cases (take i xs) (get_or xs i []) x h) [
      | inl j ↦ All-contains P (take i xs) x all j
      | inr e ↦ subst P e p
    ])))
