-- The lines of the log, and the paths beside the decisions.
use Rattle.std.proofs.Common.{◌≡◌, ℕ, suc, ◌+◌, ◌-◌, ◌^◌, ◌<◌, ◌≤◌, ◌⊎◌, inl, inr, ℤ, Bool, true, false, List, [], ◌∷◌, ◌++◌, length, take, get_or, refl, sym, ◌∙◌, subst, ap, arith, length-append}
use Rattle.std.specs.List.{Contains, All}
use Rattle.std.proofs.Math.ListN.{get_or-append}
use Rattle.std.proofs.Math.Nat.{eq-or-lt_of_le}
use Rattle.std.proofs.Math.Seq.{take-suc, take-append_seam, get_or-append_seam}
use Rattle.std.proofs.lemmas.List.{take-append-le, map-append, length-reverse, get_or-reverse}
use mathlib.Core.List.{reverse}
use Rattle.std.proofs.lemmas.List.Elements.{Contains-push_cases, Contains-append_left, Contains-append_right, Contains-append_cases}
use Rattle.rst_value.specs.declared.tern.Tern.{Tern}
use Rattle.rst_clause.specs.Literals.{opposite, literal_holds, IsLiteral, AreLiterals, AreClauses}
use Rattle.rst_clause.specs.Propagation.{Derived, Closes, units, units_against, Follows}
use Rattle.rst_clause.specs.Propagation.Derived.{unit}
use Rattle.rst_clause.specs.Extension.{literal_of}
use Rattle.rst_clause.specs.Paths.{AreDisjoint, IsPath, AreApart, ArePaths}
use Rattle.rst_clause.proofs.Members.{Contains-nil, Contains-first, Contains-later, Contains-one, Contains-cons_cases, Contains-map, Contains-from_map, opposite-opposite, not_both}
use Rattle.rst_clause.proofs.Extending.{AreAmong, derived_more}
use Rattle.rst_clause.proofs.Ranges.{All-from_members}
use Rattle.rst_solve.specs.Choices.{AreSome}
use Rattle.rst_solve.specs.Tree.{decided, decisions, denied, low, IsPlace}
use Rattle.rst_solve.specs.Records.{IsLog, HasLines, HasAll, Leaves}
use Rattle.rst_solve.specs.declared.levels.Level.{Level}

-- a clause that denies literals, against which all of them stand
against_denied : (ds : List ℤ) → units_against (denied ds) ≡ units ds
against_denied [] = refl
against_denied (d ∷ ds) = ap (λ z. (z ∷ []) ∷ units_against (denied ds)) (opposite-opposite d) ∙ ap (λ z. (d ∷ []) ∷ z) (against_denied ds)

closes_more : (xs ys : List (List ℤ)) → AreAmong xs ys → Closes xs → Closes ys
closes_more xs ys among c = (c.0, among c.0 c.1, λ k kin. derived_more xs ys among (opposite k) (c.2 k kin))

-- the line of a conflict follows
pub leaf_follows : (cs log : List (List ℤ)) (ds : List ℤ) → Closes (units ds ++ cs) → Follows (cs ++ log) (denied ds)
leaf_follows cs log ds c =
    subst (λ z. Closes (z ++ (cs ++ log))) (sym (against_denied ds)) (closes_more (units ds ++ cs) (units ds ++ (cs ++ log)) (λ d h.
    elim (Contains-append_cases (units ds) cs d h) [
      | inl i ↦ Contains-append_left (units ds) (cs ++ log) d i
      | inr i ↦ Contains-append_right (units ds) (cs ++ log) d (Contains-append_left cs log d i)
    ]) c)

given : (ds : List ℤ) (cs : List (List ℤ)) (d : ℤ) → Contains ds d → Derived (units ds ++ cs) d
given ds cs d h = unit (d ∷ []) d (Contains-append_left (units ds) cs (d ∷ []) (Contains-map (λ l. l ∷ []) ds d h)) (Contains-first d [])
    (λ k kin ne. absurd (ne (sym (Contains-one d k kin))))

denied_given : (ds : List ℤ) (cs : List (List ℤ)) (k : ℤ) → Contains (denied ds) k → Derived (units ds ++ cs) (opposite k)
denied_given ds cs k h =
    let r : (d : ℤ) × Contains ds d × (k ≡ opposite d) = Contains-from_map opposite ds k h in
    subst (λ z. Derived (units ds ++ cs) z) (sym (ap opposite r.2 ∙ opposite-opposite r.0)) (given ds cs r.0 r.1)

-- the line of both values of a bit follows from the lines of each
pub both_follow : (cs log : List (List ℤ)) (d : ℤ) (ds : List ℤ) → Contains log (denied (opposite d ∷ ds)) → Contains log (denied (d ∷ ds)) → Follows (cs ++ log) (denied ds)
both_follow cs log d ds first second =
    let all = units ds ++ (cs ++ log) in
    let one : Derived all d = unit (denied (opposite d ∷ ds)) d (Contains-append_right (units ds) (cs ++ log) (denied (opposite d ∷ ds)) (Contains-append_right cs log (denied (opposite d ∷ ds)) first))
    (subst (λ z. Contains (z ∷ denied ds) d) (sym (opposite-opposite d)) (Contains-first d (denied ds)))
    (λ k kin ne. elim (Contains-cons_cases (opposite (opposite d)) (denied ds) k kin) [
      | inl e ↦ absurd (ne (sym e ∙ opposite-opposite d))
      | inr i ↦ denied_given ds (cs ++ log) k i
    ]) in
    subst (λ z. Closes (z ++ (cs ++ log))) (sym (against_denied ds)) (
      denied (d ∷ ds),
      Contains-append_right (units ds) (cs ++ log) (denied (d ∷ ds)) (Contains-append_right cs log (denied (d ∷ ds)) second),
      λ k kin. elim (Contains-cons_cases (opposite d) (denied ds) k kin) [
        | inl e ↦ subst (λ z. Derived all z) (sym (ap opposite (sym e) ∙ opposite-opposite d)) one
        | inr i ↦ denied_given ds (cs ++ log) k i
      ],
    )

-- the lines' literals are in range
literal_in_range : (vars : ℕ) (bit : ℕ) (b : Bool) → bit < vars → IsLiteral vars (literal_of b bit)
literal_in_range vars bit true lt = (omega arith, omega arith)
literal_in_range vars bit false lt = (omega arith, omega arith)

denied_literal : (vars : ℕ) (bit : ℕ) (b : Bool) → bit < vars → IsLiteral vars (opposite (literal_of b bit))
denied_literal vars bit true lt = (omega arith, omega arith)
denied_literal vars bit false lt = (omega arith, omega arith)

pub denied_in_range : (free vars : ℕ) (cs : List (List ℤ)) (ls : List Level) (lits : List ℤ) → free < vars → IsPlace free cs ls lits → AreLiterals vars (denied (decisions ls))
denied_in_range free vars cs ls lits below p = All-from_members (IsLiteral vars) (denied (decisions ls)) (members ls lits p)
  where
    members : (ls : List Level) (lits : List ℤ) → IsPlace free cs ls lits → (k : ℤ) → Contains (denied (decisions ls)) k → IsLiteral vars k
    members [] lits p k h = absurd (Contains-nil k h)
    members (l ∷ ls) lits p k h = elim (Contains-cons_cases (opposite (decided l)) (denied (decisions ls)) k h) [
      | inl e ↦ subst (λ z. IsLiteral vars z) e (denied_literal vars l.bit l.value (let lt : l.bit < free = p.1.bit in omega arith))
      | inr i ↦ members ls (take l.floor lits) p.2 k i
    ]

pub bits_fit : (free vars : ℕ) (cs : List (List ℤ)) (ls : List Level) (lits : List ℤ) → free < vars → vars < 2 ^ 31 → IsPlace free cs ls lits → All (λ l. l.bit < 2 ^ 31 - 1) ls
bits_fit free vars cs ls lits below few p = All-from_members (λ l. l.bit < 2 ^ 31 - 1) ls (members ls lits p)
  where
    members : (ls : List Level) (lits : List ℤ) → IsPlace free cs ls lits → (x : Level) → Contains ls x → x.bit < 2 ^ 31 - 1
    members [] lits p x h = absurd (Contains-nil x h)
    members (l ∷ ls) lits p x h = elim (Contains-cons_cases l ls x h) [
      | inl e ↦ subst (λ z. z.bit < 2 ^ 31 - 1) e (let lt : l.bit < free = p.1.bit in omega arith)
      | inr i ↦ members ls (take l.floor lits) p.2 x i
    ]

-- one more line
pub log_push : (vars : ℕ) (cs log : List (List ℤ)) (c : List ℤ) → IsLog vars cs log → AreLiterals vars c → Follows (cs ++ log) c → IsLog vars cs (log ++ c ∷ [])
log_push vars cs log c l ok f =
    let len : length (log ++ c ∷ []) ≡ length log + 1 = length-append log (c ∷ []) in
    record {
      in_range = All-from_members (AreLiterals vars) (log ++ c ∷ []) (λ x h. elim (Contains-push_cases log c x h) [
        | inl i ↦ member log x l.in_range i
        | inr e ↦ subst (λ z. AreLiterals vars z) e ok
      ]);
      follows = λ i lt.
          let le : i ≤ length log = omega arith in
          elim (eq-or-lt_of_le le) [
            | inl e ↦ subst (λ n. Follows (cs ++ take n (log ++ c ∷ [])) (get_or (log ++ c ∷ []) n [])) (sym e)
                (subst (λ z. Follows (cs ++ z) (get_or (log ++ c ∷ []) (length log) [])) (sym (take-append_seam log (c ∷ [])))
                (subst (λ z. Follows (cs ++ log) z) (sym (get_or-append_seam log c [] [])) f))
            | inr b ↦ subst (λ z. Follows (cs ++ z) (get_or (log ++ c ∷ []) i [])) (sym (take-append-le i log (c ∷ []) le))
                (subst (λ z. Follows (cs ++ take i log) z) (sym (get_or-append log (c ∷ []) [] i b)) (l.follows i b))
          ];
    }
  where
    member : (xs : List (List ℤ)) (x : List ℤ) → AreClauses vars xs → Contains xs x → AreLiterals vars x
    member xs x ok (i, lt, e) = subst (λ z. AreLiterals vars z) e (ok i x lt)

pub some_push : (log : List (List ℤ)) (d : ℤ) (ds : List ℤ) → AreSome log → AreSome (log ++ denied (d ∷ ds) ∷ [])
some_push log d ds s c h e = elim (Contains-push_cases log (denied (d ∷ ds)) c h) [
  | inl i ↦ s c i e
  | inr m ↦ let bad : denied (d ∷ ds) ≡ [] = m ∙ e in absurd (cc)
]

pub lines_more : (log new : List (List ℤ)) (ls : List Level) → ((c : List ℤ) → Contains log c → Contains new c) → HasLines log ls → HasLines new ls
lines_more log new [] h l = tt
lines_more log new (x ∷ ls) h l = (λ e. h (denied (low x ∷ decisions ls)) (l.0 e), lines_more log new ls h l.1)

-- the two literals of a bit
pub both_values : (l : Level) → l.value ≡ true → low l ≡ opposite (decided l)
both_values l e = sym (ap (λ b. opposite (literal_of b l.bit)) e)

pub first_value : (l : Level) → l.value ≡ false → low l ≡ decided l
first_value l e = sym (ap (λ b. literal_of b l.bit) e)

-- a path that leaves the decisions does not meet a path that has them
pub leaves_apart : (ls : List Level) (q p : List Tern) → Leaves ls q → HasAll p (decisions ls) → AreDisjoint q p
leaves_apart [] q p h all v lq lp = h
leaves_apart (l ∷ ls) q p (inl h) all v lq lp =
    let here : literal_holds v (low l) ≡ true = lq (low l) (h.1 (low l) (Contains-first (low l) (decisions ls))) in
    let there : literal_holds v (decided l) ≡ true = lp (decided l) (all (decided l) (Contains-first (decided l) (decisions ls))) in
    not_both v (decided l) there (subst (λ z. literal_holds v z ≡ true) (both_values l h.0) here)
leaves_apart (l ∷ ls) q p (inr h) all v lq lp = leaves_apart ls q p h (λ k i. all k (Contains-later (decided l) (decisions ls) k i)) v lq lp

-- a decision taken back
pub leaves_back : (l : Level) (ls : List Level) (q : List Tern) → Leaves (l ∷ ls) q ⊎ HasAll q (decisions (l ∷ ls)) → Leaves ls q ⊎ HasAll q (decisions ls)
leaves_back l ls q (inl (inl h)) = inr (λ k i. h.1 k (Contains-later (low l) (decisions ls) k i))
leaves_back l ls q (inl (inr h)) = inl h
leaves_back l ls q (inr h) = inr (λ k i. h k (Contains-later (decided l) (decisions ls) k i))

-- its second value
pub leaves_turn : (l l' : Level) (ls : List Level) (q : List Tern) → l.value ≡ false → l'.value ≡ true → l'.bit ≡ l.bit → Leaves (l ∷ ls) q ⊎ HasAll q (decisions (l ∷ ls)) → Leaves (l' ∷ ls) q
leaves_turn l l' ls q is_low is_high same (inl (inl h)) = absurd (let bad : true ≡ false = sym h.0 ∙ is_low in cc)
leaves_turn l l' ls q is_low is_high same (inl (inr h)) = inr h
leaves_turn l l' ls q is_low is_high same (inr h) = inl (is_high, subst (λ z. HasAll q (z ∷ decisions ls)) (sym (first_value l is_low) ∙ ap (λ n. literal_of false n) (sym same)) h)

-- one more path
pub apart_push : (ps : List (List Tern)) (p : List Tern) → AreApart ps → ((i : ℕ) → i < length ps → AreDisjoint (get_or ps i []) p) → AreApart (ps ++ p ∷ [])
apart_push ps p are apart i j ij lt =
    let len : length (ps ++ p ∷ []) ≡ length ps + 1 = length-append ps (p ∷ []) in
    let le : j ≤ length ps = omega arith in
    elim (eq-or-lt_of_le le) [
      | inl e ↦
          let b : i < length ps = omega arith in
          subst (λ n. AreDisjoint (get_or (ps ++ p ∷ []) i []) (get_or (ps ++ p ∷ []) n [])) (sym e)
          (subst (λ z. AreDisjoint (get_or (ps ++ p ∷ []) i []) z) (sym (get_or-append_seam ps p [] []))
          (subst (λ z. AreDisjoint z p) (sym (get_or-append ps (p ∷ []) [] i b)) (apart i b)))
      | inr b ↦
          let bi : i < length ps = omega arith in
          subst (λ z. AreDisjoint z (get_or (ps ++ p ∷ []) j [])) (sym (get_or-append ps (p ∷ []) [] i bi))
          (subst (λ z. AreDisjoint (get_or ps i []) z) (sym (get_or-append ps (p ∷ []) [] j b)) (are i j ij b))
    ]

pub paths_push : (free : ℕ) (cs : List (List ℤ)) (ps : List (List Tern)) (p : List Tern) → ArePaths free cs ps → IsPath free cs p
    → ((i : ℕ) → i < length ps → AreDisjoint (get_or ps i []) p) → ArePaths free cs (ps ++ p ∷ [])
paths_push free cs ps p are is apart =
    let len : length (ps ++ p ∷ []) ≡ length ps + 1 = length-append ps (p ∷ []) in
    record {
      each = λ i lt.
          let le : i ≤ length ps = omega arith in
          elim (eq-or-lt_of_le le) [
            | inl e ↦ subst (λ n. IsPath free cs (get_or (ps ++ p ∷ []) n [])) (sym e) (subst (λ z. IsPath free cs z) (sym (get_or-append_seam ps p [] [])) is)
            | inr b ↦ subst (λ z. IsPath free cs z) (sym (get_or-append ps (p ∷ []) [] i b)) (are.each i b)
          ];
      apart = apart_push ps p are.apart apart;
    }

-- one more denied decision of a stack
pub denied_more : (xs : List Level) (i : ℕ) (l : Level) (k : ℤ) (clause new : List ℤ) → i < length xs → l ≡ get_or xs (length xs - 1 - i) l → k ≡ opposite (decided l)
    → clause ≡ denied (decisions (take i (reverse xs))) → new ≡ clause ++ k ∷ [] → new ≡ denied (decisions (take (i + 1) (reverse xs)))
denied_more xs i l k clause new lt at is so_far more =
    let n : i + 1 ≡ suc i = omega arith in
    let inside : i < length (reverse xs) = subst (λ m. i < m) (sym (length-reverse xs)) lt in
    let here : get_or (reverse xs) i l ≡ l = get_or-reverse xs i l lt ∙ sym at in
    let longer : take (i + 1) (reverse xs) ≡ take i (reverse xs) ++ l ∷ [] =
    ap (λ m. take m (reverse xs)) n ∙ take-suc (reverse xs) i l inside ∙ ap (λ z. take i (reverse xs) ++ z ∷ []) here in
    let split : denied (decisions (take i (reverse xs) ++ l ∷ [])) ≡ denied (decisions (take i (reverse xs))) ++ opposite (decided l) ∷ [] =
    ap denied (map-append decided (take i (reverse xs)) (l ∷ [])) ∙ map-append opposite (decisions (take i (reverse xs))) (decided l ∷ []) in
    more ∙ ap (λ z. clause ++ z ∷ []) is ∙ ap (λ z. z ++ opposite (decided l) ∷ []) so_far ∙ sym split ∙ ap (λ z. denied (decisions z)) (sym longer)
