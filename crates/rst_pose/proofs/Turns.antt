-- One more turn of the loops.
use Rattle.std.proofs.Common.{◌≡◌, ◌∙◌, ℕ, zero, suc, ◌+◌, ◌-◌, ◌<◌, ◌≤◌, ℤ, pos, Bool, true, false, if◌then◌else◌, List, [], ◌∷◌, ◌++◌, length, get_or, take, drop, refl, sym, ap, subst, arith, append-nil, append_assoc, add-one}
use Rattle.std.specs.Prelude.{slice_index_or}
use Rattle.std.specs.List.{AllByRecursion}
use Rattle.std.proofs.lemmas.List.{at_drop_more}
use Rattle.rst_value.specs.declared.tern.Tern.{Tern}
use Rattle.rst_value.specs.declared.tern.Tern.TheVariants.{Zero, One, Unknown}
use Rattle.rst_value.specs.Domains.{Content}
use Rattle.rst_gate.specs.Patterns.{free_of, free_count, free_bits}
use Rattle.rst_clause.specs.Literals.{opposite, IsLiteral}
use Rattle.rst_clause.proofs.Ranges.{IsLiteral-opposite}
use Rattle.rst_clause.specs.Results.{clause_results}
use Rattle.rst_pair.specs.declared.hop.Hop.{Hop}
use Rattle.rst_pair.specs.Hops.{cubes_of}
use Rattle.rst_pair.specs.Queries.{open_count}
use Rattle.rst_pair.specs.Sides.{Sides}
use Rattle.rst_pose.specs.declared.gate.Cycle.{Cycle}
use Rattle.rst_pose.specs.Posing.{framed_by}
use Rattle.rst_pose.specs.Posed.{Lits, Framed, framed, pattern_literals, free_literals, sharing_literals, cycle_literals, with_place, in_cube, in_cubes, with_none, in_none, outs_differ, each_false}

-- a literal, and the content behind it
abbrev pub Answer : Type 0
Answer = ℤ × Content

-- literals in front of others
abbrev pub behind : List ℤ → Lits → Lits
behind found rest = (found ++ rest.0, rest.1)

-- so many free bits are one and the others
pub free_more :
    (before n i : ℕ) (lits lits' : List ℤ) (z : ℤ) → i < n → z ≡ pos (before + i + 1) → lits' ≡ lits ++ z ∷ []
    → lits ++ free_literals (before + i) (n - i) ≡ lits' ++ free_literals (before + (i + 1)) (n - (i + 1))
free_more before n i lits lits' z below is e =
    let left : n - i ≡ suc (n - (i + 1)) = omega arith in
    let place : suc (before + i) ≡ before + (i + 1) = omega arith in
    let one : before + i + 1 ≡ suc (before + i) = omega arith in
    rw (e, append_assoc, is, one, left, place) refl

pub free_end : (before n i : ℕ) (lits : List ℤ) → n ≤ i → lits ++ free_literals (before + i) (n - i) ≡ lits
free_end before n i lits past =
    let none : n - i ≡ 0 = omega arith in rw none (append-nil lits)

-- a place of a cube, and the others
cube_step :
    (so_far : ℤ) (places : List Tern) (values : List ℤ) (content : Content) (i : ℕ) (d : Tern) (e : ℤ)
    → i < length places → length places ≡ length values
    → in_cube so_far (drop i places) (drop i values) content
    ≡ (let z = with_place so_far (get_or places i d) (get_or values i e) content in in_cube z.0 (drop (suc i) places) (drop (suc i) values) z.1)
cube_step so_far [] values content i d e below same = absurd (omega arith)
cube_step so_far (p ∷ places) [] content i d e below same = absurd (omega arith)
cube_step so_far (p ∷ places) (v ∷ values) content zero d e below same = refl
cube_step so_far (p ∷ places) (v ∷ values) content (suc i) d e below same =
    cube_step so_far places values content i d e (omega arith) (omega arith)

pub cube_more :
    (so_far z : ℤ) (places : List Tern) (values : List ℤ) (content content' : Content) (i : ℕ) (d : Tern) (e : ℤ)
    → i < length places → length places ≡ length values
    → with_place so_far (get_or places i d) (get_or values i e) content ≡ (z, content')
    → in_cube so_far (drop i places) (drop i values) content ≡ in_cube z (drop (i + 1) places) (drop (i + 1) values) content'
cube_more so_far z places values content content' i d e below same this =
    rw (add-one i) (cube_step so_far places values content i d e below same
    ∙ ap (λ (r : Answer). in_cube r.0 (drop (suc i) places) (drop (suc i) values) r.1) this)

pub cube_end :
    (so_far : ℤ) (places : List Tern) (values : List ℤ) (content : Content) (i : ℕ) → length places ≤ i
    → in_cube so_far (drop i places) (drop i values) content ≡ (so_far, content)
cube_end so_far [] values content zero past = refl
cube_end so_far [] values content (suc i) past = refl
cube_end so_far (p ∷ places) values content zero past = absurd (omega arith)
cube_end so_far (p ∷ places) [] content (suc i) past = none so_far (drop i places) content
  where
    none : (so_far : ℤ) (places : List Tern) (content : Content) → in_cube so_far places [] content ≡ (so_far, content)
    none so_far [] content = refl
    none so_far (p ∷ places) content = refl
cube_end so_far (p ∷ places) (v ∷ values) content (suc i) past = cube_end so_far places values content i (omega arith)

-- a cube, and the others
pub cubes_more :
    (high : ℤ) (hops : List Hop) (values : List ℤ) (content content' : Content) (i : ℕ) (hop : Hop) (found found' : List ℤ) (z : ℤ)
    → i < length hops → hop ≡ get_or hops i hop → in_cube high hop.cube values content ≡ (z, content') → found' ≡ found ++ z ∷ []
    → behind found (in_cubes high (cubes_of (drop i hops)) values content) ≡ behind found' (in_cubes high (cubes_of (drop (i + 1) hops)) values content')
cubes_more high hops values content content' i hop found found' z below is this e =
    let rest : Lits = in_cubes high (cubes_of (drop (i + 1) hops)) values content' in
    let one : in_cube high (get_or hops i hop).cube values content ≡ (z, content') = ap (λ (h : Hop). in_cube high h.cube values content) (sym is) ∙ this in
    let first : in_cubes high (cubes_of (drop i hops)) values content ≡ (z ∷ rest.0, rest.1) =
    at_drop_more (λ hs. in_cubes high (cubes_of hs) values content) hops i hop below
    ∙ ap (λ (r : Answer). let rest = in_cubes high (cubes_of (drop (i + 1) hops)) values r.1 in (r.0 ∷ rest.0, rest.1)) one in
    rw (e, append_assoc) (ap (behind found) first)

pub none_more :
    (high so_far z : ℤ) (hops : List Hop) (values : List ℤ) (content content' : Content) (i : ℕ) (hop : Hop)
    → i < length hops → hop ≡ get_or hops i hop → with_none high so_far hop.cube values content ≡ (z, content')
    → in_none high so_far (cubes_of (drop i hops)) values content ≡ in_none high z (cubes_of (drop (i + 1) hops)) values content'
none_more high so_far z hops values content content' i hop below is this =
    let one : with_none high so_far (get_or hops i hop).cube values content ≡ (z, content') =
    ap (λ (h : Hop). with_none high so_far h.cube values content) (sym is) ∙ this in
    at_drop_more (λ hs. in_none high so_far (cubes_of hs) values content) hops i hop below
    ∙ ap (λ (r : Answer). in_none high r.0 (cubes_of (drop (i + 1) hops)) values r.1) one

drop_all : {X : Type 0} (i : ℕ) (xs : List X) → length xs ≤ i → drop i xs ≡ []
drop_all zero [] past = refl
drop_all (suc i) [] past = refl
drop_all zero (x ∷ xs) past = absurd (omega arith)
drop_all (suc i) (x ∷ xs) past = drop_all i xs (omega arith)

pub cubes_end :
    (high : ℤ) (hops : List Hop) (values : List ℤ) (content : Content) (i : ℕ) (found : List ℤ) → length hops ≤ i
    → behind found (in_cubes high (cubes_of (drop i hops)) values content) ≡ (found, content)
cubes_end high hops values content i found past = rw (drop_all i hops past, append-nil found) refl

pub none_end :
    (high so_far : ℤ) (hops : List Hop) (values : List ℤ) (content : Content) (i : ℕ) → length hops ≤ i
    → in_none high so_far (cubes_of (drop i hops)) values content ≡ (so_far, content)
none_end high so_far hops values content i past = rw (drop_all i hops past) refl

-- two outputs, and the others
differ_step :
    (lefts rights : List ℤ) (content : Content) (i : ℕ) (d e : ℤ) → i < length lefts → length lefts ≡ length rights
    → outs_differ (drop i lefts) (drop i rights) content
    ≡ (let one = clause_results.differ content (get_or lefts i d) (get_or rights i e) in
    let rest = outs_differ (drop (suc i) lefts) (drop (suc i) rights) one.1 in (one.0 ∷ rest.0, rest.1))
differ_step [] rights content i d e below same = absurd (omega arith)
differ_step (l ∷ lefts) [] content i d e below same = absurd (omega arith)
differ_step (l ∷ lefts) (r ∷ rights) content zero d e below same = refl
differ_step (l ∷ lefts) (r ∷ rights) content (suc i) d e below same = differ_step lefts rights content i d e (omega arith) (omega arith)

pub differ_more :
    (lefts rights : List ℤ) (content content' : Content) (i : ℕ) (d e z : ℤ) (found found' : List ℤ)
    → i < length lefts → length lefts ≡ length rights
    → clause_results.differ content (get_or lefts i d) (get_or rights i e) ≡ (z, content') → found' ≡ found ++ z ∷ []
    → behind found (outs_differ (drop i lefts) (drop i rights) content) ≡ behind found' (outs_differ (drop (i + 1) lefts) (drop (i + 1) rights) content')
differ_more lefts rights content content' i d e z found found' below same this is =
    let rest : Lits = outs_differ (drop (suc i) lefts) (drop (suc i) rights) content' in
    let first : outs_differ (drop i lefts) (drop i rights) content ≡ (z ∷ rest.0, rest.1) =
    differ_step lefts rights content i d e below same
    ∙ ap (λ (r : Answer). let rest = outs_differ (drop (suc i) lefts) (drop (suc i) rights) r.1 in (r.0 ∷ rest.0, rest.1)) this in
    rw (is, append_assoc, add-one i) (ap (behind found) first)

pub differ_end :
    (lefts rights : List ℤ) (content : Content) (i : ℕ) (found : List ℤ) → length lefts ≤ i → length lefts ≡ length rights
    → behind found (outs_differ (drop i lefts) (drop i rights) content) ≡ (found, content)
differ_end lefts rights content i found past same = rw (drop_all i lefts past, append-nil found) refl

-- the inputs at a place, and the others
pub cycle_more :
    (low : ℤ) (places : List Tern) (i : ℕ) (d : Tern) (lits lits' : List ℤ) (z : ℤ) (last last' : ℕ)
    → i < length places → cycle_literals low (get_or places i d ∷ []) last ≡ z ∷ [] → last' ≡ last + free_of (get_or places i d)
    → lits' ≡ lits ++ z ∷ []
    → lits ++ cycle_literals low (drop i places) last ≡ lits' ++ cycle_literals low (drop (i + 1) places) last'
cycle_more low places i d lits lits' z last last' below this more e =
    rw (e, append_assoc)
    (ap (λ (r : List ℤ). lits ++ r) (at_drop_more (λ ps. cycle_literals low ps last) places i d below ∙ one (get_or places i d) this more))
  where
    one : (place : Tern) → cycle_literals low (place ∷ []) last ≡ z ∷ [] → last' ≡ last + free_of place
        → cycle_literals low (place ∷ drop (i + 1) places) last ≡ z ∷ cycle_literals low (drop (i + 1) places) last'
    one Zero t m = let same : last' ≡ last = omega (arith, m) in rw same (ap (λ (r : List ℤ). r ++ cycle_literals low (drop (i + 1) places) last) t)
    one One t m = let same : last' ≡ last = omega (arith, m) in rw same (ap (λ (r : List ℤ). r ++ cycle_literals low (drop (i + 1) places) last) t)
    one Unknown t m = let same : last' ≡ suc last = omega (arith, m) in rw same (ap (λ (r : List ℤ). r ++ cycle_literals low (drop (i + 1) places) (suc last)) t)

pub cycle_end : (low : ℤ) (places : List Tern) (i : ℕ) (lits : List ℤ) (last : ℕ) → length places ≤ i
    → lits ++ cycle_literals low (drop i places) last ≡ lits
cycle_end low places i lits last past = rw (drop_all i places past) (append-nil lits)

-- how many free bits there are up to a place
pub count_more : (places : List Tern) (i : ℕ) (d : Tern) → i < length places
    → free_count (drop i places) ≡ free_of (get_or places i d) + free_count (drop (i + 1) places)
count_more places i d below = at_drop_more free_count places i d below

pub bits_more : (pattern : List (List Tern)) (i : ℕ) (d : List Tern) → i < length pattern
    → free_bits (drop i pattern) ≡ free_count (get_or pattern i d) + free_bits (drop (i + 1) pattern)
bits_more pattern i d below = at_drop_more free_bits pattern i d below

pub few_free : (places : List Tern) → free_count places ≤ length places
few_free [] = omega arith
few_free (Zero ∷ places) = omega (arith, few_free places)
few_free (One ∷ places) = omega (arith, few_free places)
few_free (Unknown ∷ places) = omega (arith, few_free places)

-- one literal more is false
pub false_more : (lits : List ℤ) (i : ℕ) (d : ℤ) → i < length lits
    → each_false (take (i + 1) lits) ≡ each_false (take i lits) ++ (opposite (get_or lits i d) ∷ []) ∷ []
false_more [] i d below = absurd (omega arith)
false_more (z ∷ lits) zero d below = refl
false_more (z ∷ lits) (suc i) d below =
    let e : suc i + 1 ≡ suc (i + 1) = omega arith in
    rw e (ap (λ (r : List (List ℤ)). (opposite z ∷ []) ∷ r) (false_more lits i d (omega arith)))

drop_one : {X : Type 0} (i : ℕ) (xs : List X) → drop 1 (drop i xs) ≡ drop (i + 1) xs
drop_one i xs = rw (add-one i) (one i xs)
  where
    one : {X : Type 0} (i : ℕ) (xs : List X) → drop 1 (drop i xs) ≡ drop (suc i) xs
    one zero xs = refl
    one (suc i) [] = refl
    one (suc i) (x ∷ xs) = one i xs

first_dropped : {X : Type 0} (i : ℕ) (xs : List X) (d : X) → slice_index_or (drop i xs) 0 d ≡ slice_index_or xs i d
first_dropped zero xs d = refl
first_dropped (suc i) [] d = refl
first_dropped (suc i) (x ∷ xs) d = first_dropped i xs d

-- one more register of the right state
pub sharing_more :
    (n i : ℕ) (marks : List Bool) (left lits lits' : List ℤ) (last step : ℕ) (z : ℤ) → i < n
    → z ≡ (if slice_index_or marks i false then slice_index_or left i (pos 0) else pos (last + 1))
    → step ≡ (if slice_index_or marks i false then 0 else 1) → lits' ≡ lits ++ z ∷ []
    → lits ++ sharing_literals (n - i) (drop i marks) (drop i left) last
    ≡ lits' ++ sharing_literals (n - (i + 1)) (drop (i + 1) marks) (drop (i + 1) left) (last + step)
sharing_more n i marks left lits lits' last step z below is more e =
    let left_over : n - i ≡ suc (n - (i + 1)) = omega arith in
    rw (e, append_assoc, left_over, first_dropped i marks false, first_dropped i left (pos 0), drop_one i marks, drop_one i left)
    (by_mark (slice_index_or marks i false) is more)
  where
    by_mark : (b : Bool) → z ≡ (if b then slice_index_or left i (pos 0) else pos (last + 1)) → step ≡ (if b then 0 else 1)
        → lits ++ (if b then slice_index_or left i (pos 0) ∷ sharing_literals (n - (i + 1)) (drop (i + 1) marks) (drop (i + 1) left) last
        else pos (suc last) ∷ sharing_literals (n - (i + 1)) (drop (i + 1) marks) (drop (i + 1) left) (suc last))
        ≡ lits ++ (z ∷ sharing_literals (n - (i + 1)) (drop (i + 1) marks) (drop (i + 1) left) (last + step))
    by_mark true is more = let same : last + step ≡ last = omega (arith, more) in rw (is, same) refl
    by_mark false is more =
        let next : last + step ≡ suc last = omega (arith, more) in
        let one : last + 1 ≡ suc last = omega arith in
        rw (is, next, one) refl

pub open_more :
    (n i : ℕ) (marks : List Bool) (count step : ℕ) → i < n → step ≡ (if slice_index_or marks i false then 0 else 1)
    → count + open_count (n - i) (drop i marks) ≡ count + step + open_count (n - (i + 1)) (drop (i + 1) marks)
open_more n i marks count step below more =
    let left_over : n - i ≡ suc (n - (i + 1)) = omega arith in
    rw (left_over, first_dropped i marks false, drop_one i marks, ← more) (omega arith)

pub open_step : (n : ℕ) (b : Bool) → n ≡ (if b then 0 else 1) → n ≤ 1
open_step n true e = omega (arith, e)
open_step n false e = omega (arith, e)

pub count_end : (places : List Tern) (i : ℕ) → length places ≤ i → free_count (drop i places) ≡ 0
count_end places i past = rw (drop_all i places past) refl

pub bits_end : (pattern : List (List Tern)) (i : ℕ) → length pattern ≤ i → free_bits (drop i pattern) ≡ 0
bits_end pattern i past = rw (drop_all i pattern past) refl

first_same : (a z : ℤ) → ◌≡◌ {A = List ℤ} (a ∷ []) (z ∷ []) → a ≡ z
first_same a z e = ap (λ (zs : List ℤ). get_or zs 0 a) e

-- the literal of an input is in range where the false literal and the last free bit are
pub place_in_range :
    (n : ℕ) (low : ℤ) (place : Tern) (last : ℕ) (z : ℤ) → last + free_of place ≤ n → IsLiteral n low
    → cycle_literals low (place ∷ []) last ≡ z ∷ [] → IsLiteral n z
place_in_range n low Zero last z most isl e = subst (IsLiteral n) (first_same low z e) isl
place_in_range n low One last z most isl e = subst (IsLiteral n) (first_same (opposite low) z e) (IsLiteral-opposite n low isl)
place_in_range n low Unknown last z most isl e =
    subst (IsLiteral n) (first_same (pos (suc last)) z e) (omega arith, omega (arith, most))

-- a cycle of a pattern is as wide as the inputs
pub pattern_place :
    (n : ℕ) (pattern : List (List Tern)) (i : ℕ) (d : List Tern) → AllByRecursion (λ places. length places ≡ n) pattern → i < length pattern
    → length (get_or pattern i d) ≡ n
pattern_place n [] i d h below = absurd (omega arith)
pattern_place n (p ∷ pattern) zero d h below = h.0
pattern_place n (p ∷ pattern) (suc i) d h below = pattern_place n pattern i d h.1 (omega arith)

-- one cycle of a pattern, and the others
pub pattern_more :
    (p : Sides) (low : ℤ) (pattern : List (List Tern)) (i : ℕ) (d : List Tern) (before : ℕ) (left right : List ℤ) (content content' : Content)
    (cycle : Cycle) (more : ℕ)
    → i < length pattern → framed p (cycle_literals low (get_or pattern i d) before) left right content ≡ framed_by cycle content'
    → more ≡ free_count (get_or pattern i d)
    → pattern_literals p low (drop i pattern) before left right content
    ≡ pattern_literals p low (drop (i + 1) pattern) (before + more) cycle.left.nexts cycle.right.nexts content'
pattern_more p low pattern i d before left right content content' cycle more below this e =
    rw e
    (at_drop_more (λ ps. pattern_literals p low ps before left right content) pattern i d below
    ∙ ap (λ (f : Framed). pattern_literals p low (drop (i + 1) pattern) (before + free_count (get_or pattern i d)) f.left_nexts f.right_nexts f.behind) this)

pub pattern_end :
    (p : Sides) (low : ℤ) (pattern : List (List Tern)) (i : ℕ) (before : ℕ) (left right : List ℤ) (content : Content) → length pattern ≤ i
    → pattern_literals p low (drop i pattern) before left right content ≡ (left ++ right, content)
pattern_end p low pattern i before left right content past = rw (drop_all i pattern past) refl
