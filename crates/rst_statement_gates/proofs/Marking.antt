-- Marks of the bits that statements set.
use Rattle.std.proofs.Common.{◌≡◌, ◌≢◌, ◌∙◌, ◌⊎◌, ℕ, zero, suc, ◌+◌, ◌<◌, ◌≤◌, Bool, true, false, not, ◌&&◌, ◌||◌, cond, nat_eq, nat_lt, eqb, ltb, List, [], ◌∷◌, ◌++◌, length, map, get_or, set, take, drop, refl, sym, ap, subst, arith, inl, inr}
use Rattle.std.specs.List.{insert, list_any}
use Rattle.std.specs.Int.RustNames.{bit_or}
use Rattle.std.specs.declared.vec.Vec.{Vec}
use Rattle.std.specs.declared.alloc.Global.{Global}
use Rattle.std.proofs.lemmas.Bool.{lt-ltb, le-ltb, cases_lt, eq-eqb, ne_eqb, cond_both}
use Rattle.std.proofs.lemmas.Bool.Decides.{eqb_tells}
use Rattle.std.proofs.lemmas.List.{map-append, length-map, length-append}
use Rattle.rst_net.specs.declared.signal.Slice.{Slice}
use Rattle.rst_net.specs.Statements.{Statement, Statements, Arms, Default, Block, If, Case, Set, Empty, end, more, no_arm, arm, no_default, default}
use Rattle.rst_cycle.specs.Bits.{has_bit}
use Rattle.rst_cycle.specs.Drivers.{slice_has, target_has, sets, all_set, arms_set, default_sets}
use Rattle.rst_statement_gates.specs.declared.marks.Mark.{Mark}
use Rattle.rst_statement_gates.specs.Marks.{mark_of, signal_at, IsPlace, AreMarks, slice_mask, is_marked, Ascend, with_mark, mark_slice, mark_target, mark_statement, mark_all, mark_arms, mark_default, arm_marks, chain_marks}
use Rattle.rst_statement_gates.proofs.Bits.{either_bit, slice_bits}

ltb_tells : (a b : ℕ) → ((ltb a b ≡ true) × (a < b)) ⊎ ((ltb a b ≡ false) × (b ≤ a))
ltb_tells a b = elim (cases_lt a b) [ inl h ↦ inl (lt-ltb a b h, h) | inr h ↦ inr (le-ltb a b h, h) ]

at_least : (n count : ℕ) (marks : List Mark) (k : ℕ) → Ascend n count marks → k < length marks → n ≤ signal_at marks k
at_least n count [] k h l = absurd (omega arith)
at_least n count (m ∷ marks) zero h l = h.0
at_least n count (m ∷ marks) (suc k) h l = let up = at_least (suc m.signal) count marks k h.2 (omega arith) in let first = h.0 in omega (arith, up, first)

-- later marks are those of later signals
rises_from : (n count : ℕ) (marks : List Mark) (j k : ℕ) → Ascend n count marks → j ≤ k → k < length marks → signal_at marks j ≤ signal_at marks k
rises_from n count [] j k h p l = absurd (omega arith)
rises_from n count (m ∷ marks) zero zero h p l = omega arith
rises_from n count (m ∷ marks) zero (suc k) h p l = let up = at_least (suc m.signal) count marks k h.2 (omega arith) in omega (arith, up)
rises_from n count (m ∷ marks) (suc j) zero h p l = absurd (omega arith)
rises_from n count (m ∷ marks) (suc j) (suc k) h p l = rises_from (suc m.signal) count marks j k h.2 (omega arith) (omega arith)

pub rises : (count : ℕ) (marks : List Mark) (j k : ℕ) → Ascend 0 count marks → j ≤ k → k < length marks → signal_at marks j ≤ signal_at marks k
rises count marks j k h p l = rises_from 0 count marks j k h p l

inside_from : (n count : ℕ) (marks : List Mark) (k : ℕ) (d : Mark) → Ascend n count marks → k < length marks → (get_or marks k d).signal < count
inside_from n count [] k d h l = absurd (omega arith)
inside_from n count (m ∷ marks) zero d h l = h.1
inside_from n count (m ∷ marks) (suc k) d h l = inside_from (suc m.signal) count marks k d h.2 (omega arith)

pub inside : (count : ℕ) (marks : List Mark) (k : ℕ) (d : Mark) → Ascend 0 count marks → k < length marks → (get_or marks k d).signal < count
inside count marks k d h l = inside_from 0 count marks k d h l

-- the search for a place
pub below_more : (count : ℕ) (marks : List Mark) (i middle : ℕ) → Ascend 0 count marks → middle < length marks → signal_at marks middle < i → (k : ℕ) → k < middle + 1 → signal_at marks k < i
below_more count marks i middle h l less k b = let up = rises count marks k middle h (omega arith) l in omega (arith, up, less)

pub above_more : (count : ℕ) (marks : List Mark) (i middle : ℕ) → Ascend 0 count marks → i ≤ signal_at marks middle → (k : ℕ) → middle ≤ k → k < length marks → i ≤ signal_at marks k
above_more count marks i middle h less k b l = let up = rises count marks middle k h b l in omega (arith, up, less)

pub read_signal : (marks : List Mark) (k : ℕ) (m : Mark) → k < length marks → m ≡ get_or marks k m → m.signal ≡ signal_at marks k
read_signal [] k m h e = absurd (omega arith)
read_signal (n ∷ marks) zero m h e = ap (λ (z : Mark). z.signal) e
read_signal (n ∷ marks) (suc k) m h e = read_signal marks k m (omega arith) e

-- a mark put into its place
later_below : (m : Mark) (marks : List Mark) (i k : ℕ) → IsPlace (m ∷ marks) i (suc k) → IsPlace marks i k
later_below m marks i k h = record {
  within = let w = h.within in omega (arith, w);
  below = λ j l. h.below (suc j) (omega arith);
  above = λ j l b. h.above (suc j) (omega arith) (omega arith);
}

passed : (m : Mark) (marks : List Mark) (i mask : ℕ) → m.signal < i → with_mark (m ∷ marks) i mask ≡ m ∷ with_mark marks i mask
passed m marks i mask h =
    ap (λ b. cond b (mark_of i mask ∷ m ∷ marks) (cond (nat_eq i m.signal) (mark_of i (bit_or m.mask mask) ∷ marks) (m ∷ with_mark marks i mask))) (le-ltb i m.signal (omega arith))
    ∙ ap (λ b. cond b (mark_of i (bit_or m.mask mask) ∷ marks) (m ∷ with_mark marks i mask)) (ne_eqb i m.signal (λ e. omega arith))

pub inserted : (marks : List Mark) (i mask k : ℕ) → IsPlace marks i k → (k < length marks → signal_at marks k ≢ i) → insert marks k (mark_of i mask) ≡ with_mark marks i mask
inserted [] i mask zero h other = refl
inserted [] i mask (suc k) h other = let w = h.within in absurd (omega (arith, w))
inserted (m ∷ marks) i mask zero h other =
    let up = h.above 0 (omega arith) (omega arith) in
    let no = other (omega arith) in
    let less : i < m.signal = omega (arith, up, no) in
    sym (ap (λ b. cond b (mark_of i mask ∷ m ∷ marks) (cond (nat_eq i m.signal) (mark_of i (bit_or m.mask mask) ∷ marks) (m ∷ with_mark marks i mask))) (lt-ltb i m.signal less))
inserted (m ∷ marks) i mask (suc k) h other =
    let less : m.signal < i = h.below 0 (omega arith) in
    ap (λ (ms : List Mark). m ∷ ms) (inserted marks i mask k (later_below m marks i k h) (λ l. other (omega arith))) ∙ sym (passed m marks i mask less)

pub widened : (marks : List Mark) (i mask k : ℕ) (m : Mark) → IsPlace marks i k → k < length marks → m ≡ get_or marks k m → m.signal ≡ i → set marks k (mark_of i (bit_or m.mask mask)) ≡ with_mark marks i mask
widened [] i mask k m h l e is = absurd (omega arith)
widened (n ∷ marks) i mask zero m h l e is =
    let same : i ≡ n.signal = sym is ∙ ap (λ (z : Mark). z.signal) e in
    ap (λ (z : Mark). mark_of i (bit_or z.mask mask) ∷ marks) e
    ∙ sym (ap (λ b. cond b (mark_of i mask ∷ n ∷ marks) (cond (nat_eq i n.signal) (mark_of i (bit_or n.mask mask) ∷ marks) (n ∷ with_mark marks i mask))) (le-ltb i n.signal (omega arith))
    ∙ ap (λ b. cond b (mark_of i (bit_or n.mask mask) ∷ marks) (n ∷ with_mark marks i mask)) (eq-eqb i n.signal same))
widened (n ∷ marks) i mask (suc k) m h l e is =
    let less : n.signal < i = h.below 0 (omega arith) in
    ap (λ (ms : List Mark). n ∷ ms) (widened marks i mask k m (later_below n marks i k h) (omega arith) e is) ∙ sym (passed n marks i mask less)

-- what is marked then
ascends_with : (n count : ℕ) (marks : List Mark) (i mask : ℕ) → n ≤ i → i < count → Ascend n count marks → Ascend n count (with_mark marks i mask)
ascends_with n count [] i mask p q h = (p, q, tt)
ascends_with n count (m ∷ marks) i mask p q h =
    elim (ltb_tells i m.signal) [
      | inl t ↦ subst (λ b. Ascend n count (cond b (mark_of i mask ∷ m ∷ marks) (cond (nat_eq i m.signal) (mark_of i (bit_or m.mask mask) ∷ marks) (m ∷ with_mark marks i mask)))) (sym t.0)
          (p, q, (let l = t.1 in omega (arith, l), h.1, h.2))
      | inr t ↦ subst (λ b. Ascend n count (cond b (mark_of i mask ∷ m ∷ marks) (cond (nat_eq i m.signal) (mark_of i (bit_or m.mask mask) ∷ marks) (m ∷ with_mark marks i mask)))) (sym t.0)
          (elim (eqb_tells i m.signal) as (λ _. Ascend n count (cond (nat_eq i m.signal) (mark_of i (bit_or m.mask mask) ∷ marks) (m ∷ with_mark marks i mask))) [
            | inl s ↦ subst (λ b. Ascend n count (cond b (mark_of i (bit_or m.mask mask) ∷ marks) (m ∷ with_mark marks i mask))) (sym s.0) (p, q, subst (λ z. Ascend (suc z) count marks) (sym s.1) h.2)
            | inr s ↦ subst (λ b. Ascend n count (cond b (mark_of i (bit_or m.mask mask) ∷ marks) (m ∷ with_mark marks i mask))) (sym s.0)
                (h.0, h.1, ascends_with (suc m.signal) count marks i mask (let l = t.1 in let e = s.1 in omega (arith, l, e)) q h.2)
          ])
    ]

swap_or : (a b c : Bool) → (a || (b || c)) ≡ ((b || c) || a)
swap_or true true c = refl
swap_or true false true = refl
swap_or true false false = refl
swap_or false true c = refl
swap_or false false true = refl
swap_or false false false = refl

both_masks : (here a b rest : Bool) → (here && (a || b) || rest) ≡ ((here && a || rest) || here && b)
both_masks true true b rest = refl
both_masks true false true true = refl
both_masks true false true false = refl
both_masks true false false true = refl
both_masks true false false false = refl
both_masks false a b true = refl
both_masks false a b false = refl

or_assoc : (a b c : Bool) → ((a || b) || c) ≡ (a || (b || c))
or_assoc true b c = refl
or_assoc false b c = refl

pub marked_with : (marks : List Mark) (i mask j place : ℕ) → is_marked (with_mark marks i mask) j place ≡ (is_marked marks j place || nat_eq j i && has_bit mask place)
marked_with [] i mask j place = or_false (nat_eq j i && has_bit mask place)
  where
    or_false : (a : Bool) → (a || false) ≡ a
    or_false true = refl
    or_false false = refl
marked_with (m ∷ marks) i mask j place =
    elim (ltb_tells i m.signal) [
      | inl t ↦ ap (λ b. is_marked (cond b (mark_of i mask ∷ m ∷ marks) (cond (nat_eq i m.signal) (mark_of i (bit_or m.mask mask) ∷ marks) (m ∷ with_mark marks i mask))) j place) t.0
          ∙ swap_or (nat_eq j i && has_bit mask place) (nat_eq j m.signal && has_bit m.mask place) (is_marked marks j place)
      | inr t ↦ ap (λ b. is_marked (cond b (mark_of i mask ∷ m ∷ marks) (cond (nat_eq i m.signal) (mark_of i (bit_or m.mask mask) ∷ marks) (m ∷ with_mark marks i mask))) j place) t.0
          ∙ elim (eqb_tells i m.signal) as (λ _. is_marked (cond (nat_eq i m.signal) (mark_of i (bit_or m.mask mask) ∷ marks) (m ∷ with_mark marks i mask)) j place
          ≡ ((nat_eq j m.signal && has_bit m.mask place || is_marked marks j place) || nat_eq j i && has_bit mask place)) [
            | inl s ↦ ap (λ b. is_marked (cond b (mark_of i (bit_or m.mask mask) ∷ marks) (m ∷ with_mark marks i mask)) j place) s.0
                ∙ (ap (λ b. nat_eq j i && b || is_marked marks j place) (either_bit m.mask mask place)
                ∙ (both_masks (nat_eq j i) (has_bit m.mask place) (has_bit mask place) (is_marked marks j place)
                ∙ ap (λ z. (nat_eq j z && has_bit m.mask place || is_marked marks j place) || nat_eq j i && has_bit mask place) s.1))
            | inr s ↦ ap (λ b. is_marked (cond b (mark_of i (bit_or m.mask mask) ∷ marks) (m ∷ with_mark marks i mask)) j place) s.0
                ∙ (ap (λ b. nat_eq j m.signal && has_bit m.mask place || b) (marked_with marks i mask j place)
                ∙ sym (or_assoc (nat_eq j m.signal && has_bit m.mask place) (is_marked marks j place) (nat_eq j i && has_bit mask place)))
          ]
    ]

pub no_marks : (count : ℕ) → AreMarks count (λ i place. false) []
no_marks count = record { ascend = tt; same = λ i place h k. refl }

pub alike : (count : ℕ) (which other : ℕ → ℕ → Bool) (marks : List Mark) → ((i place : ℕ) → which i place ≡ other i place) → AreMarks count which marks → AreMarks count other marks
alike count which other marks e h = record { ascend = h.ascend; same = λ i place p q. h.same i place p q ∙ e i place }

pub slice_ascends : (count : ℕ) (marks : List Mark) (slice : Slice) → slice.signal < count → Ascend 0 count marks → Ascend 0 count (with_mark marks slice.signal (slice_mask slice))
slice_ascends count marks slice l h = ascends_with 0 count marks slice.signal (slice_mask slice) (omega arith) l h

and_false : (a b : Bool) → a ≡ false → (a && b) ≡ false
and_false true b h = cc
and_false false b h = refl

or_none : (a b : Bool) → b ≡ false → a ≡ (a || b)
or_none true b h = refl
or_none false b h = sym h

slice_marked : (count : ℕ) (which : ℕ → ℕ → Bool) (marks : List Mark) (slice : Slice) → AreMarks count which marks
    → AreMarks count (λ i place. which i place || slice_has i place slice) (mark_slice count marks slice)
slice_marked count which marks slice h = elim (cases_lt slice.signal count) [
  | inl l ↦
      subst (λ b. AreMarks count (λ i place. which i place || slice_has i place slice) (cond b (with_mark marks slice.signal (slice_mask slice)) marks)) (sym (lt-ltb slice.signal count l))
      (record {
        ascend = slice_ascends count marks slice l h.ascend;
        same = λ i place p q. marked_with marks slice.signal (slice_mask slice) i place
            ∙ (λ k. h.same i place p q k || nat_eq i slice.signal && slice_bits slice place q k);
      })
  | inr l ↦
      subst (λ b. AreMarks count (λ i place. which i place || slice_has i place slice) (cond b (with_mark marks slice.signal (slice_mask slice)) marks)) (sym (le-ltb slice.signal count l))
      (record {
        ascend = h.ascend;
        same = λ i place p q. h.same i place p q
            ∙ or_none (which i place) (slice_has i place slice)
            (and_false (nat_eq i slice.signal) (not (nat_lt place slice.low) && nat_lt place (slice.low + slice.width)) (ne_eqb i slice.signal (λ e. omega arith)));
      })
]

pub target_marked : (count : ℕ) (which : ℕ → ℕ → Bool) (slices : List Slice) (marks : List Mark) → AreMarks count which marks
    → AreMarks count (λ i place. which i place || target_has slices i place) (mark_target count slices marks)
target_marked count which [] marks h = alike count which (λ i place. which i place || false) marks (λ i place. or_none (which i place) false refl) h
target_marked count which (slice ∷ slices) marks h =
    alike count (λ i place. (which i place || slice_has i place slice) || target_has slices i place) (λ i place. which i place || target_has (slice ∷ slices) i place)
    (mark_target count slices (mark_slice count marks slice)) (λ i place. or_assoc (which i place) (slice_has i place slice) (target_has slices i place))
    (target_marked count (λ i place. which i place || slice_has i place slice) slices (mark_slice count marks slice) (slice_marked count which marks slice h))

mutual
  pub statement_marked : (count : ℕ) (which : ℕ → ℕ → Bool) (st : Statement) (marks : List Mark) → AreMarks count which marks
      → AreMarks count (λ i place. which i place || sets st i place) (mark_statement count st marks)
  statement_marked count which (Block statements) marks h = all_marked count which statements marks h
  statement_marked count which (If condition first second) marks h =
      alike count (λ i place. (which i place || sets first i place) || sets second i place) (λ i place. which i place || sets (If condition first second) i place)
      (mark_statement count second (mark_statement count first marks)) (λ i place. or_assoc (which i place) (sets first i place) (sets second i place))
      (statement_marked count (λ i place. which i place || sets first i place) second (mark_statement count first marks) (statement_marked count which first marks h))
  statement_marked count which (Case selector arms otherwise full) marks h =
      alike count (λ i place. (which i place || arms_set arms i place) || default_sets otherwise i place) (λ i place. which i place || sets (Case selector arms otherwise full) i place)
      (mark_default count otherwise (mark_arms count arms marks)) (λ i place. or_assoc (which i place) (arms_set arms i place) (default_sets otherwise i place))
      (default_marked count (λ i place. which i place || arms_set arms i place) otherwise (mark_arms count arms marks) (arms_marked count which arms marks h))
  statement_marked count which (Set set) marks h = target_marked count which set.target marks h
  statement_marked count which Empty marks h = alike count which (λ i place. which i place || false) marks (λ i place. or_none (which i place) false refl) h

  pub all_marked : (count : ℕ) (which : ℕ → ℕ → Bool) (statements : Statements) (marks : List Mark) → AreMarks count which marks
      → AreMarks count (λ i place. which i place || all_set statements i place) (mark_all count statements marks)
  all_marked count which end marks h = alike count which (λ i place. which i place || false) marks (λ i place. or_none (which i place) false refl) h
  all_marked count which (more statement statements) marks h =
      alike count (λ i place. (which i place || sets statement i place) || all_set statements i place) (λ i place. which i place || all_set (more statement statements) i place)
      (mark_all count statements (mark_statement count statement marks)) (λ i place. or_assoc (which i place) (sets statement i place) (all_set statements i place))
      (all_marked count (λ i place. which i place || sets statement i place) statements (mark_statement count statement marks) (statement_marked count which statement marks h))

  pub arms_marked : (count : ℕ) (which : ℕ → ℕ → Bool) (arms : Arms) (marks : List Mark) → AreMarks count which marks
      → AreMarks count (λ i place. which i place || arms_set arms i place) (mark_arms count arms marks)
  arms_marked count which no_arm marks h = alike count which (λ i place. which i place || false) marks (λ i place. or_none (which i place) false refl) h
  arms_marked count which (arm labels body arms) marks h =
      alike count (λ i place. (which i place || sets body i place) || arms_set arms i place) (λ i place. which i place || arms_set (arm labels body arms) i place)
      (mark_arms count arms (mark_statement count body marks)) (λ i place. or_assoc (which i place) (sets body i place) (arms_set arms i place))
      (arms_marked count (λ i place. which i place || sets body i place) arms (mark_statement count body marks) (statement_marked count which body marks h))

  pub default_marked : (count : ℕ) (which : ℕ → ℕ → Bool) (otherwise : Default) (marks : List Mark) → AreMarks count which marks
      → AreMarks count (λ i place. which i place || default_sets otherwise i place) (mark_default count otherwise marks)
  default_marked count which no_default marks h = alike count which (λ i place. which i place || false) marks (λ i place. or_none (which i place) false refl) h
  default_marked count which (default statement) marks h = statement_marked count which statement marks h

rotate : (a b c : Bool) → ((b || c) || a) ≡ (a || (b || c))
rotate true true c = refl
rotate true false true = refl
rotate true false false = refl
rotate false true c = refl
rotate false false true = refl
rotate false false false = refl

-- the marks of an `if`
pub branches_marked : (count : ℕ) (first second : Statement) → AreMarks count (λ i place. sets first i place || sets second i place) (mark_statement count second (mark_statement count first []))
branches_marked count first second =
    statement_marked count (λ i place. sets first i place) second (mark_statement count first []) (statement_marked count (λ i place. false) first [] (no_marks count))

-- those of an arm and what stands behind it
pub arm_marked : (count : ℕ) (arms : Arms) (otherwise : Default) → AreMarks count (λ i place. arms_set arms i place || default_sets otherwise i place) (arm_marks count arms otherwise)
arm_marked count no_arm otherwise = default_marked count (λ i place. false) otherwise [] (no_marks count)
arm_marked count (arm labels body arms) otherwise =
    alike count (λ i place. (arms_set arms i place || default_sets otherwise i place) || sets body i place) (λ i place. arms_set (arm labels body arms) i place || default_sets otherwise i place)
    (mark_statement count body (arm_marks count arms otherwise))
    (λ i place. rotate (sets body i place) (arms_set arms i place) (default_sets otherwise i place) ∙ sym (or_assoc (sets body i place) (arms_set arms i place) (default_sets otherwise i place)))
    (statement_marked count (λ i place. arms_set arms i place || default_sets otherwise i place) body (arm_marks count arms otherwise) (arm_marked count arms otherwise))

pub chain_length : (vs : List (Vec Mark Global)) → length (map (λ (v : Vec Mark Global). v.items) vs) ≡ length vs
chain_length vs = length-map vs (λ (v : Vec Mark Global). v.items)

pub chain_push : (vs : List (Vec Mark Global)) (v : Vec Mark Global) → map (λ (v : Vec Mark Global). v.items) (vs ++ v ∷ []) ≡ map (λ (v : Vec Mark Global). v.items) vs ++ v.items ∷ []
chain_push vs v = map-append (λ (v : Vec Mark Global). v.items) vs (v ∷ [])

pub ruleset places = (below_more, above_more, read_signal)

pub ruleset entries = (inserted, widened, read_signal)

-- the last of a list
pub last_same : {X : Type 0} (xs ys : List X) (x y : X) → (xs ++ x ∷ []) ≡ (ys ++ y ∷ []) → (xs ≡ ys) × (x ≡ y)
last_same [] [] x y e = (refl, cc)
last_same [] (z ∷ ys) x y e = let n = ap length e in let a = length-append ys (y ∷ []) in absurd (omega (arith, n, a))
last_same (z ∷ xs) [] x y e = let n = ap length e in let a = length-append xs (x ∷ []) in absurd (omega (arith, n, a))
last_same {X} (z ∷ xs) (u ∷ ys) x y e =
    let first : z ≡ u = cc in
    let rest : (xs ++ x ∷ []) ≡ (ys ++ y ∷ []) = cc in
    let r = last_same xs ys x y rest in
    ((λ i. first i ∷ r.0 i), r.1)
