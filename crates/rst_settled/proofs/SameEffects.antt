-- Two runs of a block from valuations that agree on what it reads early leave the bits that it surely sets alike.
use Rattle.std.proofs.Common.{◌≡◌, ◌∙◌, ℕ, ◌<◌, ◌≤◌, ◌^◌, Bool, true, false, not, ◌&&◌, ◌||◌, List, [], ◌∷◌, Option, Some, None, cond, arith, refl, sym, ap, subst}
use Rattle.std.specs.List.{AllByRecursion}
use Rattle.std.proofs.lemmas.Bool.{and_parts, or_parts}
use Rattle.std.proofs.Math.Pow.{pow_mono}
use Rattle.rst_word.specs.Words.{PlainWord}
use Rattle.rst_word.specs.Unary.{is_true}
use Rattle.rst_width.specs.Typed.{Typed}
use Rattle.rst_width.specs.Values.{Valuation, value}
use Rattle.rst_net.specs.declared.signal.Slice.{Slice}
use Rattle.rst_net.specs.Statements.{Label, PlainSet, Statement, Statements, Arms, Default, Block, If, Case, Set, Empty, end, more, no_arm, arm, no_default, default}
use Rattle.rst_cycle.specs.Effects.{Progress, effect, effects, arms_effect, default_effect, is_chosen, agree, set_effect, with_target}
use Rattle.rst_cycle.specs.Bits.{same_bit}
use Rattle.rst_cycle.specs.Drivers.{target_has}
use Rattle.rst_statement_values.specs.Fits.{any_chosen, has_default, SliceInside}
use Rattle.rst_blocks.specs.Sets.{or_else, front, first_set, first_set_in, first_set_in_arms, first_set_in_default}
use Rattle.rst_settled.specs.Designs.{IsSound, AllSound, ArmsSound, DefaultSound}
use Rattle.rst_blocks.specs.Reads.{reads_of, label_reads}
use Rattle.rst_blocks.specs.Surely.{surely, surely_all, surely_arms, surely_end, early, early_all, early_arms, early_default}
use Rattle.rst_settled.proofs.Targets.{bit, target_alike, target_below}
use Rattle.rst_settled.proofs.SameValues.{Alike, alike_left, alike_right, same_value}

-- how far two runs have come: their known bits are alike
pub record Known (room : ℕ → ℕ) (known : ℕ → ℕ → Bool) (p q : Progress) : Type 0 where
  pub seen_p : p.seen ≡ p.last
  pub seen_q : q.seen ≡ q.last
  pub below_p : (i : ℕ) → p.last i < 2 ^ room i
  pub below_q : (i : ℕ) → q.last i < 2 ^ room i
  pub same : (i place : ℕ) → place < 64 → known i place ≡ true → bit p.last i place ≡ bit q.last i place

weaker : (room : ℕ → ℕ) (known less : ℕ → ℕ → Bool) (p q : Progress) → ((i place : ℕ) → less i place ≡ true → known i place ≡ true)
    → Known room known p q → Known room less p q
weaker room known less p q from h = record { seen_p = h.seen_p; seen_q = h.seen_q; below_p = h.below_p; below_q = h.below_q; same = λ i place l e. h.same i place l (from i place e) }

choice_known :
    (room : ℕ → ℕ) (known : ℕ → ℕ → Bool) (c d : Bool) (y n z m : Progress) → c ≡ d → (c ≡ true → Known room known y z) → (c ≡ false → Known room known n m)
    → Known room known (cond c y n) (cond d z m)
choice_known room known true true y n z m e h k = h refl
choice_known room known false false y n z m e h k = k refl
choice_known room known true false y n z m e h k = absurd cc
choice_known room known false true y n z m e h k = absurd cc

known_from : (k r : Bool) → (not k && r) ≡ false → r ≡ true → k ≡ true
known_from true r h e = refl
known_from false r h e = absurd cc

or_right_from : (a b : Bool) → (a || b) ≡ true → b ≡ false → a ≡ true
or_right_from true b h e = refl
or_right_from false b h e = absurd cc

next_covered : (a b c : Bool) → ((a || b) || c) ≡ true → a ≡ false → (b || c) ≡ true
next_covered true b c h e = absurd cc
next_covered false b c h e = h

other_arms : (e b r : Bool) → (e && (b && r)) ≡ true → (e && r) ≡ true
other_arms true true r h = h
other_arms true false r h = absurd cc
other_arms false b r h = absurd cc

-- no set of the wrong kind
pub none_of : (a b : Option ℕ) → or_else a b ≡ None → (a ≡ None) × (b ≡ None)
none_of None b h = (refl, h)
none_of (Some i) b h = absurd cc

seen_set : (target : List Slice) (blocking : Bool) (n : ℕ) (seen last : Valuation) → cond (same_bit blocking false) (front target) None ≡ None → seen ≡ last
    → cond blocking (with_target target n seen) seen ≡ with_target target n last
seen_set [] true n seen last h e = e
seen_set [] false n seen last h e = e
seen_set (slice ∷ slices) true n seen last h e = ap (with_target (slice ∷ slices) n) e
seen_set (slice ∷ slices) false n seen last h e = absurd cc

module _ (room : ℕ → ℕ) (narrow : (i : ℕ) → room i ≤ 64) where
  in_word : (v : Valuation) → ((i : ℕ) → v i < 2 ^ room i) → (i : ℕ) → v i < 2 ^ 64
  in_word v below i = let one = below i in let other : 2 ^ room i ≤ 2 ^ 64 = pow_mono (narrow i) in omega (arith, one, other)

  alike_seen :
      (known : ℕ → ℕ → Bool) (p q : Progress) → Known room known p q → (slices : List Slice)
      → ((i place : ℕ) → place < 64 → (not (known i place) && target_has slices i place) ≡ false) → Alike p.seen q.seen slices
  alike_seen known p q h slices late = record {
    same = λ i place l e.
        ap (λ v. bit v i place) h.seen_p
        ∙ (h.same i place l (known_from (known i place) (target_has slices i place) (late i place l) e) ∙ sym (ap (λ v. bit v i place) h.seen_q));
  }

  below_seen : (v w : Valuation) → v ≡ w → ((i : ℕ) → w i < 2 ^ room i) → (i : ℕ) → v i < 2 ^ 64
  below_seen v w e below i = subst (λ u. u i < 2 ^ 64) (sym e) (in_word w below i)

  value_same :
      (known : ℕ → ℕ → Bool) (p q : Progress) → Known room known p q → (e : Typed)
      → ((i place : ℕ) → place < 64 → (not (known i place) && target_has (reads_of e) i place) ≡ false) → value p.seen e ≡ value q.seen e
  value_same known p q h e late =
      same_value p.seen q.seen (below_seen p.seen p.last h.seen_p h.below_p) (below_seen q.seen q.last h.seen_q h.below_q) e
      (alike_seen known p q h (reads_of e) late)

  chosen_same :
      (u v : Valuation) → ((i : ℕ) → u i < 2 ^ 64) → ((i : ℕ) → v i < 2 ^ 64) → (w : PlainWord) (labels : List Label) → Alike u v (label_reads labels)
      → is_chosen u w labels ≡ is_chosen v w labels
  chosen_same u v below_u below_v w [] h = refl
  chosen_same u v below_u below_v w (label ∷ labels) h =
      let one = same_value u v below_u below_v label.value (alike_left u v (reads_of label.value) (label_reads labels) h) in
      let rest = chosen_same u v below_u below_v w labels (alike_right u v (reads_of label.value) (label_reads labels) h) in
      λ j. agree w.width label.mask w.value (one j).value || rest j

  set_known :
      (set : PlainSet) (known : ℕ → ℕ → Bool) (p q : Progress) → AllByRecursion (SliceInside room) set.target
      → cond (same_bit set.blocking false) (front set.target) None ≡ None
      → ((i place : ℕ) → place < 64 → (not (known i place) && target_has (reads_of set.value) i place) ≡ false)
      → Known room known p q → Known room (λ i place. known i place || target_has set.target i place) (set_effect set p) (set_effect set q)
  set_known set known p q sound kind late h =
      let n : ℕ = (value p.seen set.value).value in
      let m : ℕ = (value q.seen set.value).value in
      let one : n ≡ m = ap (λ (w : PlainWord). w.value) (value_same known p q h set.value late) in
      record {
        seen_p = seen_set set.target set.blocking n p.seen p.last kind h.seen_p;
        seen_q = seen_set set.target set.blocking m q.seen q.last kind h.seen_q;
        below_p = target_below room set.target n p.last sound h.below_p;
        below_q = target_below room set.target m q.last sound h.below_q;
        same = λ i place l e.
            target_alike set.target n p.last q.last i place (λ no. h.same i place l (or_right_from (known i place) (target_has set.target i place) e no))
            ∙ ap (λ k. bit (with_target set.target k q.last) i place) one;
      }

  mutual
    pub statement_known :
        (st : Statement) (known : ℕ → ℕ → Bool) (p q : Progress) → IsSound room st → first_set false st ≡ None
        → ((i place : ℕ) → place < 64 → early i place st (known i place) ≡ false)
        → Known room known p q → Known room (λ i place. surely i place st (known i place)) (effect st p) (effect st q)
    statement_known (Block statements) known p q sound kind late h = all_known statements known p q sound kind late h
    statement_known (If condition first second) known p q sound kind late h =
        let kinds = none_of (first_set false first) (first_set false second) kind in
        let parts = λ (i place : ℕ) (l : place < 64). or_parts (not (known i place) && target_has (reads_of condition) i place)
        (early i place first (known i place) || early i place second (known i place)) (late i place l) in
        let branches = λ (i place : ℕ) (l : place < 64). or_parts (early i place first (known i place)) (early i place second (known i place)) (parts i place l).1 in
        choice_known room (λ i place. surely i place first (known i place) && surely i place second (known i place))
        (is_true (value p.seen condition)) (is_true (value q.seen condition))
        (effect first p) (effect second p) (effect first q) (effect second q)
        (ap is_true (value_same known p q h condition (λ i place l. (parts i place l).0)))
        (λ _. weaker room (λ i place. surely i place first (known i place))
        (λ i place. surely i place first (known i place) && surely i place second (known i place)) (effect first p) (effect first q)
        (λ i place e. (and_parts (surely i place first (known i place)) (surely i place second (known i place)) e).0)
        (statement_known first known p q sound.0 kinds.0 (λ i place l. (branches i place l).0) h))
        (λ _. weaker room (λ i place. surely i place second (known i place))
        (λ i place. surely i place first (known i place) && surely i place second (known i place)) (effect second p) (effect second q)
        (λ i place e. (and_parts (surely i place first (known i place)) (surely i place second (known i place)) e).1)
        (statement_known second known p q sound.1 kinds.1 (λ i place l. (branches i place l).1) h))
    statement_known (Case selector arms otherwise full) known p q sound kind late h =
        let kinds = none_of (first_set_in_arms false arms) (first_set_in_default false otherwise) kind in
        let parts = λ (i place : ℕ) (l : place < 64). or_parts (not (known i place) && target_has (reads_of selector) i place)
        (early_arms i place arms (known i place) || early_default i place otherwise (known i place)) (late i place l) in
        let ways = λ (i place : ℕ) (l : place < 64). or_parts (early_arms i place arms (known i place))
        (early_default i place otherwise (known i place)) (parts i place l).1 in
        let one = value_same known p q h selector (λ i place l. (parts i place l).0) in
        let in_range : (i : ℕ) → p.seen i < 2 ^ room i = λ i. subst (λ v. v i < 2 ^ room i) (sym h.seen_p) (h.below_p i) in
        subst (λ w. Known room (λ i place. surely_end i place otherwise full (known i place) && surely_arms i place arms (known i place))
        (arms_effect (value p.seen selector) arms (λ r. default_effect otherwise r) p) (arms_effect w arms (λ r. default_effect otherwise r) q)) one
        (arms_known arms otherwise full (λ r. default_effect otherwise r) known p q (value p.seen selector) sound.0 kinds.0 (λ i place l. (ways i place l).0)
        (λ f. sound.2 f p.seen in_range)
        (λ covered. default_known otherwise full known p q sound.1 kinds.1 (λ i place l. (ways i place l).1) covered h) h)
    statement_known (Set set) known p q sound kind late h = set_known set known p q sound kind late h
    statement_known Empty known p q sound kind late h = h

    all_known :
        (statements : Statements) (known : ℕ → ℕ → Bool) (p q : Progress) → AllSound room statements → first_set_in false statements ≡ None
        → ((i place : ℕ) → place < 64 → early_all i place statements (known i place) ≡ false)
        → Known room known p q → Known room (λ i place. surely_all i place statements (known i place)) (effects statements p) (effects statements q)
    all_known end known p q sound kind late h = h
    all_known (more statement statements) known p q sound kind late h =
        let kinds = none_of (first_set false statement) (first_set_in false statements) kind in
        let parts = λ (i place : ℕ) (l : place < 64). or_parts (early i place statement (known i place))
        (early_all i place statements (surely i place statement (known i place))) (late i place l) in
        all_known statements (λ i place. surely i place statement (known i place)) (effect statement p) (effect statement q) sound.1 kinds.1
        (λ i place l. (parts i place l).1)
        (statement_known statement known p q sound.0 kinds.0 (λ i place l. (parts i place l).0) h)

    arms_known :
        (arms : Arms) (otherwise : Default) (full : Bool) (beyond : Progress → Progress) (known : ℕ → ℕ → Bool) (p q : Progress) (w : PlainWord)
        → ArmsSound room arms → first_set_in_arms false arms ≡ None → ((i place : ℕ) → place < 64 → early_arms i place arms (known i place) ≡ false)
        → (full ≡ true → (any_chosen p.seen w arms || has_default otherwise) ≡ true)
        → ((full ≡ true → has_default otherwise ≡ true) → Known room (λ i place. surely_end i place otherwise full (known i place)) (beyond p) (beyond q))
        → Known room known p q
        → Known room (λ i place. surely_end i place otherwise full (known i place) && surely_arms i place arms (known i place))
        (arms_effect w arms beyond p) (arms_effect w arms beyond q)
    arms_known no_arm otherwise full beyond known p q w sound kind late covered ends h =
        weaker room (λ i place. surely_end i place otherwise full (known i place))
        (λ i place. surely_end i place otherwise full (known i place) && true) (beyond p) (beyond q)
        (λ i place e. (and_parts (surely_end i place otherwise full (known i place)) true e).0) (ends covered)
    arms_known (arm labels body arms) otherwise full beyond known p q w sound kind late covered ends h =
        let kinds = none_of (first_set false body) (first_set_in_arms false arms) kind in
        let parts = λ (i place : ℕ) (l : place < 64). or_parts (not (known i place) && target_has (label_reads labels) i place)
        (early i place body (known i place) || early_arms i place arms (known i place)) (late i place l) in
        let ways = λ (i place : ℕ) (l : place < 64). or_parts (early i place body (known i place)) (early_arms i place arms (known i place)) (parts i place l).1 in
        let after = λ (i place : ℕ). surely_end i place otherwise full (known i place) &&
        (surely i place body (known i place) && surely_arms i place arms (known i place)) in
        choice_known room after (is_chosen p.seen w labels) (is_chosen q.seen w labels)
        (effect body p) (arms_effect w arms beyond p) (effect body q) (arms_effect w arms beyond q)
        (chosen_same p.seen q.seen (below_seen p.seen p.last h.seen_p h.below_p) (below_seen q.seen q.last h.seen_q h.below_q) w labels
        (alike_seen known p q h (label_reads labels) (λ i place l. (parts i place l).0)))
        (λ _. weaker room (λ i place. surely i place body (known i place)) after (effect body p) (effect body q)
        (λ i place e. (and_parts (surely i place body (known i place)) (surely_arms i place arms (known i place))
        (and_parts (surely_end i place otherwise full (known i place)) (surely i place body (known i place) && surely_arms i place arms (known i place)) e).1).0)
        (statement_known body known p q sound.0 kinds.0 (λ i place l. (ways i place l).0) h))
        (λ f. weaker room (λ i place. surely_end i place otherwise full (known i place) && surely_arms i place arms (known i place)) after
        (arms_effect w arms beyond p) (arms_effect w arms beyond q)
        (λ i place e. other_arms (surely_end i place otherwise full (known i place)) (surely i place body (known i place))
        (surely_arms i place arms (known i place)) e)
        (arms_known arms otherwise full beyond known p q w sound.1 kinds.1 (λ i place l. (ways i place l).1)
        (λ t. next_covered (is_chosen p.seen w labels) (any_chosen p.seen w arms) (has_default otherwise) (covered t) f) ends h))

    default_known :
        (otherwise : Default) (full : Bool) (known : ℕ → ℕ → Bool) (p q : Progress) → DefaultSound room otherwise → first_set_in_default false otherwise ≡ None
        → ((i place : ℕ) → place < 64 → early_default i place otherwise (known i place) ≡ false) → (full ≡ true → has_default otherwise ≡ true)
        → Known room known p q → Known room (λ i place. surely_end i place otherwise full (known i place)) (default_effect otherwise p) (default_effect otherwise q)
    default_known (default statement) full known p q sound kind late covered h = statement_known statement known p q sound kind late h
    default_known no_default true known p q sound kind late covered h = absurd (let e = covered refl in cc)
    default_known no_default false known p q sound kind late covered h = h
