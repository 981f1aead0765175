-- Tables of words: what statements leave alone.
use Rattle.std.proofs.Common.{◌≡◌, ◌≢◌, ◌∙◌, ◌⊎◌, ℕ, zero, suc, ◌+◌, ◌-◌, ◌<◌, ◌≤◌, Bool, true, false, not, ◌&&◌, ◌||◌, cond, nat_eq, nat_lt, eqb, List, [], ◌∷◌, ◌++◌, length, map, get_or, set, take, drop, refl, sym, ap, subst, arith, inl, inr, append_assoc}
use Rattle.std.specs.List.{AllByRecursion, list_any}
use Rattle.std.proofs.lemmas.Bool.{lt-ltb, le-ltb, cases_lt, eq-eqb, ne_eqb, cond_both}
use Rattle.std.proofs.lemmas.Bool.Decides.{eqb_tells}
use Rattle.std.proofs.lemmas.List.{length-append, length-take-le, length-drop, length-set, get_or-set_same, get_or-set_other, ext_get_or}
use Rattle.rst_width.specs.Typed.{Typed, shape_of}
use Rattle.rst_width.specs.Reads.{ReadsInside}
use Rattle.rst_net.specs.declared.signal.Slice.{Slice}
use Rattle.rst_net.specs.Statements.{Label, PlainSet, Statement, Statements, Arms, Default, Block, If, Case, Set, Empty, end, more, no_arm, arm, no_default, default}
use Rattle.rst_cycle.specs.Bits.{has_bit}
use Rattle.rst_cycle.specs.Drivers.{slice_has, target_has, sets, all_set, arms_set, default_sets}
use Rattle.rst_cycle.specs.Effects.{target_width}
use Rattle.rst_terms.specs.declared.kinds.Connective.TheVariants.{Or}
use Rattle.rst_terms.specs.Algebras.{Algebra, Step}
use Rattle.rst_terms.specs.Recurrences.{reduced}
use Rattle.rst_typed_terms.specs.Expressions.{expression_bits}
use Rattle.rst_typed_terms.proofs.Widths.{expression_width}
use Rattle.rst_statement_terms.specs.Targets.{Words, word_of, replaced, with_slice, with_target, merged_word, merged}
use Rattle.rst_statement_terms.specs.Statements.{Sight, Held, Current, seen, label_bits, is_last, statement_bits, all_bits, arm_bits, default_bits}
use Rattle.rst_statement_values.specs.Fits.{ExpressionFits, LabelFits, SliceInside, SetFits, StatementFits, AllFit, ArmsFit, DefaultFits}
use Rattle.rst_statement_values.proofs.Branches.{left_false, right_false}

-- Tables of one shape, where the words of signals without a bit in the test are equal.
pub record Leaves {X : Type 0} (ws vs : Words X) (which : ℕ → ℕ → Bool) : Type 0 where
  pub count : length ws ≡ length vs
  pub widths : (i : ℕ) → length (word_of ws i) ≡ length (word_of vs i)
  pub others : (i : ℕ) → ((place : ℕ) → place < 64 → which i place ≡ false) → word_of ws i ≡ word_of vs i

pub leaves_itself : {X : Type 0} (ws : Words X) (which : ℕ → ℕ → Bool) → Leaves ws ws which
leaves_itself ws which = record { count = refl; widths = λ i. refl; others = λ i h. refl }

pub leaves_more : {X : Type 0} (ws vs : Words X) (which other : ℕ → ℕ → Bool) → ((i place : ℕ) → other i place ≡ false → which i place ≡ false) → Leaves ws vs which → Leaves ws vs other
leaves_more ws vs which other less h = record { count = h.count; widths = h.widths; others = λ i e. h.others i (λ place l. less i place (e place l)) }

pub leaves_then : {X : Type 0} (us ws vs : Words X) (first second : ℕ → ℕ → Bool) → Leaves us ws first → Leaves ws vs second → Leaves us vs (λ i place. first i place || second i place)
leaves_then us ws vs first second h k = record {
  count = h.count ∙ k.count;
  widths = λ i. h.widths i ∙ k.widths i;
  others = λ i e. h.others i (λ place l. left_false (first i place) (second i place) (e place l)) ∙ k.others i (λ place l. right_false (first i place) (second i place) (e place l));
}

-- a signal with a bit is there
pub there : {X : Type 0} (words : Words X) (i : ℕ) → 0 < length (word_of words i) → i < length words
there [] i h = absurd (omega arith)
there (w ∷ words) zero h = omega arith
there (w ∷ words) (suc i) h = let rest = there words i h in omega (arith, rest)

pub replaced_width : {X : Type 0} (low width : ℕ) (part word : List X) → low + width ≤ length word → width ≤ length part → length (replaced low width part word) ≡ length word
replaced_width low width part word h k =
    length-append (take low word) (take width part ++ drop (low + width) word)
    ∙ ((λ i. length-take-le low word (omega arith) i + (length-append (take width part) (drop (low + width) word) ∙ ap (λ n. n + length (drop (low + width) word)) (length-take-le width part k)) i)
    ∙ sum_of low width (length (drop (low + width) word)) (length word) h (length-drop (low + width) word))
  where
    sum_of : (low width rest len : ℕ) → low + width ≤ len → rest ≡ len - (low + width) → low + (width + rest) ≡ len
    sum_of low width rest len h k = omega arith

-- the lowest bit of a slice lies in it
lowest : (low width : ℕ) → 0 < width → (not (nat_lt low low) && nat_lt low (low + width)) ≡ true
lowest low width h = ap (λ b. not b && nat_lt low (low + width)) (le-ltb low low (omega arith)) ∙ lt-ltb low (low + width) (omega arith)

true_false : true ≡ false → ⊥
true_false e = cc

module _ {X : Type 0} (room : ℕ → ℕ) (small : (i : ℕ) → room i ≤ 64) where
  slice_leaves :
      (slice : Slice) (part : List X) (words : Words X) → ((i : ℕ) → length (word_of words i) ≡ room i) → SliceInside room slice → slice.width ≤ length part
      → Leaves words (with_slice slice part words) (λ i place. slice_has i place slice)
  slice_leaves slice part words widths inside wide =
      let new : List X = replaced slice.low slice.width part (word_of words slice.signal) in
      let fits : slice.low + slice.width ≤ length (word_of words slice.signal) = let w = widths slice.signal in let h = inside.inside in omega (arith, w, h) in
      let some : slice.signal < length words = let k = inside.some_bits in there words slice.signal (omega (arith, fits, k)) in
      record {
        count = sym (length-set words slice.signal new);
        widths = λ i. elim (eqb_tells i slice.signal) [
          | inl t ↦ ap (λ k. length (word_of words k)) t.1
              ∙ (sym (replaced_width slice.low slice.width part (word_of words slice.signal) fits wide)
              ∙ sym (ap (λ k. length (get_or (set words slice.signal new) k [])) t.1 ∙ ap length (get_or-set_same words slice.signal new [] some)))
          | inr t ↦ sym (ap length (get_or-set_other words slice.signal i new [] t.1))
        ];
        others = λ i e. elim (eqb_tells i slice.signal) [
          | inl t ↦ absurd (true_false (sym (ap (λ b. b && (not (nat_lt slice.low slice.low) && nat_lt slice.low (slice.low + slice.width))) t.0
              ∙ lowest slice.low slice.width inside.some_bits) ∙ e slice.low (let most = small slice.signal in let h = inside.inside in let k = inside.some_bits in omega (arith, most, h, k))))
          | inr t ↦ sym (get_or-set_other words slice.signal i new [] t.1)
        ];
      }

  target_leaves :
      (slices : List Slice) (part : List X) (words : Words X) → ((i : ℕ) → length (word_of words i) ≡ room i) → AllByRecursion (SliceInside room) slices
      → target_width slices ≤ length part → Leaves words (with_target slices part words) (λ i place. target_has slices i place)
  target_leaves [] part words widths inside wide = leaves_itself words (λ i place. false)
  target_leaves (slice ∷ slices) part words widths inside wide =
      let upper : List X = drop (target_width slices) part in
      let long : slice.width ≤ length upper = omega (arith, length-drop (target_width slices) part) in
      let one = slice_leaves slice upper words widths inside.0 long in
      leaves_then words (with_slice slice upper words) (with_target slices part (with_slice slice upper words)) (λ i place. slice_has i place slice) (λ i place. target_has slices i place)
      one (target_leaves slices part (with_slice slice upper words) (λ i. sym (one.widths i) ∙ widths i) inside.1 (omega arith))

-- a word without a marked bit
pub word_kept : {S X : Type 0} (A : Algebra S X) (s : S) (c : X) (which : ℕ → Bool) (place : ℕ) (ys ns : List X) → length ys ≡ length ns
    → ((k : ℕ) → k < length ys → which (place + k) ≡ false) → merged_word A s c which place ys ns ≡ (s, ns)
word_kept A s c which place [] [] h none = refl
word_kept A s c which place [] (n ∷ ns) h none = absurd (omega arith)
word_kept A s c which place (y ∷ ys) [] h none = absurd (omega arith)
word_kept {S} {X} A s c which place (y ∷ ys) (n ∷ ns) h none =
    let at : place + 0 ≡ place = omega arith in
    let here : which place ≡ false = ap which (sym at) ∙ none 0 (omega arith) in
    let m : Step S X = A.choice s c y n in
    let one : Step S (List X) = merged_word A m.0 c which (suc place) ys ns in
    let other : Step S (List X) = merged_word A s c which (suc place) ys ns in
    let rest : other ≡ (s, ns) = word_kept A s c which (suc place) ys ns (omega arith)
    (λ k l. let next : suc place + k ≡ place + suc k = omega arith in ap which next ∙ none (suc k) (omega arith)) in
    ap (λ b. cond b (one.0, m.1 ∷ one.1) (other.0, n ∷ other.1)) here ∙ ap (λ (r : Step S (List X)). (r.0, n ∷ r.1)) rest

pub word_width : {S X : Type 0} (A : Algebra S X) (s : S) (c : X) (which : ℕ → Bool) (place : ℕ) (ys ns : List X) → length ys ≡ length ns
    → length (merged_word A s c which place ys ns).1 ≡ length ns
word_width A s c which place [] [] h = refl
word_width A s c which place [] (n ∷ ns) h = absurd (omega arith)
word_width A s c which place (y ∷ ys) [] h = absurd (omega arith)
word_width {S} {X} A s c which place (y ∷ ys) (n ∷ ns) h =
    let m : Step S X = A.choice s c y n in
    let one : Step S (List X) = merged_word A m.0 c which (suc place) ys ns in
    let other : Step S (List X) = merged_word A s c which (suc place) ys ns in
    cond_both (which place) (one.0, m.1 ∷ one.1) (other.0, n ∷ other.1) (λ (z : Step S (List X)). length z.1 ≡ suc (length ns))
    (λ _. ap suc (word_width A m.0 c which (suc place) ys ns (omega arith))) (λ _. ap suc (word_width A s c which (suc place) ys ns (omega arith)))

-- tests that agree on the bits of a word
pub word_alike : {S X : Type 0} (A : Algebra S X) (s : S) (c : X) (which other : ℕ → Bool) (place : ℕ) (ys ns : List X)
    → ((k : ℕ) → k < length ys → which (place + k) ≡ other (place + k)) → merged_word A s c which place ys ns ≡ merged_word A s c other place ys ns
word_alike A s c which other place [] ns same = refl
word_alike A s c which other place (y ∷ ys) [] same = refl
word_alike {S} {X} A s c which other place (y ∷ ys) (n ∷ ns) same =
    let at : place + 0 ≡ place = omega arith in
    let here : which place ≡ other place = ap which (sym at) ∙ (same 0 (omega arith) ∙ ap other at) in
    let m : Step S X = A.choice s c y n in
    let more = λ (t : S). word_alike A t c which other (suc place) ys ns
    (λ k l. let next : suc place + k ≡ place + suc k = omega arith in ap which next ∙ (same (suc k) (omega arith) ∙ ap other (sym next))) in
    let one : (t : S) → merged_word A t c which (suc place) ys ns ≡ merged_word A t c other (suc place) ys ns = more in
    λ i. cond (here i) ((one m.0 i).0, m.1 ∷ (one m.0 i).1) ((one s i).0, n ∷ (one s i).1)

-- choices keep the shape, and words in which both branches are alike
merged_leaves :
    {S X : Type 0} (A : Algebra S X) (s : S) (c : X) (which : ℕ → ℕ → Bool) (i : ℕ) (ys ns : Words X) → length ys ≡ length ns
    → ((k : ℕ) → length (word_of ys k) ≡ length (word_of ns k)) → ((k : ℕ) → length (word_of ys k) ≤ 64) → Leaves ns (merged A s c which i ys ns).1 (λ k place. which (i + k) place)
merged_leaves A s c which i [] [] h widths small = leaves_itself [] (λ k place. which (i + k) place)
merged_leaves A s c which i [] (n ∷ ns) h widths small = absurd (omega arith)
merged_leaves A s c which i (y ∷ ys) [] h widths small = absurd (omega arith)
merged_leaves {S} {X} A s c which i (y ∷ ys) (n ∷ ns) h widths small =
    let m : Step S (List X) = merged_word A s c (which i) 0 y n in
    let rest = merged_leaves A m.0 c which (suc i) ys ns (omega arith) (λ k. widths (suc k)) (λ k. small (suc k)) in
    let most : length y ≤ 64 = small 0 in
    record {
      count = ap suc rest.count;
      widths = λ k. at_width m.1 n ns (merged A m.0 c which (suc i) ys ns).1 k (sym (word_width A s c (which i) 0 y n (widths 0))) rest.widths;
      others = λ k e. at_word i m.1 n ns (merged A m.0 c which (suc i) ys ns).1 k which e
          (λ none. sym (ap (λ (r : Step S (List X)). r.1) (word_kept A s c (which i) 0 y n (widths 0) (λ j l. let z : 0 + j ≡ j = omega arith in ap (which i) z ∙ none j (omega arith))))) rest.others;
    }
  where
    at_width : {X : Type 0} (m n : List X) (ns ms : Words X) (k : ℕ) → length n ≡ length m → ((k : ℕ) → length (word_of ns k) ≡ length (word_of ms k)) → length (word_of (n ∷ ns) k) ≡ length (word_of (m ∷ ms) k)
    at_width m n ns ms zero h rest = h
    at_width m n ns ms (suc k) h rest = rest k

    at_word : {X : Type 0} (i : ℕ) (m n : List X) (ns ms : Words X) (k : ℕ) (which : ℕ → ℕ → Bool) → ((place : ℕ) → place < 64 → which (i + k) place ≡ false)
        → (((place : ℕ) → place < 64 → which i place ≡ false) → n ≡ m) → ((k : ℕ) → ((place : ℕ) → place < 64 → which (suc i + k) place ≡ false) → word_of ns k ≡ word_of ms k) → word_of (n ∷ ns) k ≡ word_of (m ∷ ms) k
    at_word i m n ns ms zero which e h rest = let at : i + 0 ≡ i = omega arith in h (λ place l. ap (λ z. which z place) (sym at) ∙ e place l)
    at_word i m n ns ms (suc k) which e h rest = let at : suc i + k ≡ i + suc k = omega arith in rest k (λ place l. ap (λ z. which z place) at ∙ e place l)

-- a choice behind two branches
pub branches_leave :
    {S X : Type 0} (A : Algebra S X) (s : S) (c : X) (words ys ns : Words X) (first second : ℕ → ℕ → Bool) → ((i : ℕ) → length (word_of words i) ≤ 64) → Leaves words ys first → Leaves words ns second
    → Leaves words (merged A s c (λ i place. first i place || second i place) 0 ys ns).1 (λ i place. first i place || second i place)
branches_leave A s c words ys ns first second small h k =
    let both : ℕ → ℕ → Bool = λ i place. first i place || second i place in
    let chosen = merged_leaves A s c both 0 ys ns (sym h.count ∙ k.count) (λ i. sym (h.widths i) ∙ k.widths i) (λ i. let w = h.widths i in let most = small i in omega (arith, w, most)) in
    record {
      count = k.count ∙ chosen.count;
      widths = λ i. k.widths i ∙ chosen.widths i;
      others = λ i e. k.others i (λ place l. right_false (first i place) (second i place) (e place l))
          ∙ chosen.others i (λ place l. let z : 0 + i ≡ i = omega arith in ap (λ j. both j place) z ∙ e place l);
    }

-- What a statement does not set stays as it is.
inside_at : (f room : ℕ → ℕ) (e : Typed) → ((i : ℕ) → f i ≡ room i) → ReadsInside room e → ReadsInside f e
inside_at f room e same h = subst (λ (g : ℕ → ℕ). ReadsInside g e) (λ k i. sym (same i) k) h

module _ {S X : Type 0} (A : Algebra S X) (room : ℕ → ℕ) (small : (i : ℕ) → room i ≤ 64) (blocking : Bool) (sight : Sight X) where
  -- what reads see has the signals' widths
  abbrev pub SeesWidths : Words X → Type 0
  SeesWidths words = (i : ℕ) → length (seen sight words i) ≡ room i

  abbrev pub HasWidths : Words X → Type 0
  HasWidths words = ((i : ℕ) → length (word_of words i) ≡ room i) × ((other : Words X) → ((i : ℕ) → length (word_of other i) ≡ room i) → SeesWidths other)

  later : (words others : Words X) (which : ℕ → ℕ → Bool) → HasWidths words → Leaves words others which → HasWidths others
  later words others which h k = ((λ i. sym (k.widths i) ∙ h.0 i), h.1)

  few_bits : (words : Words X) → HasWidths words → (i : ℕ) → length (word_of words i) ≤ 64
  few_bits words h i = let w = h.0 i in let most = small i in omega (arith, w, most)

  turn_or : (a b c : Bool) → ((a || b) || c) ≡ false → (a || (b || c)) ≡ false
  turn_or true b c h = cc
  turn_or false b c h = h

  mutual
    pub statement_leaves : (st : Statement) (s : S) (words : Words X) → StatementFits room blocking st → HasWidths words → Leaves words (statement_bits A sight s words st).1 (sets st)
    statement_leaves (Block statements) s words fits h = all_leave statements s words fits h
    statement_leaves (If condition first second) s words fits h =
        let c : Step S (List X) = expression_bits A (seen sight words) s condition in
        let test : Step S X = reduced A Or c.0 c.1 in
        let y : Step S (Words X) = statement_bits A sight test.0 words first in
        let n : Step S (Words X) = statement_bits A sight y.0 words second in
        branches_leave A n.0 test.1 words y.1 n.1 (sets first) (sets second) (few_bits words h) (statement_leaves first test.0 words fits.1 h) (statement_leaves second y.0 words fits.2 h)
    statement_leaves (Case selector arms otherwise full) s words fits h =
        let c : Step S (List X) = expression_bits A (seen sight words) s selector in
        arms_leave arms otherwise (λ t ws. default_bits A sight t ws otherwise) (λ t ws k. default_leaves otherwise t ws fits.2 k) (shape_of selector).width c.1 full c.0 words fits.1 h
    statement_leaves (Set set) s words fits h =
        let e : Step S (List X) = expression_bits A (seen sight words) s set.value in
        let sees = h.1 words h.0 in
        let long = expression_width A (seen sight words) s set.value fits.value.fit (inside_at (λ i. length (seen sight words i)) room set.value sees fits.value.inside) in
        let wide = fits.wide in
        target_leaves room small set.target e.1 words h.0 fits.slices (omega (arith, long, wide))
    statement_leaves Empty s words fits h = leaves_itself words (λ i place. false)

    pub all_leave : (statements : Statements) (s : S) (words : Words X) → AllFit room blocking statements → HasWidths words → Leaves words (all_bits A sight s words statements).1 (all_set statements)
    all_leave end s words fits h = leaves_itself words (λ i place. false)
    all_leave (more statement statements) s words fits h =
        let one : Step S (Words X) = statement_bits A sight s words statement in
        let first = statement_leaves statement s words fits.0 h in
        leaves_then words one.1 (all_bits A sight one.0 one.1 statements).1 (sets statement) (all_set statements) first
        (all_leave statements one.0 one.1 fits.1 (later words one.1 (sets statement) h first))

    pub arms_leave :
        (arms : Arms) (otherwise : Default) (behind : S → Words X → Step S (Words X))
        → ((s : S) (words : Words X) → HasWidths words → Leaves words (behind s words).1 (default_sets otherwise))
        → (width : ℕ) (selector : List X) (full : Bool) (s : S) (words : Words X) → ArmsFit room blocking width arms → HasWidths words
        → Leaves words (arm_bits A sight selector full s words arms otherwise behind).1 (λ i place. arms_set arms i place || default_sets otherwise i place)
    arms_leave no_arm otherwise behind ends width selector full s words fits h = ends s words h
    arms_leave (arm labels body arms) otherwise behind ends width selector full s words fits h =
        let m : Step S (List X) = label_bits A (seen sight words) selector s labels in
        let test : Step S X = reduced A Or m.0 m.1 in
        let y : Step S (Words X) = statement_bits A sight test.0 words body in
        let n : Step S (Words X) = arm_bits A sight selector full y.0 words arms otherwise behind in
        let others : ℕ → ℕ → Bool = λ i place. arms_set arms i place || default_sets otherwise i place in
        cond_both (is_last full arms otherwise) (statement_bits A sight s words body) (merged A n.0 test.1 (λ i place. sets body i place || others i place) 0 y.1 n.1)
        (λ (z : Step S (Words X)). Leaves words z.1 (λ i place. (sets body i place || arms_set arms i place) || default_sets otherwise i place))
        (λ _. leaves_more words (statement_bits A sight s words body).1 (sets body) (λ i place. (sets body i place || arms_set arms i place) || default_sets otherwise i place)
        (λ i place e. left_false (sets body i place) (arms_set arms i place) (left_false (sets body i place || arms_set arms i place) (default_sets otherwise i place) e))
        (statement_leaves body s words fits.1 h))
        (λ _. leaves_more words (merged A n.0 test.1 (λ i place. sets body i place || others i place) 0 y.1 n.1).1 (λ i place. sets body i place || others i place)
        (λ i place. (sets body i place || arms_set arms i place) || default_sets otherwise i place)
        (λ i place e. turn_or (sets body i place) (arms_set arms i place) (default_sets otherwise i place) e)
        (branches_leave A n.0 test.1 words y.1 n.1 (sets body) others (few_bits words h) (statement_leaves body test.0 words fits.1 h)
        (arms_leave arms otherwise behind ends width selector full y.0 words fits.2 h)))

    pub default_leaves : (otherwise : Default) (s : S) (words : Words X) → DefaultFits room blocking otherwise → HasWidths words → Leaves words (default_bits A sight s words otherwise).1 (default_sets otherwise)
    default_leaves no_default s words fits h = leaves_itself words (λ i place. false)
    default_leaves (default statement) s words fits h = statement_leaves statement s words fits h
