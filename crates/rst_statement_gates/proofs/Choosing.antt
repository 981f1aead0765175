-- What is chosen at marked signals alone is what is chosen at all.
use Rattle.std.proofs.Common.{◌≡◌, ◌≢◌, ◌∙◌, ◌⊎◌, ℕ, zero, suc, ◌+◌, ◌<◌, ◌≤◌, Bool, true, false, ◌&&◌, ◌||◌, cond, nat_eq, eqb, List, [], ◌∷◌, ◌++◌, length, map, get_or, set, refl, sym, ap, subst, arith, inl, inr, append_assoc}
use Rattle.std.proofs.lemmas.Bool.{eq-eqb, ne_eqb, cases_lt}
use Rattle.std.proofs.lemmas.Bool.Decides.{eqb_tells}
use Rattle.std.proofs.lemmas.List.{length-append, length-set, get_or-set_same, get_or-set_other, ext_get_or}
use Rattle.rst_cycle.specs.Bits.{has_bit, digit}
use Rattle.rst_terms.specs.Algebras.{Algebra, Step}
use Rattle.rst_statement_terms.specs.Targets.{Words, word_of, merged_word, merged}
use Rattle.rst_statement_terms.specs.Weights.{places_below, bits_among}
use Rattle.rst_statement_gates.specs.declared.marks.Mark.{Mark}
use Rattle.rst_statement_gates.specs.Marks.{mark_of, is_marked, Ascend, AreMarks}
use Rattle.rst_statement_gates.specs.Choices.{words_at, with_words, merged_at, marked_bits}
use Rattle.rst_statement_gates.proofs.Tables.{Leaves, word_kept, word_alike}

-- whether a signal has a mark
names : List Mark → ℕ → Bool
names [] k = false
names (m ∷ marks) k = nat_eq k m.signal || names marks k

and_left : (a b c : Bool) → (a || b) ≡ false → (b ≡ false → c ≡ false) → (x : Bool) → (a && x || c) ≡ false
and_left true b c h k x = cc
and_left false b c h k x = k h

unnamed : (marks : List Mark) (k place : ℕ) → names marks k ≡ false → is_marked marks k place ≡ false
unfolding names
unnamed [] k place h = refl
unnamed (m ∷ marks) k place h = and_left (nat_eq k m.signal) (names marks k) (is_marked marks k place) h (λ e. unnamed marks k place e) (has_bit m.mask place)

or_both : (a b : Bool) → a ≡ false → b ≡ false → (a || b) ≡ false
or_both true b h k = cc
or_both false b h k = k

put_reads : {X : Type 0} (n count : ℕ) (marks : List Mark) (words ys : Words X) (k : ℕ) → Ascend n count marks → count ≡ length ys
    → (names marks k ≡ false → word_of ys k ≡ word_of words k) → word_of (with_words marks (words_at marks words) ys) k ≡ word_of words k
unfolding names
put_reads n count [] words ys k h size same = same refl
put_reads n count (m ∷ marks) words ys k h size same =
    let word = word_of words m.signal in
    put_reads (suc m.signal) count marks words (set ys m.signal word) k h.2 (size ∙ sym (length-set ys m.signal word))
    (λ none. elim (eqb_tells k m.signal) [
      | inl t ↦ ap (λ j. get_or (set ys m.signal word) j []) t.1 ∙ (get_or-set_same ys m.signal word [] (let l = h.1 in omega (arith, l, size)) ∙ sym (ap (word_of words) t.1))
      | inr t ↦ get_or-set_other ys m.signal k word [] t.1 ∙ same (or_both (nat_eq k m.signal) (names marks k) t.0 none)
    ])

put_count : {X : Type 0} (marks : List Mark) (others : List (List X)) (ys : Words X) → length (with_words marks others ys) ≡ length ys
put_count [] others ys = refl
put_count (m ∷ marks) [] ys = refl
put_count (m ∷ marks) (other ∷ others) ys = put_count marks others (set ys m.signal other) ∙ length-set ys m.signal other

clash : (a b : Bool) → (a ≡ true → b ≡ true) → b ≡ false → a ≡ false
clash true b h e = let t = h refl in cc
clash false b h e = refl

-- the words before a branch put back
pub put_back : {X : Type 0} (which : ℕ → ℕ → Bool) (marks : List Mark) (words ys : Words X) → Ascend 0 (length words) marks
    → ((i place : ℕ) → i < length words → place < 64 → which i place ≡ true → is_marked marks i place ≡ true) → Leaves words ys which
    → with_words marks (words_at marks words) ys ≡ words
put_back which marks words ys ascend covers k =
    let size : length (with_words marks (words_at marks words) ys) ≡ length words = put_count marks (words_at marks words) ys ∙ sym k.count in
    ext_get_or [] (with_words marks (words_at marks words) ys) words size
    (λ i l. put_reads 0 (length words) marks words ys i ascend k.count
    (λ none. sym (k.others i (λ place below. clash (which i place) (is_marked marks i place) (covers i place (omega (arith, size, l)) below) (unnamed marks i place none)))))

-- no mark stands below its first signal
unmarked : (n count : ℕ) (marks : List Mark) (i place : ℕ) → i < n → Ascend n count marks → is_marked marks i place ≡ false
unmarked n count [] i place l h = refl
unmarked n count (m ∷ marks) i place l h =
    let first = h.0 in
    ap (λ b. b && has_bit m.mask place || is_marked marks i place) (ne_eqb i m.signal (λ e. omega (arith, first)))
    ∙ unmarked (suc m.signal) count marks i place (omega (arith, first)) h.2

word_in : {X : Type 0} (front : Words X) (n : List X) (ns : Words X) (i : ℕ) → length front ≡ i → word_of (front ++ n ∷ ns) i ≡ n
word_in [] n ns zero e = refl
word_in [] n ns (suc i) e = absurd (omega arith)
word_in (f ∷ front) n ns zero e = absurd (omega arith)
word_in (f ∷ front) n ns (suc i) e = word_in front n ns i (omega arith)

set_in : {X : Type 0} (front : Words X) (n w : List X) (ns : Words X) (i : ℕ) → length front ≡ i → set (front ++ n ∷ ns) i w ≡ (front ++ w ∷ []) ++ ns
set_in [] n w ns zero e = refl
set_in [] n w ns (suc i) e = absurd (omega arith)
set_in (f ∷ front) n w ns zero e = absurd (omega arith)
set_in (f ∷ front) n w ns (suc i) e = ap (λ zs. f ∷ zs) (set_in front n w ns i (omega arith))

one_behind : {X : Type 0} (front : Words X) (n : List X) (i : ℕ) → length front ≡ i → length (front ++ n ∷ []) ≡ suc i
one_behind front n i e = let a = length-append front (n ∷ []) in omega (arith, a, e)

only : (b c : Bool) → c ≡ false → (true && b || c) ≡ b
only true c h = refl
only false c h = h

module _ {S X : Type 0} (A : Algebra S X) (c : X) (which : ℕ → ℕ → Bool) (whole : Words X) where
  -- the bits chosen in the signals from one on
  abbrev from : S → Words X → ℕ → Words X → Words X → Step S (Words X)
  from s front i ys ns = let r = merged A s c which i ys ns in (r.0, front ++ r.1)

  abbrev Agree : ℕ → List Mark → Words X → Words X → Type 0
  Agree i marks ys ns =
      ((k place : ℕ) → k < length ns → place < 64 → is_marked marks (i + k) place ≡ which (i + k) place)
      × ((k : ℕ) → word_of ys k ≡ word_of whole (i + k)) × ((k : ℕ) → length (word_of ys k) ≡ length (word_of ns k)) × ((k : ℕ) → length (word_of ys k) ≤ 64)

  next_agree : (i : ℕ) (marks more : List Mark) (y n : List X) (ys ns : Words X) → Agree i marks (y ∷ ys) (n ∷ ns)
      → ((k place : ℕ) → is_marked marks (suc i + k) place ≡ is_marked more (suc i + k) place) → Agree (suc i) more ys ns
  next_agree i marks more y n ys ns h same = (
    (λ k place l b. let at : i + suc k ≡ suc i + k = omega arith in
        sym (same k place) ∙ (ap (λ z. is_marked marks z place) (sym at) ∙ (h.0 (suc k) place (omega arith) b ∙ ap (λ z. which z place) at))),
    (λ k. let at : i + suc k ≡ suc i + k = omega arith in h.1 (suc k) ∙ ap (word_of whole) at),
    (λ k. h.2 (suc k)),
    (λ k. h.3 (suc k)),
  )

  -- a signal without a mark
  passes : (i : ℕ) (marks : List Mark) (s : S) (front : Words X) (y n : List X) (ys ns : Words X) → Agree i marks (y ∷ ys) (n ∷ ns) → ((place : ℕ) → is_marked marks i place ≡ false)
      → merged_at A s c marks (words_at marks whole) ((front ++ n ∷ []) ++ ns) ≡ from s (front ++ n ∷ []) (suc i) ys ns
      → merged_at A s c marks (words_at marks whole) (front ++ n ∷ ns) ≡ from s front i (y ∷ ys) (n ∷ ns)
  passes i marks s front y n ys ns h none rest =
      let at : i + 0 ≡ i = omega arith in
      let most : length y ≤ 64 = h.3 0 in
      let kept : merged_word A s c (which i) 0 y n ≡ (s, n) =
      word_kept A s c (which i) 0 y n (h.2 0) (λ k l. let z : 0 + k ≡ k = omega arith in
      ap (which i) z ∙ (ap (λ j. which j k) (sym at) ∙ (sym (h.0 0 k (omega arith) (omega arith)) ∙ (ap (λ j. is_marked marks j k) at ∙ none k)))) in
      let r : Step S (Words X) = merged A s c which (suc i) ys ns in
      ap (merged_at A s c marks (words_at marks whole)) (sym (append_assoc front (n ∷ []) ns))
      ∙ (rest ∙ ((λ j. (r.0, append_assoc front (n ∷ []) r.1 j))
      ∙ sym (ap (λ (m : Step S (List X)). let q = merged A m.0 c which (suc i) ys ns in (q.0, front ++ (m.1 ∷ q.1))) kept)))

  -- a signal with a mark
  takes : (i mask : ℕ) (marks : List Mark) (s : S) (front : Words X) (y n : List X) (ys ns : Words X) → length front ≡ i
      → Agree i (mark_of i mask ∷ marks) (y ∷ ys) (n ∷ ns) → ((place : ℕ) → is_marked marks i place ≡ false)
      → ((t : S) (w : List X) → merged_at A t c marks (words_at marks whole) ((front ++ w ∷ []) ++ ns) ≡ from t (front ++ w ∷ []) (suc i) ys ns)
      → merged_at A s c (mark_of i mask ∷ marks) (words_at (mark_of i mask ∷ marks) whole) (front ++ n ∷ ns) ≡ from s front i (y ∷ ys) (n ∷ ns)
  takes i mask marks s front y n ys ns size h none rest =
      let at : i + 0 ≡ i = omega arith in
      let most : length y ≤ 64 = h.3 0 in
      let here : word_of whole i ≡ y = sym (h.1 0 ∙ ap (word_of whole) at) in
      let m : Step S (List X) = merged_word A s c (which i) 0 y n in
      let same : merged_word A s c (has_bit mask) 0 (word_of whole i) (word_of (front ++ n ∷ ns) i) ≡ m =
      (λ j. merged_word A s c (has_bit mask) 0 (here j) (word_in front n ns i size j))
      ∙ word_alike A s c (has_bit mask) (which i) 0 y n (λ k l. let z : 0 + k ≡ k = omega arith in
      ap (has_bit mask) z
      ∙ (sym (ap (λ b. b && has_bit mask k || is_marked marks i k) (eq-eqb i i refl) ∙ only (has_bit mask k) (is_marked marks i k) (none k))
      ∙ (ap (λ j. is_marked (mark_of i mask ∷ marks) j k) (sym at) ∙ (h.0 0 k (omega arith) (omega arith) ∙ (ap (λ j. which j k) at ∙ ap (which i) (sym z)))))) in
      let r : Step S (Words X) = merged A m.0 c which (suc i) ys ns in
      ap (λ (w : Step S (List X)). merged_at A w.0 c marks (words_at marks whole) (set (front ++ n ∷ ns) i w.1)) same
      ∙ (ap (merged_at A m.0 c marks (words_at marks whole)) (set_in front n m.1 ns i size)
      ∙ (rest m.0 m.1 ∙ (λ j. (r.0, append_assoc front (m.1 ∷ []) r.1 j))))

  chosen_from :
      (i : ℕ) (marks : List Mark) (s : S) (front ys ns : Words X) → length front ≡ i → length ys ≡ length ns → Ascend i (i + length ns) marks → Agree i marks ys ns
      → merged_at A s c marks (words_at marks whole) (front ++ ns) ≡ from s front i ys ns
  chosen_from i [] s front [] [] size h up agree = refl
  chosen_from i (m ∷ marks) s front [] [] size h up agree = let a = up.0 in let b = up.1 in absurd (omega (arith, a, b))
  chosen_from i marks s front [] (n ∷ ns) size h up agree = absurd (omega arith)
  chosen_from i marks s front (y ∷ ys) [] size h up agree = absurd (omega arith)
  chosen_from i [] s front (y ∷ ys) (n ∷ ns) size h up agree =
      passes i [] s front y n ys ns agree (λ place. refl)
      (chosen_from (suc i) [] s (front ++ n ∷ []) ys ns (one_behind front n i size) (omega arith) tt (next_agree i [] [] y n ys ns agree (λ k place. refl)))
  chosen_from i (m ∷ marks) s front (y ∷ ys) (n ∷ ns) size h up agree =
      let count : i + length (n ∷ ns) ≡ suc i + length ns = omega arith in
      elim (eqb_tells i m.signal) [
        | inl t ↦
            let above : Ascend (suc i) (suc i + length ns) marks = subst (λ z. Ascend (suc i) z marks) count (subst (λ z. Ascend (suc z) (i + length (n ∷ ns)) marks) (sym t.1) up.2) in
            subst (λ z. merged_at A s c (mark_of z m.mask ∷ marks) (words_at (mark_of z m.mask ∷ marks) whole) (front ++ n ∷ ns) ≡ from s front i (y ∷ ys) (n ∷ ns)) t.1
            (takes i m.mask marks s front y n ys ns size (subst (λ z. Agree i (mark_of z m.mask ∷ marks) (y ∷ ys) (n ∷ ns)) (sym t.1) agree)
            (λ place. unmarked (suc i) (suc i + length ns) marks i place (omega arith) above)
            (λ u w. chosen_from (suc i) marks u (front ++ w ∷ []) ys ns (one_behind front w i size) (omega arith) above
            (next_agree i (m ∷ marks) marks y n ys ns agree
            (λ k place. ap (λ b. b && has_bit m.mask place || is_marked marks (suc i + k) place) (ne_eqb (suc i + k) m.signal (λ e. let f = t.1 in omega (arith, f)))))))
        | inr t ↦
            let above : Ascend (suc i) (suc i + length ns) (m ∷ marks) = (let a = up.0 in let b = t.1 in omega (arith, a, b), let a = up.1 in omega (arith, a), subst (λ z. Ascend (suc m.signal) z marks) count up.2) in
            passes i (m ∷ marks) s front y n ys ns agree (λ place. unmarked (suc i) (suc i + length ns) (m ∷ marks) i place (omega arith) above)
            (chosen_from (suc i) (m ∷ marks) s (front ++ n ∷ []) ys ns (one_behind front n i size) (omega arith) above (next_agree i (m ∷ marks) (m ∷ marks) y n ys ns agree (λ k place. refl)))
      ]

-- what is chosen behind two branches
pub chosen_at :
    {S X : Type 0} (A : Algebra S X) (s : S) (c : X) (which : ℕ → ℕ → Bool) (marks : List Mark) (ys ns : Words X) → AreMarks (length ns) which marks → length ys ≡ length ns
    → ((k : ℕ) → length (word_of ys k) ≡ length (word_of ns k)) → ((k : ℕ) → length (word_of ys k) ≤ 64)
    → merged_at A s c marks (words_at marks ys) ns ≡ merged A s c which 0 ys ns
chosen_at A s c which marks ys ns h size widths small =
    let zero_k : (k : ℕ) → 0 + k ≡ k = λ k. omega arith in
    chosen_from A c which ys 0 marks s [] ys ns refl size (subst (λ z. Ascend 0 z marks) (sym (zero_k (length ns))) h.ascend) (
      (λ k place l b. ap (λ z. is_marked marks z place) (zero_k k) ∙ (h.same k place l b ∙ ap (λ z. which z place) (sym (zero_k k)))),
      (λ k. ap (word_of ys) (sym (zero_k k))),
      widths,
      small,
    )

digit_less : (a b : Bool) → (a ≡ true → b ≡ true) → digit a ≤ digit b
digit_less true true h = omega arith
digit_less true false h = let e = h refl in cc
digit_less false true h = omega arith
digit_less false false h = omega arith

pub places_less : (f g : ℕ → Bool) (n : ℕ) → ((place : ℕ) → place < n → f place ≡ true → g place ≡ true) → places_below f n ≤ places_below g n
unfolding places_below
places_less f g zero h = omega arith
places_less f g (suc n) h =
    let one = digit_less (f n) (g n) (λ e. h n (omega arith) e) in
    let rest = places_less f g n (λ place l e. h place (omega arith) e) in
    omega (arith, one, rest)

pub bits_less : (f g : ℕ → ℕ → Bool) (count : ℕ) → ((i place : ℕ) → i < count → place < 64 → f i place ≡ true → g i place ≡ true) → bits_among f count ≤ bits_among g count
unfolding bits_among
bits_less f g zero h = omega arith
bits_less f g (suc i) h =
    let one = places_less (f i) (g i) 64 (λ place b e. h i place (omega arith) b e) in
    let rest = bits_less f g i (λ j place l b e. h j place (omega arith) b e) in
    omega (arith, one, rest)

no_places : (f : ℕ → Bool) (n : ℕ) → ((place : ℕ) → f place ≡ false) → places_below f n ≡ 0
unfolding places_below
no_places f zero h = refl
no_places f (suc n) h = ap (λ b. digit b + places_below f n) (h n) ∙ (let rest = no_places f n h in omega (arith, rest))

true_or : (a b : Bool) → b ≡ true → (a || b) ≡ true
true_or true b h = refl
true_or false b h = h

marks_more : (m : Mark) (g : ℕ → ℕ → Bool) (count : ℕ) → m.signal < count → ((place : ℕ) → g m.signal place ≡ false)
    → places_below (has_bit m.mask) 64 + bits_among g count ≤ bits_among (λ i place. nat_eq i m.signal && has_bit m.mask place || g i place) count
unfolding bits_among
marks_more m g zero l h = absurd (omega arith)
marks_more m g (suc i) l h =
    let both : ℕ → ℕ → Bool = λ j place. nat_eq j m.signal && has_bit m.mask place || g j place in
    elim (eqb_tells i m.signal) [
      | inl t ↦
          let one : places_below (has_bit m.mask) 64 ≤ places_below (both i) 64 =
          places_less (has_bit m.mask) (both i) 64 (λ place b e. ap (λ z. z && has_bit m.mask place || g i place) t.0 ∙ ap (λ z. z || g i place) e) in
          let none : places_below (g i) 64 ≡ 0 = no_places (g i) 64 (λ place. ap (λ j. g j place) t.1 ∙ h place) in
          let rest : bits_among g i ≤ bits_among both i = bits_less g both i (λ j place a b e. true_or (nat_eq j m.signal && has_bit m.mask place) (g j place) e) in
          omega (arith, one, none, rest)
      | inr t ↦
          let one : places_below (g i) 64 ≤ places_below (both i) 64 = places_less (g i) (both i) 64 (λ place b e. true_or (nat_eq i m.signal && has_bit m.mask place) (g i place) e) in
          let rest : places_below (has_bit m.mask) 64 + bits_among g i ≤ bits_among both i = marks_more m g i (let ne = t.1 in omega (arith, l, ne)) h in
          omega (arith, one, rest)
    ]

marked_few_from : (n count : ℕ) (marks : List Mark) → Ascend n count marks → marked_bits marks ≤ bits_among (is_marked marks) count
marked_few_from n count [] h = omega arith
marked_few_from n count (m ∷ marks) h =
    let rest = marked_few_from (suc m.signal) count marks h.2 in
    let more = marks_more m (is_marked marks) count h.1 (λ place. unmarked (suc m.signal) count marks m.signal place (omega arith) h.2) in
    omega (arith, rest, more)

pub marked_few : (count : ℕ) (which : ℕ → ℕ → Bool) (marks : List Mark) → AreMarks count which marks → marked_bits marks ≤ bits_among which count
marked_few count which marks h =
    let few = marked_few_from 0 count marks h.ascend in
    let less = bits_less (is_marked marks) which count (λ i place l b e. sym (h.same i place l b) ∙ e) in
    omega (arith, few, less)
