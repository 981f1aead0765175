-- Steps of the loops over bits, marks and choices that wait.
use Rattle.std.proofs.Common.{◌≡◌, ◌∙◌, ℕ, zero, suc, ◌+◌, ◌-◌, ◌<◌, ◌≤◌, Bool, true, false, cond, eqb, List, [], ◌∷◌, ◌++◌, length, map, get_or, set, take, drop, refl, sym, ap, subst, arith, inl, inr, append_assoc, Result, Ok, Err}
use Rattle.std.specs.List.{All, AllByRecursion}
use Rattle.std.specs.declared.vec.Vec.{Vec}
use Rattle.std.specs.declared.alloc.Global.{Global}
use Rattle.std.proofs.lemmas.Bool.Decides.{eqb_tells}
use Rattle.std.proofs.lemmas.List.{drop_more, take_more, length-map, length-append, length-set, get_or-set_same, get_or-set_other, map-append, append-nil}
use Rattle.std.proofs.lemmas.List.Elements.{All-weaker, All-nil, All-cons, All-head, All-tail}
use Rattle.rst_gate.specs.declared.edge.Edge.{Edge}
use Rattle.rst_gate.specs.Circuits.{IsBelow}
use Rattle.rst_gate.specs.GateLists.{GateList, next_node}
use Rattle.rst_cycle.specs.Bits.{has_bit, digit}
use Rattle.rst_terms.specs.Algebras.{Algebra, Step}
use Rattle.rst_word_gates.specs.GateAlgebra.{gates_so_far}
use Rattle.rst_lower.specs.WireWords.{widths_of, WiresStand}
use Rattle.rst_statement_terms.specs.Targets.{Words, word_of, merged_word}
use Rattle.rst_statement_terms.specs.Weights.{places_below}
use Rattle.rst_statement_gates.specs.declared.marks.Mark.{Mark}
use Rattle.rst_statement_gates.specs.declared.waiting.Waiting.{Waiting}
use Rattle.rst_statement_gates.specs.Marks.{Ascend}
use Rattle.rst_statement_gates.specs.Choices.{words_at, with_words, chosen_bit, merged_at, held_words, chosen_behind, marked_bits, Matches, IsReady, AreReady, waiting_bits}

-- ---- words of marks

pub words_at_more : (marks : List Mark) (wires : Words Edge) (k : ℕ) (d : Mark) → k < length marks
    → words_at (drop k marks) wires ≡ word_of wires (get_or marks k d).signal ∷ words_at (drop (k + 1) marks) wires
words_at_more marks wires k d h = ap (λ ms. words_at ms wires) (drop_more marks k d h)

pub held_push : (vs : List (Vec Edge Global)) (v : Vec Edge Global) → held_words (vs ++ v ∷ []) ≡ held_words vs ++ v.items ∷ []
held_push vs v = map-append (λ (v : Vec Edge Global). v.items) vs (v ∷ [])

pub held_more : (vs : List (Vec Edge Global)) (k : ℕ) (d : Vec Edge Global) → k < length vs → held_words (drop k vs) ≡ (get_or vs k d).items ∷ held_words (drop (k + 1) vs)
held_more vs k d h = ap held_words (drop_more vs k d h)

pub held_length : (vs : List (Vec Edge Global)) → length (held_words vs) ≡ length vs
held_length vs = length-map vs (λ (v : Vec Edge Global). v.items)

-- one more word read
pub words_turn : (marks : List Mark) (wires : Words Edge) (k : ℕ) (d : Mark) (out more : List (Vec Edge Global)) (v : Vec Edge Global) (all : List (List Edge)) → k < length marks
    → all ≡ held_words out ++ words_at (drop k marks) wires → v.items ≡ word_of wires (get_or marks k d).signal → more ≡ out ++ v ∷ [] → all ≡ held_words more ++ words_at (drop (k + 1) marks) wires
words_turn marks wires k d out more v all h run word is =
    let rest = words_at (drop (k + 1) marks) wires in
    run ∙ (ap (λ ws. held_words out ++ ws) (words_at_more marks wires k d h ∙ ap (λ w. w ∷ rest) (sym word))
    ∙ (sym (append_assoc (held_words out) (v.items ∷ []) rest) ∙ ap (λ ws. ws ++ rest) (sym (ap held_words is ∙ held_push out v))))

-- one more word put
pub put_turn : (marks : List Mark) (vs : List (Vec Edge Global)) (k : ℕ) (d : Mark) (e : Vec Edge Global) (wires after all : Words Edge) → k < length marks → k < length vs
    → all ≡ with_words (drop k marks) (held_words (drop k vs)) wires → after ≡ set wires (get_or marks k d).signal (get_or vs k e).items
    → all ≡ with_words (drop (k + 1) marks) (held_words (drop (k + 1) vs)) after
put_turn marks vs k d e wires after all h l run is =
    run ∙ ((λ j. with_words (drop_more marks k d h j) (held_more vs k e l j) wires) ∙ ap (with_words (drop (k + 1) marks) (held_words (drop (k + 1) vs))) (sym is))

-- ---- bits of a word

pub edges_later : (m n : ℕ) (es : List Edge) → m ≤ n → All (IsBelow m) es → All (IsBelow n) es
edges_later m n es h all = All-weaker (IsBelow m) (IsBelow n) (λ e b. omega arith) es all

pub length_one : {X : Type 0} (xs : List X) (x : X) → length (xs ++ x ∷ []) ≡ length xs + 1
length_one xs x = let a = length-append xs (x ∷ []) in omega (arith, a)

pub joined_stand : (n : ℕ) (xs : List Edge) (x : Edge) → All (IsBelow n) xs → IsBelow n x → All (IsBelow n) (xs ++ x ∷ [])
joined_stand n [] x h k = All-cons (IsBelow n) x [] k (All-nil (IsBelow n))
joined_stand n (y ∷ xs) x h k = All-cons (IsBelow n) y (xs ++ x ∷ []) (All-head (IsBelow n) y xs h) (joined_stand n xs x (All-tail (IsBelow n) y xs h) k)

abbrev pub bits_behind : {S X : Type 0} → List X → Step S (List X) → Step S (List X)
bits_behind out r = (r.0, out ++ r.1)

word_step : {S X : Type 0} (A : Algebra S X) (s : S) (c : X) (which : ℕ → Bool) (place : ℕ) (y n : X) (ys ns : List X)
    → merged_word A s c which place (y ∷ ys) (n ∷ ns)
    ≡ bits_behind ((chosen_bit A s c (which place) y n).1 ∷ []) (merged_word A (chosen_bit A s c (which place) y n).0 c which (suc place) ys ns)
unfolding chosen_bit
word_step A s c which place y n ys ns = by_bit (which place)
  where
    by_bit : (b : Bool) → cond b (let m = A.choice s c y n in let rest = merged_word A m.0 c which (suc place) ys ns in (rest.0, m.1 ∷ rest.1))
        (let rest = merged_word A s c which (suc place) ys ns in (rest.0, n ∷ rest.1))
        ≡ bits_behind ((cond b (A.choice s c y n) (s, n)).1 ∷ []) (merged_word A (cond b (A.choice s c y n) (s, n)).0 c which (suc place) ys ns)
    by_bit true = refl
    by_bit false = refl

pub one_more :
    {S X : Type 0} (A : Algebra S X) (ys ns : List X) (i : ℕ) (d e : X) (which : ℕ → Bool) (out more : List X) (whole : Step S (List X)) (s t : S) (c bit : X)
    → i < length ys → i < length ns → whole ≡ bits_behind out (merged_word A s c which i (drop i ys) (drop i ns))
    → t ≡ (chosen_bit A s c (which i) (get_or ys i d) (get_or ns i e)).0 → bit ≡ (chosen_bit A s c (which i) (get_or ys i d) (get_or ns i e)).1
    → more ≡ out ++ bit ∷ []
    → whole ≡ bits_behind more (merged_word A t c which (i + 1) (drop (i + 1) ys) (drop (i + 1) ns))
one_more {S} {X} A ys ns i d e which out more whole s t c bit h k run state at_bit is =
    let next : i + 1 ≡ suc i = omega arith in
    let m : Step S X = chosen_bit A s c (which i) (get_or ys i d) (get_or ns i e) in
    let rest : Step S (List X) = merged_word A m.0 c which (suc i) (drop (i + 1) ys) (drop (i + 1) ns) in
    run
    ∙ ((λ j. bits_behind out (merged_word A s c which i (drop_more ys i d h j) (drop_more ns i e k j)))
    ∙ (ap (bits_behind out) (word_step A s c which i (get_or ys i d) (get_or ns i e) (drop (i + 1) ys) (drop (i + 1) ns))
    ∙ ((λ j. (rest.0, sym (append_assoc out (m.1 ∷ []) rest.1) j))
    ∙ sym ((λ j. bits_behind (is j) (merged_word A (state j) c which (next j) (drop (i + 1) ys) (drop (i + 1) ns)))
    ∙ ap (λ b. bits_behind (out ++ b ∷ []) rest) at_bit))))

pub places_more : (f : ℕ → Bool) (n : ℕ) → places_below f (n + 1) ≡ digit (f n) + places_below f n
unfolding places_below
places_more f n = let next : n + 1 ≡ suc n = omega arith in ap (places_below f) next

pub places_room : (f : ℕ → Bool) (n m : ℕ) → n < m → digit (f n) + places_below f n ≤ places_below f m
unfolding places_below
places_room f n zero h = absurd (omega arith)
places_room f n (suc m) h =
    elim (eqb_tells n m) [
      | inl t ↦ let e = ap (λ k. digit (f k) + places_below f k) t.1 in omega (arith, e)
      | inr t ↦ let rest = places_room f n m (let ne = t.1 in omega (arith, ne)) in omega (arith, rest)
    ]

pub places_up : (f : ℕ → Bool) (n m : ℕ) → n ≤ m → places_below f n ≤ places_below f m
unfolding places_below
places_up f n zero h = let e : n ≡ 0 = omega arith in let f : places_below f n ≡ 0 = ap (places_below f) e in omega (arith, f)
places_up f n (suc m) h =
    elim (eqb_tells n (suc m)) [
      | inl t ↦ let e = ap (places_below f) t.1 in omega (arith, e)
      | inr t ↦ let rest = places_up f n m (let ne = t.1 in omega (arith, ne)) in omega (arith, rest)
    ]

pub ruleset word_turns = (one_more, edges_later, places_more, places_room, places_up)

-- ---- words of signals

pub words_match : (marks : List Mark) (wires : Words Edge) → Matches (widths_of wires) marks (words_at marks wires)
words_match [] wires = tt
words_match (m ∷ marks) wires = (refl, words_match marks wires)

pub matches_length : (widths : ℕ → ℕ) (marks : List Mark) (words : List (List Edge)) → Matches widths marks words → length words ≡ length marks
matches_length widths [] [] h = refl
matches_length widths [] (w ∷ words) h = absurd h
matches_length widths (m ∷ marks) [] h = absurd h
matches_length widths (m ∷ marks) (w ∷ words) h = ap suc (matches_length widths marks words h.1)

pub words_stand : (n : ℕ) (marks : List Mark) (wires : Words Edge) → WiresStand n wires → AllByRecursion (All (IsBelow n)) (words_at marks wires)
words_stand n [] wires h = tt
words_stand n (m ∷ marks) wires h = (h.each m.signal, words_stand n marks wires h)

words_later : (m n : ℕ) (words : List (List Edge)) → m ≤ n → AllByRecursion (All (IsBelow m)) words → AllByRecursion (All (IsBelow n)) words
words_later m n [] h all = tt
words_later m n (w ∷ words) h all = (edges_later m n w h all.0, words_later m n words h all.1)

pub wires_later : (m n : ℕ) (wires : Words Edge) → m ≤ n → WiresStand m wires → WiresStand n wires
wires_later m n wires h all = record { each = λ i. edges_later m n (word_of wires i) h (all.each i) }

pub ready_later : (m n count : ℕ) (widths : ℕ → ℕ) (w : Waiting) → m ≤ n → IsReady m count widths w → IsReady n count widths w
ready_later m n count widths w l h = record {
  ascend = h.ascend;
  test = let t = h.test in omega (arith, t);
  stand = words_later m n (held_words w.words.items) l h.stand;
  matches = h.matches;
}

pub all_ready_later : (m n count : ℕ) (widths : ℕ → ℕ) (ws : List Waiting) → m ≤ n → AreReady m count widths ws → AreReady n count widths ws
all_ready_later m n count widths [] l h = tt
all_ready_later m n count widths (w ∷ ws) l h = (ready_later m n count widths w l h.0, all_ready_later m n count widths ws l h.1)

-- a word in place of one that is as wide
set_width : (wires : Words Edge) (s i : ℕ) (word : List Edge) → s < length wires → length word ≡ widths_of wires s → widths_of (set wires s word) i ≡ widths_of wires i
set_width wires s i word l h = elim (eqb_tells i s) [
  | inl t ↦ ap (λ k. length (get_or (set wires s word) k [])) t.1 ∙ (ap length (get_or-set_same wires s word [] l) ∙ (h ∙ sym (ap (widths_of wires) t.1)))
  | inr t ↦ ap length (get_or-set_other wires s i word [] t.1)
]

pub set_widths : (wires : Words Edge) (s : ℕ) (word : List Edge) → s < length wires → length word ≡ widths_of wires s → widths_of (set wires s word) ≡ widths_of wires
set_widths wires s word l h = λ k i. set_width wires s i word l h k

pub set_stands : (n : ℕ) (wires : Words Edge) (s : ℕ) (word : List Edge) → s < length wires → WiresStand n wires → All (IsBelow n) word → WiresStand n (set wires s word)
set_stands n wires s word l h k = record {
  each = λ i. elim (eqb_tells i s) [
    | inl t ↦ subst (All (IsBelow n)) (sym (ap (λ j. get_or (set wires s word) j []) t.1 ∙ get_or-set_same wires s word [] l)) k
    | inr t ↦ subst (All (IsBelow n)) (sym (get_or-set_other wires s i word [] t.1)) (h.each i)
  ];
}

-- What the loop over the marks of a choice keeps.
pub record MergeLeft (start : GateList) (before : Words Edge) (test : Edge) (all : List Mark) (all_words : List (List Edge)) (gates : GateList) (wires : Words Edge) (marks : List Mark) (ones : List (List Edge)) : Type 0 where
  pub run : merged_at gates_so_far start test all all_words before ≡ merged_at gates_so_far gates test marks ones wires
  pub stand : WiresStand (next_node gates) wires
  pub widths : widths_of wires ≡ widths_of before
  pub count : length wires ≡ length before
  pub ones_stand : AllByRecursion (All (IsBelow (next_node gates))) ones
  pub matches : Matches (widths_of before) marks ones
  pub few : next_node gates + marked_bits marks ≤ next_node start + marked_bits all
  pub grows : next_node start ≤ next_node gates

pub merge_begins : (start : GateList) (before : Words Edge) (w : Waiting) → WiresStand (next_node start) before → IsReady (next_node start) (length before) (widths_of before) w
    → MergeLeft start before w.test w.marks.items (held_words w.words.items) start before w.marks.items (held_words w.words.items)
merge_begins start before w stand h = record {
  run = refl;
  stand = stand;
  widths = refl;
  count = refl;
  ones_stand = h.stand;
  matches = h.matches;
  few = omega arith;
  grows = omega arith;
}

pub merge_next :
    (start : GateList) (before : Words Edge) (test : Edge) (all : List Mark) (all_words : List (List Edge)) (gates later : GateList) (wires after : Words Edge)
    (m : Mark) (marks : List Mark) (one word : List Edge) (ones : List (List Edge))
    → MergeLeft start before test all all_words gates wires (m ∷ marks) (one ∷ ones) → m.signal < length before
    → later ≡ (merged_word gates_so_far gates test (has_bit m.mask) 0 one (word_of wires m.signal)).0
    → word ≡ (merged_word gates_so_far gates test (has_bit m.mask) 0 one (word_of wires m.signal)).1
    → after ≡ set wires m.signal word → All (IsBelow (next_node later)) word → length word ≡ length (word_of wires m.signal)
    → next_node gates ≤ next_node later → next_node later ≤ next_node gates + places_below (has_bit m.mask) 64
    → MergeLeft start before test all all_words later after marks ones
merge_next start before test all all_words gates later wires after m marks one word ones h l state bits is stands width grows few =
    let inside : m.signal < length wires = let c = h.count in omega (arith, c, l) in
    record {
      run = h.run ∙ sym (λ j. merged_at gates_so_far (state j) test marks ones ((is ∙ ap (set wires m.signal) bits) j));
      stand = subst (WiresStand (next_node later)) (sym is)
          (set_stands (next_node later) wires m.signal word inside (wires_later (next_node gates) (next_node later) wires grows h.stand) stands);
      widths = ap widths_of is ∙ (set_widths wires m.signal word inside width ∙ h.widths);
      count = ap length is ∙ (length-set wires m.signal word ∙ h.count);
      ones_stand = words_later (next_node gates) (next_node later) ones grows h.ones_stand.1;
      matches = h.matches.1;
      few = let f = h.few in omega (arith, f, few);
      grows = let g = h.grows in omega (arith, g, grows);
    }

pub matches_first : (widths : ℕ → ℕ) (marks : List Mark) (vs : List (Vec Edge Global)) (k : ℕ) (m : Mark) (v : Vec Edge Global) → k < length marks → k < length vs
    → m ≡ get_or marks k m → v ≡ get_or vs k v → Matches widths (drop k marks) (held_words (drop k vs)) → length v.items ≡ widths m.signal
matches_first widths marks vs k m v h l e f all =
    let first : length (get_or vs k v).items ≡ widths (get_or marks k m).signal =
    (subst (λ (ms : List Mark). Matches widths ms ((get_or vs k v).items ∷ held_words (drop (k + 1) vs))) (drop_more marks k m h)
    (subst (Matches widths (drop k marks)) (held_more vs k v l) all)).0 in
    ap (λ (z : Vec Edge Global). length z.items) f ∙ (first ∙ sym (ap (λ (z : Mark). widths z.signal) e))

pub as_many : (widths : ℕ → ℕ) (marks : List Mark) (vs : List (Vec Edge Global)) → Matches widths marks (held_words vs) → length vs ≡ length marks
as_many widths marks vs h = sym (held_length vs) ∙ matches_length widths marks (held_words vs) h

pub merge_turn :
    (start : GateList) (before : Words Edge) (test : Edge) (all : List Mark) (all_words : List (List Edge)) (marks : List Mark) (vs : List (Vec Edge Global)) (k : ℕ) (m : Mark) (v : Vec Edge Global)
    (gates later : GateList) (wires after : Words Edge) (one other word : List Edge) → k < length marks → k < length vs → m ≡ get_or marks k m → v ≡ get_or vs k v → m.signal < length before
    → MergeLeft start before test all all_words gates wires (drop k marks) (held_words (drop k vs)) → one ≡ v.items → other ≡ word_of wires m.signal
    → later ≡ (merged_word gates_so_far gates test (has_bit m.mask) 0 one other).0 → word ≡ (merged_word gates_so_far gates test (has_bit m.mask) 0 one other).1
    → after ≡ set wires m.signal word → All (IsBelow (next_node later)) word → length word ≡ length other
    → next_node gates ≤ next_node later → next_node later ≤ next_node gates + places_below (has_bit m.mask) 64
    → MergeLeft start before test all all_words later after (drop (k + 1) marks) (held_words (drop (k + 1) vs))
merge_turn start before test all all_words marks vs k m v gates later wires after one other word h l e f inside left is_one is_other state bits is stands width grows few =
    let first : drop k marks ≡ m ∷ drop (k + 1) marks = drop_more marks k m h ∙ ap (λ (z : Mark). z ∷ drop (k + 1) marks) (sym e) in
    let words : held_words (drop k vs) ≡ v.items ∷ held_words (drop (k + 1) vs) = held_more vs k v l ∙ ap (λ (z : Vec Edge Global). z.items ∷ held_words (drop (k + 1) vs)) (sym f) in
    let parts : MergeLeft start before test all all_words gates wires (m ∷ drop (k + 1) marks) (v.items ∷ held_words (drop (k + 1) vs)) =
    subst (λ (ms : List Mark). MergeLeft start before test all all_words gates wires ms (v.items ∷ held_words (drop (k + 1) vs))) first
    (subst (MergeLeft start before test all all_words gates wires (drop k marks)) words left) in
    let same : merged_word gates_so_far gates test (has_bit m.mask) 0 one other ≡ merged_word gates_so_far gates test (has_bit m.mask) 0 v.items (word_of wires m.signal) =
    (λ j. merged_word gates_so_far gates test (has_bit m.mask) 0 (is_one j) (is_other j)) in
    merge_next start before test all all_words gates later wires after m (drop (k + 1) marks) v.items word (held_words (drop (k + 1) vs)) parts inside
    (state ∙ ap (λ (r : Step GateList (List Edge)). r.0) same) (bits ∙ ap (λ (r : Step GateList (List Edge)). r.1) same) is stands (width ∙ ap length is_other) grows few

-- ---- choices that wait, from the last on

-- What the loop over choices keeps; `left` are those that are still to come.
pub record BehindLeft (start : GateList) (before : Words Edge) (all : List Waiting) (gates : GateList) (wires : Words Edge) (left : List Waiting) : Type 0 where
  pub run : chosen_behind all (start, before) ≡ chosen_behind left (gates, wires)
  pub stand : WiresStand (next_node gates) wires
  pub widths : widths_of wires ≡ widths_of before
  pub count : length wires ≡ length before
  pub ready : AreReady (next_node gates) (length before) (widths_of before) left
  pub few : next_node gates + waiting_bits left ≤ next_node start + waiting_bits all
  pub grows : next_node start ≤ next_node gates

pub behind_begins : (start : GateList) (before : Words Edge) (all left : List Waiting) → left ≡ all → WiresStand (next_node start) before → AreReady (next_node start) (length before) (widths_of before) all
    → BehindLeft start before all start before left
behind_begins start before all left is stand ready =
    rw is (record { run = refl; stand = stand; widths = refl; count = refl; ready = ready; few = omega arith; grows = omega arith })

pub behind_push : (ws : List Waiting) (w : Waiting) (r : Step GateList (Words Edge))
    → chosen_behind (ws ++ w ∷ []) r ≡ chosen_behind ws (merged_at gates_so_far r.0 w.test w.marks.items (held_words w.words.items) r.1)
behind_push [] w r = refl
behind_push (v ∷ ws) w r = ap (λ (n : Step GateList (Words Edge)). merged_at gates_so_far n.0 v.test v.marks.items (held_words v.words.items) n.1) (behind_push ws w r)

pub bits_push : (ws : List Waiting) (w : Waiting) → waiting_bits (ws ++ w ∷ []) ≡ waiting_bits ws + marked_bits w.marks.items
bits_push [] w = omega arith
bits_push (v ∷ ws) w = let rest = bits_push ws w in omega (arith, rest)

pub ready_push : (n count : ℕ) (widths : ℕ → ℕ) (ws : List Waiting) (w : Waiting) → AreReady n count widths ws → IsReady n count widths w → AreReady n count widths (ws ++ w ∷ [])
ready_push n count widths [] w h k = (k, tt)
ready_push n count widths (v ∷ ws) w h k = (h.0, ready_push n count widths ws w h.1 k)

pub ready_parts : (n count : ℕ) (widths : ℕ → ℕ) (ws : List Waiting) (w : Waiting) → AreReady n count widths (ws ++ w ∷ []) → AreReady n count widths ws × IsReady n count widths w
ready_parts n count widths [] w h = (tt, h.0)
ready_parts n count widths (v ∷ ws) w h = let rest = ready_parts n count widths ws w h.1 in ((h.0, rest.0), rest.1)

pub behind_next :
    (start : GateList) (before : Words Edge) (all : List Waiting) (gates later : GateList) (wires after : Words Edge) (left rest : List Waiting) (w : Waiting)
    → BehindLeft start before all gates wires left → left ≡ rest ++ w ∷ []
    → later ≡ (merged_at gates_so_far gates w.test w.marks.items (held_words w.words.items) wires).0
    → after ≡ (merged_at gates_so_far gates w.test w.marks.items (held_words w.words.items) wires).1
    → WiresStand (next_node later) after → length after ≡ length wires → widths_of after ≡ widths_of wires
    → next_node gates ≤ next_node later → next_node later ≤ next_node gates + marked_bits w.marks.items
    → BehindLeft start before all later after rest
behind_next start before all gates later wires after left rest w h parts state words stand count widths grows few =
    let ready = ready_parts (next_node gates) (length before) (widths_of before) rest w (subst (AreReady (next_node gates) (length before) (widths_of before)) parts h.ready) in
    let bits : waiting_bits left ≡ waiting_bits rest + marked_bits w.marks.items = ap waiting_bits parts ∙ bits_push rest w in
    record {
      run = h.run ∙ (ap (λ ws. chosen_behind ws (gates, wires)) parts ∙ (behind_push rest w (gates, wires) ∙ sym (λ j. chosen_behind rest (state j, words j))));
      stand = stand;
      widths = widths ∙ h.widths;
      count = count ∙ h.count;
      ready = all_ready_later (next_node gates) (next_node later) (length before) (widths_of before) rest grows ready.0;
      few = let f = h.few in omega (arith, f, bits, few);
      grows = let g = h.grows in omega (arith, g, grows);
    }

pub last_ready :
    (start : GateList) (before : Words Edge) (all : List Waiting) (gates : GateList) (wires : Words Edge) (left rest : List Waiting) (w : Waiting)
    → BehindLeft start before all gates wires left → left ≡ rest ++ w ∷ [] → IsReady (next_node gates) (length wires) (widths_of wires) w
last_ready start before all gates wires left rest w h parts =
    let ready = ready_parts (next_node gates) (length before) (widths_of before) rest w (subst (AreReady (next_node gates) (length before) (widths_of before)) parts h.ready) in
    rw (h.count, h.widths) ready.1

pub last_of : (ws : List Waiting) (n i : ℕ) (w : Waiting) → n ≡ length ws → i < n → w ≡ get_or ws (n - 1 - i) w → take (n - i) ws ≡ take (n - (i + 1)) ws ++ w ∷ []
last_of ws n i w size h is =
    let a : n - i ≡ n - 1 - i + 1 = omega arith in
    let b : n - (i + 1) ≡ n - 1 - i = omega arith in
    ap (λ k. take k ws) a ∙ (take_more ws (n - 1 - i) w (omega (arith, size)) ∙ (λ j. take (sym b j) ws ++ sym is j ∷ []))
