-- The muxes of resets: how many there are, where their edges stand, and what the loops over bits and signals keep.
use Rattle.std.proofs.Common.{◌≡◌, ◌∙◌, ℕ, zero, suc, ◌+◌, ◌-◌, ◌<◌, ◌≤◌, Bool, true, List, [], ◌∷◌, ◌++◌, length, map, drop, get_or, Option, Some, None, arith, refl, sym, ap, subst, append_assoc, length-drop, inl, inr, Result, Ok, Err, OnOk, IfOk}
use Rattle.std.specs.List.{All, slice_get}
use Rattle.std.specs.Option.{option_map}
use Rattle.std.proofs.lemmas.Bool.Decides.{leb_tells, eqb_tells}
use Rattle.std.proofs.lemmas.Option.{slice_get-get_or}
use Rattle.std.proofs.lemmas.List.{drop_more, append-nil, get_or_past}
use Rattle.std.proofs.Math.Seq.{drop-length}
use Rattle.std.specs.declared.vec.Vec.{Vec}
use Rattle.std.specs.declared.alloc.Global.{Global}
use Rattle.std.proofs.lemmas.List.Elements.{All-nil, All-cons, All-append, All-weaker}
use Rattle.rst_gate.specs.declared.edge.Edge.{Edge}
use Rattle.rst_gate.specs.GateLists.{GateList, next_node}
use Rattle.rst_gate.specs.Circuits.{IsBelow}
use Rattle.rst_net.specs.declared.signal.Role.{Role}
use Rattle.rst_net.specs.declared.signal.Role.TheVariants as role
use Rattle.rst_net.specs.declared.signal.Signal.{Signal}
use Rattle.rst_net.specs.Units.{PlainSignal, PlainProcess, plain_signal}
use Rattle.rst_cycle.specs.Bits.{digit}
use Rattle.rst_cycle.specs.Signals.{role_in, role_of, width_of}
use Rattle.rst_cycle.specs.Resets.{BitReset, reset_of}
use Rattle.rst_terms.specs.Algebras.{Step}
use Rattle.rst_word_gates.specs.GateAlgebra.{gates_so_far}
use Rattle.rst_lower.specs.WireWords.{word_of, widths_of, WiresStand}
use Rattle.rst_statement_terms.specs.Targets.{Words}
use Rattle.rst_statement_terms.specs.Weights.{places_below, bits_among}
use Rattle.rst_design_terms.specs.Designs.{turned, reset_bit, reset_bits, reset_word, reset_words}
use Rattle.rst_statement_gates.proofs.Choosing.{places_less}
use Rattle.rst_statement_gates.proofs.Merging.{places_up}
use Rattle.rst_agreement.proofs.Turned.{length_turned}
use Rattle.rst_reset_gates.specs.Tables.{plain_reset, Rows, row_of, reset_at, row_width, IsTable}
use Rattle.rst_reset_gates.specs.Counts.{is_reset, reset_count}
use Rattle.rst_reset_gates.proofs.TurnedWords.{turned_all}

-- ---- how many bits have a reset

more_places : (test : ℕ → Bool) (p : ℕ) → places_below test (suc p) ≡ digit (test p) + places_below test p
unfolding places_below
more_places test p = refl

more_signals : (test : ℕ → ℕ → Bool) (i : ℕ) → bits_among test (i + 1) ≡ places_below (test i) 64 + bits_among test i
unfolding bits_among
more_signals test i = let next : i + 1 ≡ suc i = omega arith in ap (bits_among test) next

bits_none : (a b : ℕ → ℕ → Bool) → bits_among a 0 ≤ bits_among b 0
unfolding bits_among
bits_none a b = omega arith

more_bits : (a b : ℕ → ℕ → Bool) → ((i p : ℕ) → a i p ≡ true → b i p ≡ true) → (n : ℕ) → bits_among a n ≤ bits_among b n
more_bits a b h zero = bits_none a b
more_bits a b h (suc n) =
    let here = places_less (a n) (b n) 64 (λ p below. h n p) in
    let rest = more_bits a b h n in
    let at : n + 1 ≡ suc n = omega arith in
    let left = more_signals a n in let right = more_signals b n in
    let both : bits_among a (n + 1) ≤ bits_among b (n + 1) = omega (arith, here, rest, left, right) in
    subst (λ k. bits_among a k ≤ bits_among b k) at both

-- ---- the bits of a register

pub record BitsLeft (start : Words Edge) (resets : ℕ → Option BitReset) (begin : GateList) (all : List Edge) (gates : GateList) (done left : List Edge) : Type 0 where
  pub state : (reset_bits gates_so_far start resets begin all).0 ≡ (reset_bits gates_so_far start resets gates left).0
  pub bits : (reset_bits gates_so_far start resets begin all).1 ≡ done ++ (reset_bits gates_so_far start resets gates left).1
  pub stand : All (IsBelow (next_node gates)) done
  pub grows : next_node begin ≤ next_node gates
  pub few : next_node gates + places_below (λ place. is_reset (resets place)) (length left) ≤ next_node begin + places_below (λ place. is_reset (resets place)) (length all)

pub bits_begin : (start : Words Edge) (resets : ℕ → Option BitReset) (begin : GateList) (all : List Edge) → BitsLeft start resets begin all begin [] all
bits_begin start resets begin all = record { state = refl; bits = refl; stand = All-nil (IsBelow (next_node begin)); grows = omega arith; few = omega arith }

edges_later : (m n : ℕ) (es : List Edge) → m ≤ n → All (IsBelow m) es → All (IsBelow n) es
edges_later m n es h all = All-weaker (IsBelow m) (IsBelow n) (λ e b. omega arith) es all

pub bits_turn :
    (start : Words Edge) (resets : ℕ → Option BitReset) (begin : GateList) (all : List Edge) (gates later : GateList) (done more : List Edge) (bit : Edge) (k : ℕ) (d : Edge)
    → k < length all → BitsLeft start resets begin all gates done (drop k all)
    → later ≡ (reset_bit gates_so_far start (resets (length all - 1 - k)) gates (get_or all k d)).0
    → bit ≡ (reset_bit gates_so_far start (resets (length all - 1 - k)) gates (get_or all k d)).1
    → IsBelow (next_node later) bit → next_node gates ≤ next_node later
    → next_node later ≤ next_node gates + digit (is_reset (resets (length all - 1 - k))) → more ≡ done ++ bit ∷ []
    → BitsLeft start resets begin all later more (drop (k + 1) all)
bits_turn start resets begin all gates later done more bit k d h left state is stands grows few joined =
    let x : Edge = get_or all k d in
    let rest : List Edge = drop (k + 1) all in
    let n : ℕ = length all - 1 - k in
    let now : BitsLeft start resets begin all gates done (x ∷ rest) = subst (BitsLeft start resets begin all gates done) (drop_more all k d h) left in
    let dropped = length-drop (k + 1) all in
    let long : length rest ≡ n = omega (arith, dropped, h) in
    let m : Step GateList Edge = reset_bit gates_so_far start (resets (length rest)) gates x in
    let to_later : m.0 ≡ later = ap (λ z. (reset_bit gates_so_far start (resets z) gates x).0) long ∙ sym state in
    let to_bit : m.1 ≡ bit = ap (λ z. (reset_bit gates_so_far start (resets z) gates x).1) long ∙ sym is in
    let place = more_places (λ p. is_reset (resets p)) (length rest) in
    let here = ap (λ z. digit (is_reset (resets z))) long in
    let all_few = now.few in
    let all_grows = now.grows in
    record {
      state = now.state ∙ (λ j. (reset_bits gates_so_far start resets (to_later j) rest).0);
      bits = now.bits
          ∙ ((λ j. done ++ to_bit j ∷ (reset_bits gates_so_far start resets (to_later j) rest).1)
          ∙ (sym (append_assoc done (bit ∷ []) (reset_bits gates_so_far start resets later rest).1)
          ∙ ap (λ es. es ++ (reset_bits gates_so_far start resets later rest).1) (sym joined)));
      stand = subst (All (IsBelow (next_node later))) (sym joined)
          (All-append (IsBelow (next_node later)) done (bit ∷ []) (edges_later (next_node gates) (next_node later) done grows now.stand)
          (All-cons (IsBelow (next_node later)) bit [] stands (All-nil (IsBelow (next_node later)))));
      grows = omega (arith, all_grows, grows);
      few = omega (arith, all_few, place, here, few);
    }

pub bits_end : (start : Words Edge) (resets : ℕ → Option BitReset) (begin : GateList) (all : List Edge) (gates : GateList) (done : List Edge) (k : ℕ)
    → k ≡ length all → BitsLeft start resets begin all gates done (drop k all) → BitsLeft start resets begin all gates done []
bits_end start resets begin all gates done k h left = subst (BitsLeft start resets begin all gates done) (ap (λ n. drop n all) h ∙ drop-length all) left

-- ---- the words of all signals

each_push : (n : ℕ) (words : Words Edge) (word : List Edge) → ((i : ℕ) → All (IsBelow n) (word_of words i)) → All (IsBelow n) word
    → (i : ℕ) → All (IsBelow n) (word_of (words ++ word ∷ []) i)
each_push n [] word h k zero = k
each_push n [] word h k (suc i) = All-nil (IsBelow n)
each_push n (w ∷ words) word h k zero = h 0
each_push n (w ∷ words) word h k (suc i) = each_push n words word (λ j. h (suc j)) k i

element : (signals : List PlainSignal) (k : ℕ) → k < length signals → (s : PlainSignal) × ((d : PlainSignal) → get_or signals k d ≡ s)
element [] k h = absurd (omega (arith, h))
element (s ∷ signals) zero h = (s, λ d. refl)
element (s ∷ signals) (suc k) h = element signals k (omega (arith, h))

pub stand_push : (n : ℕ) (words : Words Edge) (word : List Edge) → WiresStand n words → All (IsBelow n) word → WiresStand n (words ++ word ∷ [])
stand_push n words word h k = record { each = each_push n words word h.each k }

pub record WordsLeft (start : Words Edge) (resets : ℕ → ℕ → Option BitReset) (begin : GateList) (signals : List PlainSignal) (gates : GateList) (done : Words Edge) (k : ℕ) : Type 0 where
  pub state : (reset_words gates_so_far start resets begin 0 signals start).0 ≡ (reset_words gates_so_far start resets gates k (drop k signals) (drop k start)).0
  pub words : (reset_words gates_so_far start resets begin 0 signals start).1 ≡ done ++ (reset_words gates_so_far start resets gates k (drop k signals) (drop k start)).1
  pub stand : WiresStand (next_node gates) done
  pub grows : next_node begin ≤ next_node gates
  pub few : next_node gates ≤ next_node begin + reset_count resets k

pub words_begin : (start : Words Edge) (resets : ℕ → ℕ → Option BitReset) (begin : GateList) (signals : List PlainSignal) → WordsLeft start resets begin signals begin [] 0
words_begin start resets begin signals = record { state = refl; words = refl; stand = record { each = λ i. All-nil (IsBelow (next_node begin)) }; grows = omega arith; few = omega arith }

wires_later : (m n : ℕ) (wires : Words Edge) → m ≤ n → WiresStand m wires → WiresStand n wires
wires_later m n wires h all = record { each = λ i. edges_later m n (word_of wires i) h (all.each i) }

pub words_turn :
    (start : Words Edge) (resets : ℕ → ℕ → Option BitReset) (begin : GateList) (signals : List PlainSignal) (gates later : GateList) (done more : Words Edge) (word : List Edge) (k : ℕ) (r : Role)
    → k < length signals → length start ≡ length signals → role_of signals k ≡ r → WordsLeft start resets begin signals gates done k
    → later ≡ (reset_word gates_so_far start (resets k) r gates (word_of start k)).0 → word ≡ (reset_word gates_so_far start (resets k) r gates (word_of start k)).1
    → All (IsBelow (next_node later)) word → next_node gates ≤ next_node later
    → next_node later ≤ next_node gates + places_below (λ place. is_reset (resets k place)) 64 → more ≡ done ++ word ∷ []
    → WordsLeft start resets begin signals later more (k + 1)
words_turn start resets begin signals gates later done more word k r h count of now state is stands grows few joined =
    let found = element signals k h in
    let s : PlainSignal = found.0 in
    let rest : List PlainSignal = drop (k + 1) signals in
    let first : drop k signals ≡ s ∷ rest = drop_more signals k s h ∙ ap (λ x. x ∷ rest) (found.1 s) in
    let below : k < length start = omega (arith, h, count) in
    let second : drop k start ≡ word_of start k ∷ drop (k + 1) start = drop_more start k [] below in
    let same : s.role ≡ r = sym (ap role_in (slice_get-get_or signals k s h ∙ ap Some (found.1 s))) ∙ of in
    let next : suc k ≡ k + 1 = omega arith in
    let step = λ (g : GateList). reset_words gates_so_far start resets g (k + 1) rest (drop (k + 1) start) in
    let whole : reset_words gates_so_far start resets gates k (drop k signals) (drop k start) ≡ ((step later).0, word ∷ (step later).1) =
    (λ j. reset_words gates_so_far start resets gates k (first j) (second j))
    ∙ ((λ j. (let m = reset_word gates_so_far start (resets k) (same j) gates (word_of start k) in
    let z = reset_words gates_so_far start resets m.0 (next j) rest (drop (k + 1) start) in (z.0, m.1 ∷ z.1)))
    ∙ (λ j. ((step (sym state j)).0, sym is j ∷ (step (sym state j)).1))) in
    let all_grows = now.grows in
    let all_few = now.few in
    let counted = more_signals (λ i place. is_reset (resets i place)) k in
    record {
      state = now.state ∙ ap (λ (z : Step GateList (Words Edge)). z.0) whole;
      words = now.words ∙ (ap (λ (z : Step GateList (Words Edge)). done ++ z.1) whole
          ∙ (sym (append_assoc done (word ∷ []) (step later).1) ∙ ap (λ es. es ++ (step later).1) (sym joined)));
      stand = subst (WiresStand (next_node later)) (sym joined) (stand_push (next_node later) done word (wires_later (next_node gates) (next_node later) done grows now.stand) stands);
      grows = omega (arith, all_grows, grows);
      few = omega (arith, all_few, few, counted);
    }

pub record AllReset (start : Words Edge) (resets : ℕ → ℕ → Option BitReset) (begin : GateList) (signals : List PlainSignal) (gates : GateList) (wires : Words Edge) : Type 0 where
  pub state : gates ≡ (reset_words gates_so_far start resets begin 0 signals start).0
  pub words : wires ≡ (reset_words gates_so_far start resets begin 0 signals start).1

pub words_end : (start : Words Edge) (resets : ℕ → ℕ → Option BitReset) (begin : GateList) (signals : List PlainSignal) (gates : GateList) (done : Words Edge) (k : ℕ)
    → k ≡ length signals → WordsLeft start resets begin signals gates done k → AllReset start resets begin signals gates done
words_end start resets begin signals gates done k h left =
    let none : drop k signals ≡ [] = ap (λ n. drop n signals) h ∙ drop-length signals in
    let whole = ap (λ (ss : List PlainSignal). reset_words gates_so_far start resets gates k ss (drop k start)) none in
    record {
      state = sym (left.state ∙ ap (λ (z : Step GateList (Words Edge)). z.0) whole);
      words = sym (left.words ∙ (ap (λ (z : Step GateList (Words Edge)). done ++ z.1) whole ∙ append-nil done));
    }

-- ---- widths

bits_wide : (start : Words Edge) (resets : ℕ → Option BitReset) (xs : List Edge) (s : GateList) → length (reset_bits gates_so_far start resets s xs).1 ≡ length xs
bits_wide start resets [] s = refl
bits_wide start resets (x ∷ xs) s = ap suc (bits_wide start resets xs (reset_bit gates_so_far start (resets (length xs)) s x).0)

word_wide : (start : Words Edge) (resets : ℕ → Option BitReset) (r : Role) (s : GateList) (word : List Edge) → length (reset_word gates_so_far start resets r s word).1 ≡ length word
word_wide start resets role.Register s word =
    length_turned (reset_bits gates_so_far start resets s (turned word)).1 ∙ (bits_wide start resets (turned word) s ∙ length_turned word)
word_wide start resets role.Input s word = refl
word_wide start resets role.Clock s word = refl
word_wide start resets role.Block s word = refl
word_wide start resets role.Wire s word = refl
word_wide start resets role.Idle s word = refl

pub words_long : (start : Words Edge) (resets : ℕ → ℕ → Option BitReset) (signals : List PlainSignal) (words : Words Edge) (s : GateList) (i : ℕ) → length words ≡ length signals
    → length (reset_words gates_so_far start resets s i signals words).1 ≡ length words
words_long start resets [] [] s i h = refl
words_long start resets [] (w ∷ words) s i h = absurd (omega (arith, h))
words_long start resets (signal ∷ signals) [] s i h = refl
words_long start resets (signal ∷ signals) (w ∷ words) s i h = ap suc (words_long start resets signals words (reset_word gates_so_far start (resets i) signal.role s w).0 (suc i) (omega (arith, h)))

pub words_wide : (start : Words Edge) (resets : ℕ → ℕ → Option BitReset) (signals : List PlainSignal) (words : Words Edge) (s : GateList) (i : ℕ) → length words ≡ length signals
    → (j : ℕ) → widths_of (reset_words gates_so_far start resets s i signals words).1 j ≡ widths_of words j
words_wide start resets [] [] s i h j = refl
words_wide start resets [] (w ∷ words) s i h j = absurd (omega (arith, h))
words_wide start resets (signal ∷ signals) [] s i h j = refl
words_wide start resets (signal ∷ signals) (w ∷ words) s i h zero = word_wide start (resets i) signal.role s w
words_wide start resets (signal ∷ signals) (w ∷ words) s i h (suc j) = words_wide start resets signals words (reset_word gates_so_far start (resets i) signal.role s w).0 (suc i) (omega (arith, h)) j

-- ---- resets that are the same at the bits of registers

bits_same : (start : Words Edge) (f g : ℕ → Option BitReset) (xs : List Edge) (s : GateList) → ((p : ℕ) → p < length xs → f p ≡ g p)
    → reset_bits gates_so_far start f s xs ≡ reset_bits gates_so_far start g s xs
bits_same start f g [] s same = refl
bits_same start f g (x ∷ xs) s same =
    let here = same (length xs) (omega arith) in
    let rest = λ (t : GateList). bits_same start f g xs t (λ p below. same p (omega (arith, below))) in
    let m = reset_bit gates_so_far start (f (length xs)) s x in
    (λ j. ((rest m.0 j).0, m.1 ∷ (rest m.0 j).1))
    ∙ (λ j. (let n = reset_bit gates_so_far start (here j) s x in let z = reset_bits gates_so_far start g n.0 xs in (z.0, n.1 ∷ z.1)))

word_same : (start : Words Edge) (f g : ℕ → Option BitReset) (r : Role) (word : List Edge) (s : GateList) → ((p : ℕ) → r ≡ role.Register → p < length word → f p ≡ g p)
    → reset_word gates_so_far start f r s word ≡ reset_word gates_so_far start g r s word
word_same start f g role.Register word s same =
    let long = length_turned word in
    let both = bits_same start f g (turned word) s (λ p below. same p refl (omega (arith, below, long))) in
    λ j. ((both j).0, turned (both j).1)
word_same start f g role.Input word s same = refl
word_same start f g role.Clock word s same = refl
word_same start f g role.Block word s same = refl
word_same start f g role.Wire word s same = refl
word_same start f g role.Idle word s same = refl

words_same : (start : Words Edge) (f g : ℕ → ℕ → Option BitReset) (signals : List PlainSignal) (words : Words Edge) (s : GateList) (i : ℕ)
    → ((j p : ℕ) → role_in (slice_get signals j) ≡ role.Register → p < widths_of words j → f (i + j) p ≡ g (i + j) p)
    → reset_words gates_so_far start f s i signals words ≡ reset_words gates_so_far start g s i signals words
words_same start f g [] words s i same = refl
words_same start f g (signal ∷ signals) [] s i same = refl
words_same start f g (signal ∷ signals) (w ∷ words) s i same =
    let at : i + 0 ≡ i = omega arith in
    let here = word_same start (f i) (g i) signal.role w s (λ p e below. (λ j. f (sym at j) p) ∙ (same 0 p e below ∙ (λ j. g (at j) p))) in
    let rest = λ (t : GateList). words_same start f g signals words t (suc i)
    (λ j p e below. let next : suc i + j ≡ i + suc j = omega arith in (λ z. f (next z) p) ∙ (same (suc j) p e below ∙ (λ z. g (sym next z) p))) in
    let m = reset_word gates_so_far start (f i) signal.role s w in
    (λ j. ((rest m.0 j).0, m.1 ∷ (rest m.0 j).1))
    ∙ (λ j. (let n = here j in let z = reset_words gates_so_far start g n.0 (suc i) signals words in (z.0, n.1 ∷ z.1)))

row_is : (r : Role) (w : ℕ) → r ≡ role.Register → row_width r w ≡ w
row_is r w e = ap (λ q. row_width q w) e

pub table_same : (start : Words Edge) (signals : List PlainSignal) (clocked : List PlainProcess) (rows : Rows) (s : GateList) → widths_of start ≡ width_of signals
    → IsTable signals clocked rows
    → reset_words gates_so_far start (reset_at rows) s 0 signals start ≡ reset_words gates_so_far start (reset_of clocked) s 0 signals start
table_same start signals clocked rows s wide table =
    words_same start (reset_at rows) (reset_of clocked) signals start s 0
    (λ j p e below.
    let at : 0 + j ≡ j = omega arith in
    let row = table.widths j ∙ row_is (role_of signals j) (width_of signals j) e in
    let width : widths_of start j ≡ width_of signals j = λ z. wide z j in
    (λ z. reset_at rows (at z) p) ∙ (table.bits j p (omega (arith, below, row, width)) ∙ (λ z. reset_of clocked (sym at z) p)))

pub table_count : (signals : List PlainSignal) (clocked : List PlainProcess) (rows : Rows) (n : ℕ) → IsTable signals clocked rows
    → reset_count (reset_at rows) n ≤ reset_count (reset_of clocked) n
table_count signals clocked rows n table =
    more_bits (λ i place. is_reset (reset_at rows i place)) (λ i place. is_reset (reset_of clocked i place))
    (λ i place e.
    elim (leb_tells (suc place) (length (row_of rows i))) [
      | inl t ↦ ap is_reset (sym (table.bits i place (let l = t.1 in omega (arith, l)))) ∙ e
      | inr t ↦ absurd (let none = ap (λ r. is_reset (option_map plain_reset r)) (get_or_past (row_of rows i) place None (let l = t.1 in omega (arith, l))) in cc)
    ]) n

-- ---- room

pub bit_room :
    (start : Words Edge) (resets : ℕ → Option BitReset) (begin : GateList) (all : List Edge) (gates : GateList) (done : List Edge) (k : ℕ) (r : Option BitReset) (bound : ℕ)
    → k < length all → BitsLeft start resets begin all gates done (drop k all) → r ≡ resets (length all - 1 - k)
    → next_node begin + places_below (λ place. is_reset (resets place)) (length all) ≤ bound → next_node gates + digit (is_reset r) ≤ bound
bit_room start resets begin all gates done k r bound h left is room =
    let n : ℕ = length all - 1 - k in
    let dropped = length-drop k all in
    let long : length (drop k all) ≡ suc n = omega (arith, dropped, h) in
    let few = left.few in
    let same = ap (places_below (λ place. is_reset (resets place))) long in
    let more = more_places (λ place. is_reset (resets place)) n in
    let here = ap (λ z. digit (is_reset z)) is in
    omega (arith, few, same, more, here, room)

pub more_room : (test : ℕ → Bool) (n m a bound : ℕ) → n ≤ m → a + places_below test m ≤ bound → a + places_below test n ≤ bound
more_room test n m a bound h room = let up = places_up test n m h in omega (arith, up, room)

pub more_few : (test : ℕ → Bool) (n m a b : ℕ) → n ≤ m → b ≤ a + places_below test n → b ≤ a + places_below test m
more_few test n m a b h few = let up = places_up test n m h in omega (arith, up, few)

count_within : (test : ℕ → ℕ → Bool) (n m : ℕ) → n ≤ m → bits_among test n ≤ bits_among test m
count_within test n zero h = let e : n ≡ 0 = omega (arith, h) in let same = ap (bits_among test) e in omega (arith, same)
count_within test n (suc m) h =
    elim (eqb_tells n (suc m)) [
      | inl t ↦ let same = ap (bits_among test) t.1 in omega (arith, same)
      | inr t ↦
          let ne = t.1 in
          let rest = count_within test n m (omega (arith, h, ne)) in
          let next : m + 1 ≡ suc m = omega arith in
          let more = more_signals test m in
          let same = ap (bits_among test) next in
          omega (arith, rest, more, same)
    ]

pub signal_room : (resets : ℕ → ℕ → Option BitReset) (k n a b bound : ℕ) → k < n → a ≤ b + reset_count resets k → b + reset_count resets n ≤ bound
    → a + places_below (λ place. is_reset (resets k place)) 64 ≤ bound
signal_room resets k n a b bound h few room =
    let more = more_signals (λ i place. is_reset (resets i place)) k in
    let up = count_within (λ i place. is_reset (resets i place)) (k + 1) n (omega (arith, h)) in
    omega (arith, more, up, few, room)

-- ---- results

pub turned_result : {E : Type 0} (P : Edge → Type 0) (r : Result (Vec Edge Global) E) (xs : List Edge) → All P xs → IfOk r (λ v. v.items ≡ turned xs) → IfOk r (λ v. All P v.items)
turned_result P (Ok v) xs all is = subst (All P) (sym is) (turned_all P xs all)
turned_result P (Err e) xs all is = tt

pub on_ok : {X E : Type 0} (P : Type 0) (r : Result X E) → P → OnOk r P
on_ok P (Ok x) h = h
on_ok P (Err e) h = tt

pub same_on_ok : {X E Y : Type 0} (r : Result X E) (x y z : Y) → y ≡ z → OnOk r (x ≡ y) → OnOk r (x ≡ z)
same_on_ok (Ok x) a b d e h = h ∙ e
same_on_ok (Err x) a b d e h = tt

pub same_if_ok : {E Y : Type 0} (r : Result Y E) (y z : Y) → y ≡ z → IfOk r (λ x. x ≡ y) → IfOk r (λ x. x ≡ z)
same_if_ok (Ok x) b d e h = h ∙ e
same_if_ok (Err x) b d e h = tt

pub of_if_ok : {E Y Z : Type 0} (f : Y → Z) (r : Result Y E) (y : Y) (z : Z) → f y ≡ z → IfOk r (λ x. x ≡ y) → IfOk r (λ x. f x ≡ z)
of_if_ok f (Ok x) b d e h = ap f h ∙ e
of_if_ok f (Err x) b d e h = tt

pub less_on_ok : {X E : Type 0} (r : Result X E) (a b d : ℕ) → b ≤ d → OnOk r (a ≤ b) → OnOk r (a ≤ d)
less_on_ok (Ok x) a b d e h = omega (arith, e, h)
less_on_ok (Err x) a b d e h = tt

pub role_at : (signals : List Signal) (k : ℕ) (s : Signal) → k < length signals → s ≡ get_or signals k s → role_of (map plain_signal signals) k ≡ s.role
role_at [] k s h is = absurd (omega (arith, h))
role_at (t ∷ signals) zero s h is = ap (λ (x : Signal). x.role) (sym is)
role_at (t ∷ signals) (suc k) s h is = role_at signals k s (omega (arith, h)) is
