-- The wires before any gate are the words of their nodes.
use Rattle.std.proofs.Common.{◌≡◌, ◌∙◌, ℕ, zero, suc, ◌+◌, ◌<◌, ◌≤◌, Bool, true, false, cond, List, [], ◌∷◌, ◌++◌, length, take, drop, arith, refl, sym, ap, append_assoc, ◌^◌}
use Rattle.std.specs.List.{All}
use Rattle.std.proofs.lemmas.List.{length-replicate, append-nil}
use Rattle.std.proofs.lemmas.List.Elements.{All-nil, All-cons, All-replicate}
use Rattle.std.proofs.lemmas.List.Sums.{sum-map, sum_by-cons}
use Rattle.rst_gate.specs.declared.edge.Edge.{Edge}
use Rattle.rst_gate.specs.GateLists.{plain_edge}
use Rattle.rst_gate.specs.Circuits.{IsBelow}
use Rattle.rst_gate.specs.SharedGates.{constant_edge}
use Rattle.rst_net.specs.declared.signal.Role.{Role}
use Rattle.rst_net.specs.declared.signal.Role.TheVariants as role
use Rattle.rst_net.specs.Units.{PlainSignal}
use Rattle.rst_cycle.specs.Signals.{Whole, same_role, with_role_from, with_role, width_of}
use Rattle.rst_cycle.specs.Cycle.{bit_count}
use Rattle.rst_lower.specs.WireWords.{word_of, widths_of, WiresStand}
use Rattle.rst_statement_terms.specs.Targets.{Words}
use Rattle.rst_design_terms.specs.Designs.{turned, start_word, inputs_behind, state_behind, start_words}
use Rattle.rst_design_terms.specs.Gates.{nodes_from}
use Rattle.rst_agreement.proofs.Turned.{length_turned}
use Rattle.rst_reset_gates.specs.NodeWords.{taken, role_bits, node_word, node_words}
use Rattle.rst_reset_gates.proofs.TurnedWords.{turned_all}

-- ---- how many bits signals have

count_more : (k w : ℕ) (some : List Whole) → bit_count (record { number = k; width = w } ∷ some) ≡ w + bit_count some
count_more k w some =
    let width : Whole → ℕ = λ s. s.width in
    sum-map width (record { number = k; width = w } ∷ some) ∙ (sum_by-cons width (record { number = k; width = w }) some ∙ ap (λ n. w + n) (sym (sum-map width some)))

count_either : (b : Bool) (k w : ℕ) (some : List Whole) → bit_count (cond b (record { number = k; width = w } ∷ some) some) ≡ cond b w 0 + bit_count some
count_either true k w some = count_more k w some
count_either false k w some = omega arith

pub role_bits_from : (k : ℕ) (r : Role) (signals : List PlainSignal) → bit_count (with_role_from k r signals) ≡ role_bits r signals
role_bits_from k r [] = refl
role_bits_from k r (s ∷ signals) =
    count_either (same_role s.role r) k s.extent.width (with_role_from (suc k) r signals)
    ∙ ap (λ n. taken r s.role s.extent.width + n) (role_bits_from (suc k) r signals)

pub role_bits_are : (r : Role) (signals : List PlainSignal) → bit_count (with_role r signals) ≡ role_bits r signals
role_bits_are r signals = role_bits_from 0 r signals

-- ---- nodes in a row

pub nodes_long : (first count : ℕ) → length (nodes_from first count) ≡ count
nodes_long first zero = refl
nodes_long first (suc count) = ap suc (nodes_long (suc first) count)

take_nodes : (first w n m : ℕ) → m ≡ w + n → take w (nodes_from first m) ≡ nodes_from first w
take_nodes first zero n m e = refl
take_nodes first (suc w) n zero e = absurd (omega (arith, e))
take_nodes first (suc w) n (suc m) e = ap (λ es. plain_edge first ∷ es) (take_nodes (suc first) w n m (omega (arith, e)))

drop_nodes : (first w n m : ℕ) → m ≡ w + n → drop w (nodes_from first m) ≡ nodes_from (first + w) n
drop_nodes first zero n m e =
    let at : first ≡ first + 0 = omega arith in
    let same : m ≡ n = omega (arith, e) in
    λ i. nodes_from (at i) (same i)
drop_nodes first (suc w) n zero e = absurd (omega (arith, e))
drop_nodes first (suc w) n (suc m) e =
    let next : suc first + w ≡ first + suc w = omega arith in
    drop_nodes (suc first) w n m (omega (arith, e)) ∙ ap (λ k. nodes_from k n) next

-- of no node none is taken
untaken : (first n : ℕ) → nodes_from first (0 + n) ≡ nodes_from (first + 0) n
untaken first n =
    let at : first ≡ first + 0 = omega arith in
    let same : 0 + n ≡ n = omega arith in
    λ i. nodes_from (at i) (same i)

first_word : (r : Role) (w a b n m : ℕ)
    → start_word (constant_edge false) r w (nodes_from a (taken role.Input r w + n)) (nodes_from b (taken role.Register r w + m)) ≡ node_word r w a b
first_word role.Input w a b n m = ap turned (take_nodes a w n (w + n) refl)
first_word role.Register w a b n m = ap turned (take_nodes b w m (w + m) refl)
first_word role.Clock w a b n m = refl
first_word role.Block w a b n m = refl
first_word role.Wire w a b n m = refl
first_word role.Idle w a b n m = refl

rest_inputs : (r : Role) (w a n : ℕ) → inputs_behind r w (nodes_from a (taken role.Input r w + n)) ≡ nodes_from (a + taken role.Input r w) n
rest_inputs role.Input w a n = drop_nodes a w n (w + n) refl
rest_inputs role.Register w a n = untaken a n
rest_inputs role.Clock w a n = untaken a n
rest_inputs role.Block w a n = untaken a n
rest_inputs role.Wire w a n = untaken a n
rest_inputs role.Idle w a n = untaken a n

rest_state : (r : Role) (w b m : ℕ) → state_behind r w (nodes_from b (taken role.Register r w + m)) ≡ nodes_from (b + taken role.Register r w) m
rest_state role.Register w b m = drop_nodes b w m (w + m) refl
rest_state role.Input w b m = untaken b m
rest_state role.Clock w b m = untaken b m
rest_state role.Block w b m = untaken b m
rest_state role.Wire w b m = untaken b m
rest_state role.Idle w b m = untaken b m

pub start_is : (signals : List PlainSignal) (a b : ℕ)
    → start_words (constant_edge false) signals (nodes_from a (role_bits role.Input signals)) (nodes_from b (role_bits role.Register signals)) ≡ node_words signals a b
start_is [] a b = refl
start_is (s ∷ signals) a b =
    let w : ℕ = s.extent.width in
    let n : ℕ = role_bits role.Input signals in
    let m : ℕ = role_bits role.Register signals in
    let here = first_word s.role w a b n m in
    let ins = rest_inputs s.role w a n in
    let sts = rest_state s.role w b m in
    let rest = start_is signals (a + taken role.Input s.role w) (b + taken role.Register s.role w) in
    (λ i. here i ∷ start_words (constant_edge false) signals (ins i) (sts i)) ∙ ap (λ ws. node_word s.role w a b ∷ ws) rest

-- ---- their length, their widths and their nodes

pub words_long : (signals : List PlainSignal) (a b : ℕ) → length (node_words signals a b) ≡ length signals
words_long [] a b = refl
words_long (s ∷ signals) a b = ap suc (words_long signals _ _)

word_long : (r : Role) (w a b : ℕ) → length (node_word r w a b) ≡ w
word_long role.Input w a b = length_turned (nodes_from a w) ∙ nodes_long a w
word_long role.Register w a b = length_turned (nodes_from b w) ∙ nodes_long b w
word_long role.Clock w a b = length-replicate w (constant_edge false)
word_long role.Block w a b = length-replicate w (constant_edge false)
word_long role.Wire w a b = length-replicate w (constant_edge false)
word_long role.Idle w a b = length-replicate w (constant_edge false)

pub words_wide : (signals : List PlainSignal) (a b : ℕ) (i : ℕ) → widths_of (node_words signals a b) i ≡ width_of signals i
words_wide [] a b i = refl
words_wide (s ∷ signals) a b zero = word_long s.role s.extent.width a b
words_wide (s ∷ signals) a b (suc i) = words_wide signals _ _ i

nodes_stand : (n first count : ℕ) → first + count ≤ n → All (IsBelow n) (nodes_from first count)
nodes_stand n first zero h = All-nil (IsBelow n)
nodes_stand n first (suc count) h =
    All-cons (IsBelow n) (plain_edge first) (nodes_from (suc first) count) (omega (arith, h)) (nodes_stand n (suc first) count (omega (arith, h)))

word_stands : (n : ℕ) (r : Role) (w a b : ℕ) → 0 < n → a + taken role.Input r w ≤ n → b + taken role.Register r w ≤ n → All (IsBelow n) (node_word r w a b)
word_stands n role.Input w a b h p q = turned_all (IsBelow n) (nodes_from a w) (nodes_stand n a w p)
word_stands n role.Register w a b h p q = turned_all (IsBelow n) (nodes_from b w) (nodes_stand n b w q)
word_stands n role.Clock w a b h p q = All-replicate (IsBelow n) w (constant_edge false) h
word_stands n role.Block w a b h p q = All-replicate (IsBelow n) w (constant_edge false) h
word_stands n role.Wire w a b h p q = All-replicate (IsBelow n) w (constant_edge false) h
word_stands n role.Idle w a b h p q = All-replicate (IsBelow n) w (constant_edge false) h

each_stands : (n : ℕ) (signals : List PlainSignal) (a b : ℕ) → 0 < n → a + role_bits role.Input signals ≤ n → b + role_bits role.Register signals ≤ n
    → (i : ℕ) → All (IsBelow n) (word_of (node_words signals a b) i)
each_stands n [] a b h p q i = All-nil (IsBelow n)
each_stands n (s ∷ signals) a b h p q zero = word_stands n s.role s.extent.width a b h (omega (arith, p)) (omega (arith, q))
each_stands n (s ∷ signals) a b h p q (suc i) = each_stands n signals _ _ h (omega (arith, p)) (omega (arith, q)) i

pub words_stand : (n : ℕ) (signals : List PlainSignal) (a b : ℕ) → 0 < n → a + role_bits role.Input signals ≤ n → b + role_bits role.Register signals ≤ n
    → WiresStand n (node_words signals a b)
words_stand n signals a b h p q = record { each = each_stands n signals a b h p q }

-- ---- what the loop over signals keeps

pub record WordsLeft (all : List PlainSignal) (inputs : ℕ) (done : Words Edge) (input state : ℕ) (left : List PlainSignal) : Type 0 where
  pub run : done ++ node_words left input state ≡ node_words all 1 (1 + inputs)
  pub ins : input + role_bits role.Input left ≤ 2 ^ 31
  pub sts : state + role_bits role.Register left ≤ 2 ^ 31

pub words_turn : (all : List PlainSignal) (inputs : ℕ) (done more : Words Edge) (input state : ℕ) (s : PlainSignal) (left : List PlainSignal)
    → WordsLeft all inputs done input state (s ∷ left) → more ≡ done ++ node_word s.role s.extent.width input state ∷ []
    → WordsLeft all inputs more (input + taken role.Input s.role s.extent.width) (state + taken role.Register s.role s.extent.width) left
words_turn all inputs done more input state s left h joined =
    let w : ℕ = s.extent.width in
    let word : List Edge = node_word s.role w input state in
    let rest : Words Edge = node_words left (input + taken role.Input s.role w) (state + taken role.Register s.role w) in
    let ins = h.ins in let sts = h.sts in
    record {
      run = ap (λ ws. ws ++ rest) joined ∙ (append_assoc done (word ∷ []) rest ∙ h.run);
      ins = omega (arith, ins);
      sts = omega (arith, sts);
    }

pub words_end : (all : List PlainSignal) (inputs : ℕ) (done : Words Edge) (input state : ℕ) → WordsLeft all inputs done input state [] → done ≡ node_words all 1 (1 + inputs)
words_end all inputs done input state h = sym (append-nil done) ∙ h.run
