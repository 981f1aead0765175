-- Statements with branches: what waits, and what is chosen in the end.
use Rattle.std.proofs.Common.{◌≡◌, ◌∙◌, ℕ, zero, suc, ◌+◌, ◌*◌, ◌<◌, ◌≤◌, Bool, true, false, ◌||◌, cond, List, [], ◌∷◌, ◌++◌, length, map, refl, sym, ap, subst, arith, inl, inr}
use Rattle.std.specs.List.{All, AllByRecursion}
use Rattle.std.proofs.lemmas.Bool.{cases_Bool}
use Rattle.rst_gate.specs.declared.edge.Edge.{Edge}
use Rattle.rst_gate.specs.Circuits.{IsBelow}
use Rattle.rst_gate.specs.GateLists.{GateList, next_node}
use Rattle.rst_width.specs.Typed.{Typed, shape_of}
use Rattle.rst_terms.specs.declared.kinds.Connective.TheVariants.{Or}
use Rattle.rst_terms.specs.Algebras.{Algebra, Step}
use Rattle.rst_terms.specs.Recurrences.{reduced}
use Rattle.rst_word_gates.specs.GateAlgebra.{gates_so_far}
use Rattle.rst_typed_terms.specs.Expressions.{expression_bits}
use Rattle.rst_lower.specs.WireWords.{widths_of, WiresStand}
use Rattle.rst_net.specs.Statements.{Label, Statement, Statements, Arms, Default, Block, If, Case, Set, Empty, end, more, no_arm, arm, no_default, default}
use Rattle.rst_cycle.specs.Drivers.{sets, all_set, arms_set, default_sets}
use Rattle.rst_statement_terms.specs.Targets.{Words, word_of, merged}
use Rattle.rst_statement_terms.specs.Statements.{Sight, Held, Current, seen, label_bits, is_last, statement_bits, all_bits, arm_bits, default_bits}
use Rattle.rst_statement_terms.specs.Weights.{bits_among, labels_weight, statement_weight, all_weight, arms_weight, default_weight}
use Rattle.rst_statement_values.specs.Fits.{StatementFits, AllFit, ArmsFit, DefaultFits, blocking_of}
use Rattle.rst_statement_gates.specs.declared.marks.Mark.{Mark}
use Rattle.rst_statement_gates.specs.declared.waiting.Waiting.{Waiting}
use Rattle.rst_statement_gates.specs.Sights.{sight_of, AreWires}
use Rattle.rst_statement_gates.specs.Marks.{Ascend, AreMarks, CoversSets, is_marked, mark_statement, arm_marks}
use Rattle.rst_statement_gates.specs.Choices.{words_at, with_words, merged_at, held_words, chosen_behind, marked_bits, Matches, IsReady, AreReady, waiting_bits}
use Rattle.rst_statement_gates.specs.Chains.{Keeps, case_bits, ArmsLeft}
use Rattle.rst_statement_gates.proofs.Marking.{branches_marked, arm_marked}
use Rattle.rst_statement_gates.proofs.Tables.{Leaves, HasWidths, statement_leaves, all_leave, arms_leave, default_leaves}
use Rattle.rst_statement_gates.proofs.Choosing.{chosen_at, put_back, marked_few, bits_less}
use Rattle.rst_statement_gates.proofs.Merging.{edges_later, words_match, words_stand, ready_later, all_ready_later, behind_push, bits_push, ready_push}
use Rattle.rst_statement_gates.proofs.Reading.{are_behind}

-- ---- shapes

pub has_widths : (n : ℕ) (clocked : Bool) (held words : Words Edge) → (are : AreWires n clocked held words)
    → HasWidths gates_so_far (widths_of words) are.at_most_64 (blocking_of (sight_of clocked held)) (sight_of clocked held) words
has_widths n true held words are = ((λ i. refl), (λ other h i. λ k. are.widths refl k i))
has_widths n false held words are = ((λ i. refl), (λ other h i. h i))

pub leaves_of : (n : ℕ) (clocked : Bool) (held words : Words Edge) (g : GateList) (st : Statement) → AreWires n clocked held words
    → StatementFits (widths_of words) (blocking_of (sight_of clocked held)) st → Leaves words (statement_bits gates_so_far (sight_of clocked held) g words st).1 (sets st)
leaves_of n clocked held words g st are fit =
    statement_leaves gates_so_far (widths_of words) are.at_most_64 (blocking_of (sight_of clocked held)) (sight_of clocked held) st g words fit (has_widths n clocked held words are)

pub same_widths : (ws vs : Words Edge) (which : ℕ → ℕ → Bool) → Leaves ws vs which → widths_of vs ≡ widths_of ws
same_widths ws vs which h = λ k i. sym (h.widths i) k

-- behind a statement
pub are_after : (m n : ℕ) (clocked : Bool) (held words after : Words Edge) (g : GateList) (st : Statement) → m ≤ n → AreWires m clocked held words
    → StatementFits (widths_of words) (blocking_of (sight_of clocked held)) st → after ≡ (statement_bits gates_so_far (sight_of clocked held) g words st).1 → WiresStand n after
    → AreWires n clocked held after
are_after m n clocked held words after g st h are fit is stand =
    are_behind m n clocked held words after h are (ap widths_of is ∙ same_widths words (statement_bits gates_so_far (sight_of clocked held) g words st).1 (sets st) (leaves_of m clocked held words g st are fit)) stand

pub widths_after : (n : ℕ) (clocked : Bool) (held words after : Words Edge) (g : GateList) (st : Statement) → AreWires n clocked held words
    → StatementFits (widths_of words) (blocking_of (sight_of clocked held)) st → after ≡ (statement_bits gates_so_far (sight_of clocked held) g words st).1 → widths_of after ≡ widths_of words
widths_after n clocked held words after g st are fit is = ap widths_of is ∙ same_widths words (statement_bits gates_so_far (sight_of clocked held) g words st).1 (sets st) (leaves_of n clocked held words g st are fit)

pub count_after : (n : ℕ) (clocked : Bool) (held words after : Words Edge) (g : GateList) (st : Statement) → AreWires n clocked held words
    → StatementFits (widths_of words) (blocking_of (sight_of clocked held)) st → after ≡ (statement_bits gates_so_far (sight_of clocked held) g words st).1 → length after ≡ length words
count_after n clocked held words after g st are fit is = ap length is ∙ sym (leaves_of n clocked held words g st are fit).count

-- ---- a branch that others follow

-- the wires are put back
pub branch_back : (n : ℕ) (clocked : Bool) (held words after back : Words Edge) (g : GateList) (st : Statement) (marks : List Mark) (kept : List (List Edge)) → AreWires n clocked held words
    → StatementFits (widths_of words) (blocking_of (sight_of clocked held)) st → Ascend 0 (length words) marks → CoversSets (length words) st marks
    → after ≡ (statement_bits gates_so_far (sight_of clocked held) g words st).1 → kept ≡ words_at marks words → back ≡ with_words marks kept after → back ≡ words
branch_back n clocked held words after back g st marks kept are fit ascend covers is words_kept put =
    put ∙ ((λ j. with_words marks (words_kept j) (is j))
    ∙ put_back (sets st) marks words (statement_bits gates_so_far (sight_of clocked held) g words st).1 ascend covers (leaves_of n clocked held words g st are fit))

pub branch_ready : (n m : ℕ) (clocked : Bool) (held words after : Words Edge) (g : GateList) (st : Statement) (test : Edge) (marks : List Mark) (w : Waiting) → AreWires n clocked held words
    → StatementFits (widths_of words) (blocking_of (sight_of clocked held)) st → Ascend 0 (length words) marks → after ≡ (statement_bits gates_so_far (sight_of clocked held) g words st).1
    → WiresStand m after → n ≤ m → IsBelow n test → Keeps test marks after w → IsReady m (length words) (widths_of words) w
branch_ready n m clocked held words after g st test marks w are fit ascend is stand h below keeps =
    let widths : widths_of after ≡ widths_of words = widths_after n clocked held words after g st are fit is in
    record {
      ascend = subst (Ascend 0 (length words)) (sym keeps.marks) ascend;
      test = let e = ap (λ (z : Edge). z.node) keeps.test in omega (arith, e, below, h);
      stand = subst (AllByRecursion (All (IsBelow m))) (sym keeps.words) (words_stand m marks after stand);
      matches = subst (λ (ms : List Mark). Matches (widths_of words) ms (held_words w.words.items)) (sym keeps.marks)
          (subst (Matches (widths_of words) marks) (sym keeps.words) (subst (λ (f : ℕ → ℕ). Matches f marks (words_at marks after)) widths (words_match marks after)));
    }

true_left : (a b : Bool) → a ≡ true → (a || b) ≡ true
true_left true b h = refl
true_left false b h = cc

-- the marks of an `if` cover its first branch
pub first_covered : (count : ℕ) (first second : Statement) (marks : List Mark) → marks ≡ mark_statement count second (mark_statement count first []) → CoversSets count first marks
first_covered count first second marks is i place l b e =
    let h = branches_marked count first second in
    ap (λ (ms : List Mark). is_marked ms i place) is ∙ (h.same i place l b ∙ true_left (sets first i place) (sets second i place) e)

pub body_covered : (count : ℕ) (labels : List Label) (body : Statement) (arms : Arms) (otherwise : Default) (marks : List Mark) → marks ≡ arm_marks count (arm labels body arms) otherwise → CoversSets count body marks
body_covered count labels body arms otherwise marks is i place l b e =
    let h = arm_marked count (arm labels body arms) otherwise in
    ap (λ (ms : List Mark). is_marked ms i place) is
    ∙ (h.same i place l b ∙ true_left (sets body i place || arms_set arms i place) (default_sets otherwise i place) (true_left (sets body i place) (arms_set arms i place) e))

-- what is chosen behind both branches
module _ (n : ℕ) (clocked : Bool) (held words : Words Edge) (are : AreWires n clocked held words) where
  abbrev sight : Sight Edge
  sight = sight_of clocked held

  small : (vs : Words Edge) (which : ℕ → ℕ → Bool) → Leaves words vs which → (k : ℕ) → length (word_of vs k) ≤ 64
  small vs which h k = let most = are.at_most_64 k in let w = h.widths k in omega (arith, most, w)

  pub chosen_both : (s : GateList) (c : Edge) (first second : ℕ → ℕ → Bool) (ys ns : Words Edge) (marks : List Mark) (w : Waiting) → Leaves words ys first → Leaves words ns second
      → AreMarks (length words) (λ i place. first i place || second i place) marks → Keeps c marks ys w
      → merged_at gates_so_far s w.test w.marks.items (held_words w.words.items) ns ≡ merged gates_so_far s c (λ i place. first i place || second i place) 0 ys ns
  chosen_both s c first second ys ns marks w h k all keeps =
      (λ j. merged_at gates_so_far s (keeps.test j) (keeps.marks j) (keeps.words j) ns)
      ∙ chosen_at gates_so_far s c (λ i place. first i place || second i place) marks ys ns (subst (λ z. AreMarks z (λ i place. first i place || second i place) marks) k.count all)
      (sym h.count ∙ k.count) (λ i. sym (h.widths i) ∙ k.widths i) (small ys first h)

  pub if_done :
      (g0 g1 g2 g3 : GateList) (test : Edge) (condition : Typed) (first second : Statement) (marks : List Mark) (w : Waiting) (after : Words Edge)
      → StatementFits (widths_of words) (blocking_of (sight_of clocked held)) (If condition first second)
      → g1 ≡ (let c = expression_bits gates_so_far (seen sight words) g0 condition in reduced gates_so_far Or c.0 c.1).0
      → test ≡ (let c = expression_bits gates_so_far (seen sight words) g0 condition in reduced gates_so_far Or c.0 c.1).1
      → marks ≡ mark_statement (length words) second (mark_statement (length words) first [])
      → g2 ≡ (statement_bits gates_so_far sight g1 words first).0
      → Keeps test marks (statement_bits gates_so_far sight g1 words first).1 w
      → g3 ≡ (statement_bits gates_so_far sight g2 words second).0 → after ≡ (statement_bits gates_so_far sight g2 words second).1
      → merged_at gates_so_far g3 w.test w.marks.items (held_words w.words.items) after ≡ statement_bits gates_so_far sight g0 words (If condition first second)
  if_done g0 g1 g2 g3 test condition first second marks w after fit at_1 at_test is at_2 keeps at_3 at_after =
      let c : Step GateList (List Edge) = expression_bits gates_so_far (seen sight words) g0 condition in
      let t : Step GateList Edge = reduced gates_so_far Or c.0 c.1 in
      let y : Step GateList (Words Edge) = statement_bits gates_so_far sight g1 words first in
      let m : Step GateList (Words Edge) = statement_bits gates_so_far sight g2 words second in
      let both : ℕ → ℕ → Bool = λ i place. sets first i place || sets second i place in
      let all : AreMarks (length words) both marks = subst (AreMarks (length words) both) (sym is) (branches_marked (length words) first second) in
      (λ j. merged_at gates_so_far (at_3 j) w.test w.marks.items (held_words w.words.items) (at_after j))
      ∙ (chosen_both m.0 test (sets first) (sets second) y.1 m.1 marks w (leaves_of n clocked held words g1 first are fit.1) (leaves_of n clocked held words g2 second are fit.2) all keeps
      ∙ ((λ j. let o = statement_bits gates_so_far sight (at_2 j) words second in merged gates_so_far o.0 test both 0 y.1 o.1)
      ∙ (λ j. let x = statement_bits gates_so_far sight (at_1 j) words first in let o = statement_bits gates_so_far sight x.0 words second in merged gates_so_far o.0 (at_test j) both 0 x.1 o.1)))

-- how many bits an `if` chooses
pub few_marked : (count : ℕ) (first second : Statement) (marks : List Mark) → marks ≡ mark_statement count second (mark_statement count first [])
    → marked_bits marks ≤ bits_among (λ i place. sets first i place || sets second i place) count
few_marked count first second marks is =
    subst (λ (ms : List Mark). marked_bits ms ≤ bits_among (λ i place. sets first i place || sets second i place) count) (sym is)
    (marked_few count (λ i place. sets first i place || sets second i place) (mark_statement count second (mark_statement count first [])) (branches_marked count first second))

-- ---- the arms of a case

or_true_right : (a b c : Bool) → (b || c) ≡ true → ((a || b) || c) ≡ true
or_true_right true b c h = refl
or_true_right false b c h = h

fewer : (count bits : ℕ) (labels : List Label) (body : Statement) (arms : Arms) (otherwise : Default) → case_bits count (arm labels body arms) otherwise ≤ bits → case_bits count arms otherwise ≤ bits
fewer count bits labels body arms otherwise h =
    let less = bits_less (λ i place. arms_set arms i place || default_sets otherwise i place) (λ i place. arms_set (arm labels body arms) i place || default_sets otherwise i place) count
    (λ i place l b e. or_true_right (sets body i place) (arms_set arms i place) (default_sets otherwise i place) e) in
    omega (arith, less, h)

pub arms_begin :
    (clocked : Bool) (held : Words Edge) (selector : List Edge) (full : Bool) (otherwise : Default) (start : GateList) (before : Words Edge) (all : Arms)
    → AreWires (next_node start) clocked held before → ArmsFit (widths_of before) (blocking_of (sight_of clocked held)) (length selector) all → All (IsBelow (next_node start)) selector
    → ArmsLeft clocked held selector full otherwise (case_bits (length before) all otherwise) start before all start before all []
arms_begin clocked held selector full otherwise start before all are fit stand =
    record { run = refl; are = are; widths = refl; count = refl; fit = fit; ready = tt; stand = stand; enough = omega arith; few = omega arith; grows = omega arith }

turn_or : (a b c : Bool) → ((a || b) || c) ≡ (a || (b || c))
turn_or true b c = refl
turn_or false b c = refl

module _ (clocked : Bool) (held : Words Edge) (selector : List Edge) (full : Bool) (otherwise : Default) (bits : ℕ) (start : GateList) (before : Words Edge) (all : Arms) where
  abbrev look : Sight Edge
  look = sight_of clocked held

  abbrev ends : GateList → Words Edge → Step GateList (Words Edge)
  ends t us = default_bits gates_so_far look t us otherwise

  -- an arm with a test
  pub arms_tested :
      (gates g1 g2 : GateList) (wires after : Words Edge) (labels : List Label) (body : Statement) (rest : Arms) (waiting longer : List Waiting) (test : Edge) (marks : List Mark) (w : Waiting)
      → ArmsLeft clocked held selector full otherwise bits start before all gates wires (arm labels body rest) waiting → DefaultFits (widths_of wires) (blocking_of look) otherwise
      → is_last full rest otherwise ≡ false → marks ≡ arm_marks (length wires) (arm labels body rest) otherwise
      → g1 ≡ (let m = label_bits gates_so_far (seen look wires) selector gates labels in reduced gates_so_far Or m.0 m.1).0
      → test ≡ (let m = label_bits gates_so_far (seen look wires) selector gates labels in reduced gates_so_far Or m.0 m.1).1
      → g2 ≡ (statement_bits gates_so_far look g1 wires body).0 → after ≡ wires
      → Keeps test marks (statement_bits gates_so_far look g1 wires body).1 w → IsReady (next_node g2) (length wires) (widths_of wires) w → longer ≡ waiting ++ w ∷ []
      → next_node gates ≤ next_node g1 → next_node g1 ≤ next_node gates + labels_weight (widths_of wires) (length wires) (length selector) labels
      → next_node g1 ≤ next_node g2 → next_node g2 ≤ next_node g1 + statement_weight (widths_of wires) (length wires) body
      → ArmsLeft clocked held selector full otherwise bits start before all g2 after rest longer
  arms_tested gates g1 g2 wires after labels body rest waiting longer test marks w h fits last is at_1 at_test at_2 back keeps ready pushed grows1 few1 grows2 few2 =
      let m : Step GateList (List Edge) = label_bits gates_so_far (seen look wires) selector gates labels in
      let t : Step GateList Edge = reduced gates_so_far Or m.0 m.1 in
      let y : Step GateList (Words Edge) = statement_bits gates_so_far look g1 wires body in
      let o : Step GateList (Words Edge) = arm_bits gates_so_far look selector full g2 wires rest otherwise ends in
      let others : ℕ → ℕ → Bool = λ i place. arms_set rest i place || default_sets otherwise i place in
      let fit : ArmsFit (widths_of wires) (blocking_of look) (length selector) (arm labels body rest) = subst (λ (f : ℕ → ℕ). ArmsFit f (blocking_of look) (length selector) (arm labels body rest)) (sym h.widths) h.fit in
      let marked : AreMarks (length wires) (λ i place. sets body i place || others i place) marks =
      record {
        ascend = subst (Ascend 0 (length wires)) (sym is) (arm_marked (length wires) (arm labels body rest) otherwise).ascend;
        same = λ i place l b. ap (λ (ms : List Mark). is_marked ms i place) is ∙ ((arm_marked (length wires) (arm labels body rest) otherwise).same i place l b
            ∙ turn_or (sets body i place) (arms_set rest i place) (default_sets otherwise i place));
      } in
      let rest_leaves : Leaves wires o.1 others =
      arms_leave gates_so_far (widths_of wires) h.are.at_most_64 (blocking_of look) look rest otherwise ends
      (λ s us k. default_leaves gates_so_far (widths_of wires) h.are.at_most_64 (blocking_of look) look otherwise s us fits k) (length selector) selector full g2 wires fit.2
      (has_widths (next_node gates) clocked held wires h.are) in
      let chosen : merged_at gates_so_far o.0 w.test w.marks.items (held_words w.words.items) o.1 ≡ merged gates_so_far o.0 test (λ i place. sets body i place || others i place) 0 y.1 o.1 =
      chosen_both (next_node gates) clocked held wires h.are o.0 test (sets body) others y.1 o.1 marks w (leaves_of (next_node gates) clocked held wires g1 body h.are fit.1) rest_leaves marked keeps in
      let asked : arm_bits gates_so_far look selector full gates wires (arm labels body rest) otherwise ends ≡ merged gates_so_far o.0 test (λ i place. sets body i place || others i place) 0 y.1 o.1 =
      ap (λ b. cond b (statement_bits gates_so_far look gates wires body)
      (let x = statement_bits gates_so_far look t.0 wires body in let p = arm_bits gates_so_far look selector full x.0 wires rest otherwise ends in
      merged gates_so_far p.0 t.1 (λ i place. sets body i place || others i place) 0 x.1 p.1)) last
      ∙ sym ((λ j. let p = arm_bits gates_so_far look selector full (at_2 j) wires rest otherwise ends in merged gates_so_far p.0 test (λ i place. sets body i place || others i place) 0 y.1 p.1)
      ∙ (λ j. let x = statement_bits gates_so_far look (at_1 j) wires body in let p = arm_bits gates_so_far look selector full x.0 wires rest otherwise ends in
      merged gates_so_far p.0 (at_test j) (λ i place. sets body i place || others i place) 0 x.1 p.1)) in
      let count_bits : marked_bits marks ≤ case_bits (length wires) (arm labels body rest) otherwise =
      subst (λ (ms : List Mark). marked_bits ms ≤ case_bits (length wires) (arm labels body rest) otherwise) (sym is)
      (marked_few (length wires) (λ i place. arms_set (arm labels body rest) i place || default_sets otherwise i place) (arm_marks (length wires) (arm labels body rest) otherwise) (arm_marked (length wires) (arm labels body rest) otherwise)) in
      let some : case_bits (length wires) (arm labels body rest) otherwise ≤ bits = subst (λ z. case_bits z (arm labels body rest) otherwise ≤ bits) (sym h.count) h.enough in
      let waits : waiting_bits longer ≡ waiting_bits waiting + marked_bits marks = ap waiting_bits pushed ∙ (bits_push waiting w ∙ ap (λ (ms : List Mark). waiting_bits waiting + marked_bits ms) keeps.marks) in
      let labels_few : next_node g1 ≤ next_node gates + labels_weight (widths_of before) (length before) (length selector) labels =
      subst (λ z. next_node g1 ≤ next_node gates + labels_weight (widths_of before) z (length selector) labels) h.count
      (subst (λ (f : ℕ → ℕ). next_node g1 ≤ next_node gates + labels_weight f (length wires) (length selector) labels) h.widths few1) in
      let body_few : next_node g2 ≤ next_node g1 + statement_weight (widths_of before) (length before) body =
      subst (λ z. next_node g2 ≤ next_node g1 + statement_weight (widths_of before) z body) h.count
      (subst (λ (f : ℕ → ℕ). next_node g2 ≤ next_node g1 + statement_weight f (length wires) body) h.widths few2) in
      let few = h.few in
      record {
        run = h.run ∙ (ap (chosen_behind waiting) (asked ∙ sym chosen) ∙ sym (ap (λ us. chosen_behind longer (arm_bits gates_so_far look selector full g2 us rest otherwise ends)) back
            ∙ (ap (λ ws. chosen_behind ws o) pushed ∙ behind_push waiting w o)));
        are = are_behind (next_node gates) (next_node g2) clocked held wires after (omega arith) h.are (ap widths_of back) (stands_back (next_node gates) (next_node g2) wires after (omega arith) back h.are.stand);
        widths = ap widths_of back ∙ h.widths;
        count = ap length back ∙ h.count;
        fit = h.fit.2;
        ready = subst (AreReady (next_node g2) (length before) (widths_of before)) (sym pushed)
            (ready_push (next_node g2) (length before) (widths_of before) waiting w (all_ready_later (next_node gates) (next_node g2) (length before) (widths_of before) waiting (omega arith) h.ready)
            (subst (λ z. IsReady (next_node g2) z (widths_of before) w) h.count (subst (λ (f : ℕ → ℕ). IsReady (next_node g2) (length wires) f w) h.widths ready)));
        stand = edges_later (next_node gates) (next_node g2) selector (omega arith) h.stand;
        enough = fewer (length before) bits labels body rest otherwise h.enough;
        few = omega (arith, few, labels_few, body_few, waits, count_bits, some);
        grows = let g = h.grows in omega (arith, g, grows1, grows2);
      }
    where
      stands_back : (m n : ℕ) (us vs : Words Edge) → m ≤ n → vs ≡ us → WiresStand m us → WiresStand n vs
      stands_back m n us vs l e k = subst (WiresStand n) (sym e) (record { each = λ i. edges_later m n (word_of us i) l (k.each i) })

  last_behind : (gates g2 : GateList) (wires after : Words Edge) (labels : List Label) (body : Statement) (rest : Arms) (o : Default)
      → is_last full rest o ≡ true → g2 ≡ (statement_bits gates_so_far look gates wires body).0 → after ≡ (statement_bits gates_so_far look gates wires body).1
      → arm_bits gates_so_far look selector full gates wires (arm labels body rest) o (λ t us. default_bits gates_so_far look t us o)
      ≡ arm_bits gates_so_far look selector full g2 after rest o (λ t us. default_bits gates_so_far look t us o)
  last_behind gates g2 wires after labels body no_arm no_default last state words =
      ap (λ b. cond b (statement_bits gates_so_far look gates wires body)
      (let m = label_bits gates_so_far (seen look wires) selector gates labels in let t = reduced gates_so_far Or m.0 m.1 in let x = statement_bits gates_so_far look t.0 wires body in
      merged gates_so_far x.0 t.1 (λ i place. sets body i place || (false || false)) 0 x.1 wires)) last
      ∙ sym (λ j. (state j, words j))
  last_behind gates g2 wires after labels body no_arm (default st) last state words = cc
  last_behind gates g2 wires after labels body (arm ls b as_) no_default last state words = cc
  last_behind gates g2 wires after labels body (arm ls b as_) (default st) last state words = cc

  -- an arm without a test, the last one
  pub arms_untested :
      (gates g2 : GateList) (wires after : Words Edge) (labels : List Label) (body : Statement) (rest : Arms) (waiting : List Waiting)
      → ArmsLeft clocked held selector full otherwise bits start before all gates wires (arm labels body rest) waiting → is_last full rest otherwise ≡ true
      → g2 ≡ (statement_bits gates_so_far look gates wires body).0 → after ≡ (statement_bits gates_so_far look gates wires body).1 → WiresStand (next_node g2) after
      → next_node gates ≤ next_node g2 → next_node g2 ≤ next_node gates + statement_weight (widths_of wires) (length wires) body
      → ArmsLeft clocked held selector full otherwise bits start before all g2 after rest waiting
  arms_untested gates g2 wires after labels body rest waiting h last state words stand grows few2 =
      let fit : ArmsFit (widths_of wires) (blocking_of look) (length selector) (arm labels body rest) = subst (λ (f : ℕ → ℕ). ArmsFit f (blocking_of look) (length selector) (arm labels body rest)) (sym h.widths) h.fit in
      let body_few : next_node g2 ≤ next_node gates + statement_weight (widths_of before) (length before) body =
      subst (λ z. next_node g2 ≤ next_node gates + statement_weight (widths_of before) z body) h.count
      (subst (λ (f : ℕ → ℕ). next_node g2 ≤ next_node gates + statement_weight f (length wires) body) h.widths few2) in
      let few = h.few in
      record {
        run = h.run ∙ ap (chosen_behind waiting) (last_behind gates g2 wires after labels body rest otherwise last state words);
        are = are_after (next_node gates) (next_node g2) clocked held wires after gates body grows h.are fit.1 words stand;
        widths = widths_after (next_node gates) clocked held wires after gates body h.are fit.1 words ∙ h.widths;
        count = count_after (next_node gates) clocked held wires after gates body h.are fit.1 words ∙ h.count;
        fit = h.fit.2;
        ready = all_ready_later (next_node gates) (next_node g2) (length before) (widths_of before) waiting grows h.ready;
        stand = edges_later (next_node gates) (next_node g2) selector grows h.stand;
        enough = fewer (length before) bits labels body rest otherwise h.enough;
        few = omega (arith, few, body_few);
        grows = let g = h.grows in omega (arith, g, grows);
      }
