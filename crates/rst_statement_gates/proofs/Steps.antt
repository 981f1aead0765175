-- Steps of the loops over targets, statements and arms.
use Rattle.std.proofs.Common.{◌≡◌, ◌∙◌, ℕ, zero, suc, ◌+◌, ◌-◌, ◌<◌, ◌≤◌, Bool, true, false, ◌&&◌, cond, eqb, List, [], ◌∷◌, ◌++◌, length, map, get_or, set, take, drop, Result, Ok, Err, refl, sym, ap, subst, arith}
use Rattle.std.specs.List.{All, AllByRecursion}
use Rattle.std.specs.Prelude.{OnOk, IfOk}
use Rattle.std.proofs.lemmas.List.{length-drop}
use Rattle.std.proofs.lemmas.List.Elements.{All-append, All-take, All-drop}
use Rattle.rst_gate.specs.Circuits.{IsBelow}
use Rattle.rst_statement_gates.proofs.Tables.{there, replaced_width}
use Rattle.rst_statement_gates.proofs.Merging.{set_widths}
use Rattle.std.proofs.lemmas.Bool.{ne_eqb}
use Rattle.std.proofs.lemmas.List.{drop_more, take_all}
use Rattle.rst_gate.specs.declared.edge.Edge.{Edge}
use Rattle.rst_gate.specs.GateLists.{GateList, next_node}
use Rattle.rst_terms.specs.Algebras.{Step}
use Rattle.rst_word_gates.specs.GateAlgebra.{gates_so_far}
use Rattle.rst_lower.specs.WireWords.{widths_of, WiresStand}
use Rattle.rst_net.specs.declared.signal.Slice.{Slice}
use Rattle.rst_net.specs.declared.stmt.TypedStmt.{TypedStmt}
use Rattle.rst_net.specs.declared.stmt.TypedArm.{TypedArm}
use Rattle.rst_net.specs.Statements.{Label, Statement, Statements, Arms, Default, end, more, no_arm, arm, no_default, default, plain_stmt, plain_stmts, plain_arms, plain_label}
use Rattle.rst_cycle.specs.Effects.{target_width}
use Rattle.rst_statement_terms.specs.Targets.{Words, word_of, replaced, with_slice, with_target}
use Rattle.rst_statement_terms.specs.Statements.{statement_bits, all_bits, is_last}
use Rattle.rst_statement_terms.specs.Weights.{labels_weight, statement_weight, all_weight, arms_weight}
use Rattle.rst_statement_values.specs.Fits.{SliceInside, StatementFits, AllFit, DefaultFits, blocking_of}
use Rattle.rst_statement_gates.specs.Sights.{sight_of, AreWires}
use Rattle.rst_statement_gates.specs.declared.marks.Mark.{Mark}
use Rattle.rst_statement_gates.specs.declared.waiting.Waiting.{Waiting}
use Rattle.rst_statement_gates.specs.Marks.{arm_marks, chain_marks}
use Rattle.rst_statement_gates.specs.Chains.{ArmsLeft, no_more}
use Rattle.rst_statement_gates.proofs.Marking.{last_same}
use Rattle.rst_statement_gates.proofs.Branching.{are_after, widths_after, count_after}

-- ---- targets

-- What the loop over the slices of a target keeps.
pub record TargetLeft (before : Words Edge) (target : List Slice) (part : List Edge) (wires : Words Edge) (bits : ℕ) (left : List Slice) : Type 0 where
  pub run : with_target target part before ≡ with_target left part wires
  pub bits_left : bits ≡ target_width left
  pub wide : target_width left ≤ length part
  pub inside : AllByRecursion (SliceInside (widths_of wires)) left

slice_widths : (slice : Slice) (part : List Edge) (wires : Words Edge) → SliceInside (widths_of wires) slice → slice.width ≤ length part → widths_of (with_slice slice part wires) ≡ widths_of wires
slice_widths slice part wires inside wide =
    let h = inside.inside in
    let some = inside.some_bits in
    set_widths wires slice.signal (replaced slice.low slice.width part (word_of wires slice.signal)) (there wires slice.signal (omega (arith, h, some)))
    (replaced_width slice.low slice.width part (word_of wires slice.signal) h wide)

pub target_turn : (before : Words Edge) (target : List Slice) (part upper : List Edge) (wires after : Words Edge) (bits : ℕ) (k : ℕ) (d : Slice) → k < length target
    → TargetLeft before target part wires bits (drop k target) → upper ≡ drop (bits - (get_or target k d).width) part → after ≡ with_slice (get_or target k d) upper wires
    → TargetLeft before target part after (bits - (get_or target k d).width) (drop (k + 1) target)
target_turn before target part upper wires after bits k d h left is_upper is =
    let slice : Slice = get_or target k d in
    let rest : List Slice = drop (k + 1) target in
    let first : drop k target ≡ slice ∷ rest = drop_more target k d h in
    let now : TargetLeft before target part wires bits (slice ∷ rest) = subst (TargetLeft before target part wires bits) first left in
    let number = now.bits_left in
    let wide = now.wide in
    let size : bits - slice.width ≡ target_width rest = omega (arith, number) in
    let word : after ≡ with_slice slice (drop (target_width rest) part) wires = is ∙ ap (λ us. with_slice slice us wires) (is_upper ∙ ap (λ n. drop n part) size) in
    let long : slice.width ≤ length (drop (target_width rest) part) = let n = length-drop (target_width rest) part in omega (arith, n, wide) in
    record {
      run = now.run ∙ sym (ap (with_target rest part) word);
      bits_left = size;
      wide = omega (arith, wide);
      inside = subst (λ (f : ℕ → ℕ). AllByRecursion (SliceInside f) rest) (sym (ap widths_of word ∙ slice_widths slice (drop (target_width rest) part) wires now.inside.0 long)) now.inside.1;
    }

set_all : (n : ℕ) (words : Words Edge) (s : ℕ) (w : List Edge) → ((i : ℕ) → All (IsBelow n) (word_of words i)) → All (IsBelow n) w → (i : ℕ) → All (IsBelow n) (word_of (set words s w) i)
set_all n [] s w h k i = h i
set_all n (v ∷ words) zero w h k zero = k
set_all n (v ∷ words) zero w h k (suc i) = h (suc i)
set_all n (v ∷ words) (suc s) w h k zero = h 0
set_all n (v ∷ words) (suc s) w h k (suc i) = set_all n words s w (λ j. h (suc j)) k i

target_stands : (n : ℕ) (target : List Slice) (part : List Edge) (words : Words Edge) → WiresStand n words → All (IsBelow n) part → WiresStand n (with_target target part words)
target_stands n [] part words h k = h
target_stands n (slice ∷ target) part words h k =
    let upper : List Edge = drop (target_width target) part in
    let word : List Edge = word_of words slice.signal in
    let stands : All (IsBelow n) (replaced slice.low slice.width upper word) =
    All-append (IsBelow n) (take slice.low word) (take slice.width upper ++ drop (slice.low + slice.width) word) (All-take (IsBelow n) slice.low word (h.each slice.signal))
    (All-append (IsBelow n) (take slice.width upper) (drop (slice.low + slice.width) word) (All-take (IsBelow n) slice.width upper (All-drop (IsBelow n) (target_width target) part k))
    (All-drop (IsBelow n) (slice.low + slice.width) word (h.each slice.signal))) in
    target_stands n target part (with_slice slice upper words) (record { each = set_all n words slice.signal (replaced slice.low slice.width upper word) h.each stands }) k

pub set_result : {A E : Type 0} (r : Result A E) (n : ℕ) (target : List Slice) (part other : List Edge) (words after : Words Edge) → OnOk r (after ≡ with_target target other words) → other ≡ part
    → WiresStand n words → All (IsBelow n) part → OnOk r (WiresStand n after)
set_result (Ok x) n target part other words after is same h k = subst (WiresStand n) (sym (is ∙ ap (λ us. with_target target us words) same)) (target_stands n target part words h k)
set_result (Err e) n target part other words after is same h k = tt

pub rest_whole : (part : List Edge) (n : ℕ) → take (length part - n) (drop n part) ≡ drop n part
rest_whole part n = let l = length-drop n part in take_all (length part - n) (drop n part) (omega (arith, l))

-- ---- statements

-- What the loop over statements keeps.
pub record AllLeft (clocked : Bool) (held : Words Edge) (start : GateList) (before : Words Edge) (all : Statements) (gates : GateList) (wires : Words Edge) (left : Statements) : Type 0 where
  pub run : all_bits gates_so_far (sight_of clocked held) start before all ≡ all_bits gates_so_far (sight_of clocked held) gates wires left
  pub are : AreWires (next_node gates) clocked held wires
  pub widths : widths_of wires ≡ widths_of before
  pub count : length wires ≡ length before
  pub fit : AllFit (widths_of wires) (blocking_of (sight_of clocked held)) left
  pub few : next_node gates + all_weight (widths_of before) (length before) left ≤ next_node start + all_weight (widths_of before) (length before) all
  pub grows : next_node start ≤ next_node gates

pub all_begin : (clocked : Bool) (held : Words Edge) (start : GateList) (before : Words Edge) (all : Statements) → AreWires (next_node start) clocked held before
    → AllFit (widths_of before) (blocking_of (sight_of clocked held)) all → AllLeft clocked held start before all start before all
all_begin clocked held start before all are fit = record { run = refl; are = are; widths = refl; count = refl; fit = fit; few = omega arith; grows = omega arith }

pub all_next :
    (clocked : Bool) (held : Words Edge) (start : GateList) (before : Words Edge) (all : Statements) (gates later : GateList) (wires after : Words Edge) (st : Statement) (rest : Statements)
    → AllLeft clocked held start before all gates wires (more st rest)
    → later ≡ (statement_bits gates_so_far (sight_of clocked held) gates wires st).0 → after ≡ (statement_bits gates_so_far (sight_of clocked held) gates wires st).1
    → WiresStand (next_node later) after → next_node gates ≤ next_node later → next_node later ≤ next_node gates + statement_weight (widths_of wires) (length wires) st
    → AllLeft clocked held start before all later after rest
all_next clocked held start before all gates later wires after st rest h state words stand grows few =
    let same = widths_after (next_node gates) clocked held wires after gates st h.are h.fit.0 words in
    let one : next_node later ≤ next_node gates + statement_weight (widths_of before) (length before) st =
    subst (λ z. next_node later ≤ next_node gates + statement_weight (widths_of before) z st) h.count
    (subst (λ (f : ℕ → ℕ). next_node later ≤ next_node gates + statement_weight f (length wires) st) h.widths few) in
    let f = h.few in
    record {
      run = h.run ∙ sym (λ j. all_bits gates_so_far (sight_of clocked held) (state j) (words j) rest);
      are = are_after (next_node gates) (next_node later) clocked held wires after gates st grows h.are h.fit.0 words stand;
      widths = same ∙ h.widths;
      count = count_after (next_node gates) clocked held wires after gates st h.are h.fit.0 words ∙ h.count;
      fit = subst (λ (w : ℕ → ℕ). AllFit w (blocking_of (sight_of clocked held)) rest) (sym same) h.fit.1;
      few = omega (arith, f, one);
      grows = let g = h.grows in omega (arith, g, grows);
    }

pub all_turn :
    (clocked : Bool) (held : Words Edge) (start : GateList) (before : Words Edge) (all : Statements) (gates later : GateList) (wires after : Words Edge) (parts : List TypedStmt) (k : ℕ) (st : TypedStmt)
    → k < length parts → st ≡ get_or parts k st → AllLeft clocked held start before all gates wires (plain_stmts (drop k parts))
    → later ≡ (statement_bits gates_so_far (sight_of clocked held) gates wires (plain_stmt st)).0 → after ≡ (statement_bits gates_so_far (sight_of clocked held) gates wires (plain_stmt st)).1
    → WiresStand (next_node later) after → next_node gates ≤ next_node later → next_node later ≤ next_node gates + statement_weight (widths_of wires) (length wires) (plain_stmt st)
    → AllLeft clocked held start before all later after (plain_stmts (drop (k + 1) parts))
all_turn clocked held start before all gates later wires after parts k st h is left state words stand grows few =
    let first : plain_stmts (drop k parts) ≡ more (plain_stmt st) (plain_stmts (drop (k + 1) parts)) =
    ap plain_stmts (drop_more parts k st h) ∙ ap (λ (z : TypedStmt). more (plain_stmt z) (plain_stmts (drop (k + 1) parts))) (sym is) in
    all_next clocked held start before all gates later wires after (plain_stmt st) (plain_stmts (drop (k + 1) parts)) (subst (AllLeft clocked held start before all gates wires) first left) state words stand grows few

pub first_part : (parts : List TypedStmt) (k : ℕ) (st : TypedStmt) → k < length parts → st ≡ get_or parts k st → plain_stmts (drop k parts) ≡ more (plain_stmt st) (plain_stmts (drop (k + 1) parts))
first_part parts k st h is = ap plain_stmts (drop_more parts k st h) ∙ ap (λ (z : TypedStmt). more (plain_stmt z) (plain_stmts (drop (k + 1) parts))) (sym is)

pub first_arm : (arms : List TypedArm) (k : ℕ) (a : TypedArm) → k < length arms → a ≡ get_or arms k a
    → plain_arms (drop k arms) ≡ arm (map plain_label a.labels.items) (plain_stmt a.body) (plain_arms (drop (k + 1) arms))
first_arm arms k a h is = ap plain_arms (drop_more arms k a h) ∙ ap (λ (z : TypedArm). arm (map plain_label z.labels.items) (plain_stmt z.body) (plain_arms (drop (k + 1) arms))) (sym is)

-- ---- arms

and_true : (b : Bool) → b ≡ (b && true)
and_true true = refl
and_true false = refl

and_none : (b : Bool) → false ≡ (b && false)
and_none true = refl
and_none false = refl

pub last_is : (full : Bool) (arms : List TypedArm) (left : ℕ) (o : Default) → left ≡ length arms → is_last full (plain_arms arms) o ≡ no_more full left o
last_is full [] left no_default h = and_true full ∙ ap (λ n. full && eqb n 0) (sym h)
last_is full [] left (default st) h = refl
last_is full (a ∷ arms) left no_default h = and_none full ∙ sym (ap (λ b. full && b) (ne_eqb left 0 (λ e. omega (arith, h))))
last_is full (a ∷ arms) left (default st) h = refl

pub next_marks : (count : ℕ) (labels : List Label) (body : Statement) (rest : Arms) (o : Default) (chain now : List (List Mark)) (marks : List Mark)
    → chain ≡ chain_marks count (arm labels body rest) o → chain ≡ now ++ marks ∷ [] → (now ≡ chain_marks count rest o) × (marks ≡ arm_marks count (arm labels body rest) o)
next_marks count labels body rest o chain now marks h k = last_same now (chain_marks count rest o) marks (arm_marks count (arm labels body rest) o) (sym k ∙ h)

pub first_chain : (arms : List TypedArm) (k : ℕ) (a : TypedArm) (count : ℕ) (o : Default) (chain : List (List Mark)) → k < length arms → a ≡ get_or arms k a → chain ≡ chain_marks count (plain_arms (drop k arms)) o
    → chain ≡ chain_marks count (arm (map plain_label a.labels.items) (plain_stmt a.body) (plain_arms (drop (k + 1) arms))) o
first_chain arms k a count o chain h is e = e ∙ ap (λ (z : Arms). chain_marks count z o) (first_arm arms k a h is)

module _ (clocked : Bool) (held : Words Edge) (selector : List Edge) (full : Bool) (otherwise : Default) (bits : ℕ) (start : GateList) (before : Words Edge) (all : Arms) (gates : GateList) (wires : Words Edge) (waiting : List Waiting) where
  abbrev pub Left : Arms → Type 0
  Left left = ArmsLeft clocked held selector full otherwise bits start before all gates wires left waiting

  pub arm_here : (arms : List TypedArm) (k : ℕ) (a : TypedArm) → k < length arms → a ≡ get_or arms k a → Left (plain_arms (drop k arms))
      → Left (arm (map plain_label a.labels.items) (plain_stmt a.body) (plain_arms (drop (k + 1) arms)))
  arm_here arms k a h is left = subst (λ (z : Arms). ArmsLeft clocked held selector full otherwise bits start before all gates wires z waiting) (first_arm arms k a h is) left

  pub body_fits : (labels : List Label) (body : Statement) (rest : Arms) → Left (arm labels body rest) → StatementFits (widths_of wires) (blocking_of (sight_of clocked held)) body
  body_fits labels body rest h = subst (λ (f : ℕ → ℕ). StatementFits f (blocking_of (sight_of clocked held)) body) (sym h.widths) h.fit.1

  pub body_room : (labels : List Label) (body : Statement) (rest : Arms) (n : ℕ) → Left (arm labels body rest)
      → next_node start + arms_weight (widths_of before) (length before) (length selector) bits all ≤ n
      → next_node gates + (labels_weight (widths_of wires) (length wires) (length selector) labels + statement_weight (widths_of wires) (length wires) body) ≤ n
  body_room labels body rest n h room =
      let few = h.few in
      let now : next_node gates + (labels_weight (widths_of before) (length before) (length selector) labels + statement_weight (widths_of before) (length before) body) ≤ n = omega (arith, few, room) in
      subst (λ z. next_node gates + (labels_weight (widths_of wires) z (length selector) labels + statement_weight (widths_of wires) z body) ≤ n) (sym h.count)
      (subst (λ (f : ℕ → ℕ). next_node gates + (labels_weight f (length before) (length selector) labels + statement_weight f (length before) body) ≤ n) (sym h.widths) now)

pub on_ok : {A E : Type 0} (r : Result A E) (P Q : Type 0) → (P → Q) → OnOk r P → OnOk r Q
on_ok (Ok x) P Q f h = f h
on_ok (Err e) P Q f h = tt

pub if_ok : {A E : Type 0} (r : Result A E) (P Q : A → Type 0) → ((x : A) → P x → Q x) → IfOk r P → IfOk r Q
if_ok (Ok x) P Q f h = f x h
if_ok (Err e) P Q f h = tt
