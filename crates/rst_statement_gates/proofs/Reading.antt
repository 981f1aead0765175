-- What reads see, and the bits that masks leave in.
use Rattle.std.proofs.Common.{◌≡◌, ◌∙◌, ℕ, zero, suc, ◌+◌, ◌*◌, ◌/◌, ◌%◌, ◌<◌, ◌≤◌, ◌≢◌, Bool, true, false, cond, eqb, List, [], ◌∷◌, ◌++◌, length, map, get_or, drop, refl, sym, ap, subst, arith, append_assoc}
use Rattle.std.specs.List.{All, AllByRecursion}
use Rattle.std.proofs.lemmas.Bool.{eq-eqb, ne_eqb, cond_both}
use Rattle.std.proofs.lemmas.List.{drop_more, append-nil}
use Rattle.std.proofs.lemmas.List.Elements.{All-weaker, All-nil, All-cons, All-head, All-tail}
use Rattle.rst_gate.specs.declared.edge.Edge.{Edge}
use Rattle.rst_gate.specs.Circuits.{IsBelow}
use Rattle.rst_gate.specs.GateLists.{GateList, next_node}
use Rattle.rst_width.specs.Typed.{Typed}
use Rattle.rst_width.specs.Reads.{ReadsInside}
use Rattle.rst_terms.specs.Algebras.{Algebra, Step}
use Rattle.rst_terms.specs.Recurrences.{equal}
use Rattle.rst_word_gates.specs.GateAlgebra.{gates_so_far}
use Rattle.rst_typed_terms.specs.Expressions.{expression_bits}
use Rattle.rst_typed_terms.specs.Weights.{expression_weight}
use Rattle.rst_lower.specs.WireWords.{word_of, widths_of, WiresStand}
use Rattle.rst_net.specs.declared.stmt.TypedLabel.{TypedLabel}
use Rattle.rst_net.specs.Statements.{Label, plain_label}
use Rattle.rst_statement_terms.specs.Statements.{seen, unmasked, label_bits}
use Rattle.rst_statement_terms.specs.Weights.{labels_weight}
use Rattle.rst_statement_values.specs.Fits.{LabelFits}
use Rattle.rst_statement_gates.specs.Sights.{sight_of, AreWires}
use Rattle.rst_statement_gates.proofs.Merging.{bits_behind, edges_later, wires_later, length_one, joined_stand}

pub seen_held : (clocked : Bool) (held wires : List (List Edge)) → clocked ≡ true → seen (sight_of clocked held) wires ≡ word_of held
seen_held true held wires h = refl
seen_held false held wires h = cc

pub seen_now : (clocked : Bool) (held wires : List (List Edge)) → clocked ≡ false → seen (sight_of clocked held) wires ≡ word_of wires
seen_now true held wires h = cc
seen_now false held wires h = refl

pub held_inside : (n : ℕ) (clocked : Bool) (held wires : List (List Edge)) (e : Typed) → clocked ≡ true → AreWires n clocked held wires → ReadsInside (widths_of wires) e → ReadsInside (widths_of held) e
held_inside n clocked held wires e is are h = subst (λ (f : ℕ → ℕ). ReadsInside f e) (sym (are.widths is)) h

pub held_weight : (n : ℕ) (clocked : Bool) (held wires : List (List Edge)) (e : Typed) → clocked ≡ true → AreWires n clocked held wires → expression_weight (widths_of held) e ≡ expression_weight (widths_of wires) e
held_weight n clocked held wires e is are = ap (λ (f : ℕ → ℕ). expression_weight f e) (are.widths is)

pub are_later : (m n : ℕ) (clocked : Bool) (held wires : List (List Edge)) → m ≤ n → AreWires m clocked held wires → AreWires n clocked held wires
are_later m n clocked held wires h are = record { stand = wires_later m n wires h are.stand; at_most_64 = are.at_most_64; held_stand = λ is. wires_later m n held h (are.held_stand is); widths = are.widths }

-- other wires of the same widths
pub are_behind : (m n : ℕ) (clocked : Bool) (held wires after : List (List Edge)) → m ≤ n → AreWires m clocked held wires → widths_of after ≡ widths_of wires → WiresStand n after → AreWires n clocked held after
are_behind m n clocked held wires after h are same stand = record {
  stand = stand;
  at_most_64 = subst (λ (f : ℕ → ℕ). (i : ℕ) → f i ≤ 64) (sym same) are.at_most_64;
  held_stand = λ is. wires_later m n held h (are.held_stand is);
  widths = λ is. are.widths is ∙ sym same;
}

pub ruleset reads = (seen_held, seen_now, held_inside, held_weight)

-- ---- masks

dropped : {X : Type 0} (mask : ℕ) (x : X) (xs : List X) → mask % 2 ≡ 1 → unmasked mask (x ∷ xs) ≡ unmasked (mask / 2) xs
dropped mask x xs h = ap (λ b. cond b (unmasked (mask / 2) xs) (x ∷ unmasked (mask / 2) xs)) (eq-eqb (mask % 2) 1 h)

left_in : {X : Type 0} (mask : ℕ) (x : X) (xs : List X) → mask % 2 ≢ 1 → unmasked mask (x ∷ xs) ≡ x ∷ unmasked (mask / 2) xs
left_in mask x xs h = ap (λ b. cond b (unmasked (mask / 2) xs) (x ∷ unmasked (mask / 2) xs)) (ne_eqb (mask % 2) 1 h)

pub skip_turn : {X : Type 0} (left : ℕ) (xs : List X) (k : ℕ) (d : X) (out all : List X) → k < length xs → all ≡ out ++ unmasked left (drop k xs) → left % 2 ≡ 1
    → all ≡ out ++ unmasked (left / 2) (drop (k + 1) xs)
skip_turn left xs k d out all h run is =
    run ∙ (ap (λ ys. out ++ unmasked left ys) (drop_more xs k d h) ∙ ap (λ ys. out ++ ys) (dropped left (get_or xs k d) (drop (k + 1) xs) is))

pub keep_turn : {X : Type 0} (left : ℕ) (xs : List X) (k : ℕ) (d : X) (out more all : List X) → k < length xs → all ≡ out ++ unmasked left (drop k xs) → left % 2 ≢ 1
    → more ≡ out ++ get_or xs k d ∷ [] → all ≡ more ++ unmasked (left / 2) (drop (k + 1) xs)
keep_turn left xs k d out more all h run is new =
    run ∙ (ap (λ ys. out ++ unmasked left ys) (drop_more xs k d h) ∙ (ap (λ ys. out ++ ys) (left_in left (get_or xs k d) (drop (k + 1) xs) is)
    ∙ (sym (append_assoc out (get_or xs k d ∷ []) (unmasked (left / 2) (drop (k + 1) xs))) ∙ ap (λ ys. ys ++ unmasked (left / 2) (drop (k + 1) xs)) (sym new))))

pub ruleset unmasked_turns = (skip_turn, keep_turn)

pub unmasked_width : {X Y : Type 0} (mask : ℕ) (xs : List X) (ys : List Y) → length xs ≡ length ys → length (unmasked mask xs) ≡ length (unmasked mask ys)
unmasked_width mask [] [] h = refl
unmasked_width mask [] (y ∷ ys) h = absurd (omega arith)
unmasked_width mask (x ∷ xs) [] h = absurd (omega arith)
unmasked_width mask (x ∷ xs) (y ∷ ys) h = alike (eqb (mask % 2) 1) x y (unmasked (mask / 2) xs) (unmasked (mask / 2) ys) (unmasked_width (mask / 2) xs ys (omega arith))
  where
    alike : {X Y : Type 0} (b : Bool) (x : X) (y : Y) (xs : List X) (ys : List Y) → length xs ≡ length ys → length (cond b xs (x ∷ xs)) ≡ length (cond b ys (y ∷ ys))
    alike true x y xs ys h = h
    alike false x y xs ys h = ap suc h

pub unmasked_less : {X : Type 0} (mask : ℕ) (xs : List X) → length (unmasked mask xs) ≤ length xs
unmasked_less mask [] = omega arith
unmasked_less mask (x ∷ xs) =
    let rest = unmasked_less (mask / 2) xs in
    cond_both (eqb (mask % 2) 1) (unmasked (mask / 2) xs) (x ∷ unmasked (mask / 2) xs) (λ zs. length zs ≤ suc (length xs)) (λ _. omega (arith, rest)) (λ _. omega (arith, rest))

pub unmasked_stand : (n mask : ℕ) (es : List Edge) → All (IsBelow n) es → All (IsBelow n) (unmasked mask es)
unmasked_stand n mask [] h = h
unmasked_stand n mask (e ∷ es) h =
    let rest = unmasked_stand n (mask / 2) es (All-tail (IsBelow n) e es h) in
    cond_both (eqb (mask % 2) 1) (unmasked (mask / 2) es) (e ∷ unmasked (mask / 2) es) (All (IsBelow n)) (λ _. rest) (λ _. All-cons (IsBelow n) e (unmasked (mask / 2) es) (All-head (IsBelow n) e es h) rest)

pub ruleset unmasked_words = (unmasked_width, unmasked_less, unmasked_stand, edges_later)

-- ---- labels

-- What the loop over labels keeps.
pub record LabelsLeft (signals : ℕ → List Edge) (selector : List Edge) (widths : ℕ → ℕ) (count : ℕ) (start : GateList) (all : List Label) (gates : GateList) (out : List Edge) (left : List Label) : Type 0 where
  pub run : label_bits gates_so_far signals selector start all ≡ bits_behind out (label_bits gates_so_far signals selector gates left)
  pub fit : AllByRecursion (LabelFits widths (length selector)) left
  pub stand : All (IsBelow (next_node gates)) out
  pub few : next_node gates + length out + labels_weight widths count (length selector) left ≤ next_node start + labels_weight widths count (length selector) all
  pub grows : next_node start ≤ next_node gates

pub labels_begin : (signals : ℕ → List Edge) (selector : List Edge) (widths : ℕ → ℕ) (count : ℕ) (start : GateList) (all : List Label) → AllByRecursion (LabelFits widths (length selector)) all
    → LabelsLeft signals selector widths count start all start [] all
labels_begin signals selector widths count start all fit = record { run = refl; fit = fit; stand = All-nil (IsBelow (next_node start)); few = omega arith; grows = omega arith }

pub labels_next :
    (signals : ℕ → List Edge) (selector : List Edge) (widths : ℕ → ℕ) (count : ℕ) (start : GateList) (all : List Label) (gates later : GateList) (out more : List Edge) (bit : Edge) (l : Label) (ls : List Label)
    → LabelsLeft signals selector widths count start all gates out (l ∷ ls)
    → later ≡ (let e = expression_bits gates_so_far signals gates l.value in equal gates_so_far e.0 (unmasked l.mask selector) (unmasked l.mask e.1)).0
    → bit ≡ (let e = expression_bits gates_so_far signals gates l.value in equal gates_so_far e.0 (unmasked l.mask selector) (unmasked l.mask e.1)).1
    → more ≡ out ++ bit ∷ [] → IsBelow (next_node later) bit → next_node gates ≤ next_node later
    → next_node later ≤ next_node gates + (expression_weight widths l.value + 2 * length selector)
    → LabelsLeft signals selector widths count start all later more ls
labels_next signals selector widths count start all gates later out more bit l ls h state at_bit is stands grows few =
    let e : Step GateList (List Edge) = expression_bits gates_so_far signals gates l.value in
    let m : Step GateList Edge = equal gates_so_far e.0 (unmasked l.mask selector) (unmasked l.mask e.1) in
    let rest : Step GateList (List Edge) = label_bits gates_so_far signals selector m.0 ls in
    let size : length more ≡ length out + 1 = ap length is ∙ length_one out bit in
    record {
      run = h.run ∙ ((λ j. (rest.0, sym (append_assoc out (m.1 ∷ []) rest.1) j)) ∙ sym ((λ j. bits_behind (is j) (label_bits gates_so_far signals selector (state j) ls)) ∙ ap (λ b. bits_behind (out ++ b ∷ []) rest) at_bit));
      fit = h.fit.1;
      stand = subst (All (IsBelow (next_node later))) (sym is) (joined_stand (next_node later) out bit (edges_later (next_node gates) (next_node later) out grows h.stand) stands);
      few = let f = h.few in omega (arith, f, few, size);
      grows = let g = h.grows in omega (arith, g, grows);
    }

pub labels_turn :
    (signals : ℕ → List Edge) (selector : List Edge) (widths : ℕ → ℕ) (count : ℕ) (start : GateList) (all : List Label) (labels : List TypedLabel) (k : ℕ) (l : TypedLabel) (gates later : GateList) (out more : List Edge) (bit : Edge)
    → k < length labels → l ≡ get_or labels k l → LabelsLeft signals selector widths count start all gates out (map plain_label (drop k labels))
    → later ≡ (let e = expression_bits gates_so_far signals gates (plain_label l).value in equal gates_so_far e.0 (unmasked l.mask selector) (unmasked l.mask e.1)).0
    → bit ≡ (let e = expression_bits gates_so_far signals gates (plain_label l).value in equal gates_so_far e.0 (unmasked l.mask selector) (unmasked l.mask e.1)).1
    → more ≡ out ++ bit ∷ [] → IsBelow (next_node later) bit → next_node gates ≤ next_node later
    → next_node later ≤ next_node gates + (expression_weight widths (plain_label l).value + 2 * length selector)
    → LabelsLeft signals selector widths count start all later more (map plain_label (drop (k + 1) labels))
labels_turn signals selector widths count start all labels k l gates later out more bit h is left state at_bit pushed stands grows few =
    let first : map plain_label (drop k labels) ≡ plain_label l ∷ map plain_label (drop (k + 1) labels) =
    ap (map plain_label) (drop_more labels k l h) ∙ ap (λ (z : TypedLabel). plain_label z ∷ map plain_label (drop (k + 1) labels)) (sym is) in
    labels_next signals selector widths count start all gates later out more bit (plain_label l) (map plain_label (drop (k + 1) labels))
    (subst (LabelsLeft signals selector widths count start all gates out) first left) state at_bit pushed stands grows few
