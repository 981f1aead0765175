-- The edges that recurrences answer name nodes that stand.
use Rattle.std.proofs.Common.{◌≡◌, ℕ, zero, suc, ◌<◌, ◌≤◌, Bool, true, false, cond, eqb, List, [], ◌∷◌, length, arith, refl, sym, ap, ◌∙◌, subst, Result, Ok, Err}
use Rattle.std.specs.List.{All, AllZip}
use Rattle.std.specs.Prelude.{IfOk, OnOk}
use Rattle.std.specs.declared.vec.Vec.{Vec}
use Rattle.std.specs.declared.alloc.Global.{Global}
use Rattle.std.proofs.lemmas.Bool.{cond_both}
use Rattle.std.proofs.lemmas.List.{length-append, append-nil}
use Rattle.std.proofs.lemmas.List.Elements.{All-weaker, All-nil, All-cons, All-head, All-tail}
use Rattle.rst_gate.specs.declared.edge.Edge.{Edge}
use Rattle.rst_gate.specs.declared.edge.Gate.{Gate}
use Rattle.rst_gate.specs.declared.edge.Gate.TheVariants.{And, Xor, Mux}
use Rattle.rst_gate.specs.Circuits.{IsBelow}
use Rattle.rst_gate.specs.GateLists.{GateList, next_node}
use Rattle.rst_gate.specs.SharedGates.{Asked, shared, is_first, asked_and, asked_xor, asked_mux, with_shared}
use Rattle.rst_gate.specs.EdgeValues.{IsPrefix}
use Rattle.rst_gate.proofs.Sharing.{shared_stands}
use Rattle.rst_gate.proofs.SharedMeaning.{and_prefix, xor_prefix, mux_prefix}
use Rattle.rst_width.specs.Typed.{Typed, shape_of}
use Rattle.rst_width.specs.Fit.{IsFit}
use Rattle.rst_width.specs.Reads.{ReadsInside}
use Rattle.rst_terms.specs.Algebras.{Algebra}
use Rattle.rst_terms.proofs.Respects.{Respects}
use Rattle.rst_word_gates.specs.GateAlgebra.{gates_so_far}
use Rattle.rst_typed_terms.specs.Expressions.{expression_bits}
use Rattle.rst_typed_terms.proofs.Related.{expression_related}
use Rattle.rst_typed_terms.proofs.Widths.{expression_width}
use Rattle.rst_lower.specs.WireWords.{word_of, widths_of, WiresStand}

pub whole : (G : GateList) → IsPrefix G G
whole G = record { inputs = refl; states = refl; more = []; gates = sym (append-nil G.gates) }

-- gates at the front of others are no more
pub prefix_grows : (G g : GateList) → IsPrefix G g → next_node g ≤ next_node G
prefix_grows G g p = omega (arith, p.inputs, p.states, ap length p.gates, length-append g.gates p.more)

-- an algebra with one value
abbrev pub nothing : Algebra (Unit {0}) (Unit {0})
nothing = record { constant = λ b. tt; negation = λ x. tt; both = λ s a b. (tt, tt); differ = λ s a b. (tt, tt); choice = λ s c a b. (tt, tt) }

module _ (G : GateList) where
  abbrev pub stands : Edge → Unit {0} → Type 0
  stands e x = IsBelow (next_node G) e

  shared_below : (g : GateList) (gate : Gate) → IsPrefix G (shared g gate).0 → IsBelow (next_node G) (shared g gate).1
  unfolding shared
  shared_below g gate p =
      omega (arith, p.inputs, p.states, ap length p.gates, length-append (with_shared g.gates gate) p.more, (shared_stands g.gates gate).below)

  two_edges : (i : Bool) (a b : Edge) → IsBelow (next_node G) a → IsBelow (next_node G) b → IsBelow (next_node G) (cond i a b)
  two_edges true a b p q = p
  two_edges false a b p q = q

  and_below : (g : GateList) (a b : Edge) → IsPrefix G (asked_and g a b).0 → IsBelow (next_node G) a → IsBelow (next_node G) b → IsBelow (next_node G) (asked_and g a b).1
  unfolding asked_and
  and_below g a b good p q =
      let P : Asked → Type 0 = λ r. IsPrefix G r.0 → IsBelow (next_node G) r.1 in
      cond_both (eqb a.node 0) _ _ P (λ _ _. two_edges a.inverted b a q p)
      (λ _. cond_both (eqb b.node 0) _ _ P (λ _ _. two_edges b.inverted a b p q)
      (λ _. cond_both (is_first a b) _ _ P (λ _. shared_below g (And a b)) (λ _. shared_below g (And b a)))) good

  xor_below : (g : GateList) (a b : Edge) → IsPrefix G (asked_xor g a b).0 → IsBelow (next_node G) a → IsBelow (next_node G) b → IsBelow (next_node G) (asked_xor g a b).1
  unfolding asked_xor
  xor_below g a b good p q =
      let P : Asked → Type 0 = λ r. IsPrefix G r.0 → IsBelow (next_node G) r.1 in
      cond_both (eqb a.node 0) _ _ P (λ _ _. q)
      (λ _. cond_both (eqb b.node 0) _ _ P (λ _ _. p)
      (λ _. cond_both (is_first a b) _ _ P (λ _. shared_below g (Xor a b)) (λ _. shared_below g (Xor b a)))) good

  mux_below : (g : GateList) (s a b : Edge) → IsPrefix G (asked_mux g s a b).0 → IsBelow (next_node G) a → IsBelow (next_node G) b → IsBelow (next_node G) (asked_mux g s a b).1
  unfolding asked_mux
  mux_below g s a b good p q =
      let P : Asked → Type 0 = λ r. IsPrefix G r.0 → IsBelow (next_node G) r.1 in
      cond_both (eqb s.node 0) _ _ P (λ _ _. two_edges s.inverted a b p q) (λ _. shared_below g (Mux s a b)) good

  pub gates_stand : Respects (IsPrefix G) stands gates_so_far nothing
  gates_stand = record {
    constant = λ b. omega arith;
    negation = λ a x p. p;
    both_good = λ s a b. and_prefix G s a b;
    differ_good = λ s a b. xor_prefix G s a b;
    choice_good = λ s c a b. mux_prefix G s c a b;
    both = λ s t a b x y g p q. and_below s a b g p q;
    differ = λ s t a b x y g p q. xor_below s a b g p q;
    choice = λ s t c a b z x y g o p q. mux_below s c a b g p q;
  }

  -- all edges of a list stand
  abbrev pub units : List Edge → List (Unit {0})
  units [] = []
  units (e ∷ es) = tt ∷ units es

  pub zipped : (es : List Edge) → All (IsBelow (next_node G)) es → AllZip stands es (units es)
  zipped [] h = tt
  zipped (e ∷ es) h = (All-head (IsBelow (next_node G)) e es h, zipped es (All-tail (IsBelow (next_node G)) e es h))

  pub unzipped : (es : List Edge) (us : List (Unit {0})) → AllZip stands es us → All (IsBelow (next_node G)) es
  unzipped [] us h = All-nil (IsBelow (next_node G))
  unzipped (e ∷ es) [] h = absurd h
  unzipped (e ∷ es) (u ∷ us) h = All-cons (IsBelow (next_node G)) e es h.0 (unzipped es us h.1)

  pub bits_stand :
      (g : GateList) (wires : ℕ → List Edge) (e : Typed) → IsPrefix G (expression_bits gates_so_far wires g e).0
      → ((i : ℕ) → All (IsBelow (next_node G)) (wires i)) → All (IsBelow (next_node G)) (expression_bits gates_so_far wires g e).1
  bits_stand g wires e good h =
      unzipped (expression_bits gates_so_far wires g e).1 (expression_bits nothing (λ i. units (wires i)) tt e).1
      (expression_related (IsPrefix G) stands gates_so_far nothing gates_stand wires (λ i. units (wires i)) (λ i. zipped (wires i) (h i)) e g tt good)

-- behind an expression its edges stand
pub expression_stands :
    (G g : GateList) (wires : ℕ → List Edge) (e : Typed) → G ≡ (expression_bits gates_so_far wires g e).0
    → ((i : ℕ) → All (IsBelow (next_node G)) (wires i)) → All (IsBelow (next_node G)) (expression_bits gates_so_far wires g e).1
expression_stands G g wires e h k = bits_stand G g wires e (subst (IsPrefix G) h (whole G)) k

pub wires_later : (m n : ℕ) (wires : List (List Edge)) → m ≤ n → WiresStand m wires → WiresStand n wires
wires_later m n wires h all = record { each = λ i. All-weaker (IsBelow m) (IsBelow n) (λ e b. omega arith) (word_of wires i) (all.each i) }

pub edges_later : (m n : ℕ) (es : List Edge) → m ≤ n → All (IsBelow m) es → All (IsBelow n) es
edges_later m n es h all = All-weaker (IsBelow m) (IsBelow n) (λ e b. omega arith) es all

-- a signal with a bit is there
pub signal_there : (wires : List (List Edge)) (i : ℕ) → 0 < length (word_of wires i) → i < length wires
signal_there [] i h = absurd (omega arith)
signal_there (w ∷ wires) zero h = omega arith
signal_there (w ∷ wires) (suc i) h = let rest = signal_there wires i h in omega (arith, rest)

-- what an answer's edges are
pub result_stands :
    {E : Type 0} (r : Result (Vec Edge Global) E) (old new : GateList) (wires : List (List Edge)) (e : Typed)
    → OnOk r (new ≡ (expression_bits gates_so_far (word_of wires) old e).0)
    → IfOk r (λ v. v.items ≡ (expression_bits gates_so_far (word_of wires) old e).1)
    → OnOk r (next_node old ≤ next_node new) → WiresStand (next_node old) wires → IfOk r (λ v. All (IsBelow (next_node new)) v.items)
result_stands (Ok v) old new wires e gates bits grows stand =
    let later : WiresStand (next_node new) wires = wires_later (next_node old) (next_node new) wires grows stand in
    rw bits (expression_stands new old (word_of wires) e gates later.each)
result_stands (Err f) old new wires e gates bits grows stand = tt

pub result_width :
    {E : Type 0} (r : Result (Vec Edge Global) E) (old : GateList) (wires : List (List Edge)) (e : Typed) → IsFit e → ReadsInside (widths_of wires) e
    → IfOk r (λ v. v.items ≡ (expression_bits gates_so_far (word_of wires) old e).1) → IfOk r (λ v. length v.items ≡ (shape_of e).width)
result_width (Ok v) old wires e fit inside bits = ap length bits ∙ expression_width gates_so_far (word_of wires) old e fit inside
result_width (Err f) old wires e fit inside bits = tt
