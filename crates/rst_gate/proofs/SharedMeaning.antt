-- What an asked edge stands for is the operation on what its operands stand for, wherever the operations have the laws of the folds.
use Rattle.std.proofs.Common.{◌≡◌, ℕ, ◌+◌, ◌<◌, Bool, true, false, cond, eqb, List, ◌∷◌, ◌++◌, length, get_or, arith, refl, sym, ap, ◌∙◌, append_assoc}
use Rattle.std.proofs.lemmas.List.{get_or_append_left, length-append}
use Rattle.std.proofs.lemmas.Bool.{cond_both, eqb-true}
use Rattle.rst_value.specs.Bits.{bit_xor}
use Rattle.rst_gate.specs.declared.edge.Edge.{Edge}
use Rattle.rst_gate.specs.declared.edge.Gate.{Gate}
use Rattle.rst_gate.specs.declared.edge.Gate.TheVariants.{And, Xor, Mux}
use Rattle.rst_gate.specs.Operations.{Operations}
use Rattle.rst_gate.specs.GateLists.{GateList}
use Rattle.rst_gate.specs.Nodes.{gate_value, values_behind}
use Rattle.rst_gate.specs.SharedGates.{Asked, turned, is_first, shared, asked_and, asked_xor, asked_mux, place_of, with_shared, first_gate_node}
use Rattle.rst_gate.specs.EdgeValues.{IsPrefix, IsRead, value_in}
use Rattle.rst_gate.specs.SharedLaws.{AskedAre}
use Rattle.rst_gate.proofs.Sharing.{shared_stands, added_gates, shared_append}
use Rattle.rst_gate.proofs.LaterGates.{values_kept, gate_stands}

-- the laws by which constant operands are folded, and operands put in order
pub record Folds {X : Type 0} (O : Operations X) : Type 0 where
  pub twice : (a : X) → O.negation (O.negation a) ≡ a
  pub both_low : (a : X) → O.both O.low a ≡ O.low
  pub both_high : (a : X) → O.both (O.negation O.low) a ≡ a
  pub both_turned : (a b : X) → O.both a b ≡ O.both b a
  pub differ_low : (a : X) → O.differ O.low a ≡ a
  pub differ_high : (a : X) → O.differ (O.negation O.low) a ≡ O.negation a
  pub differ_turned : (a b : X) → O.differ a b ≡ O.differ b a
  pub choice_low : (a b : X) → O.choice O.low a b ≡ b
  pub choice_high : (a b : X) → O.choice (O.negation O.low) a b ≡ a

pub shared_prefix : (G g : GateList) (gate : Gate) → IsPrefix G (shared g gate).0 → IsPrefix G g
unfolding shared
shared_prefix G g gate p = record {
  inputs = p.inputs;
  states = p.states;
  more = added_gates g.gates gate ++ p.more;
  gates = p.gates ∙ (ap (λ gs. gs ++ p.more) (shared_append g.gates gate) ∙ append_assoc g.gates (added_gates g.gates gate) p.more);
}

pub and_prefix : (G g : GateList) (a b : Edge) → IsPrefix G (asked_and g a b).0 → IsPrefix G g
unfolding asked_and
and_prefix G g a b =
    let P : Asked → Type 0 = λ r. IsPrefix G r.0 → IsPrefix G g in
    cond_both (eqb a.node 0) _ _ P (λ _ p. p)
    (λ _. cond_both (eqb b.node 0) _ _ P (λ _ p. p)
    (λ _. cond_both (is_first a b) _ _ P (λ _. shared_prefix G g (And a b)) (λ _. shared_prefix G g (And b a))))

pub xor_prefix : (G g : GateList) (a b : Edge) → IsPrefix G (asked_xor g a b).0 → IsPrefix G g
unfolding asked_xor
xor_prefix G g a b =
    let P : Asked → Type 0 = λ r. IsPrefix G r.0 → IsPrefix G g in
    cond_both (eqb a.node 0) _ _ P (λ _ p. p)
    (λ _. cond_both (eqb b.node 0) _ _ P (λ _ p. p)
    (λ _. cond_both (is_first a b) _ _ P (λ _. shared_prefix G g (Xor a b)) (λ _. shared_prefix G g (Xor b a))))

pub mux_prefix : (G g : GateList) (s a b : Edge) → IsPrefix G (asked_mux g s a b).0 → IsPrefix G g
unfolding asked_mux
mux_prefix G g s a b =
    let P : Asked → Type 0 = λ r. IsPrefix G r.0 → IsPrefix G g in
    cond_both (eqb s.node 0) _ _ P (λ _ p. p) (λ _. shared_prefix G g (Mux s a b))

turned_bit :
    {X : Type 0} (O : Operations X) → ((a : X) → O.negation (O.negation a) ≡ a) → (i inverted : Bool) (r : X)
    → cond (bit_xor i inverted) (O.negation r) r ≡ cond i (O.negation (cond inverted (O.negation r) r)) (cond inverted (O.negation r) r)
turned_bit O twice true true r = sym (twice r)
turned_bit O twice true false r = refl
turned_bit O twice false inverted r = refl

module _ {X : Type 0} (O : Operations X) (f : Folds O) (G : GateList) (sources : List X) (read : IsRead G sources) where
  abbrev value : Edge → X
  value e = value_in O G sources e

  pub constant_value : (e : Edge) → e.node ≡ 0 → value e ≡ cond e.inverted (O.negation O.low) O.low
  constant_value e h =
      ap (λ x. cond e.inverted (O.negation x) x)
      (ap (λ n. get_or (values_behind O G.gates (O.low ∷ sources)) n O.low) h ∙ values_kept O G.gates (O.low ∷ sources) 0 (omega arith))

  shared_value :
      (g : GateList) (gate : Gate) → IsPrefix G (shared g gate).0
      → value (shared g gate).1 ≡ gate_value O (values_behind O G.gates (O.low ∷ sources)) gate
  unfolding shared
  shared_value g gate p =
      let at = shared_stands g.gates gate in
      let place : ℕ = place_of g.gates gate in
      let here : get_or G.gates place gate ≡ gate =
      ap (λ gs. get_or gs place gate) p.gates
      ∙ (get_or_append_left (with_shared g.gates gate) p.more gate place at.below ∙ at.is gate) in
      let node : first_gate_node g + place ≡ length (O.low ∷ sources) + place = omega (arith, p.inputs, p.states, read.count) in
      let count : 1 + G.inputs + G.states ≡ length (O.low ∷ sources) = omega (arith, read.count) in
      let below : place < length G.gates =
      omega (arith, at.below, ap length p.gates, length-append (with_shared g.gates gate) p.more) in
      ap (λ n. get_or (values_behind O G.gates (O.low ∷ sources)) n O.low) node
      ∙ (gate_stands O G.gates (O.low ∷ sources) place gate (rw (← count) read.in_order) below
      ∙ ap (gate_value O (values_behind O G.gates (O.low ∷ sources))) here)

  and_folded : (i : Bool) (a b : Edge) → value a ≡ cond i (O.negation O.low) O.low → value (cond i b a) ≡ O.both (value a) (value b)
  and_folded true a b h = sym (ap (λ x. O.both x (value b)) h ∙ f.both_high (value b))
  and_folded false a b h = h ∙ sym (ap (λ x. O.both x (value b)) h ∙ f.both_low (value b))

  pub turned_value : (i : Bool) (b : Edge) → value (turned i b) ≡ cond i (O.negation (value b)) (value b)
  turned_value i b = turned_bit O f.twice i b.inverted (get_or (values_behind O G.gates (O.low ∷ sources)) b.node O.low)

  xor_folded : (i : Bool) (a b : Edge) → value a ≡ cond i (O.negation O.low) O.low → value (turned i b) ≡ O.differ (value a) (value b)
  xor_folded true a b h = turned_value true b ∙ sym (ap (λ x. O.differ x (value b)) h ∙ f.differ_high (value b))
  xor_folded false a b h = turned_value false b ∙ sym (ap (λ x. O.differ x (value b)) h ∙ f.differ_low (value b))

  mux_folded :
      (i : Bool) (s a b : Edge) → value s ≡ cond i (O.negation O.low) O.low → value (cond i a b) ≡ O.choice (value s) (value a) (value b)
  mux_folded true s a b h = sym (ap (λ x. O.choice x (value a) (value b)) h ∙ f.choice_high (value a) (value b))
  mux_folded false s a b h = sym (ap (λ x. O.choice x (value a) (value b)) h ∙ f.choice_low (value a) (value b))

  pub and_value : (g : GateList) (a b : Edge) → IsPrefix G (asked_and g a b).0 → value (asked_and g a b).1 ≡ O.both (value a) (value b)
  unfolding asked_and
  and_value g a b =
      let P : Asked → Type 0 = λ r. IsPrefix G r.0 → value r.1 ≡ O.both (value a) (value b) in
      cond_both (eqb a.node 0) _ _ P (λ e _. and_folded a.inverted a b (constant_value a (eqb-true a.node 0 e)))
      (λ _. cond_both (eqb b.node 0) _ _ P
      (λ e _. and_folded b.inverted b a (constant_value b (eqb-true b.node 0 e)) ∙ f.both_turned (value b) (value a))
      (λ _. cond_both (is_first a b) _ _ P (λ _. shared_value g (And a b))
      (λ _ p. shared_value g (And b a) p ∙ f.both_turned (value b) (value a))))

  pub xor_value : (g : GateList) (a b : Edge) → IsPrefix G (asked_xor g a b).0 → value (asked_xor g a b).1 ≡ O.differ (value a) (value b)
  unfolding asked_xor
  xor_value g a b =
      let P : Asked → Type 0 = λ r. IsPrefix G r.0 → value r.1 ≡ O.differ (value a) (value b) in
      cond_both (eqb a.node 0) _ _ P (λ e _. xor_folded a.inverted a b (constant_value a (eqb-true a.node 0 e)))
      (λ _. cond_both (eqb b.node 0) _ _ P
      (λ e _. xor_folded b.inverted b a (constant_value b (eqb-true b.node 0 e)) ∙ f.differ_turned (value b) (value a))
      (λ _. cond_both (is_first a b) _ _ P (λ _. shared_value g (Xor a b))
      (λ _ p. shared_value g (Xor b a) p ∙ f.differ_turned (value b) (value a))))

  pub mux_value :
      (g : GateList) (s a b : Edge) → IsPrefix G (asked_mux g s a b).0
      → value (asked_mux g s a b).1 ≡ O.choice (value s) (value a) (value b)
  unfolding asked_mux
  mux_value g s a b =
      let P : Asked → Type 0 = λ r. IsPrefix G r.0 → value r.1 ≡ O.choice (value s) (value a) (value b) in
      cond_both (eqb s.node 0) _ _ P (λ e _. mux_folded s.inverted s a b (constant_value s (eqb-true s.node 0 e)))
      (λ _. shared_value g (Mux s a b))

pub asked_are : {X : Type 0} (O : Operations X) → Folds O → AskedAre O
asked_are O f = record {
  both = λ G g sources a b read. and_value O f G sources read g a b;
  differ = λ G g sources a b read. xor_value O f G sources read g a b;
  choice = λ G g sources s a b read. mux_value O f G sources read g s a b;
  grows_and = and_prefix;
  grows_xor = xor_prefix;
  grows_mux = mux_prefix;
}
