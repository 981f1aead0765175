-- The values of a design's gates are those of its terms.
use Rattle.std.proofs.Common.{◌≡◌, ℕ, zero, suc, ◌+◌, ◌-◌, ◌<◌, Bool, cond, List, [], ◌∷◌, ◌++◌, length, map, get_or, arith, length-append, refl, sym, ap, ◌∙◌}
use Rattle.std.proofs.lemmas.List.{append-nil, get_or_append_left, get_or-append_right}
use Rattle.std.specs.List.{AllZip}
use Rattle.rst_gate.specs.declared.edge.Edge.{Edge}
use Rattle.rst_gate.specs.Operations.{Operations}
use Rattle.rst_gate.specs.GateLists.{GateList, plain_edge}
use Rattle.rst_gate.specs.Nodes.{values_behind}
use Rattle.rst_gate.specs.EdgeValues.{IsPrefix, IsRead, Stands, value_in}
use Rattle.rst_gate.proofs.LaterGates.{values_kept}
use Rattle.rst_gate.proofs.SharedMeaning.{Folds, and_prefix, xor_prefix, mux_prefix}
use Rattle.rst_terms.specs.Algebras.{pure, bits}
use Rattle.rst_terms.proofs.Respects.{Respects}
use Rattle.rst_word_gates.specs.GateAlgebra.{gates_so_far}
use Rattle.rst_word_gates.proofs.Meaning.{gates_respect}
use Rattle.rst_net.specs.Units.{PlainFlat}
use Rattle.rst_design_terms.specs.Designs.{Designed, design_bits}
use Rattle.rst_design_terms.specs.Gates.{nodes_from, input_bits, state_bits, no_gates, designed, gates_of}
use Rattle.rst_design_terms.specs.DesignLaws.{DesignsAre}
use Rattle.rst_design_terms.proofs.RelatedDesigns.{design_good, design_related}

-- gates begin with themselves
itself : (g : GateList) → IsPrefix g g
itself g = record { inputs = refl; states = refl; more = []; gates = sym (append-nil g.gates) }

-- what is asked for only adds gates
grows : (G : GateList) → Respects (IsPrefix G) (λ (e : Edge) (x : Bool). Unit {0}) gates_so_far bits
grows G = record {
  constant = λ b. tt;
  negation = λ a x p. tt;
  both_good = λ s a b. and_prefix G s a b;
  differ_good = λ s a b. xor_prefix G s a b;
  choice_good = λ s c a b. mux_prefix G s c a b;
  both = λ s t a b x y g p q. tt;
  differ = λ s t a b x y g p q. tt;
  choice = λ s t c a b z x y g o p q. tt;
}

module _ {X : Type 0} (O : Operations X) (G : GateList) (sources : List X) where
  abbrev values : List X
  values = values_behind O G.gates (O.low ∷ sources)

  nodes_stand :
      (first count : ℕ) (xs : List X) → length xs ≡ count → ((k : ℕ) → k < count → get_or values (first + k) O.low ≡ get_or xs k O.low)
      → AllZip (Stands O G sources) (nodes_from first count) xs
  nodes_stand first zero [] long h = tt
  nodes_stand first zero (x ∷ xs) long h = absurd (omega (arith, long))
  nodes_stand first (suc count) [] long h = absurd (omega (arith, long))
  nodes_stand first (suc count) (x ∷ xs) long h =
      let here : first + 0 ≡ first = omega arith in (
        ap (λ n. get_or values n O.low) (sym here) ∙ h 0 (omega arith),
        nodes_stand (suc first) count xs (omega (arith, long))
            (λ k below.
            let next : suc first + k ≡ first + suc k = omega arith in
            ap (λ n. get_or values n O.low) next ∙ h (suc k) (omega (arith, below))),
      )

  source_at : (k : ℕ) → k < length sources → get_or values (suc k) O.low ≡ get_or sources k O.low
  source_at k below = values_kept O G.gates (O.low ∷ sources) (suc k) (omega (arith, below))

  -- edges that have values are read as these
  read_as : (es : List Edge) (us : List X) → AllZip (Stands O G sources) es us → map (value_in O G sources) es ≡ us
  read_as [] [] h = refl
  read_as [] (u ∷ us) h = absurd h
  read_as (e ∷ es) [] h = absurd h
  read_as (e ∷ es) (u ∷ us) h = let p = h.0 in let q = read_as es us h.1 in λ i. p i ∷ q i

-- the gates of a design begin with none
pub design_grows : (flat : PlainFlat) → IsPrefix (designed flat).behind (no_gates flat)
design_grows flat =
    let G : GateList = (designed flat).behind in
    design_good (IsPrefix G) (λ (e : Edge) (x : Bool). Unit {0}) gates_so_far bits (grows G) flat (no_gates flat) (nodes_from 1 (input_bits flat))
    (nodes_from (1 + input_bits flat) (state_bits flat)) (itself G)

pub designs_are : {X : Type 0} (k : Bool → X) (O : Operations X) → Folds O → ((b : Bool) → k b ≡ cond b (O.negation O.low) O.low) → DesignsAre k O
designs_are {X} k O f constants flat inputs state wide tall in_order =
    let d : Designed GateList Edge = designed flat in
    let G : GateList = d.behind in
    let sources : List X = inputs ++ state in
    let m : ℕ = input_bits flat in
    let n : ℕ = state_bits flat in
    let ins : List Edge = nodes_from 1 m in
    let sts : List Edge = nodes_from (1 + m) n in
    let count : length sources ≡ m + n = omega (arith, length-append inputs state, wide, tall) in
    let begin : IsPrefix G (no_gates flat) = design_grows flat in
    let read : IsRead G sources = record { count = omega (arith, count, begin.inputs, begin.states); in_order = in_order } in
    let ins_stand : AllZip (Stands O G sources) ins inputs =
    nodes_stand O G sources 1 m inputs wide
    (λ j below.
    let at : 1 + j ≡ suc j = omega arith in
    ap (λ z. get_or (values O G sources) z O.low) at
    ∙ (source_at O G sources j (omega (arith, below, count)) ∙ get_or_append_left inputs state O.low j (omega (arith, below, wide)))) in
    let sts_stand : AllZip (Stands O G sources) sts state =
    nodes_stand O G sources (1 + m) n state tall
    (λ j below.
    let at : 1 + m + j ≡ suc (m + j) = omega arith in
    let back : (m + j) - m ≡ j = omega arith in
    ap (λ z. get_or (values O G sources) z O.low) at
    ∙ (source_at O G sources (m + j) (omega (arith, below, count))
    ∙ (get_or-append_right inputs state m (m + j) O.low wide (omega arith) ∙ ap (λ z. get_or state z O.low) back))) in
    let alike = design_related (IsPrefix G) (Stands O G sources) gates_so_far (pure k O) (gates_respect k O f constants G sources read) flat (no_gates flat) tt ins sts inputs state ins_stand sts_stand (itself G) in
    record {
      outs = read_as O G sources d.outs (design_bits (pure k O) flat tt inputs state).outs alike.outs;
      nexts = read_as O G sources d.nexts (design_bits (pure k O) flat tt inputs state).nexts alike.nexts;
    }
