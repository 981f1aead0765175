-- No two gates become equal by a call.
use Rattle.std.proofs.Common.{◌≡◌, ◌∙◌, ℕ, ◌+◌, ◌<◌, Bool, true, false, ◌&&◌, eqb, List, [], ◌∷◌, ◌++◌, length, get_or, refl, sym, ap, arith, ⊎_elim}
use Rattle.std.specs.Bool.{beq}
use Rattle.std.specs.List.{list_any}
use Rattle.std.proofs.lemmas.Bool.{cond_both, eq-eqb, cases_lt, false≢true}
use Rattle.std.proofs.lemmas.List.{get_or_append_left, get_or_push, length_push}
use Rattle.std.proofs.lemmas.List.Folds.{list_any_at}
use Rattle.rst_gate.specs.declared.edge.Edge.{Edge}
use Rattle.rst_gate.specs.declared.edge.Gate.{Gate}
use Rattle.rst_gate.specs.declared.edge.Gate.TheVariants.{And, Xor, Mux}
use Rattle.rst_gate.specs.GateLists.{GateList}
use Rattle.rst_gate.specs.SharedGates.{Asked, same_edge, same_gate, with_shared, is_first, shared, asked_and, asked_xor, asked_mux}
use Rattle.rst_gate.specs.SharedLaws.{AreDifferent, KeepsDifferent}

same_itself : (b : Bool) → beq b b ≡ true
same_itself true = refl
same_itself false = refl

both_true : (a b : Bool) → a ≡ true → b ≡ true → a && b ≡ true
both_true true b h k = k
both_true false b h k = h

same_edge_itself : (e : Edge) → same_edge e e ≡ true
same_edge_itself e =
    both_true (eqb e.node e.node) (beq e.inverted e.inverted) (eq-eqb e.node e.node refl) (same_itself e.inverted)

same_gate_itself : (gate : Gate) → same_gate gate gate ≡ true
same_gate_itself (And a b) = both_true (same_edge a a) (same_edge b b) (same_edge_itself a) (same_edge_itself b)
same_gate_itself (Xor a b) = both_true (same_edge a a) (same_edge b b) (same_edge_itself a) (same_edge_itself b)
same_gate_itself (Mux s a b) =
    both_true (same_edge s s) (same_edge a a && same_edge b b) (same_edge_itself s)
    (both_true (same_edge a a) (same_edge b b) (same_edge_itself a) (same_edge_itself b))

-- where no gate is equal, none stands at a place
none_stands :
    (gates : List Gate) (gate : Gate) → list_any (same_gate gate) gates ≡ false → (i : ℕ) (d : Gate) → i < length gates
    → get_or gates i d ≡ gate → ⊥
none_stands gates gate none i d below is =
    false≢true
    (sym none
    ∙ list_any_at (same_gate gate) gates i d below (ap (same_gate gate) is ∙ same_gate_itself gate))

different_push :
    (gates : List Gate) (gate : Gate) → AreDifferent gates → list_any (same_gate gate) gates ≡ false → AreDifferent (gates ++ gate ∷ [])
different_push gates gate apart none i j d before below same =
    let longer : length (gates ++ gate ∷ []) ≡ length gates + 1 = omega (arith, length_push gates gate) in
    ⊎_elim
    (λ (p : j < length gates).
    let q : i < length gates = omega arith in
    apart i j d before p
    (sym (get_or_append_left gates (gate ∷ []) d i q) ∙ (same ∙ get_or_append_left gates (gate ∷ []) d j p)))
    (λ q.
    let e : length gates ≡ j = omega (arith, longer) in
    let p : i < length gates = omega (arith, e) in
    none_stands gates gate none i d p
    (sym (get_or_append_left gates (gate ∷ []) d i p) ∙ (same ∙ get_or_push gates gate d j e)))
    (cases_lt j (length gates))

with_shared_different : (gates : List Gate) (gate : Gate) → AreDifferent gates → AreDifferent (with_shared gates gate)
with_shared_different gates gate apart =
    cond_both (list_any (same_gate gate) gates) gates (gates ++ gate ∷ []) AreDifferent
    (λ _. apart) (λ none. different_push gates gate apart none)

shared_different : (g : GateList) (gate : Gate) → AreDifferent g.gates → AreDifferent (shared g gate).0.gates
unfolding shared
shared_different g gate apart = with_shared_different g.gates gate apart

abbrev Different : Asked → Type 0
Different r = AreDifferent r.0.gates

and_different : (g : GateList) (a b : Edge) → AreDifferent g.gates → AreDifferent (asked_and g a b).0.gates
unfolding asked_and
and_different g a b apart =
    cond_both (eqb a.node 0) _ _ Different (λ _. apart)
    (λ _. cond_both (eqb b.node 0) _ _ Different (λ _. apart)
    (λ _. cond_both (is_first a b) _ _ Different (λ _. shared_different g (And a b) apart) (λ _. shared_different g (And b a) apart)))

xor_different : (g : GateList) (a b : Edge) → AreDifferent g.gates → AreDifferent (asked_xor g a b).0.gates
unfolding asked_xor
xor_different g a b apart =
    cond_both (eqb a.node 0) _ _ Different (λ _. apart)
    (λ _. cond_both (eqb b.node 0) _ _ Different (λ _. apart)
    (λ _. cond_both (is_first a b) _ _ Different (λ _. shared_different g (Xor a b) apart) (λ _. shared_different g (Xor b a) apart)))

mux_different : (g : GateList) (s a b : Edge) → AreDifferent g.gates → AreDifferent (asked_mux g s a b).0.gates
unfolding asked_mux
mux_different g s a b apart =
    cond_both (eqb s.node 0) _ _ Different (λ _. apart) (λ _. shared_different g (Mux s a b) apart)

pub keeps_different : KeepsDifferent
keeps_different = record { both = and_different; differ = xor_different; choice = mux_different }
