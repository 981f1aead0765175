-- A gate that is shared: where it stands, and that the gates stay in order.
use Rattle.std.proofs.Common.{◌≡◌, ℕ, suc, ◌+◌, ◌<◌, ◌≤◌, Bool, true, false, ◌&&◌, ◌||◌, not, cond, List, [], ◌∷◌, ◌++◌, length, get_or, arith, refl, sym, ⊎_elim, eqb}
use Rattle.std.specs.List.{list_any, position_or_len}
use Rattle.std.specs.Bool.{beq}
use Rattle.std.proofs.lemmas.List.{get_or_append_left, get_or_push, length_push, append-nil}
use Rattle.std.proofs.lemmas.Bool.{cases_lt, eqb-true, and_parts}
use Rattle.rst_gate.specs.declared.edge.Edge.{Edge}
use Rattle.rst_gate.specs.declared.edge.Gate.{Gate}
use Rattle.rst_gate.specs.declared.edge.Gate.TheVariants.{And, Xor, Mux}
use Rattle.rst_gate.specs.Circuits.{ReadsBelow, IsInOrder}
use Rattle.rst_gate.specs.contracts.edge.GatePartialEq.TheImpl.{eq-value}
use Rattle.rst_gate.specs.SharedGates.{same_edge, same_gate, place_of, with_shared}

-- the derived equality of gates
pub same_derived : (x y : Gate) → (eq-value).it x y ≡ same_gate x y
same_derived (And a b) (And c d) = refl
same_derived (And a b) (Xor c d) = refl
same_derived (And a b) (Mux s c d) = refl
same_derived (Xor a b) (Xor c d) = refl
same_derived (Xor a b) (And c d) = refl
same_derived (Xor a b) (Mux s c d) = refl
same_derived (Mux r a b) (Mux s c d) = refl
same_derived (Mux r a b) (And c d) = refl
same_derived (Mux r a b) (Xor c d) = refl

same_bits : (a b : Bool) → beq a b ≡ true → a ≡ b
same_bits true true h = refl
same_bits false false h = refl
same_bits true false h = cc
same_bits false true h = cc

pub in_order_push :
    (n : ℕ) (gates : List Gate) (gate : Gate) → IsInOrder n gates → ReadsBelow (n + length gates) gate
    → IsInOrder n (gates ++ gate ∷ [])
in_order_push n gates gate h r k d below =
    ⊎_elim (λ p. rw (get_or_append_left gates (gate ∷ []) d k p) (h k d p))
    (λ q.
    let e : length gates ≡ k = omega (arith, length_push gates gate) in
    rw (get_or_push gates gate d k e) (rw e at r))
    (cases_lt k (length gates))

cond_in_order :
    (b : Bool) (n : ℕ) (gates more : List Gate) → IsInOrder n gates → IsInOrder n more → IsInOrder n (cond b gates more)
cond_in_order true n gates more h k = h
cond_in_order false n gates more h k = k

pub in_order_shared :
    (n : ℕ) (gates : List Gate) (gate : Gate) → IsInOrder n gates → ReadsBelow (n + length gates) gate
    → IsInOrder n (with_shared gates gate)
in_order_shared n gates gate h r = cond_in_order (list_any (same_gate gate) gates) n gates (gates ++ gate ∷ []) h (in_order_push n gates gate h r)

pub shared_gates :
    (eq : Gate → Gate → Bool) → ((x y : Gate) → eq x y ≡ same_gate x y) → (gates : List Gate) (gate : Gate)
    → cond (list_any (eq gate) gates) gates (gates ++ gate ∷ []) ≡ with_shared gates gate
shared_gates eq same gates gate = λ i. cond (list_any (λ y. same gate y i) gates) gates (gates ++ gate ∷ [])

pub shared_place :
    (eq : Gate → Gate → Bool) → ((x y : Gate) → eq x y ≡ same_gate x y) → (gates : List Gate) (gate : Gate)
    → position_or_len (eq gate) gates ≡ place_of gates gate
shared_place eq same gates gate = λ i. position_or_len (λ y. same gate y i) gates

same_edges : (a b : Edge) → same_edge a b ≡ true → a ≡ b
same_edges a b h =
    let parts = and_parts (eqb a.node b.node) (beq a.inverted b.inverted) h in
    let node : a.node ≡ b.node = eqb-true a.node b.node parts.0 in
    let inverted : a.inverted ≡ b.inverted = same_bits a.inverted b.inverted parts.1 in
    λ i. record { node = node i; inverted = inverted i }

same_gates : (x y : Gate) → same_gate x y ≡ true → x ≡ y
same_gates (And a b) (And c d) h =
    let parts = and_parts (same_edge a c) (same_edge b d) h in
    let p = same_edges a c parts.0 in let q = same_edges b d parts.1 in λ i. And (p i) (q i)
same_gates (And a b) (Xor c d) h = cc
same_gates (And a b) (Mux s c d) h = cc
same_gates (Xor a b) (Xor c d) h =
    let parts = and_parts (same_edge a c) (same_edge b d) h in
    let p = same_edges a c parts.0 in let q = same_edges b d parts.1 in λ i. Xor (p i) (q i)
same_gates (Xor a b) (And c d) h = cc
same_gates (Xor a b) (Mux s c d) h = cc
same_gates (Mux r a b) (Mux s c d) h =
    let parts = and_parts (same_edge r s) (same_edge a c && same_edge b d) h in
    let rest = and_parts (same_edge a c) (same_edge b d) parts.1 in
    let o = same_edges r s parts.0 in let p = same_edges a c rest.0 in let q = same_edges b d rest.1 in
    λ i. Mux (o i) (p i) (q i)
same_gates (Mux r a b) (And c d) h = cc
same_gates (Mux r a b) (Xor c d) h = cc

-- behind a list of gates stands a shared one at its place
pub record StandsAt (gates : List Gate) (gate : Gate) (place : ℕ) : Type 0 where
  pub below : place < length gates
  pub is : (d : Gate) → get_or gates place d ≡ gate

stands_later : (x : Gate) (gates : List Gate) (gate : Gate) (place : ℕ) → StandsAt gates gate place → StandsAt (x ∷ gates) gate (suc place)
stands_later x gates gate place h = let b = h.below in record { below = omega (arith, b); is = h.is }

stands_cons :
    (b l : Bool) (x : Gate) (gates : List Gate) (gate : Gate) (p : ℕ) → (b ≡ true → x ≡ gate)
    → StandsAt (cond l gates (gates ++ gate ∷ [])) gate p
    → StandsAt (cond (b || l) (x ∷ gates) (x ∷ (gates ++ gate ∷ []))) gate (cond (not b) (1 + p) 0)
stands_cons true l x gates gate p h k = record { below = omega arith; is = λ d. h refl }
stands_cons false true x gates gate p h k =
    let e : 1 + p ≡ suc p = omega arith in rw e (stands_later x gates gate p k)
stands_cons false false x gates gate p h k =
    let e : 1 + p ≡ suc p = omega arith in rw e (stands_later x (gates ++ gate ∷ []) gate p k)

pub shared_stands : (gates : List Gate) (gate : Gate) → StandsAt (with_shared gates gate) gate (place_of gates gate)
shared_stands [] gate = record { below = omega arith; is = λ d. refl }
shared_stands (x ∷ gates) gate =
    stands_cons (same_gate gate x) (list_any (same_gate gate) gates) x gates gate (place_of gates gate)
    (λ e. sym (same_gates gate x e)) (shared_stands gates gate)

-- what follows the gates so far: nothing, or the new gate
pub added_gates : List Gate → Gate → List Gate
added_gates gates gate = cond (list_any (same_gate gate) gates) [] (gate ∷ [])

cond_append : (b : Bool) (gates more : List Gate) → cond b gates (gates ++ more) ≡ gates ++ cond b [] more
cond_append true gates more = sym (append-nil gates)
cond_append false gates more = refl

pub shared_append : (gates : List Gate) (gate : Gate) → with_shared gates gate ≡ gates ++ added_gates gates gate
unfolding added_gates
shared_append gates gate = cond_append (list_any (same_gate gate) gates) gates (gate ∷ [])

cond_length : (b : Bool) (gates : List Gate) (gate : Gate) → length (cond b gates (gates ++ gate ∷ [])) ≤ length gates + 1
cond_length true gates gate = omega arith
cond_length false gates gate = omega (arith, length_push gates gate)

pub shared_length : (gates : List Gate) (gate : Gate) → length (with_shared gates gate) ≤ length gates + 1
shared_length gates gate = cond_length (list_any (same_gate gate) gates) gates gate
