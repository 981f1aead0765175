-- States that agree on a closed set have successors that agree on it: each node below which only inputs and members lie
-- has one value in both.
use Rattle.std.proofs.Common.{◌≡◌, ℕ, zero, suc, Bool, true, false, ◌&&◌, not, List, [], ◌∷◌, length, get_or, replicate, refl, ap, arith}
use Rattle.std.proofs.lemmas.Bool.{false≢true}
use Rattle.std.specs.List.{AllZip}
use Rattle.rst_value.specs.Bits.{bit_xor, bit_mux}
use Rattle.rst_gate.specs.Operations.{Operations, on_bits}
use Rattle.rst_gate.specs.Circuits.{Circuit}
use Rattle.rst_gate.specs.Nodes.{next_values}
use Rattle.rst_gate.specs.GateMachines.{machine_of}
use Rattle.rst_gate.specs.Machine.{IsState}
use Rattle.rst_gate.specs.ClosedSets.{on_support, next_support, IsClosedSet, AgreeOn}
use Rattle.rst_gate.proofs.Related.{Respects, nexts_related, zip-get_or_past}

-- two bits, each with its own reading
abbrev on_pairs : Operations (Bool × Bool)
on_pairs = record {
  low = (false, false);
  negation = λ a. (not a.0, not a.1);
  both = λ a b. (a.0 && b.0, a.1 && b.1);
  differ = λ a b. (bit_xor a.0 b.0, bit_xor a.1 b.1);
  choice = λ s a b. (bit_mux s.0 a.0 b.0, bit_mux s.1 a.1 b.1);
}

abbrev Pair : Type 0
Pair = Bool × Bool

abbrev IsLeft : Pair → Bool → Type 0
IsLeft p x = p.0 ≡ x

abbrev IsRight : Pair → Bool → Type 0
IsRight p x = p.1 ≡ x

left_respects : Respects IsLeft on_pairs on_bits
left_respects = record {
  low = refl;
  negation = λ a b h. ap not h;
  both = λ a c b d h k. cc;
  differ = λ a c b d h k. cc;
  choice = λ s a c t b d h k l. cc;
}

right_respects : Respects IsRight on_pairs on_bits
right_respects = record {
  low = refl;
  negation = λ a b h. ap not h;
  both = λ a c b d h k. cc;
  differ = λ a c b d h k. cc;
  choice = λ s a c t b d h k l. cc;
}

-- where only inputs and members lie below a node, both bits are one
abbrev IsOne : Bool → Pair → Type 0
IsOne u p = u ≡ true → p.0 ≡ p.1

both-one : (a c : Bool) (b d : Pair) → IsOne a b → IsOne c d → (op : Bool → Bool → Bool) → a && c ≡ true → op b.0 d.0 ≡ op b.1 d.1
both-one true c b d p q op h = let first : b.0 ≡ b.1 = p refl in let second : d.0 ≡ d.1 = q h in cc
both-one false c b d p q op h = absurd (false≢true h)

choice-one :
    (s a c : Bool) (t b d : Pair) → IsOne s t → IsOne a b → IsOne c d → s && a && c ≡ true → bit_mux t.0 b.0 d.0 ≡ bit_mux t.1 b.1 d.1
choice-one true true c t b d p q r h = let z : t.0 ≡ t.1 = p refl in let x : b.0 ≡ b.1 = q refl in let y : d.0 ≡ d.1 = r h in cc
choice-one true false c t b d p q r h = absurd (false≢true h)
choice-one false a c t b d p q r h = absurd (false≢true h)

support_respects : Respects IsOne on_support on_pairs
support_respects = record {
  low = λ h. refl;
  negation = λ a b p h. ap not (p h);
  both = λ a c b d p q. both-one a c b d p q (λ x y. x && y);
  differ = λ a c b d p q. both-one a c b d p q bit_xor;
  choice = choice-one;
}

-- two lists, place by place
abbrev pairs_of : List Bool → List Bool → List Pair
pairs_of [] ys = []
pairs_of (x ∷ xs) [] = []
pairs_of (x ∷ xs) (y ∷ ys) = (x, y) ∷ pairs_of xs ys

lefts : (xs ys : List Bool) → length xs ≡ length ys → AllZip IsLeft (pairs_of xs ys) xs
lefts [] ys h = tt
lefts (x ∷ xs) [] h = absurd (omega arith)
lefts (x ∷ xs) (y ∷ ys) h = (refl, lefts xs ys (omega arith))

rights : (xs ys : List Bool) → length xs ≡ length ys → AllZip IsRight (pairs_of xs ys) ys
rights [] [] h = tt
rights [] (y ∷ ys) h = absurd (omega arith)
rights (x ∷ xs) [] h = absurd (omega arith)
rights (x ∷ xs) (y ∷ ys) h = (refl, rights xs ys (omega arith))

one_input : (n : ℕ) (xs : List Bool) → length xs ≡ n → AllZip IsOne (replicate n true) (pairs_of xs xs)
one_input zero [] h = tt
one_input zero (x ∷ xs) h = absurd (omega arith)
one_input (suc n) [] h = absurd (omega arith)
one_input (suc n) (x ∷ xs) h = (λ k. refl, one_input n xs (omega arith))

one_state : (set s t : List Bool) → length set ≡ length s → length s ≡ length t → AgreeOn set s t → AllZip IsOne set (pairs_of s t)
one_state [] [] t h k agree = tt
one_state [] (x ∷ s) t h k agree = absurd (omega arith)
one_state (a ∷ set) [] t h k agree = absurd (omega arith)
one_state (a ∷ set) (x ∷ s) [] h k agree = absurd (omega arith)
one_state (a ∷ set) (x ∷ s) (y ∷ t) h k agree =
    (λ e. agree 0 e, one_state set s t (omega arith) (omega arith) (λ i e. agree (suc i) e))

-- a member's bits, which are both the defaults past the ends
member_bits :
    (us : List Bool) (ps : List Pair) (xs ys : List Bool) (i : ℕ) → AllZip IsOne us ps → AllZip IsLeft ps xs → AllZip IsRight ps ys
    → get_or us i false ≡ true → get_or xs i false ≡ get_or ys i false
member_bits us ps xs ys i one left right member =
    let low : Pair = (false, false) in
    let same : (get_or ps i low).0 ≡ (get_or ps i low).1 = zip-get_or_past IsOne us ps i false low (λ h. refl) one member in
    let x : (get_or ps i low).0 ≡ get_or xs i false = zip-get_or_past IsLeft ps xs i low false refl left in
    let y : (get_or ps i low).1 ≡ get_or ys i false = zip-get_or_past IsRight ps ys i low false refl right in
    cc

pub closed-agree :
    (c : Circuit) (set s t input : List Bool) → length set ≡ c.states → IsState (machine_of c) s → IsState (machine_of c) t
    → length input ≡ c.inputs → IsClosedSet c set → AgreeOn set s t
    → AgreeOn set ((machine_of c).step s input) ((machine_of c).step t input)
closed-agree c set s t input is_set is_s is_t is_input closed agree i member =
    let same : length s ≡ length t = cc in
    let ps : List Pair = pairs_of s t in
    let xs : List Pair = pairs_of input input in
    let below : AllZip IsOne (next_support c set) (next_values on_pairs c xs ps) =
    nexts_related IsOne on_support on_pairs support_respects c (replicate c.inputs true) set xs ps
    (one_input c.inputs input is_input) (one_state set s t (cc) same agree) in
    let left : AllZip IsLeft (next_values on_pairs c xs ps) (next_values on_bits c input s) =
    nexts_related IsLeft on_pairs on_bits left_respects c xs ps input s (lefts input input refl) (lefts s t same) in
    let right : AllZip IsRight (next_values on_pairs c xs ps) (next_values on_bits c input t) =
    nexts_related IsRight on_pairs on_bits right_respects c xs ps input t (rights input input refl) (rights s t same) in
    member_bits (next_support c set) (next_values on_pairs c xs ps) _ _ i below left right
    (zip-get_or_past (λ a b. a ≡ true → b ≡ true) set (next_support c set) i false false (λ h. h) closed member)
