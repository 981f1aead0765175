-- The words of right hops tell the pairs of their cubes apart.
use Rattle.std.proofs.Common.{◌≡◌, ◌∙◌, ℕ, zero, suc, ◌<◌, Bool, List, [], ◌∷◌, length, take, refl, sym, ap, subst, arith}
use Rattle.std.specs.Prelude.{slice_index_or, Option, None, Some}
use Rattle.std.specs.Option.{ForSome}
use Rattle.std.proofs.lemmas.List.{get_or-map, get_or-take, take-map}
use Rattle.rst_value.specs.declared.tern.Tern.{Tern}
use Rattle.rst_gate.specs.Machine.{IsWord, SameAcross, outs, after}
use Rattle.rst_gate.proofs.Readings.{gates_keep_states}
use Rattle.rst_pair.specs.declared.hop.Hop.{Hop}
use Rattle.rst_pair.specs.Sides.{Sides, AreSides, IsPair, Holds, left_machine, right_machine}
use Rattle.rst_pair.specs.Aims.{Leads}
use Rattle.rst_pair.specs.Fronts.{Front', IsRelated}
use Rattle.rst_pair.specs.Hops.{AreHops, IsHop, blocked_aim, cubes_of, cube_at, next_word, words_of, word_of}
use Rattle.rst_query_laws.proofs.Cases.{after_length}
use Rattle.rst_landing.specs.Landings.{IsLanding, EndsInside}
use Rattle.rst_replay.specs.Words.{AreRight}
use Rattle.rst_replay.specs.Refutations.{AreSigned, IsRefutedBy}
use Rattle.rst_replay.proofs.Reading.{word_step}

-- some hop, where there is one
abbrev first_of : (hops : List Hop) (k : ℕ) → k < length hops → Hop
first_of [] k below = absurd (omega arith)
first_of (hop ∷ hops) k below = hop

-- the next hop's word is one, where all before are
word_fits :
    (p : Sides) (hops : List Hop) (next : Option ℕ) (k : ℕ) → ForSome next (λ n. n < k)
    → ((n : ℕ) → n < k → IsWord (left_machine p) (word_of hops n)) → IsWord (left_machine p) (next_word (words_of hops) next)
word_fits p hops None k earlier all = tt
word_fits p hops (Some n) k earlier all = all n (earlier n refl)

words_fit :
    (p : Sides) (hops : List Hop) → AreHops p hops → (fuel k : ℕ) → k < fuel → k < length hops → IsWord (left_machine p) (word_of hops k)
words_fit p hops are zero k enough below = absurd (omega arith)
words_fit p hops are (suc fuel) k enough below =
    let d : Hop = first_of hops k below in
    let hop : Hop = slice_index_or hops k d in
    let fits : IsHop p k hop = are k d below in
    subst (λ (word : List (List Bool)). IsWord (left_machine p) word) (sym (word_step hops k d below fits.next))
    (fits.input, word_fits p hops hop.next k fits.next (λ n lt. words_fit p hops are fuel n (omega (arith, lt, enough)) (omega (arith, lt, below))))

pub word_is_word : (p : Sides) (hops : List Hop) (k : ℕ) → AreHops p hops → k < length hops → IsWord (left_machine p) (word_of hops k)
word_is_word p hops k are below = words_fit p hops are (suc k) k (omega arith) below

cube_before : (hops : List Hop) (k n : ℕ) → n < k → cube_at (take k hops) n ≡ cube_at hops n
cube_before hops k n lt =
    ap (λ (cubes : List (List Tern)). slice_index_or cubes n []) (sym (take-map (λ hop. hop.cube) k hops)) ∙ get_or-take k (cubes_of hops) n [] lt

-- an input that leads the pair where the hop aims, and the word of the next hop, tell it apart
step_apart :
    (p : Sides) (hops : List Hop) (next : Option ℕ) (k : ℕ) (input s t : List Bool) → ForSome next (λ n. n < k)
    → Leads p (blocked_aim (take k hops) next) input s t
    → ((n : ℕ) → n < k → Holds (cube_at hops n) ((left_machine p).step s input) ((right_machine p).step t input)
    → outs (left_machine p) ((left_machine p).step s input) (word_of hops n) ≡ outs (right_machine p) ((right_machine p).step t input) (word_of hops n) → ⊥)
    → outs (left_machine p) s (input ∷ next_word (words_of hops) next) ≡ outs (right_machine p) t (input ∷ next_word (words_of hops) next) → ⊥
step_apart p hops None k input s t earlier leads later same = leads (cc)
step_apart p hops (Some n) k input s t earlier leads later same =
    let lt : n < k = earlier n refl in
    later n lt
    (subst (λ (cube : List Tern). Holds cube ((left_machine p).step s input) ((right_machine p).step t input)) (cube_before hops k n lt) leads)
    (cc)

all_apart :
    (p : Sides) (hops : List Hop) → AreSides p → AreHops p hops → AreRight p hops → (fuel k : ℕ) (s t : List Bool) → k < fuel → k < length hops
    → IsPair p s t → Holds (cube_at hops k) s t → outs (left_machine p) s (word_of hops k) ≡ outs (right_machine p) t (word_of hops k) → ⊥
all_apart p hops sides are right zero k s t enough below pair holds same = absurd (omega arith)
all_apart p hops sides are right (suc fuel) k s t enough below pair holds same =
    let d : Hop = first_of hops k below in
    let hop : Hop = slice_index_or hops k d in
    let fits : IsHop p k hop = are k d below in
    let cube : cube_at hops k ≡ hop.cube = get_or-map (λ h. h.cube) hops k d [] below in
    let leads : Leads p (blocked_aim (take k hops) hop.next) hop.input s t =
    right k d below s t pair (subst (λ (c : List Tern). Holds c s t) cube holds) in
    let input : List Bool = hop.input in
    let succ : IsPair p ((left_machine p).step s input) ((right_machine p).step t input) = (
      gates_keep_states p.left sides.left s input pair.0 fits.input,
      gates_keep_states p.right sides.right t input pair.1 (fits.input ∙ sides.ports.inputs),
    ) in
    let is = word_step hops k d below fits.next in
    step_apart p hops hop.next k input s t fits.next leads
    (λ n lt inside equal. all_apart p hops sides are right fuel n _ _ (omega (arith, lt, enough)) (omega (arith, lt, below)) succ inside equal)
    (ap (λ (word : List (List Bool)). outs (left_machine p) s word) (sym is) ∙ same ∙ ap (λ (word : List (List Bool)). outs (right_machine p) t word) is)

pub tells_apart :
    (p : Sides) (hops : List Hop) (k : ℕ) (s t : List Bool) → AreSides p → AreHops p hops → AreRight p hops → k < length hops
    → IsPair p s t → Holds (cube_at hops k) s t → outs (left_machine p) s (word_of hops k) ≡ outs (right_machine p) t (word_of hops k) → ⊥
tells_apart p hops k s t sides are right below pair holds = all_apart p hops sides are right (suc k) k s t (omega arith) below pair holds

pair_after :
    (p : Sides) (s t : List Bool) (word : List (List Bool)) → AreSides p → IsPair p s t
    → IsPair p (after (left_machine p) s word) (after (right_machine p) t word)
pair_after p s t word sides pair = (after_length p.left s word sides.left pair.0, after_length p.right t word sides.right pair.1)

pub landed_refutes :
    (p : Sides) (f : Front') (pattern : List (List Tern)) (a b : List Bool) (fill : List (List Bool)) (cube : ℕ) → AreSides p
    → AreHops p f.blocked → AreRight p f.blocked → IsLanding p f pattern a b fill cube → IsRefutedBy p pattern fill a b (word_of f.blocked cube)
landed_refutes p f pattern a b fill cube sides are right landing = record {
  pair = landing.pair;
  fills = landing.fills;
  is_word = word_is_word p f.blocked cube are landing.lands.below;
  apart = tells_apart p f.blocked cube (after (left_machine p) a fill) (after (right_machine p) b fill) sides are right landing.lands.below
      (pair_after p a b fill sides landing.pair) landing.lands.holds;
}

pub inside_aligns :
    (p : Sides) (f : Front') (pattern : List (List Tern)) → AreSides p
    → ((s t : List Bool) → IsPair p s t → IsRelated f s t → SameAcross (left_machine p) (right_machine p) s t) → EndsInside p f pattern → AreSigned p pattern
inside_aligns p f pattern sides same inside = λ word fills s t is_s is_t.
    same (after (left_machine p) s word) (after (right_machine p) t word) (pair_after p s t word sides (is_s, is_t)) (inside word s t fills (is_s, is_t))
