-- The words of hops, hop by hop.
use Rattle.std.proofs.Common.{◌≡◌, ◌∙◌, ℕ, zero, suc, ◌+◌, ◌<◌, Bool, List, [], ◌∷◌, ◌++◌, length, get_or, refl, sym, ap, subst, arith, append_assoc}
use Rattle.std.specs.Prelude.{slice_index_or, Option, None, Some}
use Rattle.std.specs.Option.{ForSome}
use Rattle.std.proofs.lemmas.List.{length_push, get_or_push, get_or_append_left}
use Rattle.rst_pair.specs.declared.hop.Hop.{Hop}
use Rattle.rst_pair.specs.Hops.{next_word, words_behind, words_of, word_of}
use Rattle.rst_replay.specs.Words.{HaveEarlierNexts}

-- words that stand already stay
stable :
    (words : List (List (List Bool))) (hops : List Hop) (i : ℕ) → i < length words
    → slice_index_or (words_behind words hops) i [] ≡ slice_index_or words i []
stable words [] i below = refl
stable words (hop ∷ hops) i below =
    let word : List (List Bool) = hop.input ∷ next_word words hop.next in
    stable (words ++ word ∷ []) hops i (omega (arith, below, length_push words word)) ∙ get_or_append_left words (word ∷ []) [] i below

same_next :
    (words all : List (List (List Bool))) (next : Option ℕ) (n : ℕ) → ((i : ℕ) → i < n → slice_index_or all i [] ≡ slice_index_or words i [])
    → ForSome next (λ k. k < n) → next_word words next ≡ next_word all next
same_next words all None n same below = refl
same_next words all (Some k) n same below = sym (same k (below k refl))

-- the word of the hop at a place behind those that stand
here :
    (words : List (List (List Bool))) (hops : List Hop) (j : ℕ) (d : Hop) → j < length hops
    → ForSome (slice_index_or hops j d).next (λ k. k < length words + j)
    → slice_index_or (words_behind words hops) (length words + j) []
    ≡ (slice_index_or hops j d).input ∷ next_word (words_behind words hops) (slice_index_or hops j d).next
here words [] j d below earlier = absurd (omega arith)
here words (hop ∷ hops) zero d below earlier =
    let word : List (List Bool) = hop.input ∷ next_word words hop.next in
    let more : List (List (List Bool)) = words ++ word ∷ [] in
    let place : length words + 0 ≡ length words = omega arith in
    let earlier' : ForSome hop.next (λ k. k < length words) = subst (λ (n : ℕ). ForSome hop.next (λ k. k < n)) place earlier in
    ap (λ (n : ℕ). slice_index_or (words_behind more hops) n []) place
    ∙ stable more hops (length words) (omega (arith, length_push words word))
    ∙ get_or_push words word [] (length words) refl
    ∙ ap (λ (rest : List (List Bool)). hop.input ∷ rest)
    (same_next words (words_behind more hops) hop.next (length words)
    (λ i lt. stable more hops i (omega (arith, lt, length_push words word)) ∙ get_or_append_left words (word ∷ []) [] i lt) earlier')
here words (hop ∷ hops) (suc j) d below earlier =
    let word : List (List Bool) = hop.input ∷ next_word words hop.next in
    let more : List (List (List Bool)) = words ++ word ∷ [] in
    let place : length words + suc j ≡ length more + j = omega (arith, length_push words word) in
    let earlier' : ForSome (slice_index_or hops j d).next (λ k. k < length more + j) =
    subst (λ (n : ℕ). ForSome (slice_index_or hops j d).next (λ k. k < n)) place earlier in
    ap (λ (n : ℕ). slice_index_or (words_behind more hops) n []) place ∙ here more hops j d (omega (arith, below)) earlier'

-- the word of a hop is its input, then the word of its next hop
pub word_step :
    (hops : List Hop) (k : ℕ) (d : Hop) → k < length hops → ForSome (slice_index_or hops k d).next (λ n. n < k)
    → word_of hops k ≡ (slice_index_or hops k d).input ∷ next_word (words_of hops) (slice_index_or hops k d).next
word_step hops k d below earlier =
    let place : 0 + k ≡ k = omega arith in
    ap (λ (n : ℕ). slice_index_or (words_of hops) n []) (sym place)
    ∙ here [] hops k d below (subst (λ (n : ℕ). ForSome (slice_index_or hops k d).next (λ m. m < n)) (sym place) earlier)

step_of :
    (hops : List Hop) (at : ℕ) (hop : Hop) → HaveEarlierNexts hops → at < length hops → hop ≡ get_or hops at hop
    → word_of hops at ≡ hop.input ∷ next_word (words_of hops) hop.next
step_of hops at hop nexts below is =
    subst (λ (h : Hop). word_of hops at ≡ h.input ∷ next_word (words_of hops) h.next) (sym is) (word_step hops at hop below (nexts at hop below))

-- a turn of the loop: the word so far, and that of the next hop
pub next_below :
    (hops : List Hop) (at : ℕ) (hop : Hop) (next : ℕ) → HaveEarlierNexts hops → at < length hops → hop ≡ get_or hops at hop
    → hop.next ≡ Some next → next < at
next_below hops at hop next nexts below is there = nexts at hop below next (ap (λ (h : Hop). h.next) (sym is) ∙ there)

pub word_turn :
    (hops : List Hop) (at : ℕ) (hop : Hop) (next : ℕ) (whole word more : List (List Bool)) → HaveEarlierNexts hops → at < length hops
    → hop ≡ get_or hops at hop → hop.next ≡ Some next → whole ≡ word ++ word_of hops at → more ≡ word ++ hop.input ∷ []
    → whole ≡ more ++ word_of hops next
word_turn hops at hop next whole word more nexts below is there so_far push =
    so_far
    ∙ ap (λ (rest : List (List Bool)). word ++ rest) (step_of hops at hop nexts below is ∙ ap (λ (o : Option ℕ). hop.input ∷ next_word (words_of hops) o) there)
    ∙ sym (append_assoc word (hop.input ∷ []) (word_of hops next))
    ∙ ap (λ (front : List (List Bool)). front ++ word_of hops next) (sym push)

pub word_end :
    (hops : List Hop) (at : ℕ) (hop : Hop) (whole word more : List (List Bool)) → HaveEarlierNexts hops → at < length hops
    → hop ≡ get_or hops at hop → hop.next ≡ None → whole ≡ word ++ word_of hops at → more ≡ word ++ hop.input ∷ [] → more ≡ whole
word_end hops at hop whole word more nexts below is there so_far push =
    push
    ∙ ap (λ (rest : List (List Bool)). word ++ rest) (sym (step_of hops at hop nexts below is ∙ ap (λ (o : Option ℕ). hop.input ∷ next_word (words_of hops) o) there))
    ∙ sym so_far
