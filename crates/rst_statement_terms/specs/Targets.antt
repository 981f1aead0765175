-- The bits of signals, and what a set and a choice between two branches leave them with.
use Rattle.std.specs.Prelude.{ℕ, zero, suc, ◌+◌, Bool, List, [], ◌∷◌, ◌++◌, take, drop, slice_index_or, slice_set, if◌then◌else◌}
use Rattle.rst_net.specs.declared.signal.Slice.{Slice}
use Rattle.rst_cycle.specs.Effects.{target_width}
use Rattle.rst_terms.specs.Algebras.{Algebra, Step}

-- each signal's bits, lowest first, by the signal's number
abbrev pub Words : Type 0 → Type 0
Words X = List (List X)

abbrev pub word_of : {X : Type 0} → Words X → ℕ → List X
word_of words i = slice_index_or words i []

-- a word with `width` bits from the place `low` on replaced by the lowest bits of another
abbrev pub replaced : {X : Type 0} → ℕ → ℕ → List X → List X → List X
replaced low width part word = take low word ++ (take width part ++ drop (low + width) word)

abbrev pub with_slice : {X : Type 0} → Slice → List X → Words X → Words X
with_slice slice part words = slice_set words slice.signal (replaced slice.low slice.width part (word_of words slice.signal))

-- A target set to a word: its first slice takes the most significant bits. The slices are set in the order of the text, so that of
-- a bit that stands in two of them the last one wins.
abbrev pub with_target : {X : Type 0} → List Slice → List X → Words X → Words X
with_target [] part words = words
with_target (slice ∷ slices) part words = with_target slices part (with_slice slice (drop (target_width slices) part) words)

-- One `mux` for each bit that a branch sets, from the lowest on; every other bit is the same in both.
abbrev pub merged_word : {S X : Type 0} → Algebra S X → S → X → (ℕ → Bool) → ℕ → List X → List X → Step S (List X)
merged_word A s c which place [] ns = (s, [])
merged_word A s c which place (y ∷ ys) [] = (s, [])
merged_word A s c which place (y ∷ ys) (n ∷ ns) =
    if which place then
    (let m = A.choice s c y n in
    let rest = merged_word A m.0 c which (suc place) ys ns in
    (rest.0, m.1 ∷ rest.1))
    else
    (let rest = merged_word A s c which (suc place) ys ns in
    (rest.0, n ∷ rest.1))

-- signal by signal
abbrev pub merged : {S X : Type 0} → Algebra S X → S → X → (ℕ → ℕ → Bool) → ℕ → Words X → Words X → Step S (Words X)
merged A s c which i [] ns = (s, [])
merged A s c which i (y ∷ ys) [] = (s, [])
merged A s c which i (y ∷ ys) (n ∷ ns) =
    let m = merged_word A s c (which i) 0 y n in
    let rest = merged A m.0 c which (suc i) ys ns in
    (rest.0, m.1 ∷ rest.1)
