-- What is chosen behind two branches, at the signals with marks alone.
use Rattle.std.specs.Prelude.{◌≡◌, ℕ, ◌+◌, Bool, List, [], ◌∷◌, length, map, slice_set, if◌then◌else◌}
use Rattle.std.specs.List.{All, AllByRecursion}
use Rattle.rst_gate.specs.Circuits.{IsBelow}
use Rattle.rst_statement_terms.specs.Weights.{places_below}
use Rattle.rst_statement_gates.specs.Marks.{Ascend}
use Rattle.std.specs.declared.vec.Vec.{Vec}
use Rattle.std.specs.declared.alloc.Global.{Global}
use Rattle.rst_gate.specs.declared.edge.Edge.{Edge}
use Rattle.rst_gate.specs.GateLists.{GateList}
use Rattle.rst_terms.specs.Algebras.{Algebra, Step}
use Rattle.rst_word_gates.specs.GateAlgebra.{gates_so_far}
use Rattle.rst_cycle.specs.Bits.{has_bit}
use Rattle.rst_statement_terms.specs.Targets.{Words, word_of, merged_word}
use Rattle.rst_statement_gates.specs.declared.marks.Mark.{Mark}
use Rattle.rst_statement_gates.specs.declared.waiting.Waiting.{Waiting}

-- the words of the signals with marks
abbrev pub words_at : {X : Type 0} → List Mark → Words X → List (List X)
words_at marks words = map (λ m. word_of words m.signal) marks

-- words put in place of theirs
abbrev pub with_words : {X : Type 0} → List Mark → List (List X) → Words X → Words X
with_words [] others words = words
with_words (m ∷ marks) [] words = words
with_words (m ∷ marks) (other ∷ others) words = with_words marks others (slice_set words m.signal other)

-- the bit of the first branch or of the second, by the select where the place is marked
unfoldable pub chosen_bit : {S X : Type 0} → Algebra S X → S → X → Bool → X → X → Step S X
chosen_bit A s c marked one zero = if marked then A.choice s c one zero else (s, zero)

-- at each marked bit the one of the first branch, whose words are `ones`, or that of the second
abbrev pub merged_at : {S X : Type 0} → Algebra S X → S → X → List Mark → List (List X) → Words X → Step S (Words X)
merged_at A s c [] ones words = (s, words)
merged_at A s c (m ∷ marks) [] words = (s, words)
merged_at A s c (m ∷ marks) (one ∷ ones) words =
    let r = merged_word A s c (has_bit m.mask) 0 one (word_of words m.signal) in
    merged_at A r.0 c marks ones (slice_set words m.signal r.1)

-- the words that vectors hold
abbrev pub held_words : List (Vec Edge Global) → List (List Edge)
held_words vectors = map (λ (v : Vec Edge Global). v.items) vectors

-- the choices that wait behind the arms of a case, the last arm's first
abbrev pub chosen_behind : List Waiting → Step GateList (Words Edge) → Step GateList (Words Edge)
chosen_behind [] r = r
chosen_behind (w ∷ waiting) r =
    let n = chosen_behind waiting r in
    merged_at gates_so_far n.0 w.test w.marks.items (held_words w.words.items) n.1

-- how many bits are marked
abbrev pub marked_bits : List Mark → ℕ
marked_bits [] = 0
marked_bits (m ∷ marks) = places_below (has_bit m.mask) 64 + marked_bits marks

-- each word has the width of its mark's signal
abbrev pub Matches : (ℕ → ℕ) → List Mark → List (List Edge) → Type 0
Matches widths [] [] = Unit {0}
Matches widths [] (w ∷ words) = ⊥
Matches widths (m ∷ marks) [] = ⊥
Matches widths (m ∷ marks) (w ∷ words) = (length w ≡ widths m.signal) × Matches widths marks words

-- A choice that waits: its marks are of signals, and its words are theirs.
pub record IsReady (n count : ℕ) (widths : ℕ → ℕ) (w : Waiting) : Type 0 where
  pub ascend : Ascend 0 count w.marks.items
  pub test : IsBelow n w.test
  pub stand : AllByRecursion (All (IsBelow n)) (held_words w.words.items)
  pub matches : Matches widths w.marks.items (held_words w.words.items)

abbrev pub AreReady : ℕ → ℕ → (ℕ → ℕ) → List Waiting → Type 0
AreReady n count widths waiting = AllByRecursion (IsReady n count widths) waiting

abbrev pub waiting_bits : List Waiting → ℕ
waiting_bits [] = 0
waiting_bits (w ∷ waiting) = marked_bits w.marks.items + waiting_bits waiting
