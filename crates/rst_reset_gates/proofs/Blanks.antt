-- Wires whose bits are all 0.
use Rattle.std.proofs.Common.{◌≡◌, ℕ, zero, suc, ◌<◌, Bool, false, List, [], ◌∷◌, length, replicate, refl, sym, ap, subst}
use Rattle.std.specs.List.{All, AllZip}
use Rattle.std.proofs.lemmas.List.{length-replicate}
use Rattle.std.proofs.lemmas.List.Elements.{All-nil, All-replicate}
use Rattle.rst_gate.specs.declared.edge.Edge.{Edge}
use Rattle.rst_gate.specs.Circuits.{IsBelow}
use Rattle.rst_gate.specs.SharedGates.{constant_edge}
use Rattle.rst_net.specs.Units.{PlainSignal}
use Rattle.rst_width.specs.Typed.{sized_as}
use Rattle.rst_width.specs.Values.{word_at}
use Rattle.rst_cycle.specs.Signals.{width_of}
use Rattle.rst_terms.specs.Spelling.{Spells}
use Rattle.rst_terms.proofs.Places.{number_zeros}
use Rattle.rst_lower.specs.WireWords.{widths_of, WiresStand}
use Rattle.rst_statement_terms.specs.Targets.{Words, word_of}
use Rattle.rst_reset_gates.specs.NodeWords.{blank_words, blanked, IsBlank}

pub blank_widths : (signals : List PlainSignal) (i : ℕ) → widths_of (blank_words signals) i ≡ width_of signals i
blank_widths [] i = refl
blank_widths (s ∷ signals) zero = length-replicate s.extent.width (constant_edge false)
blank_widths (s ∷ signals) (suc i) = blank_widths signals i

pub blank_long : (signals : List PlainSignal) → length (blank_words signals) ≡ length signals
blank_long [] = refl
blank_long (s ∷ signals) = ap suc (blank_long signals)

pub blank_is : (signals : List PlainSignal) → IsBlank (blank_words signals)
blank_is [] = refl
blank_is (s ∷ signals) =
    let w : ℕ = s.extent.width in
    let long = length-replicate w (constant_edge false) in
    let rest = blank_is signals in
    λ i. replicate (sym long i) (constant_edge false) ∷ rest i

each_below : (n : ℕ) → 0 < n → (words : Words Edge) (i : ℕ) → All (IsBelow n) (word_of (blanked words) i)
each_below n h [] i = All-nil (IsBelow n)
each_below n h (w ∷ words) zero = All-replicate (IsBelow n) (length w) (constant_edge false) h
each_below n h (w ∷ words) (suc i) = each_below n h words i

pub blank_stands : (n : ℕ) (words : Words Edge) → 0 < n → IsBlank words → WiresStand n words
blank_stands n words h is = record { each = λ i. subst (λ ws. All (IsBelow n) (word_of ws i)) (sym is) (each_below n h words i) }

-- ---- the bits of constant edges

abbrev pub IsConstant : Edge → Bool → Type 0
IsConstant e b = e ≡ constant_edge b

-- as many words of zeros
abbrev pub zeros : Words Edge → Words Bool
zeros [] = []
zeros (w ∷ words) = replicate (length w) false ∷ zeros words

copies : (n : ℕ) → AllZip IsConstant (replicate n (constant_edge false)) (replicate n false)
copies zero = tt
copies (suc n) = (refl, copies n)

all_constant : (words : Words Edge) → AllZip (AllZip IsConstant) (blanked words) (zeros words)
all_constant [] = tt
all_constant (w ∷ words) = (copies (length w), all_constant words)

pub blank_constant : (words : Words Edge) → IsBlank words → AllZip (AllZip IsConstant) words (zeros words)
blank_constant words is = subst (λ ws. AllZip (AllZip IsConstant) ws (zeros words)) (sym is) (all_constant words)

pub zeros_spell : (words : Words Edge) (i : ℕ) → Spells (word_of (zeros words) i) (word_at (sized_as (widths_of words i) false) 0)
zeros_spell [] i = record { width = refl; value = refl }
zeros_spell (w ∷ words) zero = record { width = length-replicate (length w) false; value = number_zeros (length w) }
zeros_spell (w ∷ words) (suc i) = zeros_spell words i
