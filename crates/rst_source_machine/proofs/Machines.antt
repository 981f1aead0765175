-- Machines that do the same, along words.
use Rattle.std.proofs.Common.{◌≡◌, ◌∙◌, Bool, List, [], ◌∷◌, length, refl, sym, ap, subst}
use Rattle.rst_value.specs.declared.tern.Tern.{Tern}
use Rattle.rst_gate.specs.Machine.{Machine, IsState, IsWord, outs, after, HaveSamePorts, SameAcross, AlignsAcross, NeverAcross}
use Rattle.rst_gate.specs.MachineLaws.{KeepsStates}
use Rattle.rst_gate.specs.Patterns.{IsPattern, PatternSigns}
use Rattle.rst_gate.proofs.PatternFillings.{fillings-words}
use Rattle.rst_source_machine.specs.Alike.{AreAlike}

pub turned : (l r : Machine) → AreAlike l r → AreAlike r l
turned l r a = record {
  registers = sym a.registers;
  inputs = sym a.inputs;
  outputs = sym a.outputs;
  same = λ state input s i. let both = a.same state input (s ∙ sym a.registers) (i ∙ sym a.inputs) in (sym both.0, sym both.1);
}

pub keeps : (l r : Machine) → AreAlike l r → KeepsStates l → KeepsStates r
keeps l r a keep state input s i =
    let s' : length state ≡ l.registers = s ∙ sym a.registers in
    let i' : length input ≡ l.inputs = i ∙ sym a.inputs in
    ap length (sym (a.same state input s' i').1) ∙ (keep state input s' i' ∙ a.registers)

pub word_over : (l r : Machine) → l.inputs ≡ r.inputs → (word : List (List Bool)) → IsWord l word → IsWord r word
word_over l r e [] w = tt
word_over l r e (input ∷ word) w = (w.0 ∙ e, word_over l r e word w.1)

pub same_outs : (l r : Machine) → AreAlike l r → KeepsStates l → (state : List Bool) (word : List (List Bool)) → IsState l state → IsWord l word → outs l state word ≡ outs r state word
same_outs l r a keep state [] s w = refl
same_outs l r a keep state (input ∷ word) s w =
    let both = a.same state input s w.0 in
    let rest : outs l (l.step state input) word ≡ outs r (l.step state input) word = same_outs l r a keep (l.step state input) word (keep state input s w.0) w.1 in
    λ i. both.0 i ∷ (rest ∙ ap (λ next. outs r next word) both.1) i

pub same_after : (l r : Machine) → AreAlike l r → KeepsStates l → (state : List Bool) (word : List (List Bool)) → IsState l state → IsWord l word → after l state word ≡ after r state word
same_after l r a keep state [] s w = refl
same_after l r a keep state (input ∷ word) s w =
    let both = a.same state input s w.0 in
    same_after l r a keep (l.step state input) word (keep state input s w.0) w.1 ∙ ap (λ next. after r next word) both.1

pub state_after : (l : Machine) → KeepsStates l → (state : List Bool) (word : List (List Bool)) → IsState l state → IsWord l word → IsState l (after l state word)
state_after l keep state [] s w = s
state_after l keep state (input ∷ word) s w = state_after l keep (l.step state input) word (keep state input s w.0) w.1

-- of two designs that are compared
module _ (l k r n : Machine) (a : AreAlike l k) (b : AreAlike r n) (ports : HaveSamePorts l r) (keep_l : KeepsStates l) (keep_r : KeepsStates r) where
  pub same_over : (s t : List Bool) → IsState l s → IsState r t → SameAcross l r s t → SameAcross k n s t
  same_over s t is_s is_t same word w =
      let w' : IsWord l word = word_over k l (sym a.inputs) word w in
      sym (same_outs l k a keep_l s word is_s w') ∙ (same word w' ∙ same_outs r n b keep_r t word is_t (word_over l r ports.inputs word w'))

  pub aligns_over : (s t : List Bool) (word : List (List Bool)) → IsState l s → IsState r t → IsWord l word → AlignsAcross l r word s t → AlignsAcross k n word s t
  aligns_over s t word is_s is_t w aligns =
      let w' : IsWord r word = word_over l r ports.inputs word w in
      subst (λ x. SameAcross k n x (after n t word)) (same_after l k a keep_l s word is_s w)
      (subst (λ y. SameAcross k n (after l s word) y) (same_after r n b keep_r t word is_t w')
      (same_over (after l s word) (after r t word) (state_after l keep_l s word is_s w) (state_after r keep_r t word is_t w') aligns))

pub ports_over : (l k r n : Machine) → AreAlike l k → AreAlike r n → HaveSamePorts l r → HaveSamePorts k n
ports_over l k r n a b ports = record {
  inputs = sym a.inputs ∙ (ports.inputs ∙ b.inputs);
  outputs = sym a.outputs ∙ (ports.outputs ∙ b.outputs);
}

pub never_over : (l k r n : Machine) (s t : List Bool) → AreAlike l k → AreAlike r n → HaveSamePorts l r → KeepsStates l → KeepsStates r → IsState l s → IsState r t
    → NeverAcross l r s t → NeverAcross k n s t
never_over l k r n s t a b ports keep_l keep_r is_s is_t never word w aligns =
    never word (word_over k l (sym a.inputs) word w)
    (aligns_over k l n r (turned l k a) (turned r n b) (ports_over l k r n a b ports) (keeps l k a keep_l) (keeps r n b keep_r) s t word (is_s ∙ a.registers) (is_t ∙ b.registers) w aligns)

pub signs_over : (l r : Machine) (pattern : List (List Tern)) → AreAlike l r → KeepsStates l → IsPattern l pattern → PatternSigns l pattern → PatternSigns r pattern
signs_over l r pattern a keep is signs word fills s t is_s is_t =
    let is_s' : IsState l s = is_s ∙ sym a.registers in
    let is_t' : IsState l t = is_t ∙ sym a.registers in
    aligns_over l r l r a a (record { inputs = refl; outputs = refl }) keep keep s t word is_s' is_t' (fillings-words l pattern word is fills) (signs word fills s t is_s' is_t')

pub pattern_over : (l r : Machine) → l.inputs ≡ r.inputs → (pattern : List (List Tern)) → IsPattern l pattern → IsPattern r pattern
pattern_over l r e [] p = tt
pattern_over l r e (places ∷ pattern) p = (p.0 ∙ e, pattern_over l r e pattern p.1)
