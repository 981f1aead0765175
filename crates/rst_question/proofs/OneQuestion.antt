-- Texts ask at most one question, or come to one refusal.
use Rattle.std.proofs.Common.{◌≡◌, ◌∙◌, ℕ, List, Option, Some, None, Result, Ok, Err, refl, sym, ap}
use Rattle.rst_outside.specs.declared.names.PortBits.{PortBits}
use Rattle.rst_tree.specs.Trees.{Text}
use Rattle.rst_script.specs.Scripts.{PlainScript}
use Rattle.rst_reject.specs.declared.reject.Reject.{Reject}
use Rattle.rst_reject.specs.Steps.{HasOneAnswer}
use Rattle.rst_reject.proofs.Steps.{one_answer}
use Rattle.rst_causes.specs.Causes.{script_reject}
use Rattle.rst_design.specs.Answers.{DesignGives}
use Rattle.rst_question.specs.declared.question.Places.{Places}
use Rattle.rst_question.specs.Questions.{ScriptGives, PlacedDesign, FitGives, QuestionGives, placed, input_ports}

one_script : (place : ℕ) (text : Text) → HasOneAnswer (ScriptGives place text)
one_script place text (Ok a) (Ok b) x y = let oks = sym x ∙ y in cc
one_script place text (Ok a) (Err s) x (g, y, q) = cc
one_script place text (Err r) (Ok b) (f, x, p) y = cc
one_script place text (Err r) (Err s) (f, x, p) (g, y, q) =
    let same : f ≡ g = let errors = sym x ∙ y in cc in
    let somes : Some r ≡ Some s = sym p ∙ (ap (script_reject place) same ∙ q) in
    cc

one_fit : (place : ℕ) (ports : List PortBits) (script : PlainScript) → HasOneAnswer (FitGives place ports script)
one_fit place ports script (Ok a) (Ok b) x y = let oks = sym x ∙ y in cc
one_fit place ports script (Ok a) (Err s) x (g, y, q) = cc
one_fit place ports script (Err r) (Ok b) (f, x, p) y = cc
one_fit place ports script (Err r) (Err s) (f, x, p) (g, y, q) =
    let same : f ≡ g = let errors = sym x ∙ y in cc in
    let somes : Some r ≡ Some s = sym p ∙ (ap (script_reject place) same ∙ q) in
    cc

module _ (one : (texts : List Text) (top : Text) (clock : Option Text) → HasOneAnswer (DesignGives texts top clock)) where
  one_placed : (first : ℕ) (texts : List Text) (top : Text) (clock : Option Text) → HasOneAnswer (PlacedDesign first texts top clock)
  one_placed first texts top clock (Ok a) (Ok b) x y = one texts top clock (Ok a) (Ok b) x y
  one_placed first texts top clock (Ok a) (Err s) x (t, y, q) = let no = one texts top clock (Ok a) (Err t) x y in cc
  one_placed first texts top clock (Err r) (Ok b) (t, x, p) y = let no = one texts top clock (Err t) (Ok b) x y in cc
  one_placed first texts top clock (Err r) (Err s) (t, x, p) (u, y, q) =
      let same : t ≡ u = let errors = one texts top clock (Err t) (Err u) x y in cc in
      ap Err (p ∙ (ap (placed first) same ∙ sym q))

  pub one_question : (places : Places) (top script : Text) (sources : List Text) → HasOneAnswer (QuestionGives places top script sources)
  one_question places top script sources =
      one_answer (one_script places.script script) (λ said.
      one_answer (one_placed places.sources sources top said.clock) (λ ordered.
      one_answer (one_fit places.script (input_ports ordered.flat) said) (λ pattern p q x y. x ∙ sym y)))
