-- What is due of a question, from what is due of its parts.
use Rattle.std.proofs.Common.{◌≡◌, ◌∙◌, ℕ, List, Result, Ok, Err, refl, sym, ap, subst}
use Rattle.std.specs.Prelude.{IfOk}
use Rattle.rst_outside.specs.declared.names.NoMemory.{NoMemory}
use Rattle.rst_value.specs.declared.tern.Tern.{Tern}
use Rattle.rst_gate.specs.Circuits.{Circuit}
use Rattle.rst_gate.specs.Patterns.{free_bits}
use Rattle.rst_gate.specs.TernMachine.{KnowsPattern}
use Rattle.rst_verdict.specs.declared.verdict.Verdict.{Verdict}
use Rattle.rst_verdict.specs.declared.verdict.Verdict.TheVariants.{SignedKnown, SignedRelation, Refuted, Never, Alignable, Unknown}
use Rattle.rst_certificate.specs.CertText.{free_bits_of}
use Rattle.rst_relation.specs.Verdicts.{Decides}
use Rattle.rst_net.specs.Units.{PlainFlat}
use Rattle.rst_script.specs.Scripts.{PlainScript, plain_script}
use Rattle.rst_design_terms.specs.Gates.{gates_of}
use Rattle.rst_known.specs.Readings.{design_terns}
use Rattle.rst_design.specs.Netlists.{plain_net}
use Rattle.rst_answer.specs.declared.ready.Ready.{Ready}
use Rattle.rst_answer.specs.Answers.{Due, plain_due}
use Rattle.rst_question.specs.declared.question.Question as read
use Rattle.rst_question.specs.Questions.{Question, Stands, netlist}
use Rattle.rst_replies.specs.Replies.{IsVerdictOf, check_due_for, demo_due_for, check_due, demo_due, CheckGives, DemoGives}

-- the flat design and its netlist have the same ports, so the texts are the same
check_same : (top : List ℕ) (q : Question) (verdict : Verdict) → check_due_for top q.script (netlist q) verdict ≡ check_due_for top q.script q.flat verdict
check_same top q verdict = refl

demo_same : (stages : ℕ) (q : Question) (verdict : Verdict) → demo_due_for stages q.script (netlist q) verdict ≡ demo_due_for stages q.script q.flat verdict
demo_same stages q verdict = refl

-- what may be answered of a design, a pattern and a budget
abbrev DecidesFor : PlainFlat → List (List Tern) → ℕ → Verdict → Type 0
DecidesFor flat pattern budget verdict = Decides (KnowsPattern (design_terns flat) pattern) (gates_of flat) pattern budget verdict

-- what may be answered of the code's question may be answered of the one that it stands for
pub verdict_of : (q : read.Question) (r : Question) (verdict : Verdict) → Stands r q → DecidesFor (plain_net q.net) q.pattern q.script.budget verdict → IsVerdictOf r verdict
verdict_of q r verdict stands decides =
    subst (λ (flat : PlainFlat). DecidesFor flat r.pattern r.script.budget verdict) stands.net
    (subst (λ (pattern : List (List Tern)). DecidesFor (plain_net q.net) pattern r.script.budget verdict) stands.pattern
    (subst (λ (script : PlainScript). DecidesFor (plain_net q.net) q.pattern script.budget verdict) stands.script decides))

-- a verdict has the free bits of the pattern, or none
pub version_fits : (K : Type 0) (c : Circuit) (pattern : List (List Tern)) (budget : ℕ) (verdict : Verdict) → Decides K c pattern budget verdict → free_bits pattern ≡ 0 → free_bits_of verdict ≡ 0
version_fits K c pattern budget (SignedKnown seq) (known, is) none = ap free_bits is ∙ none
version_fits K c pattern budget (SignedRelation seq equal blocked split land) (never, some, is, evidence) none = ap free_bits is ∙ none
version_fits K c pattern budget (Refuted seq a b word) decides none = refl
version_fits K c pattern budget (Never a b blocked freed escape) decides none = refl
version_fits K c pattern budget (Alignable seq a b word blocked freed split stuck) decides none = refl
version_fits K c pattern budget (Unknown equal journal) decides none = refl

pub check_ok : (top : List ℕ) (q : read.Question) (verdict : Verdict) (result : Result Ready NoMemory) → DecidesFor (plain_net q.net) q.pattern q.script.budget verdict
    → IfOk result (λ ready. plain_due ready ≡ check_due_for top (plain_script q.script) (plain_net q.net) verdict)
    → IfOk result (λ ready. (r : Question) → Stands r q → CheckGives top r (plain_due ready))
check_ok top q verdict (Ok ready) decides is = λ r stands. (
  verdict,
  verdict_of q r verdict stands decides,
  is
      ∙ (ap (λ (s : PlainScript). check_due_for top s (plain_net q.net) verdict) stands.script
      ∙ (ap (λ (f : PlainFlat). check_due_for top r.script f verdict) stands.net
      ∙ check_same top r verdict)),
)
check_ok top q verdict (Err e) decides is = tt

pub demo_ok : (stages : ℕ) (q : read.Question) (verdict : Verdict) (result : Result Ready NoMemory) → DecidesFor (plain_net q.net) q.pattern q.script.budget verdict
    → IfOk result (λ ready. plain_due ready ≡ demo_due_for stages (plain_script q.script) (plain_net q.net) verdict)
    → IfOk result (λ ready. (r : Question) → Stands r q → DemoGives stages r (plain_due ready))
demo_ok stages q verdict (Ok ready) decides is = λ r stands. (
  verdict,
  verdict_of q r verdict stands decides,
  is
      ∙ (ap (λ (s : PlainScript). demo_due_for stages s (plain_net q.net) verdict) stands.script
      ∙ (ap (λ (f : PlainFlat). demo_due_for stages r.script f verdict) stands.net
      ∙ demo_same stages r verdict)),
)
demo_ok stages q verdict (Err e) decides is = tt
