-- A question that texts ask is one of an accepted design, and can be replied to.
use Rattle.std.proofs.Common.{◌≡◌, ◌≤◌, ◌∙◌, ℕ, ◌+◌, List, [], ◌∷◌, length, Option, Some, None, Result, Ok, Err, refl, sym, ap, subst, arith}
use Rattle.std.specs.List.{AllByRecursion}
use Rattle.std.proofs.lemmas.List.Sums.{sum_by-cons}
use Rattle.rst_outside.specs.declared.names.PortBits.{PortBits}
use Rattle.rst_value.specs.declared.tern.Tern.{Tern}
use Rattle.rst_gate.specs.Patterns.{free_bits}
use Rattle.rst_tree.specs.Trees.{Text}
use Rattle.rst_tree.specs.Modules.{PlainModule}
use Rattle.rst_net.specs.declared.signal.Role.TheVariants as role
use Rattle.rst_net.specs.Units.{PlainFlat}
use Rattle.rst_cycle.specs.Signals.{width_of, with_role}
use Rattle.rst_cycle.specs.Cycle.{bit_count}
use Rattle.rst_flow.specs.Flows.{Passes}
use Rattle.rst_accepted.specs.Elaborated.{IsElaborated}
use Rattle.rst_settled.specs.Orderly.{IsOrderly}
use Rattle.rst_agreement.specs.Fits.{DesignFits}
use Rattle.rst_script.specs.Scripts.{PlainScript, script_of, plain_script}
use Rattle.rst_script.specs.Fitting.{fit_of}
use Rattle.rst_script.specs.Limits.{bits_of, cycles_of, IsFit}
use Rattle.rst_script.proofs.PatternFacts.{fits}
use Rattle.rst_script.proofs.ScriptFacts.{keeps_limits}
use Rattle.rst_reject.specs.declared.reject.Reject.{Reject}
use Rattle.rst_reject.specs.Steps.{Then}
use Rattle.rst_design.specs.Texts.{TextsGive}
use Rattle.rst_design.specs.Netlists.{plain_net}
use Rattle.rst_design.specs.Answers.{Ordered, ElaborationGives, FlowGives, DesignGives, with_order}
use Rattle.rst_design_terms.specs.Gates.{input_bits}
use Rattle.rst_net_gates.specs.Netlists.{IsLowerable}
use Rattle.rst_ports.specs.Ports.{port_of, ports_with}
use Rattle.rst_report.specs.Heads.{width_sum}
use Rattle.rst_question.specs.declared.question.Places.{Places}
use Rattle.rst_question.specs.declared.question.Question as read
use Rattle.rst_question.specs.Questions.{Question, ScriptGives, PlacedDesign, FitGives, QuestionGives, input_ports, question_of, netlist, netlist_of, Stands, IsRead}
use Rattle.rst_question.proofs.Thens.{value_of}
use Rattle.rst_replies.specs.Replies.{IsSound}
use Rattle.rst_replies.proofs.Widths.{widths_are}
use Rattle.rst_versions.proofs.Versions.{none_free}
use Rattle.rst_due.specs.Asked.{IsAccepted}

-- what a design came to
design_parts : (texts : List Text) (top : Text) (clock : Option Text) (o : Ordered) → DesignGives texts top clock (Ok o) → IsElaborated o.flat × Passes o.flat o.order
design_parts texts top clock o gives =
    let Flowed : PlainFlat → Result Ordered Reject → Type 0 = λ flat. Then (FlowGives flat) (λ order answer. answer ≡ Ok (with_order flat order)) in
    let Elaborated : List PlainModule → Result Ordered Reject → Type 0 = λ modules. Then (ElaborationGives modules top clock) Flowed in
    let a = value_of {First = TextsGive 0 texts} {Rest = Elaborated} o gives in
    let b = value_of {First = ElaborationGives a.0 top clock} {Rest = Flowed} o a.2 in
    let c = value_of {First = FlowGives b.0} {Rest = λ order answer. answer ≡ Ok (with_order b.0 order)} o b.2 in
    let same : with_order b.0 c.0 ≡ o = let oks = c.2 in cc in
    let P : Ordered → Type 0 = λ z. IsElaborated z.flat × Passes z.flat z.order in
    subst P same (record { modules = a.0; top = top; clock = clock; none = b.1.0; is = b.1.1 }, c.1)

pub accepted : (places : Places) (top script : Text) (sources : List Text) (q : Question) → QuestionGives places top script sources (Ok q) → IsAccepted script q
accepted places top script sources q gives =
    let Fitted : PlainScript → Ordered → Result Question Reject → Type 0 = λ said ordered. Then (FitGives places.script (input_ports ordered.flat) said) (λ pattern answer. answer ≡ Ok (question_of said ordered pattern)) in
    let Designed : PlainScript → Result Question Reject → Type 0 = λ said. Then (PlacedDesign places.sources sources top said.clock) (Fitted said) in
    let a = value_of {First = ScriptGives places.script script} {Rest = Designed} q gives in
    let b = value_of {First = PlacedDesign places.sources sources top a.0.clock} {Rest = Fitted a.0} q a.2 in
    let c = value_of {First = FitGives places.script (input_ports b.0.flat) a.0} {Rest = λ pattern answer. answer ≡ Ok (question_of a.0 b.0 pattern)} q b.2 in
    let same : question_of a.0 b.0 c.0 ≡ q = let oks = c.2 in cc in
    let d = design_parts sources top a.0.clock b.0 b.1 in
    subst (IsAccepted script) same (record { said = a.1; elaborated = d.0; passes = d.1; fits = c.1 })

-- the inputs have as many bits as the pattern has places
bits_are : (ports : List PortBits) → bits_of ports ≡ width_sum ports
bits_are [] = refl
bits_are (port ∷ ports) = sum_by-cons (λ (p : PortBits). p.width) port ports ∙ ap (λ (n : ℕ). port.width + n) (bits_are ports)

pub places_are : (script : Text) (q : Question) → IsAccepted script q → AllByRecursion (λ (places : List Tern). length places ≡ input_bits q.flat) q.pattern
places_are script q a =
    let shape : IsFit (input_ports q.flat) q.script.steps q.pattern = fits (input_ports q.flat) q.script.steps q.pattern a.fits in
    let same : bits_of (input_ports q.flat) ≡ input_bits q.flat = bits_are (input_ports q.flat) ∙ widths_are role.Input q.flat.signals in
    let P : ℕ → Type 0 = λ n. AllByRecursion (λ (places : List Tern). length places ≡ n) q.pattern in
    subst P same shape.places

-- it has at most 128 clock cycles
pub cycles_few : (script : Text) (q : Question) → IsAccepted script q → length q.pattern ≤ 128
cycles_few script q a =
    let shape : IsFit (input_ports q.flat) q.script.steps q.pattern = fits (input_ports q.flat) q.script.steps q.pattern a.fits in
    let few : cycles_of q.script.steps ≤ 128 = (keeps_limits script q.script a.said).cycles in
    omega (arith, shape.cycles, few)

module _ (orderly : (flat : PlainFlat) (order : List ℕ) → IsElaborated flat → Passes flat order → IsOrderly (netlist_of flat order)) (fit : (flat : PlainFlat) (order : List ℕ) → IsElaborated flat → Passes flat order → DesignFits (netlist_of flat order)) (narrow : (flat : PlainFlat) (order : List ℕ) → IsElaborated flat → (i : ℕ) → width_of (netlist_of flat order).signals i ≤ 64) where
  pub sound : (places : Places) (top script : Text) (sources : List Text) (q : read.Question) → IsRead places top script sources q → IsSound q
  sound places top script sources q r =
      let a : IsAccepted script r.question = accepted places top script sources r.question r.asked in
      let lowerable : IsLowerable (netlist r.question) = record { fits = fit r.question.flat r.question.order a.elaborated a.passes; widths = narrow r.question.flat r.question.order a.elaborated } in
      let L : PlainFlat → Type 0 = λ flat. IsLowerable flat in
      let W : PlainFlat → Type 0 = λ flat. AllByRecursion (λ (places : List Tern). length places ≡ input_bits flat) r.question.pattern in
      let N : List (List Tern) → Type 0 = λ pattern. AllByRecursion (λ (places : List Tern). length places ≡ input_bits (plain_net q.net)) pattern in
      record {
        lowerable = subst L (sym r.stands.net) lowerable;
        orderly = subst IsOrderly (sym r.stands.net) (orderly r.question.flat r.question.order a.elaborated a.passes);
        places = subst N (sym r.stands.pattern) (subst W (sym r.stands.net) (places_are script r.question a));
        cycles = subst (λ (pattern : List (List Tern)). length pattern ≤ 128) (sym r.stands.pattern) (cycles_few script r.question a);
        budget = subst (λ (said : PlainScript). said.budget ≤ 100000) (sym r.stands.script) (keeps_limits script r.question.script a.said).budget;
        version = λ one.
            ap free_bits r.stands.pattern
            ∙ none_free script r.question.script (input_ports r.question.flat) r.question.pattern a.said (sym (ap (λ (s : PlainScript). s.version) r.stands.script) ∙ one) a.fits;
      }
