-- A question from its parts.
use Rattle.std.proofs.Common.{◌≡◌, ◌∙◌, ℕ, List, Option, Some, None, Result, Ok, Err, refl, sym, ap, subst}
use Rattle.rst_outside.specs.declared.names.PortBits.{PortBits}
use Rattle.rst_value.specs.declared.tern.Tern.{Tern}
use Rattle.rst_tree.specs.Trees.{Text}
use Rattle.rst_net.specs.declared.signal.Role.TheVariants as role
use Rattle.rst_flow.specs.declared.net.Net.{Net}
use Rattle.rst_script.specs.Scripts.{PlainScript, plain_script}
use Rattle.rst_reject.specs.declared.reject.Reject.{Reject}
use Rattle.rst_reject.specs.declared.stop.Stop.{Stop}
use Rattle.rst_reject.specs.declared.stop.Stop.TheVariants as stop
use Rattle.rst_reject.specs.Steps.{Then, refused, goes_on, StopsBy}
use Rattle.rst_design.specs.Netlists.{IsNetlistOf, plain_net}
use Rattle.rst_design.specs.Answers.{Ordered, with_order}
use Rattle.rst_design.proofs.Gives.{netlist_gives, netlist_parts}
use Rattle.rst_ports.specs.Ports.{ports_with}
use Rattle.rst_question.specs.declared.question.Places.{Places}
use Rattle.rst_question.specs.declared.question.Question as read
use Rattle.rst_question.specs.Questions.{Question, ScriptGives, PlacedDesign, FitGives, QuestionGives, input_ports, question_of, IsRead}

-- what the code read is the question that the texts ask
pub read_of : (places : Places) (top script : Text) (sources : List Text) (q : read.Question) (ports : List PortBits)
    → ScriptGives places.script script (Ok (plain_script q.script)) → IsNetlistOf sources top (plain_script q.script).clock q.net
    → ports ≡ ports_with role.Input (plain_net q.net).signals → FitGives places.script ports (plain_script q.script) (Ok q.pattern)
    → IsRead places top script sources q
read_of places top script sources q ports said n inputs fits =
    let ordered : Ordered = with_order n.flat n.made.order in
    let parts = netlist_parts sources top (plain_script q.script).clock q.net n in
    let same : ports ≡ input_ports n.flat = inputs ∙ ap (ports_with role.Input) n.made.signals in
    let fitted : FitGives places.script (input_ports n.flat) (plain_script q.script) (Ok q.pattern) =
    subst (λ (p : List PortBits). FitGives places.script p (plain_script q.script) (Ok q.pattern)) same fits in
    record {
      question = question_of (plain_script q.script) ordered q.pattern;
      asked = goes_on (plain_script q.script) said (goes_on ordered (netlist_gives sources top (plain_script q.script).clock q.net n) (goes_on q.pattern fitted refl));
      stands = record { script = refl; pattern = refl; net = parts };
    }

-- a step that stops stops the chain
module _ {A B : Type 0} (First : Result A Reject → Type 0) (Rest : A → Result B Reject → Type 0) where
  stops_first : (stop : Stop) → StopsBy First stop → StopsBy (Then First Rest) stop
  stops_first (stop.Rejected r) f = refused r f refl
  stops_first stop.NoMemory f = tt

  stops_rest : (a : A) (stop : Stop) → First (Ok a) → StopsBy (Rest a) stop → StopsBy (Then First Rest) stop
  stops_rest a (stop.Rejected r) f x = goes_on a f x
  stops_rest a stop.NoMemory f x = tt

module _ (places : Places) (top script : Text) (sources : List Text) where
  abbrev Fitted : PlainScript → Ordered → Result Question Reject → Type 0
  Fitted said ordered = Then (FitGives places.script (input_ports ordered.flat) said) (λ pattern answer. answer ≡ Ok (question_of said ordered pattern))

  abbrev Designed : PlainScript → Result Question Reject → Type 0
  Designed said = Then (PlacedDesign places.sources sources top said.clock) (Fitted said)

  pub script_stops : (stop : Stop) → StopsBy (ScriptGives places.script script) stop → StopsBy (QuestionGives places top script sources) stop
  script_stops stop f = stops_first (ScriptGives places.script script) (Designed) stop f

  pub design_stops : (said : PlainScript) (stop : Stop) → ScriptGives places.script script (Ok said) → StopsBy (PlacedDesign places.sources sources top said.clock) stop
      → StopsBy (QuestionGives places top script sources) stop
  design_stops said stop s f =
      stops_rest (ScriptGives places.script script) (Designed) said stop s (stops_first (PlacedDesign places.sources sources top said.clock) (Fitted said) stop f)

  pub fit_stops : (said : PlainScript) (net : Net) (ports : List PortBits) (stop : Stop) → ScriptGives places.script script (Ok said)
      → IsNetlistOf sources top said.clock net → ports ≡ ports_with role.Input (plain_net net).signals → StopsBy (FitGives places.script ports said) stop
      → StopsBy (QuestionGives places top script sources) stop
  fit_stops said net ports stop s n inputs f =
      let ordered : Ordered = with_order n.flat n.made.order in
      let same : ports ≡ input_ports n.flat = inputs ∙ ap (ports_with role.Input) n.made.signals in
      let g : StopsBy (FitGives places.script (input_ports n.flat) said) stop = subst (λ (p : List PortBits). StopsBy (FitGives places.script p said) stop) same f in
      stops_rest (ScriptGives places.script script) (Designed) said stop s
      (stops_rest (PlacedDesign places.sources sources top said.clock) (Fitted said) ordered stop (netlist_gives sources top said.clock net n)
      (stops_first (FitGives places.script (input_ports ordered.flat) said) (λ pattern answer. answer ≡ Ok (question_of said ordered pattern)) stop g))
