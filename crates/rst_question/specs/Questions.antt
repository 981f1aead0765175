-- What a script asks of a design, read from the texts step by step: the script, the design under the script's clock, the inputs that the
-- script gives the design. The first step that refuses is the refusal.
use Rattle.std.specs.Prelude.{◌≡◌, ℕ, ◌+◌, List, map, Option, Some, None, Result, Ok, Err}
use Rattle.std.specs.Option.{option_map}
use Rattle.rst_outside.specs.declared.names.PortBits.{PortBits}
use Rattle.rst_value.specs.declared.tern.Tern.{Tern}
use Rattle.rst_tree.specs.Trees.{Text}
use Rattle.rst_net.specs.declared.signal.Role.TheVariants as role
use Rattle.rst_net.specs.Units.{PlainFlat}
use Rattle.rst_flow.specs.Edges.{picks}
use Rattle.rst_script.specs.declared.script.ScriptFault.{ScriptFault}
use Rattle.rst_script.specs.Scripts.{PlainScript, plain_script, script_of}
use Rattle.rst_script.specs.Fitting.{fit_of}
use Rattle.rst_reject.specs.declared.reject.Reject.{Reject}
use Rattle.rst_reject.specs.Steps.{Then}
use Rattle.rst_causes.specs.Causes.{script_reject}
use Rattle.rst_design.specs.Answers.{Ordered, DesignGives}
use Rattle.rst_design.specs.Netlists.{IsNetlistOf, plain_net}
use Rattle.rst_ports.specs.Ports.{ports_with}
use Rattle.rst_question.specs.declared.question.Places.{Places}
use Rattle.rst_question.specs.declared.question.Question as read

-- a script, the flat design with an order of its units, and the inputs that the script gives it: cycle by cycle a place for each input
-- bit, X where it is free
pub record Question : Type 0 where
  pub script : PlainScript
  pub flat : PlainFlat
  pub order : List ℕ
  pub pattern : List (List Tern)

-- the flat design with its units in this order
abbrev pub netlist_of : PlainFlat → List ℕ → PlainFlat
netlist_of flat order = record flat { units = picks flat.units order }

abbrev pub netlist : Question → PlainFlat
netlist q = netlist_of q.flat q.order

-- the script that a text says, or the refusal of its first line at fault; its word stands at this place
abbrev pub ScriptGives : ℕ → Text → Result PlainScript Reject → Type 0
ScriptGives place text (Ok script) = script_of text ≡ Ok script
ScriptGives place text (Err r) = (fault : ScriptFault) × (script_of text ≡ Err fault) × (script_reject place fault ≡ Some r)

-- a refusal with the place of its file's word, where the first file's word stands at this place
abbrev pub placed : ℕ → Reject → Reject
placed first r = record r { file = option_map (λ (k : ℕ). first + k) r.file }

-- what the sources come to below a top; the first one's word stands at this place
abbrev pub PlacedDesign : ℕ → List Text → Text → Option Text → Result Ordered Reject → Type 0
PlacedDesign first texts top clock (Ok ordered) = DesignGives texts top clock (Ok ordered)
PlacedDesign first texts top clock (Err r) = (s : Reject) × DesignGives texts top clock (Err s) × (r ≡ placed first s)

-- the pattern that a script gives a design with these inputs, or the refusal of the script's first step at fault
abbrev pub FitGives : ℕ → List PortBits → PlainScript → Result (List (List Tern)) Reject → Type 0
FitGives place ports script (Ok pattern) = fit_of ports script.steps ≡ Ok pattern
FitGives place ports script (Err r) = (fault : ScriptFault) × (fit_of ports script.steps ≡ Err fault) × (script_reject place fault ≡ Some r)

-- the inputs without the clock
abbrev pub input_ports : PlainFlat → List PortBits
input_ports flat = ports_with role.Input flat.signals

abbrev pub question_of : PlainScript → Ordered → List (List Tern) → Question
question_of script ordered pattern = record { script = script; flat = ordered.flat; order = ordered.order; pattern = pattern }

-- The question that the texts ask below a top, or their first refusal.
abbrev pub QuestionGives : Places → Text → Text → List Text → Result Question Reject → Type 0
QuestionGives places top script sources =
    Then (ScriptGives places.script script) (λ said.
    Then (PlacedDesign places.sources sources top said.clock) (λ ordered.
    Then (FitGives places.script (input_ports ordered.flat) said) (λ pattern answer. answer ≡ Ok (question_of said ordered pattern))))

-- a question of the code has these parts
pub record Stands (question : Question) (q : read.Question) : Type 0 where
  pub script : plain_script q.script ≡ question.script
  pub pattern : q.pattern ≡ question.pattern
  pub net : plain_net q.net ≡ netlist question

-- a question of the code is the one that the texts ask
pub record IsRead (places : Places) (top script : Text) (sources : List Text) (q : read.Question) : Type 0 where
  pub question : Question
  pub asked : QuestionGives places top script sources (Ok question)
  pub stands : Stands question q
