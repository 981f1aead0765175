-- What a question is answered: the verdict on its pattern with the report and the certificate, or the rows of known registers.
use Rattle.std.specs.Prelude.{◌≡◌, ◌≤◌, ℕ, Bool, List, ◌++◌, length, codes, replicate, if◌then◌else◌, None, Some}
use Rattle.std.specs.List.{AllByRecursion}
use Rattle.rst_outside.specs.declared.names.PortBits.{PortBits}
use Rattle.rst_value.specs.declared.tern.Tern.{Tern}
use Rattle.rst_value.specs.declared.tern.Tern.TheVariants.{Unknown}
use Rattle.rst_gate.specs.Circuits.{IsInOrder, first_gate}
use Rattle.rst_gate.specs.Patterns.{free_bits}
use Rattle.rst_gate.specs.TernMachine.{KnowsPattern}
use Rattle.rst_sim.specs.Trails.{pattern_trail}
use Rattle.rst_text.specs.Lines.{line, counted}
use Rattle.rst_verdict.specs.declared.verdict.Verdict.{Verdict}
use Rattle.rst_verdict.specs.declared.cert.Cert.{Cert}
use Rattle.rst_certificate.specs.CertText.{cert_text}
use Rattle.rst_relation.specs.Verdicts.{Decides}
use Rattle.rst_report.specs.declared.head.Head.{Head}
use Rattle.rst_report.specs.Heads.{width_sum}
use Rattle.rst_report.specs.Reports.{report_text}
use Rattle.rst_report.specs.Rows.{known_rows}
use Rattle.rst_report_json.specs.JsonReports.{report_json}
use Rattle.rst_net.specs.declared.signal.Role.TheVariants as role
use Rattle.rst_net.specs.Units.{PlainFlat}
use Rattle.rst_script.specs.Scripts.{PlainScript}
use Rattle.rst_design_terms.specs.Gates.{gates_of, input_bits, state_bits}
use Rattle.rst_known.specs.Readings.{design_terns}
use Rattle.rst_ports.specs.Ports.{ports_with, output_ports}
use Rattle.rst_answer.specs.declared.answer.Answer.TheVariants as answer
use Rattle.rst_answer.specs.Answers.{Due}
use Rattle.rst_design.specs.Netlists.{plain_net}
use Rattle.rst_settled.specs.Orderly.{IsOrderly}
use Rattle.rst_net_gates.specs.Netlists.{IsLowerable}
use Rattle.rst_question.specs.declared.question.Question as read
use Rattle.rst_question.specs.Questions.{Question, netlist, input_ports}

-- WHAT IS KNOWN

-- no register is known at power-up
abbrev pub power_up : PlainFlat → List Tern
power_up flat = replicate (state_bits flat) Unknown

-- the three-valued registers at power-up and behind each cycle, with X at each free bit
abbrev pub known_trail : Question → List (List Tern)
known_trail q = pattern_trail (design_terns (netlist q)) (power_up (netlist q)) q.pattern

-- three-valued simulation of the design knows every register behind the pattern
abbrev pub Knows : Question → Type 0
Knows q = KnowsPattern (design_terns (netlist q)) q.pattern

-- TEXTS

-- what a report says of the design itself: TOP, and the ports and registers with their widths
abbrev pub head_for : List ℕ → ℕ → List PortBits → PlainFlat → Head
head_for top budget inputs flat = record {
  top = top;
  inputs = inputs;
  outputs = output_ports flat.signals flat.outputs;
  registers = ports_with role.Register flat.signals;
  budget = budget;
}

abbrev pub report_for : Bool → Head → Verdict → List ℕ
report_for json head verdict = if json then report_json head verdict else report_text head verdict

-- the certificate: the script's version, the form, the script's clock, the numbers of the design's bits, the verdict
abbrev pub cert_for : PlainScript → Head → Verdict → Cert
cert_for script head verdict = record {
  version = script.version;
  form = 2;
  clock = script.clock;
  registers = width_sum head.registers;
  inputs = width_sum head.inputs;
  outputs = width_sum head.outputs;
  verdict = verdict;
}

-- THE DECISION

-- the verdict is one that may be answered of the question: of the pattern and the gates of its design, within its script's budget
abbrev pub IsVerdictOf : Question → Verdict → Type 0
IsVerdictOf q verdict = Decides (Knows q) (gates_of (netlist q)) q.pattern q.script.budget verdict

-- WHAT IS DUE

-- the report, and the certificate to save
abbrev pub check_due_for : List ℕ → PlainScript → PlainFlat → Verdict → Due
check_due_for top script flat verdict =
    let head = head_for top script.budget (input_ports flat) flat in
    record {
      answer = answer.Decided verdict;
      text = report_for script.json head verdict;
      cert = Some (cert_text (cert_for script head verdict));
    }

abbrev pub check_due : List ℕ → Question → Verdict → Due
check_due top q verdict = check_due_for top q.script q.flat verdict

-- a demonstration with so many stages: a line with their number, and the report
abbrev pub demo_due_for : ℕ → PlainScript → PlainFlat → Verdict → Due
demo_due_for stages script flat verdict = record {
  answer = answer.Decided verdict;
  text = line (counted (codes "demo") stages) ++ report_for script.json (head_for (codes "demo") script.budget (input_ports flat) flat) verdict;
  cert = None;
}

abbrev pub demo_due : ℕ → Question → Verdict → Due
demo_due stages q verdict = demo_due_for stages q.script q.flat verdict

-- the rows of known registers
abbrev pub shown_due : Question → Due
shown_due q = record {
  answer = answer.Shown;
  text = known_rows (ports_with role.Register q.flat.signals) (known_trail q);
  cert = None;
}

-- WORDS OF THE CONTRACTS

-- a question that can be replied to: its netlist has gates, its pattern fits the inputs within the limits, and version 1 has no free bit
pub record IsSound (q : read.Question) : Type 0 where
  pub lowerable : IsLowerable (plain_net q.net)
  pub orderly : IsOrderly (plain_net q.net)
  pub places : AllByRecursion (λ (places : List Tern). length places ≡ input_bits (plain_net q.net)) q.pattern
  pub cycles : length q.pattern ≤ 128
  pub budget : q.script.budget ≤ 100000
  pub version : q.script.version ≡ 1 → free_bits q.pattern ≡ 0

-- each gate of the design reads earlier nodes only
abbrev pub HasOrderedGates : PlainFlat → Type 0
HasOrderedGates flat = IsInOrder (first_gate (gates_of flat)) (gates_of flat).gates

-- what is due behind the decision
abbrev pub CheckGives : List ℕ → Question → Due → Type 0
CheckGives top q due = (verdict : Verdict) × IsVerdictOf q verdict × (due ≡ check_due top q verdict)

abbrev pub DemoGives : ℕ → Question → Due → Type 0
DemoGives stages q due = (verdict : Verdict) × IsVerdictOf q verdict × (due ≡ demo_due stages q verdict)
