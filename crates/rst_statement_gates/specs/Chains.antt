-- What a branch leaves whose choice is still to come, and what the arms of a case leave.
use Rattle.std.specs.Prelude.{◌≡◌, ℕ, ◌+◌, ◌≤◌, Bool, false, ◌&&◌, ◌||◌, List, length, nat_eq}
use Rattle.std.specs.List.{All}
use Rattle.rst_gate.specs.declared.edge.Edge.{Edge}
use Rattle.rst_gate.specs.Circuits.{IsBelow}
use Rattle.rst_gate.specs.GateLists.{GateList, next_node}
use Rattle.rst_word_gates.specs.GateAlgebra.{gates_so_far}
use Rattle.rst_lower.specs.WireWords.{widths_of}
use Rattle.rst_net.specs.Statements.{Arms, Default, no_default, default}
use Rattle.rst_cycle.specs.Drivers.{arms_set, default_sets}
use Rattle.rst_statement_terms.specs.Targets.{Words}
use Rattle.rst_statement_terms.specs.Statements.{arm_bits, default_bits}
use Rattle.rst_statement_terms.specs.Weights.{bits_among, arms_weight}
use Rattle.rst_statement_values.specs.Fits.{ArmsFit, blocking_of}
use Rattle.rst_statement_gates.specs.declared.marks.Mark.{Mark}
use Rattle.rst_statement_gates.specs.declared.waiting.Waiting.{Waiting}
use Rattle.rst_statement_gates.specs.Sights.{sight_of, AreWires}
use Rattle.rst_statement_gates.specs.Choices.{words_at, held_words, chosen_behind, AreReady, waiting_bits}

-- the choice has this test and these marks, and keeps the branch's words of the marked signals
pub record Keeps (select : Edge) (bits : List Mark) (branch : Words Edge) (w : Waiting) : Type 0 where
  pub test : w.test ≡ select
  pub marks : w.marks.items ≡ bits
  pub words : held_words w.words.items ≡ words_at bits branch

-- how many bits a case sets, of this many signals
abbrev pub case_bits : ℕ → Arms → Default → ℕ
case_bits count arms otherwise = bits_among (λ i place. arms_set arms i place || default_sets otherwise i place) count

-- Some arms of a case are still to come, behind them the default, and then the choices that wait.
pub record ArmsLeft (clocked : Bool) (held : Words Edge) (selector : List Edge) (full : Bool) (otherwise : Default) (bits : ℕ) (start : GateList) (before : Words Edge) (all : Arms) (gates : GateList) (wires : Words Edge) (left : Arms) (waiting : List Waiting) : Type 0 where
  pub run : arm_bits gates_so_far (sight_of clocked held) selector full start before all otherwise (λ t us. default_bits gates_so_far (sight_of clocked held) t us otherwise)
      ≡ chosen_behind waiting (arm_bits gates_so_far (sight_of clocked held) selector full gates wires left otherwise (λ t us. default_bits gates_so_far (sight_of clocked held) t us otherwise))
  pub are : AreWires (next_node gates) clocked held wires
  pub widths : widths_of wires ≡ widths_of before
  pub count : length wires ≡ length before
  pub fit : ArmsFit (widths_of before) (blocking_of (sight_of clocked held)) (length selector) left
  pub ready : AreReady (next_node gates) (length before) (widths_of before) waiting
  pub stand : All (IsBelow (next_node gates)) selector
  pub enough : case_bits (length before) left otherwise ≤ bits
  pub few : next_node gates + waiting_bits waiting + arms_weight (widths_of before) (length before) (length selector) bits left
      ≤ next_node start + arms_weight (widths_of before) (length before) (length selector) bits all
  pub grows : next_node start ≤ next_node gates

-- whether an arm is taken untested, behind which so many arms stand
abbrev pub no_more : Bool → ℕ → Default → Bool
no_more full left no_default = full && nat_eq left 0
no_more full left (default statement) = false
