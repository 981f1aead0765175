-- What stands behind the last branch of an `if` and of a case.
use Rattle.std.proofs.Common.{◌≡◌, ◌∙◌, ℕ, ◌+◌, ◌≤◌, Bool, true, false, not, ◌||◌, List, [], length, refl, sym, ap, subst, arith, Result, Ok, Err}
use Rattle.std.specs.Prelude.{OnOk}
use Rattle.rst_gate.specs.declared.edge.Edge.{Edge}
use Rattle.rst_gate.specs.GateLists.{GateList, next_node}
use Rattle.rst_width.specs.Typed.{Typed, shape_of}
use Rattle.rst_typed_terms.specs.Weights.{expression_weight}
use Rattle.rst_word_gates.specs.GateAlgebra.{gates_so_far}
use Rattle.rst_lower.specs.WireWords.{widths_of, WiresStand}
use Rattle.rst_net.specs.Statements.{Statement, Arms, Default, If, no_arm}
use Rattle.rst_cycle.specs.Drivers.{sets, default_sets}
use Rattle.rst_statement_terms.specs.Targets.{Words}
use Rattle.rst_statement_terms.specs.Statements.{statement_bits, default_bits}
use Rattle.rst_statement_terms.specs.Weights.{bits_among, statement_weight, default_weight, arms_weight}
use Rattle.rst_statement_values.specs.Fits.{StatementFits, DefaultFits, blocking_of}
use Rattle.rst_statement_gates.specs.declared.marks.Mark.{Mark}
use Rattle.rst_statement_gates.specs.declared.waiting.Waiting.{Waiting}
use Rattle.rst_statement_gates.specs.Sights.{sight_of, AreWires}
use Rattle.rst_statement_gates.specs.Marks.{mark_statement}
use Rattle.rst_statement_gates.specs.Choices.{marked_bits, IsReady, AreReady, waiting_bits}
use Rattle.rst_statement_gates.specs.Chains.{Keeps, ArmsLeft}
use Rattle.rst_statement_gates.proofs.Tables.{default_leaves}
use Rattle.rst_statement_gates.proofs.Merging.{ready_later, all_ready_later}
use Rattle.rst_statement_gates.proofs.Branching.{has_widths, same_widths, widths_after, count_after, few_marked}

pub small_after : (ws vs : Words Edge) → widths_of vs ≡ widths_of ws → ((i : ℕ) → widths_of ws i ≤ 64) → (i : ℕ) → widths_of vs i ≤ 64
small_after ws vs same h = subst (λ (f : ℕ → ℕ). (i : ℕ) → f i ≤ 64) (sym same) h

-- the choice of an `if` behind its second branch
pub if_ready : (n m k : ℕ) (clocked : Bool) (held words after : Words Edge) (g : GateList) (st : Statement) (w : Waiting) → AreWires n clocked held words
    → StatementFits (widths_of words) (blocking_of (sight_of clocked held)) st → after ≡ (statement_bits gates_so_far (sight_of clocked held) g words st).1
    → m ≤ k → IsReady m (length words) (widths_of words) w → IsReady k (length after) (widths_of after) w
if_ready n m k clocked held words after g st w are fit is l h =
    subst (λ z. IsReady k z (widths_of after) w) (sym (count_after n clocked held words after g st are fit is))
    (subst (λ (f : ℕ → ℕ). IsReady k (length words) f w) (sym (widths_after n clocked held words after g st are fit is)) (ready_later m k (length words) (widths_of words) w l h))

pub if_bits : (count : ℕ) (first second : Statement) (test : Edge) (marks : List Mark) (branch : Words Edge) (w : Waiting) → marks ≡ mark_statement count second (mark_statement count first [])
    → Keeps test marks branch w → marked_bits w.marks.items ≤ bits_among (λ i place. sets first i place || sets second i place) count
if_bits count first second test marks branch w is keeps =
    subst (λ (ms : List Mark). marked_bits ms ≤ bits_among (λ i place. sets first i place || sets second i place) count) (sym keeps.marks) (few_marked count first second marks is)

-- a case behind its default
pub record CaseEnd (before after : Words Edge) (later : GateList) (waiting : List Waiting) : Type 0 where
  pub widths : widths_of after ≡ widths_of before
  pub count : length after ≡ length before
  pub ready : AreReady (next_node later) (length after) (widths_of after) waiting
  pub at_most_64 : (i : ℕ) → widths_of after i ≤ 64

module _ (clocked : Bool) (held : Words Edge) (selector : List Edge) (full : Bool) (otherwise : Default) (bits : ℕ) (start : GateList) (before : Words Edge) (all : Arms) (gates : GateList) (wires : Words Edge) (waiting : List Waiting) where
  pub default_fits : ArmsLeft clocked held selector full otherwise bits start before all gates wires no_arm waiting → DefaultFits (widths_of before) (blocking_of (sight_of clocked held)) otherwise
      → DefaultFits (widths_of wires) (blocking_of (sight_of clocked held)) otherwise
  default_fits h fit = subst (λ (f : ℕ → ℕ). DefaultFits f (blocking_of (sight_of clocked held)) otherwise) (sym h.widths) fit

  pub default_room : (n : ℕ) → ArmsLeft clocked held selector full otherwise bits start before all gates wires no_arm waiting
      → next_node start + (arms_weight (widths_of before) (length before) (length selector) bits all + default_weight (widths_of before) (length before) otherwise) ≤ n
      → next_node gates + (waiting_bits waiting + default_weight (widths_of wires) (length wires) otherwise) ≤ n
  default_room n h room =
      let few = h.few in
      let now : next_node gates + (waiting_bits waiting + default_weight (widths_of before) (length before) otherwise) ≤ n = omega (arith, few, room) in
      subst (λ z. next_node gates + (waiting_bits waiting + default_weight (widths_of wires) z otherwise) ≤ n) (sym h.count)
      (subst (λ (f : ℕ → ℕ). next_node gates + (waiting_bits waiting + default_weight f (length before) otherwise) ≤ n) (sym h.widths) now)

  pub case_end : (later : GateList) (after : Words Edge) → ArmsLeft clocked held selector full otherwise bits start before all gates wires no_arm waiting
      → DefaultFits (widths_of wires) (blocking_of (sight_of clocked held)) otherwise → after ≡ (default_bits gates_so_far (sight_of clocked held) gates wires otherwise).1
      → next_node gates ≤ next_node later → CaseEnd before after later waiting
  case_end later after h fit is grows =
      let leaves = default_leaves gates_so_far (widths_of wires) h.are.at_most_64 (blocking_of (sight_of clocked held)) (sight_of clocked held) otherwise gates wires fit
      (has_widths (next_node gates) clocked held wires h.are) in
      let widths : widths_of after ≡ widths_of before = ap widths_of is ∙ (same_widths wires (default_bits gates_so_far (sight_of clocked held) gates wires otherwise).1 (default_sets otherwise) leaves ∙ h.widths) in
      let count : length after ≡ length before = ap length is ∙ (sym leaves.count ∙ h.count) in
      record {
        widths = widths;
        count = count;
        ready = subst (λ z. AreReady (next_node later) z (widths_of after) waiting) (sym count)
            (subst (λ (f : ℕ → ℕ). AreReady (next_node later) (length before) f waiting) (sym widths) (all_ready_later (next_node gates) (next_node later) (length before) (widths_of before) waiting grows h.ready));
        at_most_64 = small_after wires after (widths ∙ sym h.widths) h.are.at_most_64;
      }

-- ---- blocks

false_true : false ≡ true → ⊥
false_true e = cc

-- a combinational block reads no other wires
pub are_combinational : (n : ℕ) (held wires : Words Edge) → WiresStand n wires → ((i : ℕ) → widths_of wires i ≤ 64) → AreWires n false held wires
are_combinational n held wires stand small = record { stand = stand; at_most_64 = small; held_stand = λ e. absurd (false_true e); widths = λ e. absurd (false_true e) }

pub are_clocked : (n : ℕ) (held wires : Words Edge) → WiresStand n wires → ((i : ℕ) → widths_of wires i ≤ 64) → WiresStand n held → widths_of held ≡ widths_of wires → AreWires n true held wires
are_clocked n held wires stand small held_stand same = record { stand = stand; at_most_64 = small; held_stand = λ e. held_stand; widths = λ e. same }

pub result_widths : {A E : Type 0} (r : Result A E) (n : ℕ) (clocked : Bool) (held words after : Words Edge) (g : GateList) (st : Statement) → AreWires n clocked held words
    → StatementFits (widths_of words) (blocking_of (sight_of clocked held)) st → OnOk r (after ≡ (statement_bits gates_so_far (sight_of clocked held) g words st).1) → OnOk r (widths_of after ≡ widths_of words)
result_widths (Ok x) n clocked held words after g st are fit is = widths_after n clocked held words after g st are fit is
result_widths (Err e) n clocked held words after g st are fit is = tt

pub result_count : {A E : Type 0} (r : Result A E) (n : ℕ) (clocked : Bool) (held words after : Words Edge) (g : GateList) (st : Statement) → AreWires n clocked held words
    → StatementFits (widths_of words) (blocking_of (sight_of clocked held)) st → OnOk r (after ≡ (statement_bits gates_so_far (sight_of clocked held) g words st).1) → OnOk r (length after ≡ length words)
result_count (Ok x) n clocked held words after g st are fit is = count_after n clocked held words after g st are fit is
result_count (Err e) n clocked held words after g st are fit is = tt

pub from_not_true : (b : Bool) → not b ≡ true → b ≡ false
from_not_true true h = cc
from_not_true false h = refl

pub from_not_false : (b : Bool) → not b ≡ false → b ≡ true
from_not_false true h = refl
from_not_false false h = cc
