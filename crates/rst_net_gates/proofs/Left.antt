-- What the loops over units and clocked blocks keep.
use Rattle.std.proofs.Common.{◌≡◌, ◌∙◌, ℕ, ◌+◌, ◌<◌, ◌≤◌, List, ◌∷◌, length, map, get_or, drop, sym, ap, subst, arith}
use Rattle.std.proofs.lemmas.List.{drop_more}
use Rattle.rst_gate.specs.declared.edge.Edge.{Edge}
use Rattle.rst_gate.specs.GateLists.{GateList, next_node}
use Rattle.rst_net.specs.declared.unit.Driver.{Driver}
use Rattle.rst_net.specs.declared.unit.Process.{Process}
use Rattle.rst_net.specs.Units.{PlainDriver, PlainProcess, plain_driver, plain_process}
use Rattle.rst_word_gates.specs.GateAlgebra.{gates_so_far}
use Rattle.rst_lower.specs.WireWords.{widths_of, WiresStand}
use Rattle.rst_statement_terms.specs.Targets.{Words}
use Rattle.rst_statement_terms.specs.Statements.{Held, Current, statement_bits}
use Rattle.rst_statement_terms.specs.Weights.{statement_weight}
use Rattle.rst_design_terms.specs.Designs.{unit_statement, units_bits, clocked_bits}
use Rattle.rst_design_terms.specs.Lowerable.{UnitsFit, ClockedFit, units_weight, clocked_weight}

pub record UnitsLeft (start : GateList) (before : Words Edge) (all : List PlainDriver) (gates : GateList) (wires : Words Edge) (left : List PlainDriver) : Type 0 where
  pub run : units_bits gates_so_far start before all ≡ units_bits gates_so_far gates wires left
  pub stand : WiresStand (next_node gates) wires
  pub at_most_64 : (i : ℕ) → widths_of wires i ≤ 64
  pub widths : widths_of wires ≡ widths_of before
  pub count : length wires ≡ length before
  pub fit : UnitsFit (widths_of wires) left
  pub few : next_node gates + units_weight (widths_of wires) (length wires) left ≤ next_node start + units_weight (widths_of before) (length before) all
  pub grows : next_node start ≤ next_node gates

pub units_turn :
    (start : GateList) (before : Words Edge) (all : List PlainDriver) (gates later : GateList) (wires after : Words Edge) (units : List Driver) (k : ℕ) (u : Driver)
    → k < length units → u ≡ get_or units k u → UnitsLeft start before all gates wires (map plain_driver (drop k units))
    → later ≡ (statement_bits gates_so_far Current gates wires (unit_statement (plain_driver u))).0 → after ≡ (statement_bits gates_so_far Current gates wires (unit_statement (plain_driver u))).1
    → WiresStand (next_node later) after → widths_of after ≡ widths_of wires → length after ≡ length wires → next_node gates ≤ next_node later
    → next_node later ≤ next_node gates + statement_weight (widths_of wires) (length wires) (unit_statement (plain_driver u))
    → UnitsLeft start before all later after (map plain_driver (drop (k + 1) units))
units_turn start before all gates later wires after units k u h is left state words stand same number grows few =
    let rest : List PlainDriver = map plain_driver (drop (k + 1) units) in
    let first : map plain_driver (drop k units) ≡ plain_driver u ∷ rest = ap (map plain_driver) (drop_more units k u h) ∙ ap (λ (z : Driver). plain_driver z ∷ rest) (sym is) in
    let now : UnitsLeft start before all gates wires (plain_driver u ∷ rest) = subst (UnitsLeft start before all gates wires) first left in
    let all_few = now.few in
    let less : next_node later + units_weight (widths_of wires) (length wires) rest ≤ next_node start + units_weight (widths_of before) (length before) all = omega (arith, all_few, few) in
    record {
      run = now.run ∙ sym (λ j. units_bits gates_so_far (state j) (words j) rest);
      stand = stand;
      at_most_64 = subst (λ (f : ℕ → ℕ). (i : ℕ) → f i ≤ 64) (sym same) now.at_most_64;
      widths = same ∙ now.widths;
      count = number ∙ now.count;
      fit = subst (λ (f : ℕ → ℕ). UnitsFit f rest) (sym same) now.fit.1;
      few = subst (λ n. next_node later + units_weight (widths_of after) n rest ≤ next_node start + units_weight (widths_of before) (length before) all) (sym number)
          (subst (λ (f : ℕ → ℕ). next_node later + units_weight f (length wires) rest ≤ next_node start + units_weight (widths_of before) (length before) all) (sym same) less);
      grows = let g = now.grows in omega (arith, g, grows);
    }

pub record ClockedLeft (settled : Words Edge) (start : GateList) (before : Words Edge) (all : List PlainProcess) (gates : GateList) (wires : Words Edge) (left : List PlainProcess) : Type 0 where
  pub run : clocked_bits gates_so_far settled start before all ≡ clocked_bits gates_so_far settled gates wires left
  pub stand : WiresStand (next_node gates) wires
  pub settled_stand : WiresStand (next_node gates) settled
  pub at_most_64 : (i : ℕ) → widths_of wires i ≤ 64
  pub settled_widths : widths_of settled ≡ widths_of wires
  pub widths : widths_of wires ≡ widths_of before
  pub count : length wires ≡ length before
  pub fit : ClockedFit (widths_of wires) left
  pub few : next_node gates + clocked_weight (widths_of wires) (length wires) left ≤ next_node start + clocked_weight (widths_of before) (length before) all
  pub grows : next_node start ≤ next_node gates

pub clocked_turn :
    (settled : Words Edge) (start : GateList) (before : Words Edge) (all : List PlainProcess) (gates later : GateList) (wires after : Words Edge) (units : List Process) (k : ℕ) (u : Process)
    → k < length units → u ≡ get_or units k u → ClockedLeft settled start before all gates wires (map plain_process (drop k units))
    → later ≡ (statement_bits gates_so_far (Held settled) gates wires (plain_process u).body).0 → after ≡ (statement_bits gates_so_far (Held settled) gates wires (plain_process u).body).1
    → WiresStand (next_node later) after → WiresStand (next_node later) settled → widths_of after ≡ widths_of wires → length after ≡ length wires → next_node gates ≤ next_node later
    → next_node later ≤ next_node gates + statement_weight (widths_of wires) (length wires) (plain_process u).body
    → ClockedLeft settled start before all later after (map plain_process (drop (k + 1) units))
clocked_turn settled start before all gates later wires after units k u h is left state words stand kept same number grows few =
    let rest : List PlainProcess = map plain_process (drop (k + 1) units) in
    let first : map plain_process (drop k units) ≡ plain_process u ∷ rest = ap (map plain_process) (drop_more units k u h) ∙ ap (λ (z : Process). plain_process z ∷ rest) (sym is) in
    let now : ClockedLeft settled start before all gates wires (plain_process u ∷ rest) = subst (ClockedLeft settled start before all gates wires) first left in
    let all_few = now.few in
    let less : next_node later + clocked_weight (widths_of wires) (length wires) rest ≤ next_node start + clocked_weight (widths_of before) (length before) all = omega (arith, all_few, few) in
    record {
      run = now.run ∙ sym (λ j. clocked_bits gates_so_far settled (state j) (words j) rest);
      stand = stand;
      settled_stand = kept;
      at_most_64 = subst (λ (f : ℕ → ℕ). (i : ℕ) → f i ≤ 64) (sym same) now.at_most_64;
      settled_widths = now.settled_widths ∙ sym same;
      widths = same ∙ now.widths;
      count = number ∙ now.count;
      fit = subst (λ (f : ℕ → ℕ). ClockedFit f rest) (sym same) now.fit.1;
      few = subst (λ n. next_node later + clocked_weight (widths_of after) n rest ≤ next_node start + clocked_weight (widths_of before) (length before) all) (sym number)
          (subst (λ (f : ℕ → ℕ). next_node later + clocked_weight f (length wires) rest ≤ next_node start + clocked_weight (widths_of before) (length before) all) (sym same) less);
      grows = let g = now.grows in omega (arith, g, grows);
    }
