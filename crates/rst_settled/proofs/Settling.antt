-- Exactly one settled valuation, and with it exactly one machine.
use Rattle.std.proofs.Common.{◌≡◌, ◌∙◌, ℕ, Bool, List, sum, map, refl, sym, ap}
use Rattle.rst_gate.specs.Machine.{Machine}
use Rattle.rst_net.specs.declared.signal.Role.TheVariants as role
use Rattle.rst_net.specs.Units.{PlainFlat}
use Rattle.rst_cycle.specs.Signals.{with_role, width_of}
use Rattle.rst_cycle.specs.Cycle.{bit_count, next_state, output_bits}
use Rattle.rst_flow.specs.Flows.{Passes}
use Rattle.rst_settled.specs.Designs.{IsDesign}
use Rattle.rst_settled.specs.Orderly.{IsOrderly}
use Rattle.rst_settled.specs.Settling.{HasOneSettled, HasOneMachine}
use Rattle.rst_settled.proofs.Uniqueness.{one_value}
use Rattle.rst_settled.proofs.Existence.{last, settled}
use Rattle.rst_settled.proofs.Accepted.{net_of, settled_to, settled_from, orderly_net}

pub in_order : (flat : PlainFlat) (state input : List Bool) → IsOrderly flat → HasOneSettled flat state input
in_order flat state input orderly =
    let s = settled flat state input orderly in
    record {
      signals = last flat state input orderly;
      settled = s;
      only = λ other t i. one_value flat state input orderly other (last flat state input orderly) t s i;
    }

pub accepted : (flat : PlainFlat) (order : List ℕ) (state input : List Bool) → IsDesign flat → Passes flat order → HasOneSettled flat state input
accepted flat order state input design passes =
    let one = in_order (net_of flat order) state input (orderly_net flat order design passes) in
    record {
      signals = one.signals;
      settled = settled_from flat order passes.ordered state input one.signals one.settled;
      only = λ other t i. one.only other (settled_to flat order passes.ordered state input other t) i;
    }

-- the machine of a design
the_machine : (flat : PlainFlat) → ((state input : List Bool) → HasOneSettled flat state input) → Machine
the_machine flat one = record {
  registers = bit_count (with_role role.Register flat.signals);
  inputs = bit_count (with_role role.Input flat.signals);
  outputs = sum (map (width_of flat.signals) flat.outputs);
  out = λ state input. output_bits flat (one state input).signals;
  step = λ state input. next_state flat state (one state input).signals;
}

pub one_machine : (flat : PlainFlat) → ((state input : List Bool) → HasOneSettled flat state input) → HasOneMachine flat
unfolding the_machine
one_machine flat one = record {
  machine = the_machine flat one;
  is = record {
    registers = refl;
    inputs = refl;
    outputs = refl;
    cycles = λ state input _ _. record { signals = (one state input).signals; settled = (one state input).settled; shows = refl; leads = refl };
  };
  only = λ other is state input registers inputs.
      let cycle = is.cycles state input (registers ∙ sym is.registers) (inputs ∙ sym is.inputs) in
      let same : cycle.signals ≡ (one state input).signals = λ j i. (one state input).only cycle.signals cycle.settled i j in
      (sym (cycle.shows ∙ ap (output_bits flat) same), sym (cycle.leads ∙ ap (next_state flat state) same));
}
