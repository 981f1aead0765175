use Rattle.std.proofs.Common.{◌∙◌, ◌≤◌, ℕ, arith, sym, ap, subst, map, length}
use Rattle.std.proofs.lemmas.List.{length-map}
use Rattle.rst_gate.specs.GateLists.{next_node}
use Rattle.rst_net.specs.Units.{plain_signal, plain_driver, plain_process}
use Rattle.rst_net_gates.specs.Netlists.{plain_net}
use Rattle.rst_net_gates.proofs.Lowered.{clocked_light, resets_room, units_room}
use Rattle.rst_net_gates.proofs.lowering.settled.Goals as goal

pub reset_wires-requires-clause-at_most_64 : goal.reset_wires-requires-clause-at_most_64
reset_wires-requires-clause-at_most_64 c = subst (λ (f : ℕ → ℕ). (i : ℕ) → f i ≤ 64) (sym c.requires.widths) c.requires.lowerable.widths

pub reset_wires-requires-clause-light : goal.reset_wires-requires-clause-light
reset_wires-requires-clause-light c =
    clocked_light (plain_net c.args.net.now) c.requires.lowerable (next_node c.args.gates.now) c.requires.room c.args.start.now (map plain_process c.deref-2.result.now)
    c.requires.widths c.requires.count (ap (map plain_process) c.deref-2.ensures.value) (omega arith)

pub reset_wires-requires-clause-room : goal.reset_wires-requires-clause-room
reset_wires-requires-clause-room c =
    resets_room (plain_net c.args.net.now) c.requires.lowerable (next_node c.args.gates.now) c.requires.room (map plain_process c.deref-2.result.now) (length c.deref.result.now)
    (ap (map plain_process) c.deref-2.ensures.value) (ap length c.deref.ensures.value ∙ sym (length-map c.args.net.now.signals.items plain_signal))

pub settle-requires-clause-at_most_64 : goal.settle-requires-clause-at_most_64
settle-requires-clause-at_most_64 c = subst (λ (f : ℕ → ℕ). (i : ℕ) → f i ≤ 64) (sym (c.in_ok-wires.ensures.widths ∙ c.requires.widths)) c.requires.lowerable.widths

pub settle-requires-clause-room : goal.settle-requires-clause-room
settle-requires-clause-room c =
    units_room (plain_net c.args.net.now) c.requires.lowerable (next_node c.args.gates.now) c.requires.room c.in_ok-wires.wires (map plain_driver c.deref-3.result.now)
    (map plain_process c.deref-2.result.now) (length c.deref.result.now) (next_node c.reset_wires.new.gates)
    (c.in_ok-wires.ensures.widths ∙ c.requires.widths) (c.in_ok-wires.ensures.count ∙ c.requires.count) (ap (map plain_driver) c.deref-3.ensures.value)
    (ap (map plain_process) c.deref-2.ensures.value) (ap length c.deref.ensures.value ∙ sym (length-map c.args.net.now.signals.items plain_signal)) c.in_ok-wires.ensures.few
