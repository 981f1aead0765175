-- The head of a netlist keeps the limits.
use Rattle.std.proofs.Common.{◌≡◌, ◌∙◌, ap, map, List}
use Rattle.rst_outside.specs.declared.names.PortBits.{PortBits}
use Rattle.rst_net.specs.declared.signal.Role.TheVariants as role
use Rattle.rst_net.specs.declared.signal.Signal.{Signal}
use Rattle.rst_net.specs.Units.{plain_signal}
use Rattle.rst_design.specs.Netlists.{plain_net}
use Rattle.rst_ports.specs.Ports.{ports_with}
use Rattle.rst_replies.proofs.Widths.{head_keeps, outs_same}
use Rattle.rst_replies.proofs.head.head.Goals as goal

pub returns-clause-limits : goal.returns-clause-limits
returns-clause-limits c =
    head_keeps (record { top = c.in_ok-name.name; inputs = c.in_ok-ins.ins; outputs = c.in_ok-outs.outs; registers = c.in_ok-states.states; budget = c.args.budget }) (plain_net c.args.net.now) c.args.net.now.few
    (c.in_ok-ins.ensures ∙ ap (λ (s : List Signal). ports_with role.Input (map plain_signal s)) c.as_slice-4.ensures.value) (c.in_ok-outs.ensures ∙ outs_same c.as_slice.result.now c.args.net.now.signals.items c.as_slice-2.result.now c.args.net.now.outputs.items c.as_slice.ensures.value c.as_slice-2.ensures.value)
    (c.in_ok-states.ensures ∙ ap (λ (s : List Signal). ports_with role.Register (map plain_signal s)) c.as_slice-3.ensures.value)
