use Rattle.std.proofs.Common.{arith, length, map}
use Rattle.rst_net.specs.Statements.{plain_label}
use Rattle.rst_lower.specs.WireWords.{widths_of}
use Rattle.rst_statement_terms.specs.Statements.{seen}
use Rattle.rst_statement_gates.specs.Sights.{sight_of}
use Rattle.rst_statement_gates.proofs.Reading.{labels_turn}
use Rattle.rst_statement_gates.proofs.labels.matches.Goals as goal

pub loop-one-preserved : goal.loop-one-preserved
loop-one-preserved c =
    labels_turn (seen (sight_of c.args.clocked c.args.held.now) c.args.wires.now) c.args.selector.now (widths_of c.args.wires.now) (length c.args.wires.now) c.args.gates.now
    (map plain_label c.args.labels.now) c.args.labels.now c.loop-one.one-index c.one-item.result c.loop-one.gates c.label.new.gates c.loop-one.bits.items c.push.new.self.items c.in_ok-bit.bit
    (omega arith) c.one-item.is c.loop-one.invariant c.in_ok-bit.ensures.gates c.in_ok-bit.ensures.edge c.in_ok-push.ensures.items c.in_ok-bit.ensures.stands c.in_ok-bit.ensures.grows c.in_ok-bit.ensures.few
