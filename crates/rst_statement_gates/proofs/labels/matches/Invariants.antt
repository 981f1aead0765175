use Rattle.std.proofs.Common.{drop, map, length}
use Rattle.rst_net.specs.Statements.{plain_label}
use Rattle.rst_lower.specs.WireWords.{widths_of}
use Rattle.rst_statement_terms.specs.Statements.{seen}
use Rattle.rst_statement_gates.specs.Sights.{sight_of}
use Rattle.rst_statement_gates.proofs.Reading.{LabelsLeft}
use Rattle.rst_statement_gates.proofs.labels.matches.Given as goal

abbrev pub invariant-loop-one : goal.invariant-loop-one
invariant-loop-one l =
    LabelsLeft (seen (sight_of l.clocked l.held) l.wires) l.selector (widths_of l.wires) (length l.wires) l.fn.gates (map plain_label l.labels)
    l.gates l.bits.items (map plain_label (drop l.one-index l.labels))
