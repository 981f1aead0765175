use Rattle.std.proofs.Common.{◌≡◌, take}
use Rattle.rst_design_terms.specs.Designs.{listed_words}
use Rattle.rst_net_gates.proofs.listing.listed.Given as goal

abbrev pub invariant-loop-signal : goal.invariant-loop-signal
invariant-loop-signal l = l.edges.items ≡ listed_words l.wires (take l.signal-index l.signals)
