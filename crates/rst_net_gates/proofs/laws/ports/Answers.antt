use Rattle.std.proofs.Common.{sym}
use Rattle.rst_design_terms.proofs.Meaning.{design_grows}
use Rattle.rst_net_gates.proofs.laws.ports.Goals as goal

pub returns : goal.returns
returns c = λ flat. record { inputs = sym (design_grows flat).inputs; states = sym (design_grows flat).states }
