use Rattle.rst_gate.specs.GateLists.{next_node}
use Rattle.rst_word_gates.proofs.Turns.{inverted_result}
use Rattle.rst_word_gates.proofs.operators.unary.Goals as goal

pub returns-in-Invert-clause-stand : goal.returns-in-Invert-clause-stand
returns-in-Invert-clause-stand c =
    inverted_result (next_node c.args.gates.now) c.args.a.now c.invert.result c.invert.ensures c.requires.stand
