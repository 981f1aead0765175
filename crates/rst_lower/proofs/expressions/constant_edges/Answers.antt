use Rattle.std.proofs.Common.{◌++◌, ◌∷◌, [], arith, ap, ◌∙◌}
use Rattle.rst_typed_terms.specs.Expressions.{constants}
use Rattle.rst_word_gates.specs.GateAlgebra.{gates_so_far}
use Rattle.rst_lower.proofs.Loops.{constants_turn}
use Rattle.rst_lower.proofs.expressions.constant_edges.Goals as goal

pub loop-preserved : goal.loop-preserved
loop-preserved c =
    constants_turn c.args.width c.loop.counter c.loop.left c.loop.bits.items c.push.new.self.items (constants gates_so_far c.args.width c.args.value)
    (omega arith) c.loop.invariant (c.in_ok-push.ensures.items ∙ ap (λ e. c.loop.bits.items ++ e ∷ []) c.constant.ensures)
