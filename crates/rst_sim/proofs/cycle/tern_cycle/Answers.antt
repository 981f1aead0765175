use Rattle.std.proofs.lemmas.Result.{IfOk-weaker}
use Rattle.rst_sim.proofs.Cycles.{tern_cycle}
use Rattle.rst_sim.proofs.cycle.tern_cycle.Goals as goal

pub returns-clause-outs : goal.returns-clause-outs
returns-clause-outs c =
    IfOk-weaker c.eval.result _ _ (λ f h. (tern_cycle c.args.gates.now c.args.state.now c.args.input.now f.outs f.nexts _ _ h).0) c.eval.ensures.gives

pub returns-clause-nexts : goal.returns-clause-nexts
returns-clause-nexts c =
    IfOk-weaker c.eval.result _ _ (λ f h. (tern_cycle c.args.gates.now c.args.state.now c.args.input.now f.outs f.nexts _ _ h).1) c.eval.ensures.gives
