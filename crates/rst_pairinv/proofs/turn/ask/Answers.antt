use Rattle.rst_pairinv.proofs.Asked.{answers_split}
use Rattle.rst_pairinv.proofs.turn.ask.Goals as goal

pub returns : goal.returns
returns c =
    answers_split c.args.pair.now c.args.front.now c.in_ok-clauses.clauses c.args.left c.in_ok-answer.answer c.in_ok-clauses.ensures c.in_ok-answer.ensures
