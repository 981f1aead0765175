use Rattle.rst_due.proofs.OneDue.{one_due, asked_due}
use Rattle.rst_due.proofs.laws.one_due.Goals as goal

pub returns-clause-one : goal.returns-clause-one
returns-clause-one c = one_due c.one_answer.ensures.answer

pub returns-clause-asked : goal.returns-clause-asked
returns-clause-asked c = asked_due c.one_answer.ensures.answer
