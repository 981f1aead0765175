-- What is due of a question, by what it is read for.
use Rattle.rst_command.specs.Commands.{plain_input}
use Rattle.rst_due.proofs.Chains.{question_check, question_known}
use Rattle.rst_due.proofs.input.question_due.Goals as goal

pub returns-in-Check-clause-ends : goal.returns-in-Check-clause-ends
returns-in-Check-clause-ends c = question_check (plain_input c.args.input.now) c.args.question.now c.args.purpose c.reply_check.result c.in-Check.is c.reply_check.ensures.due

pub returns-in-Known-clause-ends : goal.returns-in-Known-clause-ends
returns-in-Known-clause-ends c = question_known (plain_input c.args.input.now) c.args.question.now c.args.purpose c.reply_known.result c.in-Known.is c.reply_known.ensures.due
