-- A verdict that was found is due.
use Rattle.rst_replies.proofs.Dues.{demo_ok}
use Rattle.rst_replies.proofs.replies.reply_demo.Goals as goal

pub returns-clause-due : goal.returns-clause-due
returns-clause-due c =
    demo_ok c.args.stages c.args.question.now c.in_ok-verdict.verdict c.demonstrated.result c.in_ok-verdict.ensures.verdict c.demonstrated.ensures.due
