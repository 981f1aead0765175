-- A verdict that was found is due.
use Rattle.rst_gate.specs.TernMachine.{KnowsPattern}
use Rattle.rst_known.specs.Readings.{design_terns}
use Rattle.rst_design_terms.specs.Gates.{gates_of}
use Rattle.rst_design.specs.Netlists.{plain_net}
use Rattle.rst_replies.proofs.Dues.{check_ok, version_fits}
use Rattle.rst_replies.proofs.replies.reply_check.Goals as goal

pub checked-requires : goal.checked-requires
checked-requires c = record {
  version = λ one.
      version_fits (KnowsPattern (design_terns (plain_net c.args.question.now.net)) c.args.question.now.pattern) (gates_of (plain_net c.args.question.now.net)) c.args.question.now.pattern
      c.args.question.now.script.budget c.in_ok-verdict.verdict c.in_ok-verdict.ensures.verdict (c.requires.version one);
}

pub returns-clause-due : goal.returns-clause-due
returns-clause-due c =
    check_ok c.args.top.now c.args.question.now c.in_ok-verdict.verdict c.checked.result c.in_ok-verdict.ensures.verdict c.checked.ensures.due
