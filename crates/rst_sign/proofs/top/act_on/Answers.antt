-- A command whose answer is delivered.
use Rattle.std.proofs.Common.{map, string_bytes}
use Rattle.rst_command.specs.Commands.{plain_command}
use Rattle.rst_answer.specs.Answers.{plain_due}
use Rattle.rst_sign.proofs.Acting.{delivered}
use Rattle.rst_sign.proofs.top.act_on.Goals as goal

pub returns-in-Ok-clause-runs : goal.returns-in-Ok-clause-runs
returns-in-Ok-clause-runs g c =
    delivered (map string_bytes c.args.words.now) (plain_command c.args.command) _ _ c.deliver.result (plain_due c.in-Ok.ready) c.saved_name.result.now
    (g.K.Desk.files c.due.new.desk) (g.K.Desk.load_faults c.due.new.desk) (g.K.Desk.save_faults c.due.new.desk) (g.K.Desk.sure_room c.due.new.desk)
    c.saved_name.ensures c.in-Ok.ensures.due c.in-Ok.ensures.gates c.in-Ok.ensures.failed c.in-Ok.ensures.some c.in-Ok.ensures.kept c.in-Ok.ensures.saves
    c.deliver.ensures.loads c.in-Ok.ensures.room c.in-Ok.ensures.sure c.deliver.ensures.carries c.deliver.ensures.cause c.deliver.ensures.text c.deliver.ensures.prefix c.deliver.ensures.saved
    c.deliver.ensures.put_failed c.deliver.ensures.others c.deliver.ensures.kept c.deliver.ensures.fits
