use Rattle.rst_take.proofs.Taken.{means, cert_written, cert_short}
use Rattle.rst_take.proofs.taking.take_cert.Goals as goal

pub returns-in-Ok-clause-written : goal.returns-in-Ok-clause-written
returns-in-Ok-clause-written g c =
    let all = c.in-Ok.ensures.all in
    cert_written all.text c.taken.result (means c.args.name.now c.args.limit (g.K.Desk.files c.args.desk.now) c.take_pieces.new.reader c.taken.result all c.taken.ensures)

pub returns-in-Ok-clause-short : goal.returns-in-Ok-clause-short
returns-in-Ok-clause-short g c =
    let all = c.in-Ok.ensures.all in
    cert_short all.text c.args.limit c.taken.result all.short (means c.args.name.now c.args.limit (g.K.Desk.files c.args.desk.now) c.take_pieces.new.reader c.taken.result all c.taken.ensures)
