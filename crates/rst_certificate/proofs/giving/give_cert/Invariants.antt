use Rattle.std.proofs.Common.{◌≡◌, length}
use Rattle.rst_certificate.specs.Writing.{left_of}
use Rattle.rst_certificate.proofs.Writers.{given_of}
use Rattle.rst_certificate.proofs.Saves.{HasGiven}
use Rattle.rst_certificate.proofs.giving.give_cert.Given as goal

abbrev pub invariant-loop-piece : goal.invariant-loop-piece
invariant-loop-piece g l = record {
  cert : l.writer.cert ≡ l.initial.writer.cert;
  given : HasGiven l.name (given_of l.writer) l.first (g.K.Desk.files l.initial.desk) (g.K.Desk.files l.desk) (g.K.Desk.save_faults l.initial.desk) (g.K.Desk.save_faults l.desk) (g.K.Desk.sure_room l.initial.desk) (g.K.Desk.sure_room l.desk);
  loads : g.K.Desk.load_faults l.desk ≡ g.K.Desk.load_faults l.initial.desk;
  as_sure : g.K.Desk.sure_loads l.desk ≡ g.K.Desk.sure_loads l.initial.desk;
}

abbrev pub decreases-loop-piece : goal.decreases-loop-piece
decreases-loop-piece g l = length (left_of l.writer)
