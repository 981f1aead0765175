use Rattle.std.proofs.Common.{length}
use Rattle.rst_certificate.specs.Writing.{left_of}
use Rattle.rst_cert_rows.proofs.writing.joined.Given as goal

abbrev pub decreases-loop-piece : goal.decreases-loop-piece
decreases-loop-piece l = length (left_of l.writer)
