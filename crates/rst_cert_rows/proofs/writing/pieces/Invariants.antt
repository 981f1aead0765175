use Rattle.std.proofs.Common.{length}
use Rattle.rst_certificate.specs.Writing.{left_of}
use Rattle.rst_cert_rows.proofs.writing.pieces.Given as goal

abbrev pub decreases-loop-count : goal.decreases-loop-count
decreases-loop-count l = length (left_of l.writer)
