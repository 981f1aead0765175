use Rattle.std.proofs.Common.{◌≡◌, ◌++◌, length}
use Rattle.rst_certificate.specs.CertText.{cert_text}
use Rattle.rst_certificate.specs.Writing.{left_of}
use Rattle.rst_certificate.proofs.writer.cert_text.Given as goal

abbrev pub invariant-loop-piece : goal.invariant-loop-piece
invariant-loop-piece l = (l.writer.cert ≡ l.initial.writer.cert) × (l.text.items ++ left_of l.writer ≡ cert_text l.writer.cert)

abbrev pub decreases-loop-piece : goal.decreases-loop-piece
decreases-loop-piece l = length (left_of l.writer)
