use Rattle.rst_certificate.specs.CertText.{cert_text}
use Rattle.rst_certificate.proofs.Left.{ends_on}
use Rattle.rst_certificate.proofs.writer.CertWriter.next.Goals as goal

pub invariant_of-self-else-is_empty : goal.invariant_of-self-else-is_empty
invariant_of-self-else-is_empty c =
    ends_on (cert_text c.self.inside.cert.now) c.fill.new.piece _ _ c.fill.ensures.moved c.self.invariant
