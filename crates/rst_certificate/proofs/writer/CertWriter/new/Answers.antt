use Rattle.std.proofs.Common.{◌≡◌, ap, ◌∙◌}
use Rattle.std.specs.List.{flat_map}
use Rattle.rst_certificate.specs.Words.{line}
use Rattle.rst_certificate.specs.CertText.{cert_text}
use Rattle.rst_certificate.proofs.Left.{whole_ends}
use Rattle.rst_certificate.proofs.writer.CertWriter.new.Goals as goal

whole : (c : goal.In_ok-piece) → c.in_ok-unwritten.unwritten.text ≡ cert_text c.args.cert.now
unfolding cert_text
whole c = c.in_ok-unwritten.ensures ∙ ap (flat_map line) c.in_ok-sections.ensures

pub invariant_of-result : goal.invariant_of-result
invariant_of-result c = (whole_ends _ _ (whole c)).0

pub returns : goal.returns
returns c = ap (λ count. record { cert = c.args.cert.now; given = count }) (whole_ends _ _ (whole c)).1
