use Rattle.rst_certificate.proofs.Texts.{adds_both}
use Rattle.rst_certificate.proofs.plan.put_parts.Goals as goal

pub returns-in_ok-put_log-in-Never : goal.returns-in_ok-put_log-in-Never
returns-in_ok-put_log-in-Never c =
    rw c.in-Never.is (adds_both
    (adds_both (adds_both c.in_ok-put_pair-in-Never.ensures c.in_ok-put_blocked-in-Never.ensures) c.in_ok-put_freed-in-Never.ensures)
    c.in_ok-put_log-in-Never.ensures)
