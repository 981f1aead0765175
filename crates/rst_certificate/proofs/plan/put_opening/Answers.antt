use Rattle.rst_certificate.proofs.Texts.{adds_both}
use Rattle.rst_certificate.proofs.plan.put_opening.Goals as goal

pub returns : goal.returns
returns c = adds_both (adds_both c.in_ok-add_number.ensures c.in_ok-add_number-2.ensures) c.in_ok-put_clock.ensures
