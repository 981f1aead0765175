use Rattle.rst_certificate.proofs.Texts.{adds_both}
use Rattle.rst_certificate.proofs.plan.put_header.Goals as goal

pub returns : goal.returns
returns c =
    rw (← c.kind_word.ensures) (adds_both (adds_both c.in_ok-put_opening.ensures c.in_ok-put_sizes.ensures) c.in_ok-add.ensures)
