use Rattle.std.proofs.Common.{◌∙◌, not, nat_eq, ap}
use Rattle.std.specs.Prelude.{bit_and}
use Rattle.rst_drivers.proofs.BitLemmas.{has_zero-is}
use Rattle.rst_drivers.proofs.bits.has_zero.Goals as goal

pub returns : goal.returns
returns c = ap (λ m. not (nat_eq (bit_and c.args.bits m) m)) c.ones-ones.ensures ∙ has_zero-is c.args.bits c.args.width c.requires
