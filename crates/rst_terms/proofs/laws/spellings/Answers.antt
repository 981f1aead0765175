use Rattle.rst_terms.proofs.Places.{bits_width, number_bits}
use Rattle.rst_terms.proofs.laws.spellings.Goals as goal

pub returns-clause-width : goal.returns-clause-width
returns-clause-width c = bits_width

pub returns-clause-number : goal.returns-clause-number
returns-clause-number c = number_bits
