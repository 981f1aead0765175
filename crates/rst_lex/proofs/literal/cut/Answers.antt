use Rattle.std.proofs.Common.{ap, ◌∙◌, bit_and}
use Rattle.rst_lex.proofs.Worth.{ones_cut}
use Rattle.rst_lex.proofs.literal.cut.Goals as goal

pub returns : goal.returns
returns c = ap (bit_and c.args.value) c.ones.ensures ∙ ones_cut c.args.value c.args.width
