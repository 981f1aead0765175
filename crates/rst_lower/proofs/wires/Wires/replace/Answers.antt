use Rattle.std.proofs.Common.{◌∙◌, ap, set}
use Rattle.rst_lower.proofs.Loops.{words_set}
use Rattle.rst_lower.proofs.wires.Wires.replace.Goals as goal

pub returns : goal.returns
returns c =
    words_set c.self.inside.words.items c.args.signal c.args.word ∙ ap (λ ws. set ws c.args.signal c.args.word.items) c.self.view_is
