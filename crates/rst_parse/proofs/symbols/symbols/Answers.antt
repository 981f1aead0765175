use Rattle.std.proofs.Common.{length}
use Rattle.rst_parse.proofs.SymbolSteps.{token_within}
use Rattle.rst_parse.proofs.symbols.symbols.Goals as goal

pub text_of-requires : goal.text_of-requires
text_of-requires c =
    let within = token_within (length c.args.text.now) c.args.tokens.now 0 c.loop-token.token-index c.token-item.result c.requires.order c.loop-token-test.true c.token-item.is in
    record { start = within.0; end = within.1 }
