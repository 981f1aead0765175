use Rattle.rst_parse.proofs.SymbolSteps.{SoFar}
use Rattle.rst_parse.proofs.symbols.symbols.Given as goal

abbrev pub invariant-loop-token : goal.invariant-loop-token
invariant-loop-token l = SoFar l.text l.tokens l.token-index l.symbols.items
