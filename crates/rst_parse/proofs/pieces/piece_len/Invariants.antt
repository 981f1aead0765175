use Rattle.std.proofs.Common.{◌≡◌, ◌+◌, drop}
use Rattle.rst_parse.specs.Pieces.{piece_len}
use Rattle.rst_parse.proofs.pieces.piece_len.Given as goal

abbrev pub invariant-loop-symbol : goal.invariant-loop-symbol
invariant-loop-symbol l = (l.len ≡ l.symbol-index) × (l.symbol-index + piece_len (drop l.symbol-index l.symbols) ≡ piece_len l.symbols)
