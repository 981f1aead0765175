use Rattle.std.proofs.Common.{arith}
use Rattle.rst_parse.proofs.Cutting.{cut_is, piece_some}
use Rattle.rst_parse.proofs.pieces.first_piece.Goals as goal

pub returns-clause-cut : goal.returns-clause-cut
returns-clause-cut c = cut_is c.args.symbols.now c.split_at.result.0.now c.piece_len.result c.requires c.piece_len.ensures.value c.split_at.ensures.front

pub returns-clause-some : goal.returns-clause-some
returns-clause-some c =
    let some = piece_some c.args.symbols.now c.requires in
    omega (arith, some, c.piece_len.ensures.value, c.split_at.ensures.front_len)
