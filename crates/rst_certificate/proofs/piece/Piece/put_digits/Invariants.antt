use Rattle.std.proofs.Common.{◌≡◌, ◌++◌, map, take}
use Rattle.rst_certificate.specs.Words.{digit}
use Rattle.rst_certificate.proofs.piece.Piece.put_digits.Given as goal

abbrev pub invariant-loop-bit : goal.invariant-loop-bit
invariant-loop-bit l = l.self ≡ l.initial.self ++ map digit (take l.bit-index l.bits)
