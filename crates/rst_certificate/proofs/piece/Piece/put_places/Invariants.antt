use Rattle.std.proofs.Common.{◌≡◌, ◌++◌, map, take}
use Rattle.rst_certificate.specs.Words.{place_digit}
use Rattle.rst_certificate.proofs.piece.Piece.put_places.Given as goal

abbrev pub invariant-loop-place : goal.invariant-loop-place
invariant-loop-place l = l.self ≡ l.initial.self ++ map place_digit (take l.place-index l.places)
