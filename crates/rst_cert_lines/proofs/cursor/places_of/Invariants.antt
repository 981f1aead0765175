use Rattle.std.proofs.Common.{◌≡◌, map, take}
use Rattle.rst_cert_lines.specs.Reading.{place_of}
use Rattle.rst_cert_lines.proofs.cursor.places_of.Given as goal

abbrev pub invariant-loop-digit : goal.invariant-loop-digit
invariant-loop-digit l = l.places ≡ map place_of (take l.digit-index l.digits)
