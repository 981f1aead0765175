use Rattle.std.proofs.Common.{◌≡◌, map, take}
use Rattle.rst_cert_lines.specs.Reading.{bit_of}
use Rattle.rst_cert_lines.proofs.cursor.bits_of.Given as goal

abbrev pub invariant-loop-digit : goal.invariant-loop-digit
invariant-loop-digit l = l.bits ≡ map bit_of (take l.digit-index l.digits)
