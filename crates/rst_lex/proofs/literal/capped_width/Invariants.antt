use Rattle.std.proofs.Common.{◌≡◌, min, take}
use Rattle.rst_lex.specs.Literals.{decimal_number}
use Rattle.rst_lex.proofs.literal.capped_width.Given as goal

abbrev pub invariant-loop-b : goal.invariant-loop-b
invariant-loop-b l = l.value ≡ min 65 (decimal_number (take l.b-index l.size))
