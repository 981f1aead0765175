use Rattle.std.proofs.Common.{◌≡◌, ◌%◌, ◌^◌, take}
use Rattle.rst_lex.specs.Literals.{number, digit_value}
use Rattle.rst_lex.proofs.literal.number_modulo.Given as goal

abbrev pub invariant-loop-b : goal.invariant-loop-b
invariant-loop-b l = l.value ≡ number l.radix digit_value (take l.b-index l.digits) % 2 ^ 64
