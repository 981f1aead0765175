use Rattle.std.proofs.Common.{◌≡◌, ◌%◌, ◌^◌, take}
use Rattle.rst_lex.specs.Literals.{number, mask_digit}
use Rattle.rst_lex.proofs.literal.mask_modulo.Given as goal

abbrev pub invariant-loop-b : goal.invariant-loop-b
invariant-loop-b l = l.value ≡ number l.radix (mask_digit l.radix) (take l.b-index l.digits) % 2 ^ 64
