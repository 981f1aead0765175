use Rattle.std.proofs.Common.{◌≡◌, ◌-◌, ◌^◌, ◌≤◌, drop}
use Rattle.rst_script.specs.Numbers.{number, number_behind, at_most}
use Rattle.rst_script.proofs.numbers.read_number.Given as goal

abbrev pub invariant-loop-b : goal.invariant-loop-b
invariant-loop-b l = record {
  read : at_most (2 ^ 64 - 1) (number_behind l.radix l.value (drop l.b-index l.digits)) ≡ at_most (2 ^ 64 - 1) (number l.radix l.digits);
  fits : l.value ≤ 2 ^ 64 - 1;
}
