use Rattle.std.proofs.Common.{◌≡◌, ◌++◌, replicate}
use Rattle.rst_script.proofs.fitting.push_copies.Given as goal

abbrev pub invariant-loop : goal.invariant-loop
invariant-loop l = l.pattern ≡ l.initial.pattern ++ replicate l.counter l.cube
