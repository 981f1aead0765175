use Rattle.std.proofs.Common.{◌≡◌, ◌++◌, replicate}
use Rattle.rst_value.specs.declared.tern.Tern.TheVariants.{Unknown}
use Rattle.rst_script.proofs.fitting.push_free.Given as goal

abbrev pub invariant-loop : goal.invariant-loop
invariant-loop l = l.cube ≡ l.initial.cube ++ replicate l.counter Unknown
