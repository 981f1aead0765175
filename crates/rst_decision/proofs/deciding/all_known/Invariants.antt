use Rattle.std.proofs.Common.{◌↔◌, drop}
use Rattle.std.specs.List.{AllByRecursion}
use Rattle.rst_gate.specs.TernMachine.{IsKnown}
use Rattle.rst_decision.proofs.deciding.all_known.Given as goal

abbrev pub invariant-loop-place : goal.invariant-loop-place
invariant-loop-place l = AllByRecursion IsKnown (drop l.place-index l.places) ↔ AllByRecursion IsKnown l.places
