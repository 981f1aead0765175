use Rattle.std.proofs.Common.{◌≡◌, drop}
use Rattle.rst_script.specs.Fitting.{value_in}
use Rattle.rst_script.proofs.fitting.value_in.Given as goal

abbrev pub invariant-loop-setting : goal.invariant-loop-setting
invariant-loop-setting l = value_in (drop l.setting-index l.settings) l.name ≡ value_in l.settings l.name
