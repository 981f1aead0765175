use Rattle.std.proofs.Common.{◌≡◌, drop}
use Rattle.rst_script.specs.Fitting.{settings_fault}
use Rattle.rst_script.proofs.fitting.settings_fault.Given as goal

abbrev pub invariant-loop-setting : goal.invariant-loop-setting
invariant-loop-setting l = settings_fault l.ports l.line (drop l.setting-index l.settings) ≡ settings_fault l.ports l.line l.settings
