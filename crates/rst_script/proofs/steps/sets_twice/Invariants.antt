use Rattle.std.proofs.Common.{◌≡◌, ℕ, List, [], take, drop}
use Rattle.rst_script.specs.Steps.{names_set, is_met, has_twice}
use Rattle.rst_script.proofs.Names.{is_key}
use Rattle.rst_script.proofs.steps.sets_twice.Given as goal

abbrev pub invariant-loop-setting : goal.invariant-loop-setting
invariant-loop-setting l = record {
  met : (name : List ℕ) → is_key l.names.keys name ≡ is_met (names_set (take l.setting-index l.settings)) name;
  left : has_twice (names_set (take l.setting-index l.settings)) (names_set (drop l.setting-index l.settings)) ≡ has_twice [] (names_set l.settings);
}
