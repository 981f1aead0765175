use Rattle.std.proofs.Common.{◌≡◌, ◌++◌, map, drop}
use Rattle.std.specs.List.{enumerate_from}
use Rattle.rst_net.specs.Units.{plain_signal}
use Rattle.rst_names.specs.Tables.{plain_declared}
use Rattle.rst_elab.specs.Tables.{signal_by}
use Rattle.rst_elab.proofs.flat.push_signals.Given as goal

-- what is made and what is left are all signals
abbrev pub invariant-loop-number : goal.invariant-loop-number
invariant-loop-number l = map plain_signal l.made.items ++ map (signal_by l.drives l.site.facts.now l.site.located.now) (enumerate_from l.number (map plain_declared (drop l.number l.site.facts.now.signals.items))) ≡ map plain_signal l.initial.made.items ++ map (signal_by l.drives l.site.facts.now l.site.located.now) (enumerate_from 0 (map plain_declared l.site.facts.now.signals.items))
