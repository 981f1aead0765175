use Rattle.std.proofs.Common.{◌≡◌, ◌++◌, map, drop}
use Rattle.std.specs.List.{flat_map}
use Rattle.rst_net.specs.Units.{plain_signal}
use Rattle.rst_elab.specs.Tables.{signals_in}
use Rattle.rst_elab.proofs.flat.push_places.Given as goal

-- what is made and what is left are all signals
abbrev pub invariant-loop-located : goal.invariant-loop-located
invariant-loop-located l = map plain_signal l.made.items ++ flat_map (signals_in l.drives l.whole) (drop l.located-index l.all) ≡ map plain_signal l.initial.made.items ++ flat_map (signals_in l.drives l.whole) l.all
