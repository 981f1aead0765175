use Rattle.std.proofs.Common.{◌≡◌, ◌++◌, map, drop, Option}
use Rattle.std.specs.declared.vec.Vec.{Vec}
use Rattle.std.specs.declared.alloc.Global.{Global}
use Rattle.rst_net.specs.Units.{plain_signal}
use Rattle.rst_reset_gates.specs.declared.table.BitReset.{BitReset}
use Rattle.rst_reset_gates.specs.Tables.{no_resets}
use Rattle.rst_reset_gates.proofs.table.ResetTable.new.Given as goal

abbrev pub invariant-loop-signal : goal.invariant-loop-signal
invariant-loop-signal l = map (λ (v : Vec (Option BitReset) Global). v.items) l.rows.items ++ no_resets (map plain_signal (drop l.signal-index l.signals)) ≡ no_resets (map plain_signal l.signals)
