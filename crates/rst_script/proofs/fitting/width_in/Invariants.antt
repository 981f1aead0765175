use Rattle.std.proofs.Common.{◌≡◌, drop}
use Rattle.rst_script.specs.Fitting.{width_in}
use Rattle.rst_script.proofs.fitting.width_in.Given as goal

abbrev pub invariant-loop-port : goal.invariant-loop-port
invariant-loop-port l = width_in (drop l.port-index l.ports) l.name ≡ width_in l.ports l.name
