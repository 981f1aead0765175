use Rattle.std.proofs.Common.{◌≡◌, take}
use Rattle.rst_script.specs.Fitting.{cube_of}
use Rattle.rst_script.proofs.fitting.cube_of.Given as goal

abbrev pub invariant-loop-port : goal.invariant-loop-port
invariant-loop-port l = l.cube ≡ cube_of (take l.port-index l.ports) l.settings
