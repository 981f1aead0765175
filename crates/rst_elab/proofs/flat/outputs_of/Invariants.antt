use Rattle.std.proofs.Common.{◌≡◌, ◌++◌, map, drop, filter}
use Rattle.std.specs.List.{enumerate_from}
use Rattle.rst_names.specs.Tables.{plain_declared}
use Rattle.rst_elab.specs.Flats.{outputs_in}
use Rattle.rst_elab.proofs.flat.outputs_of.Given as goal

-- what is made and what is left are all outputs
abbrev pub invariant-loop-number : goal.invariant-loop-number
invariant-loop-number l = l.made.items ++ map (λ numbered. numbered.0) (filter (λ numbered. numbered.1.output) (enumerate_from l.number (map plain_declared (drop l.number l.signals)))) ≡ outputs_in (map plain_declared l.signals)
