use Rattle.std.proofs.Common.{◌≡◌, map, drop, filter, not}
use Rattle.rst_names.specs.Faults.{first}
use Rattle.rst_names.specs.Declarations.{declarations, declares, is_directed}
use Rattle.rst_name_faults.specs.NameRows.{bad_port}
use Rattle.rst_name_faults.specs.Tables.{module_of}
use Rattle.rst_name_faults.proofs.declaring.listed_pass.Given as goal

abbrev pub invariant-loop-name : goal.invariant-loop-name
invariant-loop-name l = first (map bad_port (filter (λ n. not (declares is_directed (declarations (module_of l.facts)) n)) (drop l.name-index l.names))) ≡ first (map bad_port (filter (λ n. not (declares is_directed (declarations (module_of l.facts)) n)) l.names))
