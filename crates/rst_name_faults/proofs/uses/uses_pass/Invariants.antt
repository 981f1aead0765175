use Rattle.std.proofs.Common.{◌≡◌, ◌+◌, map, drop}
use Rattle.std.specs.List.{flat_map, enumerate_from}
use Rattle.rst_tree.specs.Modules.{plain_item}
use Rattle.rst_names.specs.Faults.{first}
use Rattle.rst_names.specs.Declarations.{declarations}
use Rattle.rst_name_faults.specs.NameRows.{no_names_in}
use Rattle.rst_name_faults.specs.Tables.{module_of}
use Rattle.rst_name_faults.proofs.uses.uses_pass.Given as goal

abbrev pub invariant-loop-place : goal.invariant-loop-place
invariant-loop-place l = first (flat_map (no_names_in (declarations (module_of l.facts))) (enumerate_from (l.place + 1) (map plain_item (drop l.place l.facts.«module».now.items.items)))) ≡ first (flat_map (no_names_in (declarations (module_of l.facts))) (enumerate_from 1 (module_of l.facts).items))
