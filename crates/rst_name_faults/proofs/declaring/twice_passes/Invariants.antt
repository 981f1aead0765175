use Rattle.std.proofs.Common.{◌≡◌, map, take, drop, nat_eq}
use Rattle.std.specs.Option.{option_map}
use Rattle.std.specs.Cmp.Lexicographic.{pointwise}
use Rattle.indexmap.specs.IndexMap.{get}
use Rattle.rst_tree.specs.Trees.{Text}
use Rattle.rst_names.specs.Faults.{first}
use Rattle.rst_names.specs.Declarations.{of_name}
use Rattle.rst_names.specs.Tables.{plain_declaration}
use Rattle.rst_name_faults.specs.NameRows.{twice, twice_behind}
use Rattle.rst_name_faults.specs.Tables.{plain_seen, kept_of, module_of}
use Rattle.rst_name_faults.proofs.declaring.twice_passes.Given as goal

abbrev pub invariant-loop-d : goal.invariant-loop-d
invariant-loop-d l = record {
  table : (q : Text) → option_map plain_seen (get (pointwise nat_eq) l.seen q) ≡ kept_of (of_name q (take l.d-index (map plain_declaration l.facts.declarations.items)));
  left : first (twice_behind (take l.d-index (map plain_declaration l.facts.declarations.items)) (drop l.d-index (map plain_declaration l.facts.declarations.items))) ≡ first (twice (module_of l.facts));
}
