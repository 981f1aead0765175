use Rattle.std.proofs.Common.{◌≡◌, ◌++◌, map, filter, drop}
use Rattle.rst_names.specs.Declarations.{signal_names}
use Rattle.rst_names.specs.Tables.{plain_declaration, plain_declared, signal_by, is_new}
use Rattle.rst_names.proofs.facts.push_inner.Given as goal

abbrev pub invariant-loop-d : goal.invariant-loop-d
invariant-loop-d l = map plain_declared l.made.items ++ map (signal_by l.summaries) (filter (is_new l.port_places) (signal_names (map plain_declaration (drop l.d-index l.declarations)))) ≡ map plain_declared l.fn.made.items ++ map (signal_by l.summaries) (filter (is_new l.port_places) (signal_names (map plain_declaration l.declarations)))
