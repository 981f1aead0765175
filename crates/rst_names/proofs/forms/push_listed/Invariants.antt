use Rattle.std.proofs.Common.{◌≡◌, ◌++◌, map, drop}
use Rattle.rst_names.specs.Declarations.{listed}
use Rattle.rst_names.specs.Tables.{plain_declaration}
use Rattle.rst_names.proofs.forms.push_listed.Given as goal

abbrev pub invariant-loop-name : goal.invariant-loop-name
invariant-loop-name l = map plain_declaration l.made.items ++ map listed (drop l.name-index l.names) ≡ map plain_declaration l.fn.made.items ++ map listed l.names
