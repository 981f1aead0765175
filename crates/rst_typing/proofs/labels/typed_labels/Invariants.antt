use Rattle.std.proofs.Common.{◌≡◌, ◌++◌, map, drop}
use Rattle.std.specs.List.{All}
use Rattle.rst_tree.specs.Trees.{plain_all}
use Rattle.rst_width.specs.Scopes.{names_of}
use Rattle.rst_width.specs.Typed.{plain_typed}
use Rattle.rst_width.specs.Fit.{IsFit}
use Rattle.rst_net.specs.Statements.{plain_label}
use Rattle.rst_typing.specs.Typing.{typed_labels, label_faults}
use Rattle.rst_typing.proofs.labels.typed_labels.Given as goal

-- the labels so far, and those that are left
abbrev pub invariant-loop-label : goal.invariant-loop-label
invariant-loop-label l = record {
  made : map plain_label l.made.items ++ typed_labels (names_of l.names) l.shape (plain_all (drop l.label-index l.labels)) ≡ typed_labels (names_of l.names) l.shape (plain_all l.labels);
  fit : All (λ t. IsFit (plain_typed t.value.value)) l.made.items;
  faults : label_faults (names_of l.names) l.shape (plain_all (drop l.label-index l.labels)) ≡ label_faults (names_of l.names) l.shape (plain_all l.labels);
}
