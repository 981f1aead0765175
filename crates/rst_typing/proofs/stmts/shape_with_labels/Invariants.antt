use Rattle.std.proofs.Common.{◌≡◌, drop}
use Rattle.rst_tree.specs.Trees.{plain_all}
use Rattle.rst_width.specs.Scopes.{names_of}
use Rattle.rst_typing.specs.Parts.{cut_labels}
use Rattle.rst_typing.proofs.stmts.shape_with_labels.Given as goal

abbrev pub invariant-loop-label : goal.invariant-loop-label
invariant-loop-label l = cut_labels (names_of l.names) l.shape (plain_all (drop l.label-index l.labels)) ≡ cut_labels (names_of l.names) l.fn.own (plain_all l.labels)
