use Rattle.std.proofs.Common.{◌≡◌, drop}
use Rattle.rst_tree.specs.Statements.{plain_arms}
use Rattle.rst_width.specs.Scopes.{names_of}
use Rattle.rst_typing.specs.Parts.{cut_arms}
use Rattle.rst_typing.proofs.stmts.case_shape.Given as goal

abbrev pub invariant-loop-arm : goal.invariant-loop-arm
invariant-loop-arm l = cut_arms (names_of l.names) l.shape (plain_arms (drop l.arm-index l.arms)) ≡ cut_arms (names_of l.names) l.fn.own (plain_arms l.arms)
