use Rattle.std.proofs.Common.{◌≡◌, drop}
use Rattle.rst_tree.specs.Statements as tree
use Rattle.rst_width.specs.Scopes.{names_of}
use Rattle.rst_net.specs.Statements.{plain_stmts}
use Rattle.rst_typing.specs.Typing.{typed_stmts, stmts_faults}
use Rattle.rst_typing.specs.Parts.{Left, joined}
use Rattle.rst_typing.proofs.stmts.+typed_stmts.Given as goal

-- the statements so far, and those that are left
abbrev pub invariant-typed_block-loop-part : goal.invariant-typed_block-loop-part
invariant-typed_block-loop-part l = record {
  made : joined (plain_stmts l.made.items) (typed_stmts (names_of l.names) (tree.plain_stmts (drop l.part-index l.parts))) ≡ typed_stmts (names_of l.names) (tree.plain_stmts l.parts);
  faults : stmts_faults (names_of l.names) (tree.plain_stmts (drop l.part-index l.parts)) ≡ stmts_faults (names_of l.names) (tree.plain_stmts l.parts);
}

-- the arms so far, and those that are left
abbrev pub invariant-typed_arms-loop-arm : goal.invariant-typed_arms-loop-arm
invariant-typed_arms-loop-arm l = Left (names_of l.names) l.shape l.made (tree.plain_arms (drop l.arm-index l.arms)) (tree.plain_arms l.arms)
