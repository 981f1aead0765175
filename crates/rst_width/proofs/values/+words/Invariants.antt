use Rattle.std.proofs.Common.{drop}
use Rattle.rst_width.specs.Typed.{plain_all, plain_vec}
use Rattle.rst_width.proofs.Words.{StillJoins}
use Rattle.rst_width.proofs.values.+words.Given as goal

-- what is joined so far, with the parts that are left behind it, is the join of all
abbrev pub invariant-joined_parts-loop-part : goal.invariant-joined_parts-loop-part
invariant-joined_parts-loop-part l = StillJoins (plain_vec l.parts) l.joined (plain_all (drop l.part-index l.part-items))
