use Rattle.std.proofs.Common.{◌∙◌, sym, arith}
use Rattle.rst_blocks.specs.Plain.{has}
use Rattle.rst_blocks.proofs.Unknowns.{first_unknown-passed}
use Rattle.rst_blocks.proofs.rows.first_unknown.Goals as goal

pub loop-slice-preserved : goal.loop-slice-preserved
loop-slice-preserved c =
    first_unknown-passed (has c.args.known.now) c.args.slices.now c.loop-slice.slice-index _ (omega arith) (sym c.is_in.ensures ∙ c.if-not-is_in.false) ∙ c.loop-slice.invariant
