use Rattle.std.proofs.Common.{◌++◌, arith}
use Rattle.rst_report.specs.Rows.{cycle_rows}
use Rattle.rst_report.proofs.Loops.{cycles_more}
use Rattle.rst_report.proofs.rows.put_rows.Goals as goal

pub loop-number-preserved : goal.loop-number-preserved
loop-number-preserved c =
    cycles_more c.args.mark c.args.ports.now c.args.cycles.now c.loop-number.number c.index-cycles-number.result c.as_slice.result.now c.loop-number.text c.put_row.new.text
    (c.args.text.now ++ cycle_rows c.args.mark c.args.ports.now 0 c.args.cycles.now) (omega arith) c.index-cycles-number.is c.as_slice.ensures
    c.in_ok-put_row.ensures c.loop-number.invariant
