use Rattle.std.proofs.Common.{◌<◌, length, arith}
use Rattle.rst_script.proofs.LineFacts.{line_cut, line_all}
use Rattle.rst_script.proofs.lines.split_line.Goals as goal

pub returns-then-len-text-clause-found : goal.returns-then-len-text-clause-found
returns-then-len-text-clause-found c = line_cut c.args.text.now _ c.line_len-len.ensures.value (omega arith)

pub returns-else-len-text-clause-found : goal.returns-else-len-text-clause-found
returns-else-len-text-clause-found c =
    let some : 0 < length c.args.text.now = grind arith in
    line_all c.args.text.now _ c.line_len-len.ensures.value some (omega arith) c.line_len-len.ensures.within
