use Rattle.std.proofs.Common.{ne_eqb}
use Rattle.rst_script.proofs.LineFacts.{ends_otherwise, ends_so}
use Rattle.rst_script.proofs.lines.without_return.Goals as goal

pub returns-then-last-eq13 : goal.returns-then-last-eq13
returns-then-last-eq13 c = ends_so c.args.line.now c.in-Some.rest.now c.in-Some.last.now c.in-Some.ensures.cases.0 c.if-last-eq13.true

pub returns-else-last-eq13 : goal.returns-else-last-eq13
returns-else-last-eq13 c = ends_otherwise c.args.line.now c.in-Some.rest.now c.in-Some.last.now c.in-Some.ensures.cases.0 (ne_eqb _ _ c.if-last-eq13.false)
