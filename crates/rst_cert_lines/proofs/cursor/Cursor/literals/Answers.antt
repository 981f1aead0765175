use Rattle.std.proofs.Common.{◌+◌, ◌-◌, ◌<◌, length, sym, ap, ◌∙◌, arith}
use Rattle.rst_cert_lines.specs.Reading.{literals_with, literals_behind}
use Rattle.rst_cert_lines.proofs.Fronts.{literals_go}
use Rattle.rst_cert_lines.proofs.cursor.Cursor.literals.Goals as goal

pub loop-preserved : goal.loop-preserved
loop-preserved c =
    let read = rw c.in-Some.is at c.in_ok-next_literal.ensures in
    let most = length c.self.inside.rest.now in
    let under : c.loop.counter < length c.self.inside.rest.now = omega arith in
    let go = literals_go most c.loop.counter c.loop.clause c.loop.self under in
    rw c.in_ok-push-in-Some.ensures.ok
    (sym (ap (literals_with (literals_behind (most - (c.loop.counter + 1))) c.loop.clause) read) ∙ sym go ∙ c.loop.invariant)
