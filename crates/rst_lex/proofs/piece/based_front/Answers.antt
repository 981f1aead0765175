use Rattle.std.proofs.Common.{◌≡◌, ◌+◌, ◌-◌, Ok, take, drop, subst, arith}
use Rattle.std.specs.Prelude.{nat_lt}
use Rattle.rst_lex.specs.Pieces.{IsBasedAnswer}
use Rattle.rst_lex.proofs.piece.based_front.Goals as goal

pub returns-in-Ok : goal.returns-in-Ok
returns-in-Ok c =
    let start = c.args.size + c.args.gap + c.args.tail.sign + c.args.tail.space + 2 in
    let count : (start + c.args.tail.digits) - start ≡ c.args.tail.digits = omega arith in
    (omega arith, subst (λ k. IsBasedAnswer (Ok c.in-Ok.literal) (take c.args.size c.args.text.now) (nat_lt 0 c.args.tail.sign) c.args.tail.letter (take k (drop start c.args.text.now))) count c.in-Ok.ensures)
