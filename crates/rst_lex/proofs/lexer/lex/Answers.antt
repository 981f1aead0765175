use Rattle.std.proofs.Common.{subst, sym, ◌+◌, ◌<◌, Err, length, IfSome}
use Rattle.rst_lex.specs.Lexing.{Reads}
use Rattle.rst_lex.proofs.LexLoop.{Front, piece_says, front_gap, front_token, front_done, front_fault, in_order, kinds_in}
use Rattle.rst_lex.specs.declared.piece.Piece.TheVariants as pieces
use Rattle.rst_lex.proofs.lexer.lex.Goals as goal

pub loop-at-preserved-in-Gap : goal.loop-at-preserved-in-Gap
loop-at-preserved-in-Gap c =
    front_gap c.args.text.now c.loop-at.at c.in-Gap.len c.loop-at.tokens.items c.loop-at-test.true c.loop-at.invariant (piece_says c.args.text.now c.loop-at.at (pieces.Gap c.in-Gap.len) c.loop-at-test.true c.in-Gap.ensures)

pub loop-at-preserved : goal.loop-at-preserved
loop-at-preserved c =
    subst (Front c.args.text.now (c.loop-at.at + c.in-Token.len)) (sym c.in_ok-push-in-Token.ensures.items)
    (front_token c.args.text.now c.loop-at.at c.in-Token.len c.in-Token.kind c.loop-at.tokens.items c.loop-at-test.true c.loop-at.invariant
    (piece_says c.args.text.now c.loop-at.at (pieces.Token c.in-Token.kind c.in-Token.len) c.loop-at-test.true c.in-Token.ensures))

pub returns-clause-tokens : goal.returns-clause-tokens
returns-clause-tokens c = front_done c.args.text.now c.loop-at.at c.loop-at.tokens.items c.loop-at-test.false c.loop-at.invariant

pub returns-clause-order : goal.returns-clause-order
returns-clause-order c = in_order c.args.text.now c.loop-at.tokens.items (front_done c.args.text.now c.loop-at.at c.loop-at.tokens.items c.loop-at-test.false c.loop-at.invariant)

pub returns-clause-kinds : goal.returns-clause-kinds
returns-clause-kinds c = kinds_in c.args.text.now c.loop-at.tokens.items (front_done c.args.text.now c.loop-at.at c.loop-at.tokens.items c.loop-at-test.false c.loop-at.invariant)

pub returns-in-Fault-clause-fault : goal.returns-in-Fault-clause-fault
returns-in-Fault-clause-fault c = λ some.
    subst (λ f. Reads c.args.text.now (Err f)) (sym c.fault_at.ensures.value)
    (front_fault c.args.text.now c.loop-at.at c.loop-at.tokens.items c.in-Fault.cause c.loop-at-test.true c.loop-at.invariant (piece_says c.args.text.now c.loop-at.at (pieces.Fault c.in-Fault.cause) c.loop-at-test.true c.in-Fault.ensures))

pub returns-in-Fault-clause-place : goal.returns-in-Fault-clause-place
returns-in-Fault-clause-place c = subst (λ o. IfSome o (λ at. at < length c.args.text.now)) (sym c.fault_at.ensures.place) c.loop-at-test.true
