use Rattle.std.proofs.Common.{subst, sym}
use Rattle.rst_lex.specs.Words.{IsIdentifier}
use Rattle.rst_lex.specs.declared.front.Front.TheVariants as fronts
use Rattle.rst_lex.proofs.LexFronts.{Says, says}
use Rattle.rst_lex.proofs.LexPieces.{front_within, word_piece, system_piece, mark_piece, decimal_piece, based_within, based_piece}
use Rattle.rst_lex.specs.Numbers.{IsDecimal}
use Rattle.rst_lex.specs.declared.piece.Piece.TheVariants as pieces
use Rattle.rst_lex.specs.Pieces.{IsPiece}
use Rattle.rst_lex.proofs.piece.text_piece.Goals as goal

pub returns-in-Gap : goal.returns-in-Gap
returns-in-Gap c = let s : Says (fronts.Gap c.in-Gap.len) c.args.text.now = subst (λ f. Says f c.args.text.now) (sym c.in-Gap.ensures) (says c.args.text.now c.requires.some) in s

pub returns-in-Word : goal.returns-in-Word
returns-in-Word c = let s : Says (fronts.Word c.in-Word.len) c.args.text.now = subst (λ f. Says f c.args.text.now) (sym c.in-Word.ensures) (says c.args.text.now c.requires.some) in subst (λ k. IsPiece (pieces.Token k c.in-Word.len) c.args.text.now) (sym c.word_kind.ensures) (word_piece c.args.text.now c.in-Word.len s)

pub returns-in-System : goal.returns-in-System
returns-in-System c = let s : Says (fronts.System c.in-System.len) c.args.text.now = subst (λ f. Says f c.args.text.now) (sym c.in-System.ensures) (says c.args.text.now c.requires.some) in system_piece c.args.text.now c.in-System.len s

pub returns-in-Decimal : goal.returns-in-Decimal
returns-in-Decimal c = let s : Says (fronts.Decimal c.in-Decimal.len) c.args.text.now = subst (λ f. Says f c.args.text.now) (sym c.in-Decimal.ensures) (says c.args.text.now c.requires.some) in decimal_piece c.args.text.now c.in-Decimal.len c.plain_front.result s c.plain_front.ensures

pub returns-in-Based : goal.returns-in-Based
returns-in-Based c = let s : Says (fronts.Based c.in-Based.size c.in-Based.gap c.in-Based.tail) c.args.text.now = subst (λ f. Says f c.args.text.now) (sym c.in-Based.ensures) (says c.args.text.now c.requires.some) in based_piece c.args.text.now c.in-Based.size c.in-Based.gap c.in-Based.tail c.based_front.result s c.based_front.ensures

pub returns-in-Mark : goal.returns-in-Mark
returns-in-Mark c = let s : Says (fronts.Mark c.in-Mark.len) c.args.text.now = subst (λ f. Says f c.args.text.now) (sym c.in-Mark.ensures) (says c.args.text.now c.requires.some) in mark_piece c.args.text.now c.in-Mark.len s

pub returns-in-Fault : goal.returns-in-Fault
returns-in-Fault c = let s : Says (fronts.Fault c.in-Fault.cause) c.args.text.now = subst (λ f. Says f c.args.text.now) (sym c.in-Fault.ensures) (says c.args.text.now c.requires.some) in s

pub word_kind-requires : goal.word_kind-requires
word_kind-requires c = let s : Says (fronts.Word c.in-Word.len) c.args.text.now = subst (λ f. Says f c.args.text.now) (sym c.in-Word.ensures) (says c.args.text.now c.requires.some) in front_within IsIdentifier c.in-Word.len c.args.text.now s

pub plain_front-requires : goal.plain_front-requires
plain_front-requires c = let s : Says (fronts.Decimal c.in-Decimal.len) c.args.text.now = subst (λ f. Says f c.args.text.now) (sym c.in-Decimal.ensures) (says c.args.text.now c.requires.some) in front_within IsDecimal c.in-Decimal.len c.args.text.now s

pub based_front-requires-clause-parts : goal.based_front-requires-clause-parts
based_front-requires-clause-parts c = let s : Says (fronts.Based c.in-Based.size c.in-Based.gap c.in-Based.tail) c.args.text.now = subst (λ f. Says f c.args.text.now) (sym c.in-Based.ensures) (says c.args.text.now c.requires.some) in based_within c.args.text.now c.in-Based.size c.in-Based.gap c.in-Based.tail s
