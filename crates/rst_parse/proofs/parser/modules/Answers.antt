use Rattle.std.proofs.Common.{◌≡◌, ◌+◌, ◌≤◌, [], ◌∷◌, length, drop, map, Err, sym, ap, subst, ◌∙◌, arith}
use Rattle.std.proofs.lemmas.List.{map-append}
use Rattle.std.proofs.lemmas.Result.{err_from_is_err_and}
use Rattle.rst_tree.specs.Modules.{plain_module}
use Rattle.rst_parse.specs.Pieces.{pieces}
use Rattle.rst_parse.specs.Parsing.{ReadsPieces}
use Rattle.rst_parse.proofs.PieceSteps.{Front, front_module, front_done, front_fault}
use Rattle.rst_parse.proofs.parser.modules.Goals as goal

pub returns-in_err-module_at-clause-fault : goal.returns-in_err-module_at-clause-fault
returns-in_err-module_at-clause-fault c =
    let p = err_from_is_err_and c.from_residual.result c.from_residual.ensures.1 in
    let piece = c.first_piece-piece.result.now in
    let cut = subst (λ ss. pieces ss ≡ piece ∷ pieces (drop (length piece) ss)) c.split_at.ensures.back c.first_piece-piece.ensures.cut in
    rw (p.1, p.2) (λ some.
    let none = c.in_err-module_at.ensures.none some in
    subst (λ f. ReadsPieces 0 (pieces c.args.symbols.now) (Err f)) (sym none.1)
    (front_fault c.args.symbols.now c.loop-at.at (map plain_module c.loop-at.modules.items) piece c.loop-at.invariant cut none.0))

pub loop-at-preserved : goal.loop-at-preserved
loop-at-preserved c =
    let piece = c.first_piece-piece.result.now in
    let found = plain_module c.in_ok-module_at.field-0 in
    let before = map plain_module c.loop-at.modules.items in
    let cut = subst (λ ss. pieces ss ≡ piece ∷ pieces (drop (length piece) ss)) c.split_at.ensures.back c.first_piece-piece.ensures.cut in
    let within : c.loop-at.at + length piece ≤ length c.args.symbols.now = omega (arith, c.split_at.ensures.back_len, c.first_piece-piece.ensures.within) in
    subst (Front c.args.symbols.now (c.loop-at.at + length piece))
    (sym (ap (map plain_module) c.in_ok-push.ensures.items ∙ map-append plain_module c.loop-at.modules.items (c.in_ok-module_at.field-0 ∷ [])))
    (front_module c.args.symbols.now c.loop-at.at before piece found c.loop-at.invariant cut within c.in_ok-module_at.ensures.found)

pub returns-clause-modules : goal.returns-clause-modules
returns-clause-modules c = front_done c.args.symbols.now c.loop-at.at (map plain_module c.loop-at.modules.items) c.loop-at.invariant c.loop-at-test.false
