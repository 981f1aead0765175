use Rattle.std.proofs.Common.{map, length, Ok, Err, ap, subst, arith}
use Rattle.std.proofs.lemmas.Result.{err_from_is_err_and}
use Rattle.rst_lex.proofs.LexLoop.{in_order, kinds_in}
use Rattle.rst_tree.specs.Modules.{plain_module}
use Rattle.rst_parse.specs.Pieces.{pieces}
use Rattle.rst_parse.specs.Parsing.{ReadsPieces, refused, read}
use Rattle.rst_parse.proofs.SymbolSteps.{few_tokens, symbol_count}
use Rattle.rst_parse.proofs.OneAnswer.{one_answer, only_fault}
use Rattle.rst_parse.proofs.Settled.{answered_place, well_formed}
use Rattle.rst_parse.proofs.parser.parse.Goals as goal

pub symbols-requires-clause-short : goal.symbols-requires-clause-short
symbols-requires-clause-short c =
    let few = few_tokens (length c.args.text.now) c.args.tokens.now 0 (in_order c.args.text.now c.args.tokens.now c.requires.read) in
    omega (arith, few, c.requires.short)

pub symbols-requires-clause-order : goal.symbols-requires-clause-order
symbols-requires-clause-order c = in_order c.args.text.now c.args.tokens.now c.requires.read

pub symbols-requires-clause-kinds : goal.symbols-requires-clause-kinds
symbols-requires-clause-kinds c = kinds_in c.args.text.now c.args.tokens.now c.requires.read

pub returns-in_err-symbols-clause-fault : goal.returns-in_err-symbols-clause-fault
returns-in_err-symbols-clause-fault c =
    let p = err_from_is_err_and c.from_residual.result c.from_residual.ensures.1 in
    rw (p.1, p.2) (λ some.
    let first = c.in_err-symbols.ensures.refused some in
    refused first.0 first.1 (ap (λ f. Err f) first.2))

pub modules-requires : goal.modules-requires
modules-requires c =
    let few = few_tokens (length c.args.text.now) c.args.tokens.now 0 (in_order c.args.text.now c.args.tokens.now c.requires.read) in
    let count = symbol_count c.args.text.now c.args.tokens.now c.in_ok-symbols.symbols.items c.in_ok-symbols.ensures.symbols in
    omega (arith, few, count, ap length c.deref.ensures.value, c.requires.short)

pub returns-in_err-modules-clause-fault : goal.returns-in_err-modules-clause-fault
returns-in_err-modules-clause-fault c =
    let p = err_from_is_err_and c.from_residual-in_err-modules.result c.from_residual-in_err-modules.ensures.1 in
    rw (p.1, p.2) (λ some.
    read c.in_ok-symbols.symbols.items c.in_ok-symbols.ensures.supported c.in_ok-symbols.ensures.symbols
    (subst (λ ss. ReadsPieces 0 (pieces ss) (Err c.in_err-modules.field-0.0)) c.deref.ensures.value (c.in_err-modules.ensures.fault some)))

pub returns-in_err-modules-clause-only : goal.returns-in_err-modules-clause-only
returns-in_err-modules-clause-only c =
    let p = err_from_is_err_and c.from_residual-in_err-modules.result c.from_residual-in_err-modules.ensures.1 in
    rw (p.1, p.2) (only_fault c.args.text.now c.args.tokens.now c.in_err-modules.field-0.0 (λ some.
    read c.in_ok-symbols.symbols.items c.in_ok-symbols.ensures.supported c.in_ok-symbols.ensures.symbols
    (subst (λ ss. ReadsPieces 0 (pieces ss) (Err c.in_err-modules.field-0.0)) c.deref.ensures.value (c.in_err-modules.ensures.fault some))))

pub returns-in_err-symbols-clause-place : goal.returns-in_err-symbols-clause-place
returns-in_err-symbols-clause-place c =
    let p = err_from_is_err_and c.from_residual.result c.from_residual.ensures.1 in
    rw (p.1, p.2) (answered_place c.args.text.now c.args.tokens.now c.in_err-symbols.field-0.0 (λ some.
    let first = c.in_err-symbols.ensures.refused some in
    refused first.0 first.1 (ap (λ f. Err f) first.2)))

pub returns-in_err-modules-clause-place : goal.returns-in_err-modules-clause-place
returns-in_err-modules-clause-place c =
    let p = err_from_is_err_and c.from_residual-in_err-modules.result c.from_residual-in_err-modules.ensures.1 in
    rw (p.1, p.2) (answered_place c.args.text.now c.args.tokens.now c.in_err-modules.field-0.0 (λ some.
    read c.in_ok-symbols.symbols.items c.in_ok-symbols.ensures.supported c.in_ok-symbols.ensures.symbols
    (subst (λ ss. ReadsPieces 0 (pieces ss) (Err c.in_err-modules.field-0.0)) c.deref.ensures.value (c.in_err-modules.ensures.fault some))))

pub returns-clause-formed : goal.returns-clause-formed
returns-clause-formed c =
    let few = few_tokens (length c.args.text.now) c.args.tokens.now 0 (in_order c.args.text.now c.args.tokens.now c.requires.read) in
    well_formed c.args.text.now c.args.tokens.now (map plain_module c.in_ok-modules.modules.items) (omega (arith, few, c.requires.short))
    (read c.in_ok-symbols.symbols.items c.in_ok-symbols.ensures.supported c.in_ok-symbols.ensures.symbols
    (subst (λ ss. ReadsPieces 0 (pieces ss) (Ok (map plain_module c.in_ok-modules.modules.items))) c.deref.ensures.value c.in_ok-modules.ensures.modules))

pub returns-clause-source : goal.returns-clause-source
returns-clause-source c =
    read c.in_ok-symbols.symbols.items c.in_ok-symbols.ensures.supported c.in_ok-symbols.ensures.symbols
    (subst (λ ss. ReadsPieces 0 (pieces ss) (Ok (map plain_module c.in_ok-modules.modules.items))) c.deref.ensures.value c.in_ok-modules.ensures.modules)

pub returns-clause-only : goal.returns-clause-only
returns-clause-only c = λ answer parses some.
    one_answer c.args.text.now c.args.tokens.now (Ok (map plain_module c.in_ok-modules.modules.items)) answer
    (read c.in_ok-symbols.symbols.items c.in_ok-symbols.ensures.supported c.in_ok-symbols.ensures.symbols
    (subst (λ ss. ReadsPieces 0 (pieces ss) (Ok (map plain_module c.in_ok-modules.modules.items))) c.deref.ensures.value c.in_ok-modules.ensures.modules)) parses
