use Rattle.std.proofs.Common.{◌≡◌, ◌+◌, ◌-◌, map, length, sym, ap, ◌∙◌, arith}
use Rattle.std.proofs.lemmas.Result.{err_from_is_err_and}
use Rattle.rst_grammar.specs.ReadParts.{separated, more_separated}
use Rattle.rst_parse.specs.Separators.{reader_of}
use Rattle.rst_parse.proofs.Turns.{with_front, pushed, begins, begins_not, goes_on, stops, is_done, fails}
use Rattle.rst_parse.proofs.lists.separated.Goals as goal

pub returns-in_err-first : goal.returns-in_err-first
returns-in_err-first g c =
    let p = err_from_is_err_and c.from_residual.result c.from_residual.ensures.1 in
    rw (p.1, p.2) (begins_not c.in_err-first.field-0.0 (reader_of c.args.separator) (g.R.Reader.reader c.args.reader.now) c.args.symbols.now c.in_err-first.ensures)

pub loop-init : goal.loop-init
loop-init g c =
    let next = reader_of c.args.separator in
    let one = g.R.Reader.reader c.args.reader.now in
    let plain = g.R.Reader.plain in
    let n = length c.in_ok-first.rest.now in
    let z : n - 0 ≡ n = omega arith in
    ap (λ k. with_front (map plain c.in_ok-parts.parts.items) (more_separated next one k c.in_ok-parts.rest.now)) z
    ∙ ap (λ ts. with_front (map plain c.in_ok-parts.parts.items) (more_separated next one n ts)) c.in_ok-parts.ensures.behind
    ∙ ap (λ ps. with_front (map plain ps) (more_separated next one n c.in_ok-first.rest.now)) c.in_ok-parts.ensures.parts
    ∙ begins next one (plain c.in_ok-first.first) c.args.symbols.now c.in_ok-first.rest.now c.in_ok-first.ensures

pub returns-in_default : goal.returns-in_default
returns-in_default g c =
    let k = length c.in_ok-first.rest.now - c.loop.counter in
    stops (reader_of c.args.separator) (g.R.Reader.reader c.args.reader.now) k (map g.R.Reader.plain c.loop.parts.items) c.loop.rest.now _ (sym c.in_default.ensures) c.loop.invariant

pub returns-in_err-next : goal.returns-in_err-next
returns-in_err-next g c =
    let n = length c.in_ok-first.rest.now in
    let next = reader_of c.args.separator in
    let one = g.R.Reader.reader c.args.reader.now in
    let p = err_from_is_err_and c.from_residual-in_err-next.result c.from_residual-in_err-next.ensures.1 in
    rw (p.1, p.2) (fails c.in_err-next.field-0.0 next one (n - c.loop.counter) (n - (c.loop.counter + 1)) (map g.R.Reader.plain c.loop.parts.items) c.loop.rest.now c.in-Some.after.now (separated next one c.args.symbols.now) (omega arith) (sym c.in-Some.ensures) c.in_err-next.ensures c.loop.invariant)

pub loop-preserved : goal.loop-preserved
loop-preserved g c =
    let n = length c.in_ok-first.rest.now in
    let next = reader_of c.args.separator in
    let one = g.R.Reader.reader c.args.reader.now in
    let plain = g.R.Reader.plain in
    let j = n - (c.loop.counter + 1) in
    let longer = pushed plain c.loop.parts.items c.push.new.self.items c.in_ok-next.next c.in_ok-push.ensures.items in
    goes_on next one (n - c.loop.counter) j (map plain c.loop.parts.items) (map plain c.push.new.self.items) (plain c.in_ok-next.next) c.loop.rest.now c.in-Some.after.now c.in_ok-next.after.now (separated next one c.args.symbols.now) (omega arith) longer (sym c.in-Some.ensures) c.in_ok-next.ensures c.loop.invariant

pub returns : goal.returns
returns g c =
    let k = length c.in_ok-first.rest.now - c.loop.counter in
    is_done (reader_of c.args.separator) (g.R.Reader.reader c.args.reader.now) k (map g.R.Reader.plain c.loop.parts.items) c.loop.rest.now _ (omega arith) c.loop.invariant
