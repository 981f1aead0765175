use Rattle.std.proofs.Common.{◌≡◌, ◌∙◌, sym, ap}
use Rattle.rst_width.specs.Typed.{plain_all, plain_vec, plain_typed}
use Rattle.rst_width.proofs.Rows.{plain_row-hidden}
use Rattle.rst_lower.proofs.Stands.{result_stands, result_width}
use Rattle.rst_lower.proofs.Lists.{parts_begin}
use Rattle.rst_lower.specs.WireWords.{word_of, widths_of}
use Rattle.rst_lower.proofs.expressions.+expressions.Goals as goal

pub expression-returns-clause-stand : goal.expression-returns-clause-stand
expression-returns-clause-stand t c =
    result_stands c.place.result c.args.gates.now c.place.new.gates c.args.wires.now (plain_typed c.args.expr.now)
    c.place.ensures.gates c.place.ensures.bits c.place.ensures.grows c.requires.stand

pub expression-returns-clause-width : goal.expression-returns-clause-width
expression-returns-clause-width t c =
    result_width c.place.result c.args.gates.now c.args.wires.now (plain_typed c.args.expr.now) c.requires.fit c.requires.inside c.place.ensures.bits

pub list-loop-part-init : goal.list-loop-part-init
list-loop-part-init t c =
    let e : plain_all c.deref-part-items.result.now ≡ plain_vec c.args.parts.now = ap plain_all c.deref-part-items.ensures.value ∙ sym (plain_row-hidden c.args.parts.now) in
    rw (e, c.new-bits.ensures.items) (parts_begin (word_of c.args.wires.now) (widths_of c.args.wires.now) c.args.gates.now (plain_vec c.args.parts.now) c.requires.fit c.requires.inside)
