use Rattle.std.proofs.Common.{◌≡◌, ◌∙◌, refl, sym, ap, arith}
use Rattle.rst_width.specs.Typed.{plain_all, plain_vec}
use Rattle.rst_width.proofs.Rows.{plain_row-hidden}
use Rattle.rst_width.proofs.values.+words.Goals as goal

pub joined_parts-loop-part-init : goal.joined_parts-loop-part-init
joined_parts-loop-part-init t c =
    let e : plain_all c.deref-part-items.result.now ≡ plain_vec c.args.parts.now = ap plain_all c.deref-part-items.ensures.value ∙ sym (plain_row-hidden c.args.parts.now) in
    rw e (record { same = refl; width = omega arith; fit = c.requires.fit })
