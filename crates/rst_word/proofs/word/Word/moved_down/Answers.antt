use Rattle.std.proofs.Common.{◌≡◌, ◌-◌, arith, ap, ◌∙◌, zero-add}
use Rattle.rst_word.proofs.Powers.{moved_away, moved_down_fits, pow_rises}
use Rattle.rst_word.proofs.word.Word.moved_down.Goals as goal

pub overflow_add-self : goal.overflow_add-self
overflow_add-self c =
    let below = moved_down_fits c.args.fill c.args.self.value c.args.places c.args.self.width c.if-places-self.true c.args.self.fits in
    let top = pow_rises c.args.self.width 64 c.args.self.at_most_64 in
    omega (arith, below, top, c.ones.ensures)

pub with_value-requires : goal.with_value-requires
with_value-requires c = rw c.ones.ensures (moved_down_fits c.args.fill c.args.self.value c.args.places c.args.self.width c.if-places-self.true c.args.self.fits)

pub returns-else-places-self : goal.returns-else-places-self
returns-else-places-self c =
    let none = moved_away c.args.self.value c.args.places c.args.self.width c.if-places-self.false c.args.self.fits in
    let from : c.args.self.width - c.args.places ≡ 0 = omega (arith, c.if-places-self.false) in
    rw (none, from, zero-add _) (c.with_value-else-places-self.ensures ∙ ap (λ n. record { width = c.args.self.width; signed = c.args.self.signed; value = n }) c.ones-else-places-self.ensures)
