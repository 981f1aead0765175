use Rattle.std.proofs.Common.{◌≡◌, ◌∙◌, ◌<◌, length, refl}
use Rattle.std.proofs.lemmas.Bool.{false≢true}
use Rattle.rst_value.specs.Terns.{StandsFor}
use Rattle.rst_gate.proofs.Zips.{zip-get_or, zip_more}
use Rattle.rst_gate.proofs.lists.has.Goals as goal

pub returns-then-not-stands_for : goal.returns-then-not-stands_for
returns-then-not-stands_for c =
    let places : c.as_slice-places.result.now ≡ c.args.cube.now = c.as_slice-places.ensures in
    let here = rw (c.if-not-stands_for.true, places, c.as_slice-values.ensures) at c.stands_for.ensures in
    let below : c.loop-i.i < length c.args.cube.now = rw (← places) c.loop-i-test.true in
    (λ no. absurd (false≢true no), λ zip. here.1 (zip-get_or StandsFor c.args.cube.now c.args.bits.now c.loop-i.i _ _ zip below))

pub loop-i-preserved : goal.loop-i-preserved
loop-i-preserved c =
    let places : c.as_slice-places.result.now ≡ c.args.cube.now = c.as_slice-places.ensures in
    let here = rw (c.if-not-stands_for.false, places, c.as_slice-values.ensures) at c.stands_for.ensures in
    let below : c.loop-i.i < length c.args.cube.now = rw (← places) c.loop-i-test.true in
    zip_more StandsFor c.args.cube.now c.args.bits.now c.loop-i.i _ _ below c.requires c.loop-i.invariant (here.0 refl)
