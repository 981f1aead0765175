use Rattle.std.proofs.Common.{refl}
use Rattle.std.proofs.lemmas.Bool.{false≢true}
use Rattle.rst_value.specs.Terns.{StandsFor}
use Rattle.rst_gate.proofs.Zips.{zip-get_or, zip_more}
use Rattle.rst_pair.proofs.places.holds.Goals as goal

pub returns-then-not-stands : goal.returns-then-not-stands
returns-then-not-stands c =
    let here = rw c.if-not-stands.true at c.stands.ensures in
    (λ no. absurd (false≢true no), λ zip. here.1 (zip-get_or StandsFor c.args.xs.now c.args.bits.now c.loop-i.i _ _ zip c.loop-i-test.true))

pub loop-i-preserved : goal.loop-i-preserved
loop-i-preserved c =
    let here = rw c.if-not-stands.false at c.stands.ensures in
    zip_more StandsFor c.args.xs.now c.args.bits.now c.loop-i.i _ _ c.loop-i-test.true c.requires c.loop-i.invariant (here.0 refl)
