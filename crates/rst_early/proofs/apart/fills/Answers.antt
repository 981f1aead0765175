use Rattle.std.proofs.Common.{◌≡◌, ◌<◌, Bool, List, length, slice_index_or, refl, ap, subst, arith}
use Rattle.std.specs.List.{AllZip}
use Rattle.rst_value.specs.declared.tern.Tern.{Tern}
use Rattle.rst_value.specs.Terns.{StandsFor}
use Rattle.rst_gate.proofs.Zips.{zip_more}
use Rattle.rst_early.proofs.apart.fills.Goals as goal

pub loop-i-preserved : goal.loop-i-preserved
loop-i-preserved c =
    let pattern = c.args.pattern.now in
    let word = c.args.word.now in
    let cubes : c.as_slice-cubes.result.now ≡ pattern = c.as_slice-cubes.ensures in
    let inputs : c.as_slice-inputs.result.now ≡ word = c.as_slice-inputs.ensures in
    let below : c.loop-i.i < length pattern = omega (arith, ap length cubes, c.loop-i-test.true) in
    let same : length pattern ≡ length word = omega (arith, ap length cubes, ap length inputs, c.if-cubes-inputs.false) in
    let cube : c.index-cubes-i.result ≡ slice_index_or pattern c.loop-i.i c.index-cubes-i.result = rw cubes at c.index-cubes-i.is in
    let input : c.index-inputs-i.result ≡ slice_index_or word c.loop-i.i c.index-inputs-i.result = rw inputs at c.index-inputs-i.is in
    zip_more (AllZip StandsFor) pattern word c.loop-i.i c.index-cubes-i.result c.index-inputs-i.result below same c.loop-i.invariant
    (subst (λ (x : List Tern). AllZip StandsFor x (slice_index_or word c.loop-i.i c.index-inputs-i.result)) cube
    (subst (λ (y : List Bool). AllZip StandsFor c.index-cubes-i.result y) input (c.if-not-stands.ensures refl)))
