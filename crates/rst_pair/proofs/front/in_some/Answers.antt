use Rattle.std.proofs.Common.{◌∙◌, inl, inr, [], length, ap, sym, subst}
use Rattle.std.proofs.lemmas.Bool.{false≢true}
use Rattle.std.specs.Prelude.{slice_index_or}
use Rattle.std.specs.List.{AllZip}
use Rattle.rst_value.specs.Terns.{StandsFor}
use Rattle.rst_pair.specs.Hops.{cubes_of}
use Rattle.rst_pair.proofs.Loops.{cube_wide, cube_read, last_or_before}
use Rattle.rst_pair.proofs.front.in_some.Goals as goal

pub holds-requires : goal.holds-requires
holds-requires c =
    ap length c.as_slice.ensures
    ∙ cube_wide c.args.hops.now (length c.args.both.now) c.loop-hop.hop-index c.hop-item.result c.requires c.loop-hop-test.true c.hop-item.is

pub loop-hop-preserved : goal.loop-hop-preserved
loop-hop-preserved c = λ j below zip.
    elim (last_or_before j c.loop-hop.hop-index below) [
      | inl before ↦ c.loop-hop.invariant j before zip
      | inr here ↦
          let read = cube_read c.args.hops.now c.loop-hop.hop-index c.hop-item.result [] c.loop-hop-test.true c.hop-item.is in
          let at : AllZip StandsFor (slice_index_or (cubes_of c.args.hops.now) c.loop-hop.hop-index []) c.args.both.now =
          subst (λ k. AllZip StandsFor (slice_index_or (cubes_of c.args.hops.now) k []) c.args.both.now) here zip in
          let no = rw c.if-holds.false at c.holds.ensures in
          false≢true
          (no.1 (subst (λ cube. AllZip StandsFor cube c.args.both.now) (sym c.as_slice.ensures) (subst (λ cube. AllZip StandsFor cube c.args.both.now) read at)))
    ]
