use Rattle.std.proofs.Common.{◌∙◌, inl, inr, [], length, ap, sym, subst, arith}
use Rattle.std.proofs.lemmas.Bool.{false≢true}
use Rattle.std.specs.List.{AllZip}
use Rattle.rst_value.specs.Terns.{StandsFor}
use Rattle.rst_pair.specs.Hops.{cube_at}
use Rattle.rst_pair.proofs.Loops.{cube_wide, cube_read}
use Rattle.rst_pair.proofs.Loops.{last_or_before}
use Rattle.rst_landing.proofs.model.first_holding.Goals as goal

pub has-requires : goal.has-requires
has-requires c =
    ap (λ hop. length hop.cube) (sym c.index-hops-i.is)
    ∙ cube_wide c.args.hops.now (length c.args.both.now) c.loop-i.i c.index-hops-i.result c.requires.wide (omega arith) c.index-hops-i.is

pub loop-i-preserved : goal.loop-i-preserved
loop-i-preserved c = λ j below zip.
    elim (last_or_before j c.loop-i.i below) [
      | inl before ↦ c.loop-i.invariant j before zip
      | inr here ↦
          let read = cube_read c.args.hops.now c.loop-i.i c.index-hops-i.result [] (omega arith) c.index-hops-i.is ∙ ap (λ hop. hop.cube) c.index-hops-i.is in
          let at : AllZip StandsFor (cube_at c.args.hops.now c.loop-i.i) c.args.both.now =
          subst (λ k. AllZip StandsFor (cube_at c.args.hops.now k) c.args.both.now) here zip in
          let no = rw c.if-has.false at c.has.ensures in
          false≢true (no.1 (subst (λ cube. AllZip StandsFor cube c.args.both.now) read at))
    ]
