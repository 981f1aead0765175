use Rattle.std.proofs.Common.{◌∙◌, ℕ, List, [], length, inl, inr, ap, sym, subst, arith}
use Rattle.std.proofs.lemmas.Bool.{false≢true}
use Rattle.std.specs.List.{AllZip}
use Rattle.rst_value.specs.declared.tern.Tern.{Tern}
use Rattle.rst_value.specs.Terns.{StandsFor}
use Rattle.rst_pair.specs.declared.hop.Hop.{Hop}
use Rattle.rst_pair.specs.Hops.{cube_at}
use Rattle.rst_pair.proofs.Loops.{cube_wide, cube_read}
use Rattle.rst_pair.proofs.Loops.{last_or_before}
use Rattle.rst_pairinv.proofs.hops.first_with.Goals as goal

pub has-requires : goal.has-requires
has-requires c =
    ap (λ (h : Hop). length h.cube) (sym c.index-hops-i.is)
    ∙ cube_wide c.args.hops.now (length c.args.both.now) c.loop-i.i c.index-hops-i.result c.requires.wide (omega arith) c.index-hops-i.is

pub loop-i-preserved : goal.loop-i-preserved
loop-i-preserved c = λ j below zip.
    elim (last_or_before j c.loop-i.i below) [
      | inl before ↦ c.loop-i.invariant j before zip
      | inr here ↦
          let read = cube_read c.args.hops.now c.loop-i.i c.index-hops-i.result [] (omega arith) c.index-hops-i.is in
          let at : AllZip StandsFor (cube_at c.args.hops.now c.loop-i.i) c.args.both.now =
          subst (λ (k : ℕ). AllZip StandsFor (cube_at c.args.hops.now k) c.args.both.now) here zip in
          let no = rw c.if-has.false at c.has.ensures in
          false≢true
          (no.1
          (subst (λ (cube : List Tern). AllZip StandsFor cube c.args.both.now) (read ∙ ap (λ (h : Hop). h.cube) c.index-hops-i.is) at))
    ]
