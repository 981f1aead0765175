use Rattle.std.proofs.Common.{arith, ◌≡◌, ◌<◌, ◌∙◌, ap, length, subst, take, get_or, []}
use Rattle.std.specs.List.{Contains}
use Rattle.std.proofs.Math.Seq.{take-length}
use Rattle.rst_clause.specs.Trails.{place_of}
use Rattle.rst_clause.specs.Occurrences.{IsNotedTo}
use Rattle.rst_clause.proofs.Noting.{keeps_join, noted_more}
use Rattle.rst_clause.proofs.indexed.note_all.Goals as goal

pub loop-i-preserved : goal.loop-i-preserved
loop-i-preserved c =
    let lt : c.loop-i.i < length c.args.clause.now = omega arith in
    let here : Contains (get_or c.note.new.lists.items (place_of c.index-clause-i.result) []) c.args.number =
    subst (λ p. Contains (get_or c.note.new.lists.items p []) c.args.number) c.place_of.ensures.value c.in_ok-note.ensures.noted in (
      keeps_join c.args.lists.now.items c.loop-i.lists.items c.note.new.lists.items c.loop-i.invariant.0 c.in_ok-note.ensures.kept,
      noted_more c.loop-i.lists.items c.note.new.lists.items c.args.clause.now c.loop-i.i c.args.number c.index-clause-i.result lt c.index-clause-i.is
          c.in_ok-note.ensures.kept here c.loop-i.invariant.1,
    )

pub returns-clause-noted : goal.returns-clause-noted
returns-clause-noted c =
    let at_end : c.loop-i.i ≡ length c.args.clause.now = omega arith in
    subst (λ z. IsNotedTo c.loop-i.lists.items z c.args.number) (ap (λ n. take n c.args.clause.now) at_end ∙ take-length c.args.clause.now) c.loop-i.invariant.1
