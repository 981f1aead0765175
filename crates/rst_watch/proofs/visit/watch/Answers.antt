use Rattle.std.proofs.Common.{refl, arith, get_or, [], ◌++◌, ◌∷◌}
use Rattle.std.specs.Vec.{with_item}
use Rattle.std.proofs.lemmas.List.Elements.{All-contains}
use Rattle.rst_clause.specs.Literals.{IsLiteral}
use Rattle.rst_clause.specs.Trails.{place_of}
use Rattle.rst_watch.proofs.States.{watching_moved, place_in, clause_of}
use Rattle.rst_watch.proofs.Visiting.{watch_visits, differs}
use Rattle.rst_watch.proofs.visit.watch.Goals as goal

pub returns-clause-watching : goal.returns-clause-watching
returns-clause-watching c =
    let range : IsLiteral c.args.s.now.trail.vars c.args.new =
    All-contains (IsLiteral c.args.s.now.trail.vars) (get_or c.args.s.now.store c.args.i []) c.args.new (clause_of c.args.s.now c.args.i c.requires.watching c.requires.place) c.requires.other.has in
    watching_moved c.args.s.now c.note.new.lists _ c.args.i c.args.lit c.args.other c.args.new c.requires.watching c.requires.place c.requires.pair c.requires.other
    c.in_ok-note.ensures.ok (place_in c.args.s.now c.args.new c.requires.watching range.1) refl

pub returns-clause-visits : goal.returns-clause-visits
returns-clause-visits c =
    watch_visits c.args.s.now c.note.new.lists (with_item c.args.s.now.pairs c.args.i (record { first = c.args.new; second = c.args.other })) c.args.i c.args.lit c.args.other c.args.new (get_or c.args.s.now.lists.items (place_of c.args.new) [] ++ c.args.i ∷ [])
    (differs c.args.s.now.trail.lits c.args.new c.args.lit c.requires.other.not_false c.requires.is_false) c.requires.differ c.in_ok-note.ensures.ok
    (omega (arith, c.requires.watching.pairs, c.requires.place)) refl
