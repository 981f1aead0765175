use Rattle.std.proofs.Common.{◌≡◌, ◌∙◌, ◌<◌, ◌≤◌, ap, subst, sym, get_or, [], set, length, unsigned_abs, ℕ, List}
use Rattle.std.specs.Vec.{with_item}
use Rattle.rst_clause.specs.Trails.{place_of}
use Rattle.rst_watch.specs.Watching.{Visits}
use Rattle.rst_watch.specs.declared.visit.Visited.{Visited}
use Rattle.rst_watch.specs.declared.visit.Visited.TheVariants.{Moved}
use Rattle.rst_watch.proofs.States.{place_in}
use Rattle.rst_watch.proofs.Visiting.{IsRemoved, visiting_start, visiting_kept, visiting_moved, grows_join, grown_stands, list_at}
use Rattle.rst_watch.proofs.visit.visit.Goals as goal

pub visiting-init : goal.visiting-init
visiting-init c = visiting_start c.args.s.now c.args.lit c.requires.watching

pub visit_number-requires-clause-is_false : goal.visit_number-requires-clause-is_false
visit_number-requires-clause-is_false c = grown_stands c.args.s.now.store c.args.s.now.trail c.visiting.s.trail _ c.visiting.invariant.grows c.requires.is_false

pub returns-in_err-visit_number-clause-grows : goal.returns-in_err-visit_number-clause-grows
returns-in_err-visit_number-clause-grows c =
    grows_join c.args.s.now c.visiting.s c.visit_number.new.s c.visiting.invariant.same c.visiting.invariant.grows c.visit_number.ensures.grows

pub returns-in-False-clause-grows : goal.returns-in-False-clause-grows
returns-in-False-clause-grows c =
    grows_join c.args.s.now c.visiting.s c.visit_number.new.s c.visiting.invariant.same c.visiting.invariant.grows c.visit_number.ensures.grows

pub visiting-preserved-in-Kept : goal.visiting-preserved-in-Kept
visiting-preserved-in-Kept c =
    let range : unsigned_abs c.args.lit ≤ c.visiting.s.trail.vars = subst (λ n. unsigned_abs c.args.lit ≤ n) (sym c.visiting.invariant.same.vars) c.requires.in_range.1 in
    let in' : place_of c.args.lit < length c.visiting.s.lists.items = place_in c.visiting.s c.args.lit c.visiting.invariant.watching range in
    let list : c.index-in-visiting.result.now ≡ get_or c.visiting.s.lists.items (place_of c.args.lit) [] =
    list_at c.visiting.s.lists.items c.place_of-place.result c.args.lit c.index-in-visiting.result.now c.place_of-place.ensures.value in' c.index-in-visiting.ensures in
    visiting_kept c.args.s.now c.visiting.s c.visit_number.new.s c.args.lit c.visiting.j c.get-i.result c.visiting.invariant c.visit_number.ensures.watching c.visit_number.ensures.same
    c.visit_number.ensures.grows
    (subst (λ (v : Visited). Visits c.visiting.s c.visit_number.new.s c.get-i.result c.args.lit v) c.in-Kept.is c.in_ok-visit_number.ensures.visits)
    (ap (λ (z : List ℕ). get_or z c.visiting.j 0) (sym list) ∙ sym c.get-i.ensures)

pub visiting-preserved : goal.visiting-preserved
visiting-preserved c =
    let range : unsigned_abs c.args.lit ≤ c.visiting.s.trail.vars = subst (λ n. unsigned_abs c.args.lit ≤ n) (sym c.visiting.invariant.same.vars) c.requires.in_range.1 in
    let in' : place_of c.args.lit < length c.visiting.s.lists.items = place_in c.visiting.s c.args.lit c.visiting.invariant.watching range in
    let range2 : unsigned_abs c.args.lit ≤ c.visit_number.new.s.trail.vars = subst (λ n. unsigned_abs c.args.lit ≤ n) (sym c.visit_number.ensures.same.vars) range in
    let in2 : place_of c.args.lit < length c.visit_number.new.s.lists.items = place_in c.visit_number.new.s c.args.lit c.visit_number.ensures.watching range2 in
    let list : c.index-in-visiting.result.now ≡ get_or c.visiting.s.lists.items (place_of c.args.lit) [] =
    list_at c.visiting.s.lists.items c.place_of-place.result c.args.lit c.index-in-visiting.result.now c.place_of-place.ensures.value in' c.index-in-visiting.ensures in
    let before : c.index.result.now ≡ get_or c.visiting.s.lists.items (place_of c.args.lit) [] =
    list_at c.visiting.s.lists.items c.place_of-place.result c.args.lit c.index.result.now c.place_of-place.ensures.value in' c.index.ensures in
    let there : c.index_mut.result.now ≡ get_or c.visit_number.new.s.lists.items (place_of c.args.lit) [] =
    list_at c.visit_number.new.s.lists.items c.place_of-place.result c.args.lit c.index_mut.result.now c.place_of-place.ensures.value in2 c.index_mut.ensures.value in
    let moved : Visits c.visiting.s c.visit_number.new.s c.get-i.result c.args.lit Moved =
    subst (λ (v : Visited). Visits c.visiting.s c.visit_number.new.s c.get-i.result c.args.lit v) c.in-Moved.is c.in_ok-visit_number.ensures.visits in
    let lt : c.visiting.j < length c.index_mut.result.now =
    subst (λ (z : List ℕ). c.visiting.j < length z) (before ∙ sym moved.0 ∙ sym there) (subst (λ n. c.visiting.j < n) c.len.ensures c.visiting-test.true) in
    visiting_moved c.args.s.now c.visiting.s c.visit_number.new.s (with_item c.visit_number.new.s.lists c.place_of-place.result c.swap_remove.new.self) c.swap_remove.new.self c.args.lit c.visiting.j
    c.get-i.result c.visiting.invariant c.visit_number.ensures.watching c.visit_number.ensures.same c.visit_number.ensures.grows moved
    (ap (λ (z : List ℕ). get_or z c.visiting.j 0) (sym list) ∙ sym c.get-i.ensures)
    (ap (λ p. set c.visit_number.new.s.lists.items p c.swap_remove.new.self) c.place_of-place.ensures.value) in2
    (subst (λ (z : List ℕ). IsRemoved z c.swap_remove.new.self c.visiting.j) there
    (record { place = lt; len = c.swap_remove.ensures.len; last = c.swap_remove.ensures.last; others = c.swap_remove.ensures.others }))
