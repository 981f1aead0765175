use Rattle.std.proofs.Common.{◌++◌, map, sym, ap, subst, ◌∙◌}
use Rattle.std.proofs.lemmas.List.Elements.{All-nil}
use Rattle.std.proofs.lemmas.Option.{slice_get-get_or}
use Rattle.std.specs.List.{All}
use Rattle.rst_instances.specs.Places.{below}
use Rattle.rst_instances.specs.Tables.{module_at, no_module, plain_place, IsPlace}
use Rattle.rst_instances.proofs.places.instances.Goals as goal

pub returns-clause-placed : goal.returns-clause-placed
returns-clause-placed c = λ modules h within few.
    c.in_ok-push_below.ensures.placed modules h (c.in_ok-place.ensures.right modules within)
    ∙ ap (λ l. map (plain_place modules) l ++ below 16 modules (plain_place modules c.in_ok-place.place)) c.new-made.ensures.items
    ∙ ap (below 16 modules) (c.in_ok-place.ensures.is_top modules (module_at modules c.args.of) (slice_get-get_or modules c.args.of no_module within) (c.in-Some.ensures.right modules h) few)

pub returns-clause-right : goal.returns-clause-right
returns-clause-right c = λ modules h.
    c.in_ok-push_below.ensures.right modules h (c.in_ok-place.ensures.right modules (c.in-Some.ensures.within modules h)) (subst (All (IsPlace modules)) (sym c.new-made.ensures.items) (All-nil (IsPlace modules)))
