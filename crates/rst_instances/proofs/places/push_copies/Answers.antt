use Rattle.std.proofs.Common.{◌++◌, map, Option, sym, ap, ◌∙◌, append-nil}
use Rattle.std.proofs.lemmas.Option.{slice_get-get_or}
use Rattle.rst_tree.specs.Modules.{PlainModule, plain_instance}
use Rattle.rst_instances.specs.Places.{copies}
use Rattle.rst_instances.specs.Tables.{plain_place, module_at, no_module}
use Rattle.rst_instances.proofs.PlaceLemmas.{not_there, place_within, named_at, none_named}
use Rattle.rst_instances.proofs.places.push_copies.Goals as goal

pub returns-in_default-clause-placed : goal.returns-in_default-clause-placed
returns-in_default-clause-placed c = λ modules h around.
    let name = c.args.instance.now.«module» in
    let made = map (plain_place modules) c.args.made.now.items in
    sym (append-nil made)
    ∙ ap (λ (o : Option PlainModule). made ++ copies (plain_place modules c.args.around.place.now) (plain_instance c.args.instance.now) o) (sym (none_named modules name (sym (h.places name) ∙ sym c.in_default.ensures)))

pub returns-in_default-tables_at-clause-placed : goal.returns-in_default-tables_at-clause-placed
returns-in_default-tables_at-clause-placed c = λ modules h around.
    let name = c.args.instance.now.«module» in
    absurd (not_there (c.in_default-tables_at.ensures.found modules h (place_within modules name c.in-Some.of (sym (h.places name) ∙ sym c.in-Some.ensures))))

pub returns-clause-placed : goal.returns-clause-placed
returns-clause-placed c = λ modules h around.
    let name = c.args.instance.now.«module» in
    let made = map (plain_place modules) c.args.made.now.items in
    let of = c.in-Some.of in
    let place = sym (h.places name) ∙ sym c.in-Some.ensures in
    let within = place_within modules name of place in
    let there = slice_get-get_or modules of no_module within in
    c.in_ok-push_children.ensures.placed modules (module_at modules of) around there (c.in-Some-tables_at.ensures.right modules h)
    ∙ ap (λ (o : Option PlainModule). made ++ copies (plain_place modules c.args.around.place.now) (plain_instance c.args.instance.now) o) (sym (named_at modules name of (module_at modules of) place there))

pub returns-clause-right : goal.returns-clause-right
returns-clause-right c = λ modules h old.
    let name = c.args.instance.now.«module» in
    c.in_ok-push_children.ensures.right modules (place_within modules name c.in-Some.of (sym (h.places name) ∙ sym c.in-Some.ensures)) old
