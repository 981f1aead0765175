use Rattle.std.proofs.Common.{◌≡◌, ◌+◌, ◌<◌, ◌^◌, length, map, nat_eq, sym, ap, ◌∙◌, arith}
use Rattle.std.proofs.lemmas.List.{length-map}
use Rattle.std.specs.Cmp.Lexicographic.{pointwise}
use Rattle.indexmap.specs.IndexMap.{get}
use Rattle.rst_tree.specs.Trees.{Text}
use Rattle.rst_width.specs.Scopes.{Names, extent_of, meaning_of, either_of, names_of}
use Rattle.rst_names.specs.Declarations.{signals}
use Rattle.rst_names.specs.Tables.{plain_declared}
use Rattle.rst_instances.specs.Parameters.{names_from, known_values}
use Rattle.rst_instances.specs.Places.{extent_in}
use Rattle.rst_instances.specs.Tables.{module_at, plain_place, plain_valued}
use Rattle.rst_instances.specs.Locations.{shown_signals}
use Rattle.rst_instances.proofs.KnownLemmas.{no_names}
use Rattle.rst_instances.proofs.ExtentLemmas.{names_are}
use Rattle.rst_instances.proofs.extents.names_in.Goals as goal

pub returns : goal.returns
returns c = λ modules h right few shaped.
    let p = c.args.place.now in
    let place = plain_place modules p in
    let f = c.in-Some.tables.facts.now in
    let tables = c.in-Some.ensures.right modules h in
    let own = signals (module_at modules p.of) in
    let es = map extent_of c.args.shapes.now in
    let now = λ (name : Text). meaning_of (get (pointwise nat_eq) c.note_values.new.entries name) in
    let long : length c.deref-2.result.now ≡ length own = ap length c.deref-2.ensures.value ∙ sym (length-map f.signals.items plain_declared) ∙ ap length tables.declared.signal_facts in
    let few_shown : c.args.base + length c.deref-2.result.now < 2 ^ 32 = omega (arith, long, few) in
    let same : length c.args.shapes.now ≡ length c.deref-2.result.now = sym (length-map c.args.shapes.now extent_of) ∙ ap length shaped ∙ length-map own (extent_in place) ∙ sym long in
    names_are place c.args.base (map plain_declared f.signals.items) es now (names_of (record { entries = c.note_signals.new.entries })) tables.declared.signal_facts shaped
    (λ name. c.in_ok-note_values.ensures name
    ∙ ap (λ (g : Names). either_of (g name) (names_from (known_values (map plain_valued c.deref.result.now)) name)) (no_names (record { entries = c.new-entries.result }) c.new-entries.ensures.empty)
    ∙ ap (λ l. names_from (known_values (map plain_valued l)) name) c.deref.ensures.value)
    (λ name. c.in_ok-note_signals.ensures few_shown same name
    ∙ ap (λ l. either_of (now name) (names_from (shown_signals c.args.base (map plain_declared l) es) name)) c.deref-2.ensures.value)
