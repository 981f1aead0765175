use Rattle.std.proofs.Common.{List, map, ap, ◌∙◌, Bor}
use Rattle.rst_tree.specs.Trees.{Text}
use Rattle.rst_tree.specs.Modules.{plain_links}
use Rattle.rst_width.specs.Scopes.{Names}
use Rattle.rst_instances.specs.Parameters.{links_to, names_behind, values_of}
use Rattle.rst_instances.specs.Tables.{plain_linked, plain_place, module_at}
use Rattle.rst_instances.proofs.ExtentLemmas.{place_names}
use Rattle.rst_instances.proofs.places.child_values.Goals as goal

pub returns-clause-list : goal.returns-clause-list
returns-clause-list c = λ modules m around right.
    let a = c.args.around in
    let to = plain_links c.args.instance.now.params in
    c.in_ok-values.ensures.list m right
    ∙ ap (λ (o : Names). values_of m o (map plain_linked c.deref-2.result.now)) (c.names_of.ensures ∙ place_names modules a.place.now a.tables around.place_right around.tables_right)
    ∙ ap (values_of m (names_behind (module_at modules a.place.now.of) (plain_place modules a.place.now).values))
    (ap (map plain_linked) c.deref-2.ensures.value ∙ c.in_ok-links.ensures ∙ ap (λ l. links_to (map (λ (n : Bor Text). n.now) l) to) c.deref.ensures.value ∙ ap (λ (ns : List Text). links_to ns to) right.declared.settable_names)
