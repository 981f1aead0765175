use Rattle.std.proofs.Common.{List, map, nat_eq, ap, ◌∙◌, Bor}
use Rattle.std.specs.Cmp.Lexicographic.{pointwise}
use Rattle.std.specs.Option.{option_map}
use Rattle.indexmap.specs.IndexMap.{get}
use Rattle.rst_tree.specs.Trees.{Text}
use Rattle.rst_tree.specs.Modules.{plain_links}
use Rattle.rst_names.specs.Declarations.{ports}
use Rattle.rst_instances.specs.Parameters.{Linked, links_to, link_to}
use Rattle.rst_instances.specs.Tables.{plain_linked}
use Rattle.rst_instances.proofs.PlaceLemmas.{joins_are}
use Rattle.rst_instances.proofs.places.child_joins.Goals as goal

pub returns : goal.returns
returns c = λ modules m around right.
    let a = c.args.around in
    let f = c.args.tables.facts.now in
    let to = plain_links c.args.copy.now.ports in
    joins_are modules a.place.now a.tables.facts.now around.tables_right.declared m f (λ name. option_map plain_linked (get (pointwise nat_eq) c.in_ok-by_name.by_name name)) (links_to (ports m) to)
    (map (λ (n : Bor Text). n.now) f.ports.items) c.in_ok-joins.joins.items right.declared right.declared.port_names
    (λ name. c.in_ok-by_name.ensures name ∙ ap (λ l. link_to (map plain_linked l) name) c.deref-2.ensures.value
    ∙ ap (λ (l : List Linked). link_to l name) (c.in_ok-links.ensures ∙ ap (λ l. links_to (map (λ (n : Bor Text). n.now) l) to) c.deref.ensures.value ∙ ap (λ (ns : List Text). links_to ns to) right.declared.port_names))
    c.in_ok-joins.ensures
