use Rattle.std.proofs.Common.{List, [], map, refl, sym, ap, ◌∙◌}
use Rattle.std.specs.List.{flat_map}
use Rattle.rst_tree.specs.Modules.{PlainModule, plain_param_decl, plain_item}
use Rattle.rst_names.specs.Declarations.{item_params, param_decls}
use Rattle.rst_instances.specs.Parameters.{Valued, names_from, known_values, values_of_decls}
use Rattle.rst_instances.specs.Settings.{AreKnown, IsSetting}
use Rattle.rst_instances.specs.Tables.{plain_linked, plain_valued, outside_names}
use Rattle.rst_instances.proofs.KnownLemmas.{no_names}
use Rattle.rst_instances.proofs.ValueLemmas.{values_of_decls-append}
use Rattle.rst_instances.proofs.parameters.values_of.Goals as goal

pub returns-clause-list : goal.returns-clause-list
returns-clause-list c = λ m right.
    let tables = c.args.tables in
    let own = tables.facts.now.«module».now in
    let links = map plain_linked c.args.links.now in
    let outside = outside_names c.args.outside in
    let set : IsSetting m outside links (record { links = c.in_ok-link_table.field-0; outside = c.args.outside; unshaped = tables.unshaped }) =
    record { by_name = c.in_ok-link_table.ensures; around = refl; later = right.later } in
    let known : AreKnown (record { list = c.new.result; scope = record { entries = c.new-2.result } }) =
    record { scope_names = no_names (record { entries = c.new-2.result }) c.new-2.ensures.empty ∙ ap (λ vs. names_from (known_values (map plain_valued vs))) (sym c.new.ensures.items) } in
    let items = flat_map item_params (map plain_item c.deref-2.result.now) in
    c.in_ok-push_items.ensures.added m outside links set (c.in_ok-push_decls.ensures.known known)
    ∙ ap (λ (vs : List Valued). values_of_decls m outside links vs items) (c.in_ok-push_decls.ensures.added m outside links set known)
    ∙ ap (λ l. values_of_decls m outside links (values_of_decls m outside links (map plain_valued l) (map plain_param_decl c.deref.result.now)) items) c.new.ensures.items
    ∙ ap (λ l. values_of_decls m outside links (values_of_decls m outside links [] (map plain_param_decl l)) items) c.deref.ensures.value
    ∙ ap (λ l. values_of_decls m outside links (values_of_decls m outside links [] (map plain_param_decl own.params.items)) (flat_map item_params (map plain_item l))) c.deref-2.ensures.value
    ∙ sym (values_of_decls-append m outside links [] (map plain_param_decl own.params.items) (flat_map item_params (map plain_item own.items.items)))
    ∙ ap (λ (k : PlainModule). values_of_decls m outside links [] (param_decls k)) right.declared.of
