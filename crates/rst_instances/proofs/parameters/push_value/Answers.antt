use Rattle.std.proofs.Common.{[], ◌∷◌, ◌++◌, nat_eq, Result, ap, ◌∙◌}
use Rattle.std.specs.Cmp.Lexicographic.{pointwise}
use Rattle.std.specs.Option.{option_map}
use Rattle.indexmap.specs.IndexMap.{get}
use Rattle.rst_word.specs.Words.{PlainWord}
use Rattle.rst_tree.specs.Modules.{plain_param_decl, plain_param_name}
use Rattle.rst_width.specs.Scopes.{names_with}
use Rattle.rst_names.specs.declared.faults.ElabCode.{ElabCode}
use Rattle.rst_instances.specs.Settings.{values_in}
use Rattle.rst_instances.specs.Tables.{answer_of, plain_bits, plain_linked, outside_names}
use Rattle.rst_instances.proofs.ValueLemmas.{behind, value_behind}
use Rattle.rst_instances.proofs.parameters.push_value.Goals as goal

pub returns-clause-added : goal.returns-clause-added
returns-clause-added c = λ m outside links is known.
    let old = c.args.made.now in
    let setting = c.args.setting.now in
    let p = plain_param_name c.args.param.now in
    let valued_is = c.in_ok-value.ensures ∙ value_behind m (names_with old.scope setting.unshaped.now) (outside_names setting.outside) outside links
    (option_map plain_linked (get (pointwise nat_eq) setting.links c.args.param.now.name)) (plain_param_decl c.args.d.now) (answer_of plain_bits c.args.width) (values_in old) p
    (behind old.scope setting.unshaped.now m (values_in old) known.scope_names is.later) is.around (is.by_name c.args.param.now.name) in
    c.in_ok-add_value.ensures.added ∙ ap (λ (v : Result PlainWord ElabCode). values_in old ++ record { name = p.name; value = v } ∷ []) valued_is
