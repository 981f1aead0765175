use Rattle.std.proofs.Common.{ℕ, [], ap, ◌∙◌}
use Rattle.std.specs.Option.{option_copied}
use Rattle.rst_tree.specs.Trees.{Text}
use Rattle.rst_tree.specs.Modules.{PlainModule}
use Rattle.rst_width.specs.Scopes.{Names}
use Rattle.rst_names.specs.Declarations.{ports}
use Rattle.rst_instances.specs.Parameters.{values_of}
use Rattle.rst_instances.specs.Places.{top_join}
use Rattle.rst_instances.specs.Tables.{plain_ports}
use Rattle.rst_instances.proofs.KnownLemmas.{no_names}
use Rattle.rst_instances.proofs.ValueLemmas.{behind}
use Rattle.rst_instances.proofs.PlaceLemmas.{module_there, same_place, numbered_ports}
use Rattle.rst_instances.proofs.places.top_place.Goals as goal

pub returns-clause-is_top : goal.returns-clause-is_top
returns-clause-is_top c = λ modules m there right few.
    let of = module_there modules c.args.of m there in
    let clock = option_copied c.args.clock in
    let js = c.in_ok-joins.joins.items in
    same_place _ _ c.in_ok-path.ensures.ok c.in_ok-prefix.ensures.ok of
    (c.in_ok-values.ensures.list m right ∙ ap (λ (o : Names). values_of m o []) (behind (record { entries = c.new-3.result }) c.args.tables.unshaped.now m [] (no_names (record { entries = c.new-3.result }) c.new-3.ensures.empty) right.later))
    (ap (λ (k : PlainModule). plain_ports (ports k) js) of ∙ numbered_ports (ports m) js 0 (λ (n : ℕ × Text). (top_join clock m n).joined) (c.in_ok-joins.ensures m right.declared few))
