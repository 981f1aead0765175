use Rattle.std.proofs.Common.{ap, ◌∙◌}
use Rattle.rst_tree.specs.Modules.{PlainModule}
use Rattle.rst_names.specs.Declarations.{ports}
use Rattle.rst_instances.specs.Tables.{plain_ports}
use Rattle.rst_instances.proofs.PlaceLemmas.{module_there, same_place}
use Rattle.rst_instances.proofs.places.child.Goals as goal

pub returns-clause-is_child : goal.returns-clause-is_child
returns-clause-is_child c = λ modules m around there right.
    let of = module_there modules c.args.of m there in
    same_place _ _ c.in_ok-path.ensures c.in_ok-prefix.ensures of (c.in_ok-values.ensures.list modules m around right)
    (ap (λ (k : PlainModule). plain_ports (ports k) c.in_ok-joins.joins.items) of ∙ c.in_ok-joins.ensures modules m around right)
