use Rattle.std.proofs.Common.{Bor}
use Rattle.std.specs.List.{list_any}
use Rattle.rst_hierarchy.specs.Tables.{plain_modules, is_place, direct_row}
use Rattle.rst_hierarchy.proofs.reach.direct_row.Goals as goal
use Rattle.std.proofs.Common.{ap, ◌∙◌}
use Rattle.rst_tree.specs.declared.module.Module.{Module}
use Rattle.rst_tree.specs.Modules.{plain_module}
use Rattle.rst_hierarchy.specs.Tables.{place_named}
use Rattle.rst_name_faults.proofs.BuildLemmas.{seen_at, built}

pub loop-module-preserved : goal.loop-module-preserved
loop-module-preserved c =
    let ms = plain_modules c.args.modules.now in
    let places = c.args.places.now in
    let x = plain_module c.module-item.result.now in
    let is = seen_at (λ (r : Bor Module). plain_module r.now) c.deref-module-items.result.now c.args.modules.now.list.items c.loop-module.module-index c.module-item.result c.deref-module-items.ensures.value c.loop-module-test.true c.module-item.is in
    let value = c.has_place.ensures ∙ ap (λ o. list_any (is_place o) places) (c.place.ensures c.requires) in
    built (λ k. list_any (is_place (place_named ms k.name)) places) ms c.loop-module.module-index x c.has_place.result c.loop-module.row.items c.push.new.self.items (direct_row ms places) is
    c.in_ok-push.ensures.items value c.loop-module.invariant
