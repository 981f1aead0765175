use Rattle.std.proofs.Common.{[], ◌++◌, map, ◌∷◌, Bor}
use Rattle.std.specs.List.{All}
use Rattle.rst_tree.specs.Modules.{plain_module}
use Rattle.rst_hierarchy.specs.Tables.{plain_modules, module_of, AreRight}
use Rattle.rst_hierarchy.proofs.hierarchy.all_facts.Goals as goal
use Rattle.std.proofs.Common.{sym, ap, subst, ◌∙◌}
use Rattle.std.proofs.Common.{take}
use Rattle.std.proofs.lemmas.List.{map-append}
use Rattle.std.proofs.lemmas.List.Elements.{All-push}
use Rattle.rst_tree.specs.declared.module.Module.{Module}
use Rattle.rst_names.specs.Tables.{IsFacts}
use Rattle.rst_names.proofs.Turns.{at}
use Rattle.rst_name_faults.proofs.BuildLemmas.{seen_at}

pub loop-module-preserved : goal.loop-module-preserved
loop-module-preserved c =
    let ms = plain_modules c.args.modules.now in
    let i = c.loop-module.module-index in
    let f = c.in_ok-facts.facts in
    let made = c.loop-module.all.items in
    let x = plain_module c.module-item.result.now in
    let is = seen_at (λ (r : Bor Module). plain_module r.now) c.deref-module-items.result.now c.args.modules.now.list.items c.loop-module.module-index c.module-item.result c.deref-module-items.ensures.value c.loop-module-test.true c.module-item.is in
    let tables : IsFacts x f = c.in_ok-facts.ensures in
    let right : AreRight f = subst (λ m. IsFacts m f) (sym tables.of) tables in
    record {
      right = subst (All AreRight) (sym c.in_ok-push.ensures.items) (All-push AreRight made f c.loop-module.invariant.right right);
      of = ap (map module_of) c.in_ok-push.ensures.items ∙ (map-append module_of made (f ∷ []) ∙ (ap (λ l. l ++ module_of f ∷ []) c.loop-module.invariant.of
          ∙ (ap (λ m. take i ms ++ m ∷ []) tables.of ∙ sym (at ms i x is).front)));
    }
