use Rattle.std.proofs.Common.{◌≡◌, map, Bor}
use Rattle.rst_tree.specs.Modules.{plain_module}
use Rattle.rst_hierarchy.specs.Hierarchy.{reaches, is_used}
use Rattle.rst_hierarchy.specs.Tables.{plain_modules}
use Rattle.rst_hierarchy.proofs.hierarchy.used_marks.Goals as goal
use Rattle.std.proofs.Common.{sym, ap, ◌∙◌}
use Rattle.std.proofs.Common.{◌||◌}
use Rattle.rst_tree.specs.declared.module.Module.{Module}
use Rattle.rst_hierarchy.specs.Tables.{mark_in}
use Rattle.rst_name_faults.proofs.BuildLemmas.{seen_at, built}
use Rattle.rst_hierarchy.proofs.ReachLemmas.{mark_of}
use Rattle.rst_hierarchy.proofs.hierarchy.used_marks.Goals.{then-eq, else-eq}

pub loop-place-preserved : goal.loop-place-preserved
loop-place-preserved c =
    let ms = plain_modules c.args.modules.now in
    let i = c.loop-place.place in
    let top = plain_module c.args.top.now in
    let x = plain_module c.module-item.result.now in
    let is = seen_at (λ (r : Bor Module). plain_module r.now) c.deref-module-items.result.now c.args.modules.now.list.items c.loop-place.place c.module-item.result c.deref-module-items.ensures.value c.loop-place-test.true c.module-item.is in
    let value : c.if-eq.push ≡ is_used ms top x = elim c.if-eq.branch [
      | then-eq w ↦ w.push-is ∙ (w.if-eq.true ∙ sym (ap (λ b. b || reaches ms top x.name) (sym c.eq.ensures ∙ w.if-eq.true)))
      | else-eq w ↦
          w.push-is ∙ (w.is_marked_in.ensures ∙ (ap (λ rows. mark_in rows c.args.place_of_top i) c.requires.rows ∙ (mark_of ms (reaches ms) c.args.place_of_top i top x c.requires.top is
          ∙ sym (ap (λ b. b || reaches ms top x.name) (sym c.eq.ensures ∙ w.if-eq.false)))))
    ] in
    built (is_used ms top) ms i x c.if-eq.push c.loop-place.used.items c.push.new.self.items (map (is_used ms top) ms) is c.in_ok-push.ensures.items value c.loop-place.invariant
