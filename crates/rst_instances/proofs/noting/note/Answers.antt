use Rattle.std.proofs.Common.{◌≡◌, Some, nat_eq, cond, sym, ap, ◌∙◌}
use Rattle.std.specs.Cmp.Lexicographic.{pointwise}
use Rattle.indexmap.specs.IndexMap.{get}
use Rattle.rst_names.specs.Names.{same_text}
use Rattle.rst_tree.specs.Trees.{Text}
use Rattle.rst_instances.proofs.NoteLemmas.{noted_before, noted_now}
use Rattle.rst_instances.proofs.noting.note.Goals as goal

pub returns-then-contains_key : goal.returns-then-contains_key
returns-then-contains_key g c = noted_before (λ (k : Text). get (pointwise nat_eq) c.args.table.now k) c.args.name.now c.args.value (sym c.contains_key.ensures ∙ c.if-contains_key.true)

pub returns : goal.returns
returns g c =
    let same : c.in_ok-key.key ≡ c.args.name.now = c.in_ok-key.ensures.ok ∙ c.as_slice.ensures in
    noted_now (λ (k : Text). get (pointwise nat_eq) c.args.table.now k) c.args.name.now c.args.value (λ (k : Text). get (pointwise nat_eq) c.insert.new.self k)
    (sym c.contains_key.ensures ∙ c.if-contains_key.false)
    (λ k. c.in_ok-insert.ensures.updates.0 k ∙ ap (λ (t : Text). cond (same_text t k) (Some c.args.value) (get (pointwise nat_eq) c.args.table.now k)) same)
