use Rattle.std.proofs.Common.{◌≡◌, take, [], ◌+◌, ◌≤◌, length, ◌∷◌, ◌++◌}
use Rattle.rst_hierarchy.specs.Tables.{AreRight, module_of, IsLinked, AreLinked}
use Rattle.rst_hierarchy.proofs.connects.all_linked.Goals as goal
use Rattle.std.proofs.Common.{refl, sym, ap, subst, slice_get, ◌∙◌, arith}
use Rattle.std.proofs.lemmas.List.{take_all, length-map}
use Rattle.rst_names.proofs.Turns.{at, read}
use Rattle.rst_name_faults.proofs.BuildLemmas.{seen_at, all_at}
use Rattle.rst_hierarchy.proofs.LinkLemmas.{linked_push}

pub loop-facts-preserved : goal.loop-facts-preserved
loop-facts-preserved c = λ modules are.
    let all = c.args.all.now in
    let i = c.loop-facts.facts-index in
    let f = c.facts-item.result in
    let made = c.loop-facts.made.items in
    let is = ap (λ l. slice_get l i) (sym are.of) ∙ seen_at module_of all all i f refl c.loop-facts-test.true c.facts-item.is in
    let right : AreRight f = all_at AreRight all i f are.all (read all i f c.loop-facts-test.true c.facts-item.is) in
    let linked : IsLinked (module_of f) c.in_ok-linked.linked = c.in_ok-linked.ensures right in
    subst (AreLinked (take (i + 1) modules)) (sym c.in_ok-push.ensures.items)
    (subst (λ ms. AreLinked ms (made ++ c.in_ok-linked.linked ∷ [])) (sym (at modules i (module_of f) is).front)
    (linked_push (take i modules) made (module_of f) c.in_ok-linked.linked (c.loop-facts.invariant modules are) linked))

pub returns : goal.returns
returns c = λ modules are.
    let same : length c.args.all.now ≡ length modules = simp length-map at (ap length are.of) in
    let short : length modules ≤ c.loop-facts.facts-index = omega arith in
    subst (λ ms. AreLinked ms c.loop-facts.made.items) (take_all c.loop-facts.facts-index modules short) (c.loop-facts.invariant modules are)
