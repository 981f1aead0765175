use Rattle.std.proofs.Common.{◌≡◌, map, get_or, sym, ap, ◌∙◌, add-one, arith}
use Rattle.rst_hierarchy.specs.Tables.{counted}
use Rattle.rst_hierarchy.proofs.PlaceLemmas.{value_at}
use Rattle.rst_hierarchy.proofs.ReachLemmas.{capped, all_single, counted_more}
use Rattle.rst_hierarchy.proofs.reach.instance_count.Goals as goal

pub loop-turn-init : goal.loop-turn-init
loop-turn-init c = λ modules same. c.in_ok-counts.ensures ∙ all_single modules (λ v. v.items) c.args.below.now same

pub loop-turn-preserved : goal.loop-turn-preserved
loop-turn-preserved c = λ modules same.
    let n = c.loop-turn._turn in
    c.in_ok-counts-2.ensures
    ∙ ap (λ counts. map (counted counts) (map (λ v. v.items) c.args.below.now)) (c.deref.ensures.value ∙ c.loop-turn.invariant modules same)
    ∙ ap (map (counted (map (capped modules n) modules))) same ∙ counted_more modules n ∙ ap (λ k. map (capped modules k) modules) (sym (add-one n))

pub returns : goal.returns
returns c = λ modules same m is.
    let all : c.loop-turn._turn ≡ 16 = omega arith in
    c.count_at.ensures
    ∙ ap (λ counts. get_or counts c.args.top 0) (c.deref-2.ensures.value ∙ c.loop-turn.invariant modules same ∙ ap (λ k. map (capped modules k) modules) all)
    ∙ value_at modules (capped modules 16) 0 c.args.top m is
