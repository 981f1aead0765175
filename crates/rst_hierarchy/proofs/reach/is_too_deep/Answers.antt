use Rattle.std.proofs.Common.{◌≡◌, false, map, sym, ap, ◌∙◌, add-one, arith}
use Rattle.rst_hierarchy.specs.Hierarchy.{is_deep}
use Rattle.rst_hierarchy.specs.Tables.{mark_at, one_marked}
use Rattle.rst_hierarchy.proofs.PlaceLemmas.{value_at}
use Rattle.rst_hierarchy.proofs.ReachLemmas.{none_deep, deeper}
use Rattle.rst_hierarchy.proofs.reach.is_too_deep.Goals as goal

pub loop-turn-init : goal.loop-turn-init
loop-turn-init c = λ modules same. c.in_ok-marks.ensures ∙ none_deep modules (λ v. v.items) c.args.below.now same

pub loop-turn-preserved : goal.loop-turn-preserved
loop-turn-preserved c = λ modules same.
    let n = c.loop-turn._turn in
    c.in_ok-marks-2.ensures
    ∙ ap (λ marks. map (one_marked marks) (map (λ v. v.items) c.args.below.now)) (c.deref.ensures.value ∙ c.loop-turn.invariant modules same)
    ∙ ap (map (one_marked (map (is_deep n modules) modules))) same ∙ deeper modules n ∙ ap (λ k. map (is_deep k modules) modules) (sym (add-one n))

pub returns : goal.returns
returns c = λ modules same m is.
    let all : c.loop-turn._turn ≡ 16 = omega arith in
    c.is_marked.ensures
    ∙ ap (λ marks. mark_at marks c.args.top) (c.deref-2.ensures.value ∙ c.loop-turn.invariant modules same ∙ ap (λ k. map (is_deep k modules) modules) all)
    ∙ value_at modules (is_deep 16 modules) false c.args.top m is
