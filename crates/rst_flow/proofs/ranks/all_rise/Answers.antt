use Rattle.std.proofs.Common.{◌≡◌, ◌∙◌, sym, subst, ℕ, ◌<◌, inl, inr, true, List, [], length, get_or, arith}
use Rattle.std.specs.List.{Contains}
use Rattle.std.proofs.lemmas.Bool.{cases_lt}
use Rattle.std.proofs.lemmas.Grind.{get_or_default_zero}
use Rattle.rst_order.specs.Graphs.{graph_of}
use Rattle.rst_flow.specs.Ranking.{rises}
use Rattle.rst_flow.proofs.ranks.all_rise.Goals as goal

-- what holds at each place holds of each member
each : (xs : List ℕ) (P : ℕ → Type 0) → ((k : ℕ) → k < length xs → P (get_or xs k 0)) → (a : ℕ) → Contains xs a → P a
each xs P all a (k, below, same) = subst P (sym (get_or_default_zero xs k a below) ∙ same) (all k below)

pub loop-unit-preserved : goal.loop-unit-preserved
loop-unit-preserved c a b below p =
    let graph = graph_of c.args.predecessors.now in
    let ranks = c.args.ranks.now.rank.items in
    let alone = c.args.ranks.now.alone.items in
    let unit = c.loop-unit.unit in
    elim (cases_lt b unit) [
      | inl before ↦ c.loop-unit.invariant a b before p
      | inr from ↦
          let e : b ≡ unit = omega arith in
          let here : Contains c.row_of.result.now a = subst (λ (xs : List ℕ). Contains xs a) (sym c.row_of.ensures) (subst (λ z. Contains (get_or graph z []) a) e p) in
          subst (λ z. rises ranks alone a z ≡ true) (sym e)
          (each c.row_of.result.now (λ z. rises ranks alone z unit ≡ true) (c.all_rise_to.ensures c.if-not-all_rise_to.false) a here)
    ]
