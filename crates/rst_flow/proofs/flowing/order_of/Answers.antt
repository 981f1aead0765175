use Rattle.std.proofs.Common.{◌≡◌, ◌∙◌, sym, ap, subst, ℕ, List, length, map, Option, Some, None}
use Rattle.std.specs.declared.vec.Vec.{Vec}
use Rattle.std.specs.declared.alloc.Global.{Global}
use Rattle.rst_order.specs.Graphs.{graph_of, IsGraph, OnCycle, HasCycle}
use Rattle.rst_order.specs.Orders.{IsOrder}
use Rattle.rst_net.specs.Units.{plain_driver}
use Rattle.rst_flow.specs.declared.drives.Drive.{Drive}
use Rattle.rst_flow.specs.Tables.{table_of, graph_from, IsBounded, IsFirstAround}
use Rattle.rst_flow.proofs.Made.{made_graph, made_bounded, made_order, made_first, made_none}
use Rattle.rst_flow.proofs.flowing.order_of.Goals as goal

pub dependency_order-requires : goal.dependency_order-requires
dependency_order-requires c =
    let units = map plain_driver c.args.units.now in
    let made = c.in_ok-predecessors.ensures ∙ ap (λ (ds : List (Vec Drive Global)). graph_from (table_of ds) 0 units) c.deref.ensures.value in
    subst (λ (ps : List (Vec ℕ Global)). IsGraph (graph_of ps)) (sym c.deref-2.ensures.value)
    (made_graph c.args.signals units c.in_ok-drives.drives.items c.in_ok-predecessors.predecessors.items c.in_ok-drives.ensures made)

pub returns-in-Ok-clause-order : goal.returns-in-Ok-clause-order
returns-in-Ok-clause-order c =
    let units = map plain_driver c.args.units.now in
    let made = c.in_ok-predecessors.ensures ∙ ap (λ (ds : List (Vec Drive Global)). graph_from (table_of ds) 0 units) c.deref.ensures.value in
    made_order c.args.signals units c.in_ok-drives.drives.items c.in_ok-predecessors.predecessors.items c.in_ok-drives.ensures made c.in-Ok.order.items
    (subst (λ (ps : List (Vec ℕ Global)). IsOrder (graph_of ps) c.in-Ok.order.items) c.deref-2.ensures.value c.in-Ok.ensures.order)
    (subst (λ (ps : List (Vec ℕ Global)). (v : ℕ) → OnCycle (graph_of ps) v → ⊥) c.deref-2.ensures.value c.in-Ok.ensures.acyclic)

pub first_looped-requires-clause-graph : goal.first_looped-requires-clause-graph
first_looped-requires-clause-graph c =
    let units = map plain_driver c.args.units.now in
    let made = c.in_ok-predecessors.ensures ∙ ap (λ (ds : List (Vec Drive Global)). graph_from (table_of ds) 0 units) c.deref.ensures.value in
    subst (λ (ps : List (Vec ℕ Global)). IsGraph (graph_of ps)) (sym c.deref-in-Err-Cycle.ensures.value)
    (made_graph c.args.signals units c.in_ok-drives.drives.items c.in_ok-predecessors.predecessors.items c.in_ok-drives.ensures made)

pub first_looped-requires-clause-bounded : goal.first_looped-requires-clause-bounded
first_looped-requires-clause-bounded c =
    let units = map plain_driver c.args.units.now in
    let made = c.in_ok-predecessors.ensures ∙ ap (λ (ds : List (Vec Drive Global)). graph_from (table_of ds) 0 units) c.deref.ensures.value in
    subst (λ (ps : List (Vec ℕ Global)). IsBounded (length ps) (table_of c.deref-in-Err-Cycle-2.result.now)) (sym c.deref-in-Err-Cycle.ensures.value)
    (subst (λ (ds : List (Vec Drive Global)). IsBounded (length c.in_ok-predecessors.predecessors.items) (table_of ds)) (sym c.deref-in-Err-Cycle-2.ensures.value)
    (made_bounded c.args.signals units c.in_ok-drives.drives.items c.in_ok-predecessors.predecessors.items c.in_ok-drives.ensures made))

-- what the search for a signal found, said of the vectors themselves
at_vectors : (ps qs : List (Vec ℕ Global)) (ds es : List (Vec Drive Global)) (o p : Option ℕ) → ps ≡ qs → ds ≡ es → o ≡ p → IsFirstAround (graph_of ps) (table_of ds) o
    → IsFirstAround (graph_of qs) (table_of es) p
at_vectors ps qs ds es o p a b e h =
    subst (λ (xs : List (Vec ℕ Global)). IsFirstAround (graph_of xs) (table_of es) p) a
    (subst (λ (xs : List (Vec Drive Global)). IsFirstAround (graph_of ps) (table_of xs) p) b (subst (λ (x : Option ℕ). IsFirstAround (graph_of ps) (table_of ds) x) e h))

pub returns-in-Some-clause-looped : goal.returns-in-Some-clause-looped
returns-in-Some-clause-looped c =
    let units = map plain_driver c.args.units.now in
    let made = c.in_ok-predecessors.ensures ∙ ap (λ (ds : List (Vec Drive Global)). graph_from (table_of ds) 0 units) c.deref.ensures.value in
    let found : IsFirstAround (graph_of c.in_ok-predecessors.predecessors.items) (table_of c.in_ok-drives.drives.items) (Some c.in-Some.signal) =
    at_vectors c.deref-in-Err-Cycle.result.now c.in_ok-predecessors.predecessors.items c.deref-in-Err-Cycle-2.result.now c.in_ok-drives.drives.items c.in_ok-signal-in-Err-Cycle.field-0
    (Some c.in-Some.signal) c.deref-in-Err-Cycle.ensures.value c.deref-in-Err-Cycle-2.ensures.value c.in-Some.is c.in_ok-signal-in-Err-Cycle.ensures in
    made_first c.args.signals units c.in_ok-drives.drives.items c.in_ok-predecessors.predecessors.items c.in_ok-drives.ensures made c.in-Some.signal
    found.0 found.1 found.2

pub unreachable-requires : goal.unreachable-requires
unreachable-requires c =
    let units = map plain_driver c.args.units.now in
    let made = c.in_ok-predecessors.ensures ∙ ap (λ (ds : List (Vec Drive Global)). graph_from (table_of ds) 0 units) c.deref.ensures.value in
    let found : IsFirstAround (graph_of c.in_ok-predecessors.predecessors.items) (table_of c.in_ok-drives.drives.items) None =
    at_vectors c.deref-in-Err-Cycle.result.now c.in_ok-predecessors.predecessors.items c.deref-in-Err-Cycle-2.result.now c.in_ok-drives.drives.items c.in_ok-signal-in-Err-Cycle.field-0 None
    c.deref-in-Err-Cycle.ensures.value c.deref-in-Err-Cycle-2.ensures.value c.in-None.is c.in_ok-signal-in-Err-Cycle.ensures in
    made_none c.args.signals units c.in_ok-drives.drives.items c.in_ok-predecessors.predecessors.items c.in_ok-drives.ensures made
    (subst (λ (ps : List (Vec ℕ Global)). HasCycle (graph_of ps)) c.deref-2.ensures.value (c.in-Err-Cycle.ensures.cycle c.in-Err-Cycle.field-0-is)) found
