use Rattle.std.proofs.Common.{◌≡◌, ℕ, ◌<◌, Bool, true, false, List, length, sym, ap, subst, ◌∙◌, refl, arith}
use Rattle.std.proofs.Math.ListN.{replicate}
use Rattle.std.proofs.lemmas.List.{length-replicate}
use Rattle.rst_order.specs.Graphs.{Graph, graph_of}
use Rattle.rst_order.specs.Walks.{IsStage, stands}
use Rattle.rst_order.specs.Stages.{stage}
use Rattle.rst_order.proofs.Members.{unmarked}
use Rattle.rst_order.proofs.Paths.{ordered_acyclic}
use Rattle.rst_order.proofs.Placing.{whole_order, stuck_cycle}
use Rattle.rst_order.proofs.orders.dependency_order.Goals as goal

pub returns-in-None-clause-acyclic : goal.returns-in-None-clause-acyclic
returns-in-None-clause-acyclic c =
    let graph = graph_of c.args.predecessors.now in
    let s = stage c.advance.new.self in
    let marks : c.deref-2.result.now ≡ s.placed = c.deref-2.ensures.value in
    let all : (v : ℕ) → v < length graph → stands s.placed v ≡ true = λ v below.
    subst (λ z. stands z v ≡ true) marks (c.in-None.ensures.none v (omega (arith, below, ap length marks, c.in_ok-advance.ensures.stage.placed_length))) in
    ordered_acyclic graph s.order c.requires (whole_order graph s c.in_ok-advance.ensures.stage all)

pub returns-clause-cycle : goal.returns-clause-cycle
returns-clause-cycle c = λ same.
    let graph = graph_of c.args.predecessors.now in
    let s = stage c.advance.new.self in
    let marks : c.deref-2.result.now ≡ s.placed = c.deref-2.ensures.value in
    let free : stands s.placed c.in-Some.field-0 ≡ false = subst (λ z. stands z c.in-Some.field-0 ≡ false) marks c.in-Some.ensures.some.1 in
    stuck_cycle graph s (replicate (length graph) false) c.requires c.in_ok-advance.ensures.stage (c.in_ok-advance.ensures.none c.if-branch.false)
    (length-replicate (length graph) false) (unmarked (length graph)) c.in-Some.field-0
    (omega (arith, c.in-Some.ensures.some.0, ap length marks, c.in_ok-advance.ensures.stage.placed_length)) free
