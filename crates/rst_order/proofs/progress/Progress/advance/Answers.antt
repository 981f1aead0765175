use Rattle.std.proofs.Common.{◌≡◌, ℕ, ◌+◌, ◌<◌, ◌⊎◌, ◌∷◌, ◌++◌, [], Bool, true, false, List, length, get_or, sym, ap, subst, ◌∙◌, refl, arith, length-append}
use Rattle.std.proofs.Math.ListN.{set}
use Rattle.std.proofs.lemmas.List.{length-map}
use Rattle.std.specs.List.{Contains}
use Rattle.std.specs.declared.vec.Vec.{Vec}
use Rattle.std.specs.declared.alloc.Global.{Global}
use Rattle.rst_order.specs.Graphs.{Graph, graph_of}
use Rattle.rst_order.specs.Walks.{Stage, IsStage, IsLookedThrough, HasSuccessors, queued, stands, preds, count_of}
use Rattle.rst_order.specs.Stages.{stage}
use Rattle.rst_order.proofs.Members.{member_at}
use Rattle.rst_order.proofs.Placing.{placed_stage, looked_stage}
use Rattle.rst_order.proofs.progress.Progress.advance.Goals as goal

-- a successor is a vertex
successor_below : (graph successors : Graph) (v : ℕ) (pending : List ℕ) (i : ℕ) → HasSuccessors graph successors → pending ≡ get_or successors v [] → i < length pending
    → get_or pending i 0 < length graph
successor_below graph successors v pending i w is within =
    w.bounded v (get_or pending i 0) (subst (λ z. Contains z (get_or pending i 0)) is (member_at pending i (get_or pending i 0) within refl))

pub loop-successor-init : goal.loop-successor-init
loop-successor-init c =
    let graph = graph_of c.args.predecessors.now in
    let successors = graph_of c.args.successors.now in
    let v = c.in-Some.vertex in
    let s = stage c.args.self.now in
    let at : List ℕ → Stage = λ order. record { passed = s.passed; placed = set s.placed v true; ready = queued c.take_least.new.set; order = order } in
    let base : IsStage graph (preds successors v) 0 (at (s.order ++ v ∷ [])) =
    placed_stage graph successors s v (queued c.take_least.new.set) c.requires.graph c.requires.successors c.requires.stage
    c.in-Some.ensures.member c.in-Some.ensures.least c.in-Some.ensures.gone c.in-Some.ensures.others in
    record {
      looked = subst (λ order. IsStage graph c.predecessors_of-pending.result.now 0 (at order)) (sym c.in_ok-push.ensures.items)
          (subst (λ pending. IsStage graph pending 0 (at (s.order ++ v ∷ []))) (sym c.predecessors_of-pending.ensures) base);
      placed = refl;
    }

pub predecessors_of-requires : goal.predecessors_of-requires
predecessors_of-requires c =
    let row : Vec ℕ Global → List ℕ = λ v. v.items in
    let below = successor_below (graph_of c.args.predecessors.now) (graph_of c.args.successors.now) c.in-Some.vertex c.predecessors_of-pending.result.now c.loop-successor.successor-index
    c.requires.successors c.predecessors_of-pending.ensures c.loop-successor-test.true in
    omega (arith, below, length-map c.args.predecessors.now row)

pub look_again-requires-clause-passed : goal.look_again-requires-clause-passed
look_again-requires-clause-passed c =
    let below = successor_below (graph_of c.args.predecessors.now) (graph_of c.args.successors.now) c.in-Some.vertex c.predecessors_of-pending.result.now c.loop-successor.successor-index
    c.requires.successors c.predecessors_of-pending.ensures c.loop-successor-test.true in
    omega (arith, below, c.loop-successor.invariant.looked.passed_length)

pub look_again-requires-clause-placed : goal.look_again-requires-clause-placed
look_again-requires-clause-placed c =
    let below = successor_below (graph_of c.args.predecessors.now) (graph_of c.args.successors.now) c.in-Some.vertex c.predecessors_of-pending.result.now c.loop-successor.successor-index
    c.requires.successors c.predecessors_of-pending.ensures c.loop-successor-test.true in
    omega (arith, below, c.loop-successor.invariant.looked.placed_length)

pub loop-successor-preserved : goal.loop-successor-preserved
loop-successor-preserved c =
    let graph = graph_of c.args.predecessors.now in
    let pending = c.predecessors_of-pending.result.now in
    let i = c.loop-successor.successor-index in
    let v = get_or pending i 0 in
    let s = stage c.loop-successor.self in
    let t = stage c.look_again.new.self in
    let below = successor_below graph (graph_of c.args.successors.now) c.in-Some.vertex pending i c.requires.successors c.predecessors_of-pending.ensures c.loop-successor-test.true in
    let looked : IsLookedThrough (preds graph v) s.placed (count_of s.passed v) (count_of t.passed v) =
    subst (λ z. IsLookedThrough z s.placed (count_of s.passed v) (count_of t.passed v)) c.predecessors_of.ensures c.look_again.ensures.passed in
    let now : count_of t.passed v ≡ length (preds graph v) → stands s.placed v ≡ false → t.ready v ≡ true =
    subst (λ z. count_of t.passed v ≡ length z → stands s.placed v ≡ false → t.ready v ≡ true) c.predecessors_of.ensures c.in_ok-look_again.ensures.ready in
    let added : (u : ℕ) → t.ready u ≡ true → (s.ready u ≡ true) ⊎ ((u ≡ v) × (stands s.placed v ≡ false) × (count_of t.passed v ≡ length (preds graph v))) =
    subst (λ z. (u : ℕ) → t.ready u ≡ true → (s.ready u ≡ true) ⊎ ((u ≡ v) × (stands s.placed v ≡ false) × (count_of t.passed v ≡ length z))) c.predecessors_of.ensures c.in_ok-look_again.ensures.added in
    record {
      looked = looked_stage graph pending i s t v c.loop-successor.invariant.looked refl below c.look_again.ensures.placed c.look_again.ensures.order c.look_again.ensures.length
          c.look_again.ensures.others looked now c.in_ok-look_again.ensures.kept added;
      placed = c.look_again.ensures.placed ∙ c.loop-successor.invariant.placed;
    }
