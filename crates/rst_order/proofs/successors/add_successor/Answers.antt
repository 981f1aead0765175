use Rattle.std.proofs.Common.{◌≡◌, ℕ, ◌+◌, ◌<◌, ◌∷◌, ◌++◌, [], List, length, get_or, sym, ap, subst, ◌∙◌, refl, arith}
use Rattle.std.proofs.Math.ListN.{set}
use Rattle.std.proofs.lemmas.List.{map-set, length-map}
use Rattle.std.specs.declared.vec.Vec.{Vec}
use Rattle.std.specs.declared.alloc.Global.{Global}
use Rattle.rst_order.specs.Graphs.{Graph, graph_of}
use Rattle.rst_order.specs.Walks.{AddsSuccessor}
use Rattle.rst_order.proofs.Members.{member_below}
use Rattle.rst_order.proofs.Growth.{row_of, none_added, one_added}
use Rattle.rst_order.proofs.successors.add_successor.Goals as goal

pub loop-vertex-init : goal.loop-vertex-init
loop-vertex-init c = none_added _ _ _

pub prove-unreachable-requires : goal.prove-unreachable-requires
prove-unreachable-requires c =
    let below : get_or c.args.vertices.now c.loop-vertex.vertex-index 0 < length c.args.successors.now =
    member_below c.args.vertices.now (length c.args.successors.now) c.requires.bounded c.loop-vertex.vertex-index (omega arith) in
    omega arith

pub loop-vertex-preserved : goal.loop-vertex-preserved
loop-vertex-preserved c =
    let succ = c.loop-vertex.successors in
    let v = get_or c.args.vertices.now c.loop-vertex.vertex-index 0 in
    let below : v < length succ = omega arith in
    let items : c.push.new.self.items ≡ get_or (graph_of succ) v [] ++ c.args.successor ∷ [] =
    c.in_ok-push.ensures.items ∙ ap (λ z. z ++ c.args.successor ∷ []) (row_of succ v c.index-successors-vertex.result below) in
    let e : graph_of (set succ v c.push.new.self) ≡ set (graph_of succ) v (get_or (graph_of succ) v [] ++ c.args.successor ∷ []) =
    map-set (λ (w : Vec ℕ Global). w.items) succ v c.push.new.self ∙ ap (λ z. set (graph_of succ) v z) items in
    subst (λ z. AddsSuccessor (graph_of c.args.successors.now) z c.args.vertices.now (c.loop-vertex.vertex-index + 1) c.args.successor) (sym e)
    (one_added (graph_of c.args.successors.now) (graph_of succ) c.args.vertices.now c.loop-vertex.vertex-index c.args.successor c.loop-vertex.invariant
    (omega (arith, length-map succ (λ (w : Vec ℕ Global). w.items))))
