use Rattle.std.proofs.Common.{◌≡◌, ℕ, ◌+◌, ◌<◌, ◌∷◌, ◌++◌, [], List, length, get_or, sym, ap, subst, ◌∙◌, refl, arith, length-append}
use Rattle.std.proofs.lemmas.List.{map-append, length-map}
use Rattle.std.specs.List.{Contains}
use Rattle.std.specs.declared.vec.Vec.{Vec}
use Rattle.std.specs.declared.alloc.Global.{Global}
use Rattle.rst_order.specs.Graphs.{Graph, graph_of}
use Rattle.rst_order.specs.Walks.{AddsSuccessor, ListsBelow, preds}
use Rattle.rst_order.proofs.Members.{written_back}
use Rattle.rst_order.proofs.Growth.{empty_more, lists_none, lists_more, lists_all, leads_within}
use Rattle.rst_order.proofs.successors.successors_of.Goals as goal

pub empty-preserved : goal.empty-preserved
empty-preserved c =
    let row : Vec ℕ Global → List ℕ = λ v. v.items in
    let e : graph_of c.push.new.self.items ≡ graph_of c.empty.successors.items ++ [] ∷ [] =
    ap graph_of c.in_ok-push.ensures.items ∙ map-append row c.empty.successors.items (c.new.result ∷ [])
    ∙ ap (λ (z : List ℕ). graph_of c.empty.successors.items ++ z ∷ []) c.new.ensures.items in
    record {
      count = ap length c.in_ok-push.ensures.items ∙ length-append c.empty.successors.items (c.new.result ∷ []) ∙ ap (λ n. n + 1) c.empty.invariant.count;
      bounded = λ a b h. empty_more (graph_of c.empty.successors.items) c.empty.invariant.bounded a b (subst (λ z. Contains (get_or z a []) b) e h);
    }

pub loop-vertex-init : goal.loop-vertex-init
loop-vertex-init c =
    let row : Vec ℕ Global → List ℕ = λ v. v.items in
    lists_none (graph_of c.args.predecessors.now) (graph_of c.empty.successors.items)
    (length-map c.empty.successors.items row ∙ c.empty.invariant.count ∙ (omega arith) ∙ sym (length-map c.args.predecessors.now row)) c.empty.invariant.bounded

pub add_successor-requires : goal.add_successor-requires
add_successor-requires c =
    let row : Vec ℕ Global → List ℕ = λ v. v.items in
    record {
      bounded = λ a h.
          let below : a < length (graph_of c.args.predecessors.now) = c.requires a c.loop-vertex.vertex (subst (λ z. Contains z a) c.predecessors_of.ensures h) in
          let len : length (graph_of c.loop-vertex.successors.items) ≡ length (graph_of c.args.predecessors.now) = c.loop-vertex.invariant.same_length in
          omega (arith, below, len, length-map c.loop-vertex.successors.items row, ap length c.deref_mut.ensures.value);
    }

pub loop-vertex-preserved : goal.loop-vertex-preserved
loop-vertex-preserved c =
    let graph = graph_of c.args.predecessors.now in
    let e = written_back c.loop-vertex.successors.items c.add_successor.new.successors c.loop-vertex.successors.len
    (omega (arith, c.add_successor.auto.successors, c.deref_mut.ensures.len)) in
    let added : AddsSuccessor (graph_of c.loop-vertex.successors.items) (graph_of c.add_successor.new.successors) (preds graph c.loop-vertex.vertex) (length (preds graph c.loop-vertex.vertex)) c.loop-vertex.vertex =
    subst (λ z. AddsSuccessor (graph_of c.loop-vertex.successors.items) (graph_of c.add_successor.new.successors) z (length z) c.loop-vertex.vertex) c.predecessors_of.ensures
    (subst (λ z. AddsSuccessor (graph_of z) (graph_of c.add_successor.new.successors) c.predecessors_of.result.now (length c.predecessors_of.result.now) c.loop-vertex.vertex) c.deref_mut.ensures.value c.in_ok-add_successor.ensures) in
    subst (λ z. ListsBelow graph (graph_of z) (c.loop-vertex.vertex + 1)) (sym e)
    (lists_more graph (graph_of c.loop-vertex.successors.items) (graph_of c.add_successor.new.successors) c.loop-vertex.vertex c.loop-vertex.invariant added)

pub returns : goal.returns
returns c =
    let row : Vec ℕ Global → List ℕ = λ v. v.items in
    let graph = graph_of c.args.predecessors.now in
    let all : c.loop-vertex.vertex ≡ length graph = omega (arith, length-map c.args.predecessors.now row) in
    lists_all graph (graph_of c.loop-vertex.successors.items) c.requires
    (subst (λ n. ListsBelow graph (graph_of c.loop-vertex.successors.items) n) all c.loop-vertex.invariant) (leads_within graph)
