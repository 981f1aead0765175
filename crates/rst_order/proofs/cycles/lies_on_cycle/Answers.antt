use Rattle.std.proofs.Common.{◌≡◌, ℕ, ◌+◌, ◌-◌, ◌<◌, take, append-nil, ◌∷◌, ◌++◌, [], Bool, false, List, length, get_or, sym, ap, subst, ◌∙◌, refl, arith, length-append}
use Rattle.std.proofs.lemmas.List.{length-map, length-replicate}
use Rattle.std.proofs.lemmas.List.Elements.{Contains-push}
use Rattle.std.proofs.Math.ListN.{replicate}
use Rattle.std.specs.List.{Contains}
use Rattle.std.specs.declared.vec.Vec.{Vec}
use Rattle.std.specs.declared.alloc.Global.{Global}
use Rattle.rst_order.specs.Graphs.{Graph, graph_of, IsGraph, OnCycle}
use Rattle.rst_order.specs.Walks.{IsMarking, IsSearch, stands, preds}
use Rattle.rst_order.proofs.Members.{written_back, unmarked, mark_within, at_place, take_none}
use Rattle.rst_order.proofs.Searching.{search_start, search_more, all_marked}
use Rattle.rst_order.proofs.cycles.lies_on_cycle.Goals as goal

pub mark-requires : goal.mark-requires
mark-requires c =
    let row : Vec ℕ Global → List ℕ = λ v. v.items in
    record {
      bounded = λ v h.
          let below : v < length (graph_of c.args.predecessors.now) = c.requires.graph v c.args.vertex (subst (λ z. Contains z v) c.predecessors_of.ensures h) in
          let len : length c.deref_mut.result.now ≡ length c.args.predecessors.now =
          ap length (c.deref_mut.ensures.value ∙ c.in_ok-marks.ensures) ∙ length-replicate (length c.args.predecessors.now) false in
          omega (arith, below, len, length-map c.args.predecessors.now row);
    }

pub loop-next-init : goal.loop-next-init
loop-next-init c =
    let row : Vec ℕ Global → List ℕ = λ v. v.items in
    let graph = graph_of c.args.predecessors.now in
    let none = c.deref_mut.result.now in
    let marks = c.mark.new.marks in
    let waiting = c.mark.new.waiting.items in
    let e = written_back c.in_ok-marks.marks.items marks c.in_ok-marks.marks.len (omega (arith, c.mark.auto.marks, c.deref_mut.ensures.len)) in
    let blank : none ≡ replicate (length c.args.predecessors.now) false = c.deref_mut.ensures.value ∙ c.in_ok-marks.ensures in
    let len : length none ≡ length graph = ap length blank ∙ length-replicate (length c.args.predecessors.now) false ∙ sym (length-map c.args.predecessors.now row) in
    let w : IsMarking (preds graph c.args.vertex) (length (preds graph c.args.vertex)) none [] marks waiting =
    subst (λ z. IsMarking z (length z) none [] marks waiting) c.predecessors_of.ensures
    (subst (λ q. IsMarking c.predecessors_of.result.now (length c.predecessors_of.result.now) none q marks waiting) c.new-waiting.ensures.items c.in_ok-mark.ensures) in
    subst (λ z. IsSearch graph c.args.vertex z waiting) (sym e)
    (search_start graph c.args.vertex none marks waiting len
    (λ v h. let free : stands none v ≡ false = subst (λ z. stands z v ≡ false) (sym blank) (unmarked (length c.args.predecessors.now) v) in cc) w)

pub predecessors_of-requires-in-Some : goal.predecessors_of-requires-in-Some
predecessors_of-requires-in-Some c =
    let row : Vec ℕ Global → List ℕ = λ v. v.items in
    let here : Contains c.loop-next.waiting.items c.in-Some.next =
    subst (λ z. Contains z c.in-Some.next) (sym c.in-Some.ensures.items) (Contains-push c.pop.new.self.items c.in-Some.next) in
    let below : c.in-Some.next < length c.loop-next.marks.items = mark_within c.loop-next.marks.items c.in-Some.next (c.loop-next.invariant.marked c.in-Some.next here) in
    let len : length c.loop-next.marks.items ≡ length (graph_of c.args.predecessors.now) = c.loop-next.invariant.marks_length in
    omega (arith, below, len, length-map c.args.predecessors.now row)

pub mark-requires-in-Some : goal.mark-requires-in-Some
mark-requires-in-Some c = record {
  bounded = λ v h.
      let below : v < length (graph_of c.args.predecessors.now) = c.requires.graph v c.in-Some.next (subst (λ z. Contains z v) c.predecessors_of-in-Some.ensures h) in
      let len : length c.deref_mut-in-Some.result.now ≡ length (graph_of c.args.predecessors.now) =
      ap length c.deref_mut-in-Some.ensures.value ∙ c.loop-next.invariant.marks_length in
      omega (arith, below, len);
}

pub loop-next-preserved : goal.loop-next-preserved
loop-next-preserved c =
    let graph = graph_of c.args.predecessors.now in
    let marks = c.mark-in-Some.new.marks in
    let waiting = c.mark-in-Some.new.waiting.items in
    let rest = c.pop.new.self.items in
    let e = written_back c.loop-next.marks.items marks c.loop-next.marks.len (omega (arith, c.mark-in-Some.auto.marks, c.deref_mut-in-Some.ensures.len)) in
    let w : IsMarking (preds graph c.in-Some.next) (length (preds graph c.in-Some.next)) c.loop-next.marks.items rest marks waiting =
    subst (λ z. IsMarking z (length z) c.loop-next.marks.items rest marks waiting) c.predecessors_of-in-Some.ensures
    (subst (λ z. IsMarking c.predecessors_of-in-Some.result.now (length c.predecessors_of-in-Some.result.now) z rest marks waiting) c.deref_mut-in-Some.ensures.value c.in_ok-mark-2.ensures) in
    subst (λ z. IsSearch graph c.args.vertex z waiting) (sym e)
    (search_more graph c.args.vertex c.loop-next.marks.items marks rest waiting c.in-Some.next
    (subst (λ z. IsSearch graph c.args.vertex c.loop-next.marks.items z) c.in-Some.ensures.items c.loop-next.invariant) w)

pub returns : goal.returns
returns c =
    let row : Vec ℕ Global → List ℕ = λ v. v.items in
    let graph = graph_of c.args.predecessors.now in
    let marks = c.loop-next.marks.items in
    let waiting = c.loop-next.waiting.items in
    let empty : waiting ≡ [] =
    c.in_default.ensures.items ∙ append-nil c.pop.new.self.items ∙ c.in_default.ensures.rest ∙ ap (λ n. take (n - 1) waiting) c.in_default.ensures.cases.0 ∙ take_none waiting in
    let s : IsSearch graph c.args.vertex marks [] = subst (λ z. IsSearch graph c.args.vertex marks z) empty c.loop-next.invariant in
    let len : length marks ≡ length graph = c.loop-next.invariant.marks_length in
    let below : c.args.vertex < length marks = omega (arith, len, length-map c.args.predecessors.now row, c.requires.vertex) in
    let found : c.index.result.now ≡ stands marks c.args.vertex = c.index.ensures ∙ at_place marks c.args.vertex c.index.result.now false below in
    ((λ is. s.reach c.args.vertex (sym found ∙ is)), (λ cycle. found ∙ all_marked graph c.args.vertex marks s c.args.vertex cycle))
