use Rattle.std.proofs.Common.{◌≡◌, ℕ, ◌+◌, ◌<◌, ◌∷◌, ◌++◌, [], Bool, true, false, List, length, get_or, sym, ap, subst, ◌∙◌, refl, arith}
use Rattle.std.proofs.Math.ListN.{set}
use Rattle.std.specs.declared.vec.Vec.{Vec}
use Rattle.std.specs.declared.alloc.Global.{Global}
use Rattle.rst_order.specs.Walks.{IsMarking, stands}
use Rattle.rst_order.proofs.Members.{member_below}
use Rattle.rst_order.proofs.Searching.{marking_start, marking_old, marking_new}
use Rattle.rst_order.proofs.cycles.mark.Goals as goal
use Rattle.rst_order.proofs.cycles.mark.Goals.{then-not-marks-vertex+in_ok-push, else-not-marks-vertex}

pub loop-vertex-init : goal.loop-vertex-init
loop-vertex-init c = marking_start _ _ _

pub prove-unreachable-requires : goal.prove-unreachable-requires
prove-unreachable-requires c =
    let below : get_or c.args.vertices.now c.loop-vertex.vertex-index 0 < length c.args.marks.now =
    member_below c.args.vertices.now (length c.args.marks.now) c.requires.bounded c.loop-vertex.vertex-index (omega arith) in
    omega arith

pub loop-vertex-preserved : goal.loop-vertex-preserved
loop-vertex-preserved c =
    let vs = c.args.vertices.now in
    let i = c.loop-vertex.vertex-index in
    let v = get_or vs i 0 in
    let before = c.args.marks.now in
    let waited = c.args.waiting.now.items in
    let marks = c.loop-vertex.marks in
    let waiting = c.loop-vertex.waiting.items in
    elim c.if-not-marks-vertex.branch [
      | then-not-marks-vertex+in_ok-push w ↦
          let free : stands marks v ≡ false = first_of (cc (w.if-not-marks-vertex.true), grind (arith, w.if-not-marks-vertex.true)) in
          let items : c.if-not-marks-vertex.waiting.items ≡ waiting ++ v ∷ [] = ap (λ (q : Vec ℕ Global). q.items) w.waiting-is ∙ w.in_ok-push.ensures.items in
          subst (λ m. IsMarking vs (i + 1) before waited m c.if-not-marks-vertex.waiting.items) (sym w.marks-is)
          (subst (λ q. IsMarking vs (i + 1) before waited (set marks v true) q) (sym items)
          (marking_new vs i before waited marks waiting c.loop-vertex.invariant v refl (omega arith) (omega arith) free))
      | else-not-marks-vertex w ↦
          let here : stands marks v ≡ true = first_of (cc (w.if-not-marks-vertex.false), grind (arith, w.if-not-marks-vertex.false)) in
          subst (λ m. IsMarking vs (i + 1) before waited m c.if-not-marks-vertex.waiting.items) (sym w.marks-is)
          (subst (λ (q : Vec ℕ Global). IsMarking vs (i + 1) before waited marks q.items) (sym w.waiting-is)
          (marking_old vs i before waited marks waiting c.loop-vertex.invariant v refl here))
    ]
