use Rattle.std.proofs.Common.{◌≡◌, ◌∙◌, ◌++◌, ◌+◌, ◌/◌, ap, subst, sym, drop, arith, false}
use Rattle.std.specs.declared.vec.Vec.{Vec}
use Rattle.std.specs.declared.alloc.Global.{Global}
use Rattle.rst_gate.specs.declared.edge.Edge.{Edge}
use Rattle.rst_gate.specs.SharedGates.{constant_edge}
use Rattle.rst_statement_terms.specs.Statements.{unmasked}
use Rattle.rst_statement_gates.proofs.Reading.{skip_turn, keep_turn}
use Rattle.rst_statement_gates.proofs.labels.unmasked.Goals.{then-left-ne1+in_ok-push, else-left-ne1}
use Rattle.rst_statement_gates.proofs.labels.unmasked.Goals as goal

pub loop-k-preserved : goal.loop-k-preserved
loop-k-preserved c =
    let word = c.args.word.now in
    elim c.if-left-ne1.branch [
      | then-left-ne1+in_ok-push w ↦
          keep_turn c.loop-k.left word c.loop-k.k (constant_edge false) c.loop-k.bits.items c.if-left-ne1.bits.items (unmasked c.args.mask word) (omega arith) c.loop-k.invariant w.if-left-ne1.true
          (ap (λ (v : Vec Edge Global). v.items) w.bits-is ∙ w.in_ok-push.ensures.items)
      | else-left-ne1 w ↦
          subst (λ (v : Vec Edge Global). unmasked c.args.mask word ≡ v.items ++ unmasked (c.loop-k.left / 2) (drop (c.loop-k.k + 1) word)) (sym w.bits-is)
          (skip_turn c.loop-k.left word c.loop-k.k (constant_edge false) c.loop-k.bits.items (unmasked c.args.mask word) (omega arith) c.loop-k.invariant w.if-left-ne1.false)
    ]
