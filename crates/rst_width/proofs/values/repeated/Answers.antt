use Rattle.std.proofs.Common.{◌≡◌, ◌∙◌, sym, ap, ◌+◌, ◌-◌, ◌*◌, arith, add-one}
use Rattle.std.proofs.Math.Nat.{suc-mul}
use Rattle.rst_word.specs.Words.{PlainWord}
use Rattle.rst_word.specs.Plain.{plain_word}
use Rattle.rst_width.specs.Values.{repeated}
use Rattle.rst_width.proofs.Words.{repeated-step}
use Rattle.rst_width.proofs.values.repeated.Goals as goal

pub loop-preserved : goal.loop-preserved
loop-preserved c =
    let left : c.args.count - c.loop.counter ≡ c.args.count - (c.loop.counter + 1) + 1 = omega arith in
    let step = ap (λ n. repeated n (plain_word c.loop.front) (plain_word c.args.word)) left ∙ repeated-step (c.args.count - (c.loop.counter + 1)) (plain_word c.loop.front) (plain_word c.args.word) in
    let width = ap (λ (w : PlainWord). w.width) c.concat2-front.ensures in
    let times : (c.loop.counter + 1) * c.args.word.width ≡ c.loop.counter * c.args.word.width + c.args.word.width = rw add-one (suc-mul c.loop.counter c.args.word.width) in
    (rw c.concat2-front.ensures (sym step ∙ c.loop.invariant.0), width ∙ ap (λ n. n + c.args.word.width) c.loop.invariant.1 ∙ sym times)
