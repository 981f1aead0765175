use Rattle.std.proofs.Common.{◌≡◌, ◌∙◌, ◌+◌, ◌-◌, arith, ap, subst, sym, take, ℕ, ◌≤◌}
use Rattle.rst_lower.specs.WireWords.{widths_of}
use Rattle.rst_statement_gates.specs.Choices.{waiting_bits}
use Rattle.rst_statement_gates.proofs.Merging.{last_of, bits_push, behind_next, last_ready}
use Rattle.rst_statement_gates.proofs.waiting.merge_all.Goals as goal

pub merge-requires-clause-at_most_64 : goal.merge-requires-clause-at_most_64
merge-requires-clause-at_most_64 c = subst (λ (f : ℕ → ℕ). (i : ℕ) → f i ≤ 64) (sym c.loop-i.invariant.widths) c.requires.at_most_64

pub merge-requires-clause-ready : goal.merge-requires-clause-ready
merge-requires-clause-ready c =
    let w = c.index.result.now in
    let n = c.len-number.result in
    let parts = last_of c.args.waiting.items n c.loop-i.i w (omega arith) (omega arith) c.index.ensures in
    last_ready c.args.gates.now c.args.wires.now c.args.waiting.items c.loop-i.gates c.loop-i.wires (take (n - c.loop-i.i) c.args.waiting.items) (take (n - (c.loop-i.i + 1)) c.args.waiting.items) w
    c.loop-i.invariant parts

pub merge-requires-clause-room : goal.merge-requires-clause-room
merge-requires-clause-room c =
    let w = c.index.result.now in
    let n = c.len-number.result in
    let rest = take (n - (c.loop-i.i + 1)) c.args.waiting.items in
    let parts = last_of c.args.waiting.items n c.loop-i.i w (omega arith) (omega arith) c.index.ensures in
    let bits = ap waiting_bits parts ∙ bits_push rest w in
    let few = c.loop-i.invariant.few in
    let room = c.requires.room in
    omega (arith, bits, few, room)

pub loop-i-preserved : goal.loop-i-preserved
loop-i-preserved c =
    let w = c.index.result.now in
    let n = c.len-number.result in
    let parts = last_of c.args.waiting.items n c.loop-i.i w (omega arith) (omega arith) c.index.ensures in
    behind_next c.args.gates.now c.args.wires.now c.args.waiting.items c.loop-i.gates c.merge.new.gates c.loop-i.wires c.merge.new.wires
    (take (n - c.loop-i.i) c.args.waiting.items) (take (n - (c.loop-i.i + 1)) c.args.waiting.items) w c.loop-i.invariant parts
    c.in_ok-merge.ensures.gates c.in_ok-merge.ensures.wires c.in_ok-merge.ensures.stand c.in_ok-merge.ensures.count c.in_ok-merge.ensures.widths c.in_ok-merge.ensures.grows c.in_ok-merge.ensures.few
