use Rattle.std.proofs.Common.{◌≡◌, ◌+◌, ◌*◌, ◌<◌, ◌≤◌, length, drop, arith, ◌∙◌}
use Rattle.rst_gate.specs.Circuits.{IsBelow}
use Rattle.rst_gate.specs.GateLists.{next_node}
use Rattle.rst_word_gates.specs.GateAlgebra.{gates_so_far}
use Rattle.rst_word_gates.proofs.Turns.{moved_stands, stage_bound, stages_fit, shift_past, on_ok}
use Rattle.rst_terms.proofs.ShiftWidths.{moved_width}
use Rattle.rst_word_gates.proofs.moves.shift.Goals as goal

pub choose-requires-clause-one_stands : goal.choose-requires-clause-one_stands
choose-requires-clause-one_stands c =
    let fill : IsBelow (next_node c.loop-j.gates) c.args.fill = omega (arith, c.requires.fill_stands, c.loop-j.invariant.grows) in
    rw (c.as_slice-in-loop-j-2.ensures.value, c.in_ok-other.ensures, c.as_slice-in-loop-j.ensures.value)
    (moved_stands c.args.way (next_node c.loop-j.gates) c.loop-j.places c.args.fill c.loop-j.bits.items fill c.loop-j.invariant.stand)

pub choose-requires-clause-room : goal.choose-requires-clause-room
choose-requires-clause-room c =
    let below : c.loop-j.places < length c.args.word.now = c.if-places-word.false in
    let stage = stage_bound c.loop-j.j (length c.args.word.now) (rw c.loop-j.invariant.places at below) c.requires.width in
    let fit = stages_fit (length c.args.word.now) c.loop-j.j 5 (omega (arith, stage)) in
    let wide : length c.as_slice-in-loop-j-2.result.now ≡ length c.args.word.now =
    rw (c.as_slice-in-loop-j-2.ensures.value, c.in_ok-other.ensures, c.as_slice-in-loop-j.ensures.value)
    (moved_width c.args.way c.args.fill c.loop-j.places c.loop-j.bits.items (omega (arith, below, c.loop-j.invariant.width)) ∙ c.loop-j.invariant.width) in
    omega (arith, fit, wide, c.loop-j.invariant.few, c.requires.room)

pub returns-then-places-word-clause-gates : goal.returns-then-places-word-clause-gates
returns-then-places-word-clause-gates c =
    let past = c.loop-j.invariant.run
    ∙ shift_past c.args.way gates_so_far c.loop-j.gates c.args.fill c.loop-j.places (drop c.loop-j.j c.args.amount.now) c.loop-j.bits.items
    (omega (arith, c.loop-j.invariant.width, c.if-places-word.true)) in
    rw past (rw (c.split_at.ensures.back, c.as_slice.ensures.value) at c.move_out.ensures.gates)

pub returns-then-places-word-clause-bits : goal.returns-then-places-word-clause-bits
returns-then-places-word-clause-bits c =
    let past = c.loop-j.invariant.run
    ∙ shift_past c.args.way gates_so_far c.loop-j.gates c.args.fill c.loop-j.places (drop c.loop-j.j c.args.amount.now) c.loop-j.bits.items
    (omega (arith, c.loop-j.invariant.width, c.if-places-word.true)) in
    rw past (rw (c.split_at.ensures.back, c.as_slice.ensures.value) at c.move_out.ensures.bits)

pub returns-then-places-word-clause-few : goal.returns-then-places-word-clause-few
returns-then-places-word-clause-few c =
    let fit = stages_fit (length c.args.word.now) c.loop-j.j 6 c.loop-j.invariant.stages in
    on_ok c.move_out.result
    (next_node c.move_out.new.gates ≤ next_node c.loop-j.gates + length c.split_at.result.1.now + length c.as_slice.result.now)
    (next_node c.move_out.new.gates ≤ next_node c.args.gates.now + 7 * length c.args.word.now + length c.args.amount.now)
    (λ f. omega (arith, f, fit, c.loop-j.invariant.few, c.loop-j.invariant.width, c.split_at.ensures.back_len, c.as_slice.ensures.len)) c.move_out.ensures.few

pub returns-clause-few : goal.returns-clause-few
returns-clause-few c =
    let fit = stages_fit (length c.args.word.now) c.loop-j.j 6 c.loop-j.invariant.stages in
    on_ok c.move_out-2.result
    (next_node c.move_out-2.new.gates ≤ next_node c.loop-j.gates + length c.split_at-2.result.1.now + length c.as_slice-2.result.now)
    (next_node c.move_out-2.new.gates ≤ next_node c.args.gates.now + 7 * length c.args.word.now + length c.args.amount.now)
    (λ f. omega (arith, f, fit, c.loop-j.invariant.few, c.loop-j.invariant.width, c.split_at-2.ensures.back_len, c.as_slice-2.ensures.len)) c.move_out-2.ensures.few
