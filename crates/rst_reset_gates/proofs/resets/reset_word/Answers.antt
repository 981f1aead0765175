use Rattle.std.proofs.Common.{◌∙◌, ℕ, Bool, ◌≤◌, ◌+◌, arith, sym, ap, subst, length}
use Rattle.std.specs.List.{All}
use Rattle.rst_gate.specs.GateLists.{next_node}
use Rattle.rst_gate.specs.Circuits.{IsBelow}
use Rattle.rst_statement_terms.specs.Weights.{places_below}
use Rattle.rst_agreement.proofs.Turned.{length_turned}
use Rattle.rst_reset_gates.specs.Tables.{reset_at}
use Rattle.rst_reset_gates.specs.Counts.{is_reset}
use Rattle.rst_reset_gates.proofs.Registers.{more_room, more_few, turned_result, on_ok}
use Rattle.rst_reset_gates.proofs.resets.reset_word.Goals as goal

pub reset_bits-requires-clause-room : goal.reset_bits-requires-clause-room
reset_bits-requires-clause-room c =
    let long = ap length (c.deref.ensures.value ∙ c.in_ok-bits-in-Register.ensures) ∙ length_turned c.args.word.now in
    let narrow = c.requires.width in
    more_room (λ place. is_reset (reset_at c.args.table.now c.args.signal place)) (length c.deref.result.now) 64 (next_node c.args.gates.now) 2147483648 (omega (arith, long, narrow)) c.requires.room

pub returns-in_ok-done-in-Register-clause-stand : goal.returns-in_ok-done-in-Register-clause-stand
returns-in_ok-done-in-Register-clause-stand c =
    let below = IsBelow (next_node c.reset_bits.new.gates) in
    turned_result below c.turned-in-Register.result c.deref-in-Register.result.now
    (subst (All below) (sym c.deref-in-Register.ensures.value) c.in_ok-done-in-Register.ensures.stand) c.turned-in-Register.ensures

pub returns-in_ok-done-in-Register-clause-few : goal.returns-in_ok-done-in-Register-clause-few
returns-in_ok-done-in-Register-clause-few c =
    let long = ap length (c.deref.ensures.value ∙ c.in_ok-bits-in-Register.ensures) ∙ length_turned c.args.word.now in
    let narrow = c.requires.width in
    let test : ℕ → Bool = λ place. is_reset (reset_at c.args.table.now c.args.signal place) in
    on_ok (next_node c.reset_bits.new.gates ≤ next_node c.args.gates.now + places_below test 64) c.turned-in-Register.result
    (more_few test (length c.deref.result.now) 64 (next_node c.args.gates.now) (next_node c.reset_bits.new.gates) (omega (arith, long, narrow)) c.in_ok-done-in-Register.ensures.few)
