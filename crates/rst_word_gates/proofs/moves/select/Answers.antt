use Rattle.std.proofs.Common.{length, arith, ap, ◌∙◌}
use Rattle.rst_terms.specs.Recurrences.{evens, odds}
use Rattle.rst_word_gates.specs.GateAlgebra.{gates_so_far}
use Rattle.rst_word_gates.proofs.Turns.{evens_stand, odds_stand, pow_half, select_turn}
use Rattle.rst_word_gates.proofs.moves.select.Goals as goal

pub halves-requires : goal.halves-requires
halves-requires c =
    let half = pow_half (length c.args.index.now) c.loop-j.j c.loop-j-test.true in
    omega (arith, half, c.loop-j.invariant.width, c.as_slice.ensures.len, c.len-half.ensures)

pub choose-requires-clause-one_stands : goal.choose-requires-clause-one_stands
choose-requires-clause-one_stands c = rw (c.as_slice-in-loop-j.ensures.value, c.in_ok-even.ensures.odd, c.as_slice.ensures.value) (odds_stand _ _ c.loop-j.invariant.stand)

pub choose-requires-clause-zero_stands : goal.choose-requires-clause-zero_stands
choose-requires-clause-zero_stands c = rw (c.as_slice-in-loop-j-2.ensures.value, c.in_ok-even.ensures.even, c.as_slice.ensures.value) (evens_stand _ _ c.loop-j.invariant.stand)

pub loop-j-preserved : goal.loop-j-preserved
loop-j-preserved c =
    let half = pow_half (length c.args.index.now) c.loop-j.j c.loop-j-test.true in
    let one = c.in_ok-bits-2.ensures in
    record {
      run = c.loop-j.invariant.run
          ∙ select_turn gates_so_far c.loop-j.gates c.choose.new.gates c.args.index.now c.loop-j.j _ c.loop-j.bits.items c.in_ok-bits-2.bits.items
          c.as_slice-in-loop-j-2.result.now c.as_slice-in-loop-j.result.now c.loop-j-test.true
          (c.as_slice-in-loop-j-2.ensures.value ∙ (c.in_ok-even.ensures.even ∙ ap evens c.as_slice.ensures.value))
          (c.as_slice-in-loop-j.ensures.value ∙ (c.in_ok-even.ensures.odd ∙ ap odds c.as_slice.ensures.value))
          one.gates one.bits;
      stand = one.stand;
      width = omega (arith, half, c.loop-j.invariant.width, one.width, c.as_slice-in-loop-j.ensures.len, c.in_ok-even.ensures.odd_width, c.len-half.ensures);
      few = omega (arith, half, c.loop-j.invariant.width, c.loop-j.invariant.few, one.few, one.width, c.as_slice-in-loop-j.ensures.len, c.in_ok-even.ensures.odd_width, c.len-half.ensures);
      grows = omega (arith, one.grows, c.loop-j.invariant.grows);
    }
