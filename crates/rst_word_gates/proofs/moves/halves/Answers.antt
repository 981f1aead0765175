use Rattle.std.proofs.Common.{◌+◌, ◌<◌, length, arith}
use Rattle.std.proofs.lemmas.Grind.{common_steps}
use Rattle.rst_word_gates.proofs.Turns.{evens_turn, odds_turn}
use Rattle.rst_word_gates.proofs.moves.halves.Goals as goal

pub loop-i-preserved : goal.loop-i-preserved
loop-i-preserved c =
    let below : c.loop-i.i + c.loop-i.i + 1 < length c.args.word.now = omega (arith, c.requires, c.loop-i-test.true) in
    record {
      even = evens_turn c.args.word.now c.loop-i.even.items c.push.new.self.items c.loop-i.i _ below c.loop-i.invariant.even c.in_ok-push.ensures.items;
      odd = odds_turn c.args.word.now c.loop-i.odd.items c.push-in-loop-i.new.self.items c.loop-i.i _ below c.loop-i.invariant.odd c.in_ok-push-2.ensures.items;
      even_width = grind (arith, common_steps, c.in_ok-push.ensures.items);
      odd_width = grind (arith, common_steps, c.in_ok-push-2.ensures.items);
    }
