use Rattle.std.proofs.Common.{◌≡◌, ◌*◌, ◌%◌, ◌^◌, arith, rules}
use Rattle.std.proofs.lemmas.Nat.{shl_whole}
use Rattle.rst_word.proofs.Powers.{joined_fits, pow_rises}
use Rattle.rst_word.proofs.word.Word.concat2.Goals as goal

pub overflow_add-result-2 : goal.overflow_add-result-2
overflow_add-result-2 c =
    let whole : c.args.high.value * 2 ^ c.args.low.width % 2 ^ 64 ≡ c.args.high.value * 2 ^ c.args.low.width = shl_whole _ _ _ 64 c.args.high.fits c.requires
    in let below = joined_fits _ _ _ _ c.args.high.fits c.args.low.fits
    in let top = pow_rises _ 64 c.requires
    in omega (arith, whole, below, top)

pub invariant_of-result-clause-fits : goal.invariant_of-result-clause-fits
invariant_of-result-clause-fits c =
    rw (shl_whole _ _ _ 64 c.args.high.fits c.requires) (joined_fits _ _ _ _ c.args.high.fits c.args.low.fits)

pub returns : goal.returns
returns c = rw (shl_whole _ _ _ 64 c.args.high.fits c.requires) (search rules)
