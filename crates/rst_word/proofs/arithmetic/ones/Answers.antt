use Rattle.rst_word.proofs.Powers.{shifted_rises}
use Rattle.rst_word.proofs.arithmetic.ones.Goals as goal

pub overflow_sub-result : goal.overflow_sub-result
overflow_sub-result c = shifted_rises c.args.from c.args.to c.requires.order c.requires.at_most_64
