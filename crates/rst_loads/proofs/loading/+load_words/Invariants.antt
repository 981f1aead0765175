use Rattle.std.proofs.Common.{length}
use Rattle.rst_loads.proofs.loading.+load_words.Given as goal

abbrev pub decreases-load_words : goal.decreases-load_words
decreases-load_words g l = length l.words.now
