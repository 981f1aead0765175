use Rattle.rst_replay.proofs.Apart.{landed_refutes}
use Rattle.rst_replay.proofs.laws.landed_pairs_are_told_apart.Goals as goal

pub returns : goal.returns
returns c = record {
  refuted = landed_refutes;
  unsigned = λ p pattern a b fill word by signed. by.apart (signed fill by.fills a b by.pair.0 by.pair.1 word by.is_word);
}
