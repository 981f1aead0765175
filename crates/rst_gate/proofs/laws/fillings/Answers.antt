use Rattle.rst_gate.proofs.PatternFillings.{fillings-known, fillings-words}
use Rattle.rst_gate.proofs.Filling.{filled-fills, each_filling}
use Rattle.rst_gate.proofs.laws.fillings.Goals as goal

pub returns : goal.returns
returns c = record {
  of_a_word = fillings-known;
  are_words = fillings-words;
  by_free_bits = filled-fills;
  each_by_free_bits = each_filling;
}
