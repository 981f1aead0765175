use Rattle.std.proofs.Common.{◌≡◌, ◌+◌, ◌++◌, drop, length}
use Rattle.rst_terms.specs.Recurrences.{evens, odds}
use Rattle.rst_word_gates.proofs.moves.halves.Given as goal

abbrev pub invariant-loop-i : goal.invariant-loop-i
invariant-loop-i l = record {
  even : evens l.word ≡ l.even.items ++ evens (drop (l.i + l.i) l.word);
  odd : odds l.word ≡ l.odd.items ++ odds (drop (l.i + l.i) l.word);
  even_width : length l.even.items ≡ l.i;
  odd_width : length l.odd.items ≡ l.i;
}
