use Rattle.std.proofs.Common.{refl, arith}
use Rattle.rst_script.proofs.LineFacts.{words_none, words_cut, word_filled}
use Rattle.rst_script.proofs.words.split_word.Goals as goal

pub returns-then-is_empty-clause-none : goal.returns-then-is_empty-clause-none
returns-then-is_empty-clause-none c = words_none c.args.line.now _ c.gap_len-start.ensures.value (grind arith)

pub returns-clause-found : goal.returns-clause-found
returns-clause-found c =
    words_cut c.args.line.now _ _ _ c.gap_len-start.ensures.value refl (grind arith) c.word_len-len.ensures.value

pub returns-clause-shorter : goal.returns-clause-shorter
returns-clause-shorter c =
    let some = word_filled c.args.line.now _ _ _ c.gap_len-start.ensures.value refl (grind arith) c.word_len-len.ensures.value in grind (arith, some)
