use Rattle.rst_lex.specs.Words.{is_refused_keyword}
use Rattle.rst_lex.proofs.words.is_refused_keyword.Goals as goal

pub returns : goal.returns
unfolding is_refused_keyword
returns c = c.is_listed.ensures
