use Rattle.rst_lex.specs.Words.{is_profile_keyword}
use Rattle.rst_lex.proofs.words.is_profile_keyword.Goals as goal

pub returns : goal.returns
unfolding is_profile_keyword
returns c = c.is_listed.ensures
