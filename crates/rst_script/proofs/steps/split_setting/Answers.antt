use Rattle.std.proofs.Common.{arith}
use Rattle.rst_script.proofs.SignFacts.{sign_cut, sign_none}
use Rattle.rst_script.proofs.steps.split_setting.Goals as goal

pub returns-then-len-word-clause-found : goal.returns-then-len-word-clause-found
returns-then-len-word-clause-found c = sign_cut c.args.word.now _ c.name_len-len.ensures.value (omega arith)

pub returns-else-len-word-clause-none : goal.returns-else-len-word-clause-none
returns-else-len-word-clause-none c = sign_none c.args.word.now _ c.name_len-len.ensures.value c.name_len-len.ensures.within (omega arith)
