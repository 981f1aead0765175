use Rattle.rst_script.proofs.ScriptFacts.{keeps_limits}
use Rattle.rst_script.proofs.laws.scripts_keep_limits.Goals as goal

pub returns : goal.returns
returns c = keeps_limits
