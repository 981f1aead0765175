use Rattle.rst_script.proofs.PatternFacts.{fits}
use Rattle.rst_script.proofs.laws.patterns_fit.Goals as goal

pub returns : goal.returns
returns c = fits
