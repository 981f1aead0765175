use Rattle.rst_replay.proofs.Apart.{inside_aligns}
use Rattle.rst_replay.proofs.laws.inside_signs.Goals as goal

pub returns : goal.returns
returns c = inside_aligns
