use Rattle.rst_width.proofs.AgreeSizing.{constant_only, constant_all}
use Rattle.rst_width.proofs.laws.constants_are_typed.Goals as goal

pub returns : goal.returns
returns c = record { only = constant_only; all = constant_all }
