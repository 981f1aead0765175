use Rattle.rst_known.proofs.Trails.{inputs_are, states_are, trails_are, behind_is}
use Rattle.rst_known.proofs.laws.gates_read_alike.Goals as goal

pub returns : goal.returns
returns c = record {
  inputs = inputs_are;
  states = states_are;
  trails = trails_are;
  behind = behind_is;
}
