-- Fronts: marked registers, and the hops of pairs that are told apart or brought together.
use Rattle.std.specs.Prelude.{◌≡◌, Bool, List, length}
use Rattle.rst_gate.specs.ClosedSets.{AgreeOn}
use Rattle.rst_gate.specs.MachineLaws.{Relation}
use Rattle.rst_pair.specs.declared.hop.Hop.{Hop}
use Rattle.rst_pair.specs.Sides.{Sides}
use Rattle.rst_pair.specs.Aims.{LiesInNone}
use Rattle.rst_pair.specs.Hops.{AreHops, cubes_of}

pub record Front' : Type 0 where
  -- of each register of the left side, whether it is marked
  pub equal : List Bool
  pub blocked : List Hop
  pub freed : List Hop

pub record IsFront (p : Sides) (f : Front') : Type 0 where
  pub equal : length f.equal ≡ p.left.states
  pub blocked : AreHops p f.blocked
  pub freed : AreHops p f.freed

-- the pair is equal on the marked registers and lies in no blocked cube
pub record IsRelated (f : Front') (s t : List Bool) : Type 0 where
  pub equal : AgreeOn f.equal s t
  pub outside : LiesInNone (cubes_of f.blocked) s t

-- the relation of a front
abbrev pub relation : Front' → Relation
relation f = IsRelated f
