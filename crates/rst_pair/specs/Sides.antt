-- Two designs that are compared, and cubes of pairs of their states.
use Rattle.std.specs.Prelude.{◌≡◌, ◌+◌, Bool, List, ◌++◌, length, map, take, drop}
use Rattle.std.specs.List.{AllZip}
use Rattle.rst_value.specs.declared.tern.Tern.{Tern}
use Rattle.rst_value.specs.Terns.{known, StandsFor}
use Rattle.rst_gate.specs.Machine.{Machine, IsState, HaveSamePorts}
use Rattle.rst_gate.specs.Circuits.{Circuit, IsCircuit}
use Rattle.rst_gate.specs.GateMachines.{machine_of, terns_of}

pub record Sides : Type 0 where
  pub left : Circuit
  pub right : Circuit

abbrev pub left_machine : Sides → Machine
left_machine p = machine_of p.left

abbrev pub right_machine : Sides → Machine
right_machine p = machine_of p.right

-- the two sides have equal numbers of inputs and of outputs
pub record AreSides (p : Sides) : Type 0 where
  pub left : IsCircuit p.left
  pub right : IsCircuit p.right
  pub ports : HaveSamePorts (left_machine p) (right_machine p)

-- a state of the left side, and one of the right
abbrev pub IsPair : Sides → List Bool → List Bool → Type 0
IsPair p s t = IsState (left_machine p) s × IsState (right_machine p) t

-- a cube of pairs has the left registers' places, then the right ones'
abbrev pub IsCube : Sides → List Tern → Type 0
IsCube p cube = length cube ≡ p.left.states + p.right.states

-- the pair agrees with each known place of the cube
abbrev pub Holds : List Tern → List Bool → List Bool → Type 0
Holds cube s t = AllZip StandsFor cube (s ++ t)

-- what one three-valued cycle from a cube shows
pub record Shown : Type 0 where
  pub left_outs : List Tern
  pub right_outs : List Tern
  -- the left successor, then the right one
  pub successor : List Tern

abbrev pub tern_step : Sides → List Tern → List Bool → Shown
tern_step p cube input =
    let left = take p.left.states cube in
    let right = drop p.left.states cube in
    record {
      left_outs = (terns_of p.left).out left (map known input);
      right_outs = (terns_of p.right).out right (map known input);
      successor = (terns_of p.left).step left (map known input) ++ (terns_of p.right).step right (map known input);
    }
