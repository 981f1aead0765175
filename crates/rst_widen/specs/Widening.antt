-- How a cube is widened, place by place.
use Rattle.std.specs.Prelude.{◌≡◌, ℕ, ◌<◌, ◌+◌, Bool, if◌then◌else◌, List, [], ◌∷◌, ◌++◌, length, take, drop, slice_set}
use Rattle.std.specs.List.{All, Contains}
use Rattle.rst_value.specs.declared.tern.Tern.{Tern}
use Rattle.rst_value.specs.declared.tern.Tern.TheVariants.{Unknown}
use Rattle.rst_gate.specs.GateMachines.{terns_of}
use Rattle.rst_gate.specs.Frames.{Values}
use Rattle.rst_widen.specs.declared.aim.Aim.{Aim}
use Rattle.rst_widen.specs.declared.aim.Aim.TheVariants.{Differ, Inside, Outside}
use Rattle.rst_widen.specs.declared.widen.Widening.{Widening}
use Rattle.rst_pair.specs.Sides.{Sides, Shown}
use Rattle.rst_pair.specs.Aims.{Aim', passes}
use Rattle.rst_pair.specs.Hops.{cubes_of}

-- with this place at X where it still passes
abbrev pub tried : Sides → Aim' → List Bool → List Tern → ℕ → List Tern
tried p aim input cube i = if passes p aim input (slice_set cube i Unknown) then slice_set cube i Unknown else cube

-- one place after another
abbrev pub widened : Sides → Aim' → List Bool → List Tern → List ℕ → List Tern
widened p aim input cube [] = cube
widened p aim input cube (i ∷ order) = widened p aim input (tried p aim input cube i) order

-- what the code aims at
abbrev pub plain_aim : Aim → Aim'
plain_aim Differ = Aim'.Differ
plain_aim (Inside cube) = Aim'.Inside cube.now
plain_aim (Outside hops) = Aim'.Outside (cubes_of hops.now)

-- each cube that is aimed at has so many places
abbrev pub AimFits : ℕ → Aim → Type 0
AimFits n Differ = Unit {0}
AimFits n (Inside cube) = length cube.now ≡ n
AimFits n (Outside hops) = All (λ cube. length cube ≡ n) (cubes_of hops.now)

-- what the frames of both sides show
abbrev pub shown_by : Values Tern → Values Tern → Shown
shown_by left right = record { left_outs = left.outs; right_outs = right.outs; successor = left.nexts ++ right.nexts }

-- the cube, and the three-valued cycles of both sides from it
pub record IsAt (p : Sides) (input : List Tern) (now : Widening) : Type 0 where
  pub cube : length now.cube.items ≡ p.left.states + p.right.states
  pub left_outs : now.left.outs ≡ (terns_of p.left).out (take p.left.states now.cube.items) input
  pub left_nexts : now.left.nexts ≡ (terns_of p.left).step (take p.left.states now.cube.items) input
  pub right_outs : now.right.outs ≡ (terns_of p.right).out (drop p.left.states now.cube.items) input
  pub right_nexts : now.right.nexts ≡ (terns_of p.right).step (drop p.left.states now.cube.items) input
  pub each_left : length now.left.nexts ≡ p.left.states
  pub each_right : length now.right.nexts ≡ p.right.states
  pub each_out : length now.left.outs ≡ length now.right.outs

-- each of so many places stands in the order, and no other
pub record IsOrder (n : ℕ) (order : List ℕ) : Type 0 where
  pub below : (i : ℕ) → Contains order i → i < n
  pub all : (i : ℕ) → i < n → Contains order i

-- the cube with place after place at X where it still passes, each place being tried
pub record IsWidened (p : Sides) (aim : Aim') (input : List Bool) (cube new : List Tern) : Type 0 where
  pub order : List ℕ
  pub is_order : IsOrder (p.left.states + p.right.states) order
  pub is : new ≡ widened p aim input cube order
