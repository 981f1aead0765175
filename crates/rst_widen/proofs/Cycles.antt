-- The values of nodes gate by gate, and a place that is set and set back.
use Rattle.std.proofs.Common.{◌≡◌, ◌∙◌, ℕ, zero, suc, ◌<◌, ◌≤◌, ◌+◌, Bool, false, List, [], ◌∷◌, ◌++◌, length, map, get_or, take, drop, refl, ap, arith}
use Rattle.std.specs.Prelude.{slice_index_or, slice_set}
use Rattle.std.proofs.lemmas.List.{at_drop_more, take-set-le, drop-set-lt}
use Rattle.rst_value.specs.declared.tern.Tern.{Tern}
use Rattle.rst_value.specs.declared.tern.Tern.TheVariants.{Unknown}
use Rattle.rst_value.specs.Terns.{known}
use Rattle.rst_gate.specs.declared.edge.Gate.{Gate}
use Rattle.rst_gate.specs.Operations.{on_terns}
use Rattle.rst_gate.specs.Nodes.{gate_value, values_behind}
use Rattle.rst_gate.specs.Frames.{Values}
use Rattle.rst_gate.specs.GateMachines.{terns_of}
use Rattle.rst_gate.specs.Circuits.{Circuit}
use Rattle.rst_pair.specs.Sides.{Sides, tern_step}
use Rattle.rst_pair.specs.Aims.{Aim', shows, passes}
use Rattle.rst_pair.proofs.Passing.{same_shows}
use Rattle.rst_widen.specs.declared.widen.Widening.{Widening}
use Rattle.rst_widen.specs.Widening.{tried, shown_by, IsAt}

-- one gate more
pub nodes_more :
    (gates : List Gate) (i : ℕ) (d : Gate) (nodes nodes' : List Tern) (v : Tern) → i < length gates
    → v ≡ gate_value on_terns nodes (get_or gates i d) → nodes' ≡ nodes ++ v ∷ []
    → values_behind on_terns (drop i gates) nodes ≡ values_behind on_terns (drop (i + 1) gates) nodes'
nodes_more gates i d nodes nodes' v below this is = rw (is, this) (at_drop_more (λ gs. values_behind on_terns gs nodes) gates i d below)

pub set_back :
    (xs : List Tern) (i : ℕ) (a b d : Tern) → i < length xs → b ≡ slice_index_or xs i d → slice_set (slice_set xs i a) i b ≡ xs
set_back [] i a b d below is = absurd (omega arith)
set_back (x ∷ xs) zero a b d below is = rw is refl
set_back (x ∷ xs) (suc i) a b d below is = ap (λ r. x ∷ r) (set_back xs i a b d (omega arith) is)

-- cube and cycles are as they were
pub at_again :
    (p : Sides) (input : List Tern) (a b : Widening) → IsAt p input a → b.cube.items ≡ a.cube.items → b.left ≡ a.left → b.right ≡ a.right
    → IsAt p input b
at_again p input a b at cube left right = record {
  cube = rw cube at.cube;
  left_outs = rw (cube, left) at.left_outs;
  left_nexts = rw (cube, left) at.left_nexts;
  right_outs = rw (cube, right) at.right_outs;
  right_nexts = rw (cube, right) at.right_nexts;
  each_left = rw left at.each_left;
  each_right = rw right at.each_right;
  each_out = rw (left, right) at.each_out;
}

-- what the frame of one side shows
record IsCycle (c : Circuit) (state input : List Tern) (frame : Values Tern) : Type 0 where
  pub outs : frame.outs ≡ (terns_of c).out state input
  pub nexts : frame.nexts ≡ (terns_of c).step state input

-- the frames of both sides are those of the cube
both_cycles :
    (p : Sides) (aim : Aim') (bits : List Bool) (input cube : List Tern) (left right : Values Tern) → input ≡ map known bits
    → IsCycle p.left (take p.left.states cube) input left → IsCycle p.right (drop p.left.states cube) input right
    → passes p aim bits cube ≡ shows aim (shown_by left right)
both_cycles p aim bits input cube left right is l r =
    same_shows aim (tern_step p cube bits) (shown_by left right) (rw (l.outs, is) refl) (rw (r.outs, is) refl) (rw (l.nexts, r.nexts, is) refl)

not_tried :
    (p : Sides) (aim : Aim') (bits : List Bool) (cube : List Tern) (i : ℕ) → passes p aim bits (slice_set cube i Unknown) ≡ false
    → cube ≡ tried p aim bits cube i
not_tried p aim bits cube i failed = rw failed refl

pub left_not_tried :
    (p : Sides) (aim : Aim') (bits : List Bool) (input cube : List Tern) (i : ℕ) (left right : Values Tern) → i < p.left.states
    → input ≡ map known bits → left.outs ≡ (terns_of p.left).out (take p.left.states (slice_set cube i Unknown)) input
    → left.nexts ≡ (terns_of p.left).step (take p.left.states (slice_set cube i Unknown)) input
    → right.outs ≡ (terns_of p.right).out (drop p.left.states cube) input
    → right.nexts ≡ (terns_of p.right).step (drop p.left.states cube) input
    → shows aim (shown_by left right) ≡ false → cube ≡ tried p aim bits cube i
left_not_tried p aim bits input cube i left right below is lo ln ro rn failed =
    let same : drop p.left.states (slice_set cube i Unknown) ≡ drop p.left.states cube = drop-set-lt p.left.states cube i Unknown below in
    not_tried p aim bits cube i
    (both_cycles p aim bits input (slice_set cube i Unknown) left right is (record { outs = lo; nexts = ln }) (record {
      outs = rw same ro;
      nexts = rw same rn;
    })
    ∙ failed)

pub right_not_tried :
    (p : Sides) (aim : Aim') (bits : List Bool) (input cube : List Tern) (i : ℕ) (left right : Values Tern) → p.left.states ≤ i
    → input ≡ map known bits → left.outs ≡ (terns_of p.left).out (take p.left.states cube) input
    → left.nexts ≡ (terns_of p.left).step (take p.left.states cube) input
    → right.outs ≡ (terns_of p.right).out (drop p.left.states (slice_set cube i Unknown)) input
    → right.nexts ≡ (terns_of p.right).step (drop p.left.states (slice_set cube i Unknown)) input
    → shows aim (shown_by left right) ≡ false → cube ≡ tried p aim bits cube i
right_not_tried p aim bits input cube i left right behind is lo ln ro rn failed =
    let same : take p.left.states (slice_set cube i Unknown) ≡ take p.left.states cube = take-set-le p.left.states cube i Unknown behind in
    not_tried p aim bits cube i
    (both_cycles p aim bits input (slice_set cube i Unknown) left right is (record { outs = rw same lo; nexts = rw same ln }) (record {
      outs = ro;
      nexts = rn;
    })
    ∙ failed)
