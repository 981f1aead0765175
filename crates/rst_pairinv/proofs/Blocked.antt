-- Blocked hops are hops of the pair, and tell the pairs of their cubes apart.
use Rattle.std.proofs.Common.{◌≡◌, ◌∙◌, ℕ, zero, suc, ◌<◌, ◌≤◌, Bool, List, [], ◌∷◌, length, get_or, take, refl, ap, sym, subst, arith}
use Rattle.std.specs.Prelude.{Option, None, Some}
use Rattle.std.specs.Option.{ForSome}
use Rattle.std.proofs.lemmas.List.{length-take-le, get_or-map}
use Rattle.rst_gate.specs.Machine.{SameAcross}
use Rattle.rst_gate.proofs.Readings.{gates_keep_states}
use Rattle.rst_gate.proofs.Relations.{same-inductive}
use Rattle.rst_value.specs.declared.tern.Tern.{Tern}
use Rattle.rst_pair.specs.declared.hop.Hop.{Hop}
use Rattle.rst_pair.specs.Sides.{Sides, AreSides, left_machine, right_machine, IsPair, IsCube, Holds}
use Rattle.rst_pair.specs.Aims.{Leads, LiesInNone}
use Rattle.rst_pair.specs.Hops.{AreHops, IsHop, cubes_of, cube_at, blocked_aim}
use Rattle.rst_pair.specs.Fronts.{Front', IsFront}
use Rattle.rst_pose.specs.Posing.{IsSmall, IsWithin}
use Rattle.rst_pairinv.specs.declared.block.Refining.{Refining}
use Rattle.rst_pairinv.specs.Blocking.{IsBlockedHop, AreBlocked}
use Rattle.rst_pairinv.specs.Turns.{IsRefining}
use Rattle.rst_pairinv.proofs.Journals.{blocked_few}

pub are_hops : (p : Sides) (hops : List Hop) → AreBlocked p hops → AreHops p hops
are_hops p hops h i d below =
    subst (λ (n : ℕ). IsHop p n (get_or hops i d)) (length-take-le i hops (omega (arith, below))) (h i d below).fits

no_hops : (p : Sides) → AreHops p []
no_hops p i d below = absurd (omega (arith, below))

pub is_front : (p : Sides) (f : Front') → length f.equal ≡ p.left.states → f.freed ≡ [] → AreBlocked p f.blocked → IsFront p f
is_front p f count none h = record {
  equal = count;
  blocked = are_hops p f.blocked h;
  freed = subst (λ (hops : List Hop). AreHops p hops) (sym none) (no_hops p);
}

pub hops_few : (p : Sides) (it : Refining) → IsRefining p it → length it.front.blocked ≤ length it.journal
hops_few p it at = omega (arith, blocked_few it.journal, ap length at.blocked)

pub is_within :
    (p : Sides) (it : Refining) → IsSmall p.left → IsSmall p.right → IsRefining p it → length it.journal ≤ 100000 → IsWithin p it.front
is_within p it left right at few = record {
  left = left;
  right = right;
  front = is_front p it.front at.count at.none_freed at.hops;
  blocked = omega (arith, few, hops_few p it at);
  freed = omega (arith, ap length at.none_freed);
}

pub length_cubes : (hops : List Hop) → length (cubes_of hops) ≡ length hops
length_cubes [] = refl
length_cubes (hop ∷ hops) = omega (arith, length_cubes hops)

-- the cube of an earlier hop
pub cube_before : (hops : List Hop) (n k : ℕ) → k < n → cube_at (take n hops) k ≡ cube_at hops k
cube_before [] zero k less = refl
cube_before [] (suc n) k less = refl
cube_before (hop ∷ hops) zero k less = absurd (omega (arith, less))
cube_before (hop ∷ hops) (suc n) zero less = refl
cube_before (hop ∷ hops) (suc n) (suc k) less = cube_before hops n k (omega (arith, less))

abbrev no_hop : Hop
no_hop = record { cube = []; input = []; next = None }

module _ (p : Sides) (hops : List Hop) (sides : AreSides p) (blocked : AreBlocked p hops) where
  -- no pair of the cube behaves the same
  abbrev IsApart : ℕ → Type 0
  IsApart k = (s t : List Bool) → IsPair p s t → Holds (cube_at hops k) s t → SameAcross (left_machine p) (right_machine p) s t → ⊥

  apart_by_next :
      (n : ℕ) (input s t : List Bool) (next : Option ℕ) → IsPair p s t → length input ≡ p.left.inputs → ForSome next (λ k. k < n)
      → ((k : ℕ) → k < n → IsApart k) → Leads p (blocked_aim (take n hops) next) input s t
      → SameAcross (left_machine p) (right_machine p) s t → ⊥
  apart_by_next n input s t None pair width fits earlier leads same =
      leads (same-inductive (left_machine p) (right_machine p) s t input pair.0 pair.1 width same).0
  apart_by_next n input s t (Some k) pair width fits earlier leads same =
      earlier k (fits k refl) ((left_machine p).step s input) ((right_machine p).step t input) (
        gates_keep_states p.left sides.left s input pair.0 width,
        gates_keep_states p.right sides.right t input pair.1 (width ∙ sides.ports.inputs),
      )
      (subst (λ (cube : List Tern). Holds cube ((left_machine p).step s input) ((right_machine p).step t input)) (cube_before hops n k (fits k refl)) leads)
      (same-inductive (left_machine p) (right_machine p) s t input pair.0 pair.1 width same).1

  apart_at : (n k : ℕ) → k < n → k < length hops → IsApart k
  apart_at zero k less below s t pair holds same = absurd (omega (arith, less))
  apart_at (suc n) k less below s t pair holds same =
      let hop = get_or hops k no_hop in
      let one : IsBlockedHop p (take k hops) hop = blocked k no_hop below in
      let count : length (take k hops) ≡ k = length-take-le k hops (omega (arith, below)) in
      let cube : cube_at hops k ≡ hop.cube = get_or-map (λ (h : Hop). h.cube) hops k no_hop [] below in
      let leads = one.right s t pair (subst (λ (c : List Tern). Holds c s t) cube holds) in
      apart_by_next k hop.input s t hop.next pair one.fits.input
      (subst (λ (m : ℕ). ForSome hop.next (λ j. j < m)) count one.fits.next)
      (λ j lower. apart_at n j (omega (arith, lower, less)) (omega (arith, lower, below))) leads same

  pub same_outside : (s t : List Bool) → IsPair p s t → SameAcross (left_machine p) (right_machine p) s t → LiesInNone (cubes_of hops) s t
  same_outside s t pair same k below holds =
      let here : k < length hops = omega (arith, below, length_cubes hops) in
      apart_at (suc k) k (omega arith) here s t pair holds same

-- the cube of a hop at a place
pub cube_wide : (p : Sides) (hops : List Hop) (k : ℕ) → AreHops p hops → k < length hops → IsCube p (cube_at hops k)
cube_wide p hops k are below =
    ap length (get_or-map (λ (h : Hop). h.cube) hops k no_hop [] below) ∙ (are k no_hop below).cube
