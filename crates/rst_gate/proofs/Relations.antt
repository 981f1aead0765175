-- Inductive relations hold pairs of the same behaviour, and pairs that are kept apart never align.
use Rattle.std.proofs.Common.{◌≡◌, Bool, List, [], ◌∷◌, refl, ◌∙◌}
use Rattle.rst_gate.specs.Machine.{Machine, IsState, HaveSamePorts, SameAcross, NeverAcross}
use Rattle.rst_gate.specs.MachineLaws.{KeepsStates, Relation, IsInductive, KeepsApart}
use Rattle.rst_gate.proofs.Equivalence.{same-out, same-step}

same_cons : (o p : List Bool) (os ps : List (List Bool)) → o ≡ p → os ≡ ps → o ∷ os ≡ p ∷ ps
same_cons o p os ps h k = cc

module _ (l r : Machine) (ports : HaveSamePorts l r) (keeps_left : KeepsStates l) (keeps_right : KeepsStates r) where
  pub inductive-same :
      (R : Relation) → IsInductive l r R → (s t : List Bool) → IsState l s → IsState r t → R s t → SameAcross l r s t
  inductive-same R step s t is_s is_t pair [] w = refl
  inductive-same R step s t is_s is_t pair (input ∷ word) w =
      let one = step s t input is_s is_t w.0 pair in
      same_cons _ _ _ _ one.0
      (inductive-same R step (l.step s input) (r.step t input) (keeps_left s input is_s w.0)
      (keeps_right t input is_t (w.0 ∙ ports.inputs)) one.1 word w.1)

  pub apart-never :
      (R : Relation) → KeepsApart l r R → (s t : List Bool) → IsState l s → IsState r t → R s t → NeverAcross l r s t
  apart-never R apart s t is_s is_t pair [] w same =
      let differ = (apart s t is_s is_t pair).0 in differ.2 (same differ.0 differ.1)
  apart-never R apart s t is_s is_t pair (input ∷ word) w same =
      apart-never R apart (l.step s input) (r.step t input) (keeps_left s input is_s w.0)
      (keeps_right t input is_t (w.0 ∙ ports.inputs)) ((apart s t is_s is_t pair).1 input w.0) word w.1 same

pub same-inductive : (l r : Machine) → IsInductive l r (SameAcross l r)
same-inductive l r s t input is_s is_t h same = (same-out l r s t input h same, same-step l r s t input h same)
