-- Where no set is the first of the other kind, all are of one kind.
use Rattle.std.proofs.Common.{◌≡◌, ◌<◌, Bool, true, false, not, cond, List, [], ◌∷◌, None, arith, refl}
use Rattle.rst_net.specs.declared.signal.Slice.{Slice}
use Rattle.rst_net.specs.Statements.{Statement, Statements, Arms, Default, Block, If, Case, Set, Empty, end, more, no_arm, arm, no_default, default}
use Rattle.rst_cycle.specs.Bits.{same_bit}
use Rattle.rst_cycle.specs.Effects.{target_width}
use Rattle.rst_blocks.specs.Sets.{front, first_set, first_set_in, first_set_in_arms, first_set_in_default}
use Rattle.rst_settled.proofs.SameEffects.{none_of}
use Rattle.rst_typed_fits.specs.Kinds.{EachSet, EachSetIn, EachSetInArms, EachSetInDefault, HasBits}

set_kind : (b kind : Bool) (target : List Slice) → 0 < target_width target → cond (same_bit kind (not b)) (front target) None ≡ None → kind ≡ b
set_kind true true target some h = refl
set_kind false false target some h = refl
set_kind true false [] some h = absurd (omega (arith, some))
set_kind true false (slice ∷ slices) some h = absurd cc
set_kind false true [] some h = absurd (omega (arith, some))
set_kind false true (slice ∷ slices) some h = absurd cc

mutual
  pub one_kind : (b : Bool) (s : Statement) → EachSet HasBits s → first_set (not b) s ≡ None → EachSet (λ set. set.blocking ≡ b) s
  one_kind b (Block statements) some h = all_one_kind b statements some h
  one_kind b (If condition first second) some h =
      let parts = none_of (first_set (not b) first) (first_set (not b) second) h in
      (one_kind b first some.0 parts.0, one_kind b second some.1 parts.1)
  one_kind b (Case selector arms otherwise full) some h =
      let parts = none_of (first_set_in_arms (not b) arms) (first_set_in_default (not b) otherwise) h in
      (arms_one_kind b arms some.0 parts.0, default_one_kind b otherwise some.1 parts.1)
  one_kind b (Set set) some h = set_kind b set.blocking set.target some h
  one_kind b Empty some h = tt

  all_one_kind : (b : Bool) (ss : Statements) → EachSetIn HasBits ss → first_set_in (not b) ss ≡ None → EachSetIn (λ set. set.blocking ≡ b) ss
  all_one_kind b end some h = tt
  all_one_kind b (more s ss) some h =
      let parts = none_of (first_set (not b) s) (first_set_in (not b) ss) h in
      (one_kind b s some.0 parts.0, all_one_kind b ss some.1 parts.1)

  arms_one_kind : (b : Bool) (arms : Arms) → EachSetInArms HasBits arms → first_set_in_arms (not b) arms ≡ None → EachSetInArms (λ set. set.blocking ≡ b) arms
  arms_one_kind b no_arm some h = tt
  arms_one_kind b (arm labels body arms) some h =
      let parts = none_of (first_set (not b) body) (first_set_in_arms (not b) arms) h in
      (one_kind b body some.0 parts.0, arms_one_kind b arms some.1 parts.1)

  default_one_kind : (b : Bool) (d : Default) → EachSetInDefault HasBits d → first_set_in_default (not b) d ≡ None → EachSetInDefault (λ set. set.blocking ≡ b) d
  default_one_kind b no_default some h = tt
  default_one_kind b (default s) some h = one_kind b s some h
