-- Lists of blocked hops: each tells the pairs of its cube apart, by its outputs or by an earlier hop.
use Rattle.std.specs.Prelude.{ℕ, ◌<◌, List, length, take, slice_index_or}
use Rattle.rst_pair.specs.declared.hop.Hop.{Hop}
use Rattle.rst_pair.specs.Sides.{Sides}
use Rattle.rst_pair.specs.Hops.{blocked_aim, IsHop, IsRight, Passes, IsWidestHop}

-- the hop is one behind these, is right, passes and is widest
pub record IsBlockedHop (p : Sides) (before : List Hop) (hop : Hop) : Type 0 where
  pub fits : IsHop p (length before) hop
  pub right : IsRight p (blocked_aim before hop.next) hop
  pub passes : Passes p (blocked_aim before hop.next) hop
  pub widest : IsWidestHop p (blocked_aim before hop.next) hop

-- each hop is so behind those before it
abbrev pub AreBlocked : Sides → List Hop → Type 0
AreBlocked p hops = (i : ℕ) (d : Hop) → i < length hops → IsBlockedHop p (take i hops) (slice_index_or hops i d)
