-- Lists of blocked hops whose words tell the pairs of their cubes apart.
use Rattle.std.specs.Prelude.{ℕ, ◌<◌, List, length, take, slice_index_or}
use Rattle.std.specs.Option.{ForSome}
use Rattle.rst_pair.specs.declared.hop.Hop.{Hop}
use Rattle.rst_pair.specs.Sides.{Sides}
use Rattle.rst_pair.specs.Hops.{blocked_aim, IsRight}

-- the next hop of each hop stands before it
abbrev pub HaveEarlierNexts : List Hop → Type 0
HaveEarlierNexts hops = (i : ℕ) (d : Hop) → i < length hops → ForSome (slice_index_or hops i d).next (λ k. k < i)

-- each hop leads every pair of its cube into the cube of its next hop, and without one to different outputs
abbrev pub AreRight : Sides → List Hop → Type 0
AreRight p hops =
    (i : ℕ) (d : Hop) → i < length hops → IsRight p (blocked_aim (take i hops) (slice_index_or hops i d).next) (slice_index_or hops i d)
