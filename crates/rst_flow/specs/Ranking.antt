-- Ranks that rise along edges, as words of the proofs.
use Rattle.std.specs.Prelude.{◌≡◌, ℕ, nat_eq, nat_lt, Bool, true, not, ◌&&◌, ◌||◌, List, slice_index_or}
use Rattle.rst_order.specs.Graphs.{Graph, Precedes}

abbrev pub rank_at : List ℕ → ℕ → ℕ
rank_at ranks v = slice_index_or ranks v 0

abbrev pub alone_at : List Bool → ℕ → Bool
alone_at alone v = slice_index_or alone v true

-- an edge leads to a higher rank, or to the same rank between vertices that may lie on a cycle
abbrev pub rises : List ℕ → List Bool → ℕ → ℕ → Bool
rises ranks alone a b = nat_lt (rank_at ranks a) (rank_at ranks b) || (nat_eq (rank_at ranks a) (rank_at ranks b) && (not (alone_at alone a) && not (alone_at alone b)))

abbrev pub AllRise : List ℕ → List Bool → Graph → Type 0
AllRise ranks alone graph = (a b : ℕ) → Precedes graph a b → rises ranks alone a b ≡ true
