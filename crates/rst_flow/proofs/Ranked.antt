-- A vertex that ranks tell apart lies on no cycle.
use Rattle.std.proofs.Common.{◌≡◌, ℕ, ◌<◌, ◌≤◌, nat_eq, nat_lt, Bool, true, not, ◌&&◌, ◌||◌, List, arith}
use Rattle.std.proofs.lemmas.Bool.Decides.{nat_tests}
use Rattle.rst_order.specs.Graphs.{Graph, Reaches, edge, further, OnCycle}
use Rattle.rst_flow.specs.Ranking.{rank_at, alone_at, AllRise}

weak : (x y : ℕ) (a b : Bool) → (nat_lt x y || (nat_eq x y && (not a && not b))) ≡ true → x ≤ y
weak x y a b h = grind (arith, nat_tests)

strict : (x y : ℕ) (a b : Bool) → a ≡ true → (nat_lt x y || (nat_eq x y && (not a && not b))) ≡ true → x < y
strict x y a b e h = grind (arith, nat_tests)

module _ (ranks : List ℕ) (alone : List Bool) (graph : Graph) (all : AllRise ranks alone graph) where
  climbs : {a b : ℕ} → Reaches graph a b → rank_at ranks a ≤ rank_at ranks b
  climbs (edge {a = a} {b = b} p) = weak (rank_at ranks a) (rank_at ranks b) (alone_at alone a) (alone_at alone b) (all a b p)
  climbs (further {a = a} {b = b} {c = c} p r) =
      let first = weak (rank_at ranks a) (rank_at ranks b) (alone_at alone a) (alone_at alone b) (all a b p) in
      let rest = climbs r in
      omega arith

  away : {a b : ℕ} → Reaches graph a b → alone_at alone a ≡ true → rank_at ranks a < rank_at ranks b
  away (edge {a = a} {b = b} p) e = strict (rank_at ranks a) (rank_at ranks b) (alone_at alone a) (alone_at alone b) e (all a b p)
  away (further {a = a} {b = b} {c = c} p r) e =
      let first = strict (rank_at ranks a) (rank_at ranks b) (alone_at alone a) (alone_at alone b) e (all a b p) in
      let rest = climbs r in
      omega arith

  pub not_around : (v : ℕ) → alone_at alone v ≡ true → OnCycle graph v → ⊥
  not_around v e cycle = let h = away cycle e in omega arith
