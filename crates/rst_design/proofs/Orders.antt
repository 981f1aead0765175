-- The order of a graph is one, whatever list of predecessors shows its edges.
use Rattle.std.proofs.Common.{◌≡◌, ℕ, ◌<◌, inl, inr, List, [], ◌∷◌, ◌++◌, length, refl, sym, subst, append_assoc, append-nil}
use Rattle.std.specs.List.{Contains}
use Rattle.std.proofs.lemmas.Bool.{cases_order}
use Rattle.rst_order.specs.Graphs.{Graph, Precedes, Reaches, edge, further}
use Rattle.rst_order.specs.Orders.{IsReady, IsNext, Continues, IsOrder}

-- two graphs have the same vertices and the same edges
pub record SameEdges (g h : Graph) : Type 0 where
  pub vertices : length g ≡ length h
  pub there : (a b : ℕ) → Precedes g a b → Precedes h a b
  pub back : (a b : ℕ) → Precedes h a b → Precedes g a b

pub turned : (g h : Graph) → SameEdges g h → SameEdges h g
turned g h s = record { vertices = sym s.vertices; there = s.back; back = s.there }

pub reaches_too : (g h : Graph) → SameEdges g h → (a b : ℕ) → Reaches g a b → Reaches h a b
reaches_too g h s a b (edge e) = edge (s.there _ _ e)
reaches_too g h s a b (further e r) = further (s.there _ _ e) (reaches_too g h s _ _ r)

ready_too : (g h : Graph) → SameEdges g h → (placed : List ℕ) (v : ℕ) → IsReady g placed v → IsReady h placed v
ready_too g h s placed v ready u e = ready u (s.back u v e)

-- what comes next is one
one_next : (g h : Graph) → SameEdges g h → (placed : List ℕ) (v w : ℕ) → IsNext g placed v → IsNext h placed w → v ≡ w
one_next g h s placed v w a b = elim (cases_order v w) [
  | inl same ↦ same
  | inr (inl less) ↦ absurd (a.new (b.first v less (ready_too g h s placed v a.ready)))
  | inr (inr more) ↦ absurd (b.new (a.first w more (ready_too h g (turned g h s) placed w b.ready)))
]

-- every vertex stands in the end
abbrev pub IsWhole : Graph → List ℕ → List ℕ → Type 0
IsWhole g placed rest = (v : ℕ) → v < length g → Contains (placed ++ rest) v

whole_behind : (g : Graph) (placed rest : List ℕ) (v : ℕ) → IsWhole g placed (v ∷ rest) → IsWhole g (placed ++ v ∷ []) rest
whole_behind g placed rest v whole u below = subst (λ l. Contains l u) (sym (append_assoc placed (v ∷ []) rest)) (whole u below)

-- no vertex is next where all stand
none_next : (g : Graph) (placed : List ℕ) (v : ℕ) → IsWhole g placed [] → IsNext g placed v → ⊥
none_next g placed v whole next = next.new (subst (λ l. Contains l v) (append-nil placed) (whole v next.vertex))

same_steps : (g h : Graph) → SameEdges g h → (xs ys placed : List ℕ) → Continues g placed xs → Continues h placed ys → IsWhole g placed xs → IsWhole h placed ys → xs ≡ ys
same_steps g h s [] [] placed a b wa wb = refl
same_steps g h s [] (w ∷ ys) placed a b wa wb =
    absurd (none_next h placed w (λ v below. wa v (subst (λ n. v < n) (sym s.vertices) below)) b.0)
same_steps g h s (v ∷ xs) [] placed a b wa wb =
    absurd (none_next g placed v (λ u below. wb u (subst (λ n. u < n) s.vertices below)) a.0)
same_steps g h s (v ∷ xs) (w ∷ ys) placed a b wa wb =
    let same : w ≡ v = sym (one_next g h s placed v w a.0 b.0) in
    let more : Continues h (placed ++ v ∷ []) ys = subst (λ u. Continues h (placed ++ u ∷ []) ys) same b.1 in
    let whole : IsWhole h (placed ++ v ∷ []) ys = subst (λ u. IsWhole h (placed ++ u ∷ []) ys) same (whole_behind h placed ys w wb) in
    let rest : xs ≡ ys = same_steps g h s xs ys (placed ++ v ∷ []) a.1 more (whole_behind g placed xs v wa) whole in
    cc

pub one_order : (g h : Graph) → SameEdges g h → (xs ys : List ℕ) → IsOrder g xs → IsOrder h ys → xs ≡ ys
one_order g h s xs ys a b = same_steps g h s xs ys [] a.steps b.steps a.whole b.whole
