-- Paths, cycles and orders of graphs.
use Rattle.std.proofs.Common.{◌≡◌, ℕ, zero, suc, ◌+◌, ◌<◌, ◌≤◌, Bool, true, false, cond, ◌⊎◌, inl, inr, List, [], ◌∷◌, ◌++◌, length, get_or, refl, sym, ◌∙◌, ap, subst, arith, append_assoc, append-nil}
use Rattle.std.proofs.Math.ListN.{set}
use Rattle.std.specs.List.{Contains}
use Rattle.std.proofs.lemmas.Bool.{cases_Bool, cases_eq}
use Rattle.std.proofs.lemmas.List.{length-set}
use Rattle.std.proofs.lemmas.List.Elements.{Contains-push_cases}
use Rattle.rst_order.specs.Graphs.{Graph, Precedes, Reaches, edge, further, OnCycle, HasCycle, IsGraph}
use Rattle.rst_order.specs.Orders.{IsReady, IsNext, Continues, IsOrder}
use Rattle.rst_order.specs.Walks.{stands, missing}
use Rattle.rst_order.proofs.Members.{contains_none, contains_cons, marked_here, marked_before, fewer_missing, mark_within}

-- a path ends with an edge
pub last_edge : (graph : Graph) (a c : ℕ) → Reaches graph a c → Precedes graph a c ⊎ ((b : ℕ) × Reaches graph a b × Precedes graph b c)
last_edge graph a c (edge e) = inl e
last_edge graph a c (further {b = b} e rest) = elim (last_edge graph b c rest) [
  | inl f ↦ inr (b, edge e, f)
  | inr (d, r, f) ↦ inr (d, further e r, f)
]

-- a path begins at a vertex
pub begins_within : (graph : Graph) → IsGraph graph → (a c : ℕ) → Reaches graph a c → a < length graph
begins_within graph g a c (edge e) = g a c e
begins_within graph g a c (further {b = b} e rest) = g a b e

-- the order goes on with the next vertex
pub continues_more : (graph : Graph) (placed order : List ℕ) (v : ℕ) → Continues graph placed order → IsNext graph (placed ++ order) v → Continues graph placed (order ++ v ∷ [])
continues_more graph placed [] v c next = (subst (λ z. IsNext graph z v) (append-nil placed) next, tt)
continues_more graph placed (x ∷ xs) v c next =
    (c.0, continues_more graph (placed ++ x ∷ []) xs v c.1 (subst (λ z. IsNext graph z v) (sym (append_assoc placed (x ∷ []) xs)) next))

-- where no vertex that stands lies on a cycle, the next one doesn't
pub next_acyclic : (graph : Graph) (placed : List ℕ) (x : ℕ) → IsNext graph placed x → ((v : ℕ) → Contains placed v → OnCycle graph v → ⊥) → OnCycle graph x → ⊥
next_acyclic graph placed x next none cycle = elim (last_edge graph x x cycle) [
  | inl e ↦ none x (next.ready x e) cycle
  | inr (b, r, e) ↦ none b (next.ready b e) (further e r)
]

pub acyclic_behind : (graph : Graph) (placed order : List ℕ) → Continues graph placed order → ((v : ℕ) → Contains placed v → OnCycle graph v → ⊥)
    → (v : ℕ) → Contains order v → OnCycle graph v → ⊥
acyclic_behind graph placed [] c none v here cycle = contains_none v here
acyclic_behind graph placed (x ∷ xs) c none v here cycle =
    let more : (u : ℕ) → Contains (placed ++ x ∷ []) u → OnCycle graph u → ⊥ = λ u member around.
    elim (Contains-push_cases placed x u member) [
      | inl m ↦ none u m around
      | inr e ↦ next_acyclic graph placed x c.0 none (subst (λ w. OnCycle graph w) (sym e) around)
    ] in
    elim (contains_cons x xs v here) [
      | inl e ↦ next_acyclic graph placed x c.0 none (subst (λ w. OnCycle graph w) (sym e) cycle)
      | inr m ↦ acyclic_behind graph (placed ++ x ∷ []) xs c.1 more v m cycle
    ]

-- a graph with an order has no cycle
pub ordered_acyclic : (graph : Graph) (order : List ℕ) → IsGraph graph → IsOrder graph order → (v : ℕ) → OnCycle graph v → ⊥
ordered_acyclic graph order g o v cycle =
    acyclic_behind graph [] order o.steps (λ u m c. contains_none u m) v (o.whole v (begins_within graph g v v cycle)) cycle

-- Where each vertex that isn't placed has a predecessor that isn't, a walk from such a vertex, by such predecessors, comes to a
-- marked vertex: one that it has passed.
module _ (graph : Graph) (placed : List Bool) (back : (u : ℕ) → u < length graph → stands placed u ≡ false
    → (p : ℕ) × Precedes graph p u × (p < length graph) × (stands placed p ≡ false)) where
  pub walk : (k : ℕ) (marks : List Bool) (u : ℕ) → missing marks ≡ k → length marks ≡ length graph → u < length graph → stands placed u ≡ false
      → stands marks u ≡ false → ((x : ℕ) → stands marks x ≡ true → Reaches graph u x) → HasCycle graph
  walk zero marks u count len below free unmarked reach =
      let e : missing (set marks u true) + 1 ≡ missing marks = fewer_missing marks u (omega arith) unmarked in
      absurd (omega arith)
  walk (suc k) marks u count len below free unmarked reach =
      let step = back u below free in
      let p = step.0 in
      let marks' = set marks u true in
      let e : missing marks' + 1 ≡ missing marks = fewer_missing marks u (omega arith) unmarked in
      let reach' : (x : ℕ) → stands marks' x ≡ true → Reaches graph p x = λ x here. elim (marked_before marks u x here) [
        | inl same ↦ subst (λ w. Reaches graph p w) (sym same) (edge step.1)
        | inr old ↦ further step.1 (reach x old)
      ] in
      elim (cases_Bool (stands marks' p)) [
        | inl met ↦ (p, reach' p met)
        | inr new ↦ walk k marks' p (omega arith) (length-set marks u true ∙ len) step.2 step.3 new reach'
      ]
