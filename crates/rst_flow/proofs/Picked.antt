-- The units in an order of all of them.
use Rattle.std.proofs.Common.{◌≡◌, ℕ, zero, suc, ◌<◌, false, inl, inr, List, [], ◌∷◌, ◌++◌, length, take, map, refl, sym, ◌∙◌, ap, subst, arith, Option, Some, None, append_assoc}
use Rattle.std.specs.List.{slice_get}
use Rattle.std.specs.Option.{option_map}
use Rattle.std.proofs.lemmas.Bool.{cases_lt}
use Rattle.std.proofs.lemmas.Option.{slice_get-map, get_or_from_slice_get}
use Rattle.rst_order.specs.Graphs.{Graph, Precedes}
use Rattle.rst_order.specs.Orders.{IsNext, Continues, IsOrder}
use Rattle.rst_net.specs.Units.{PlainDriver}
use Rattle.rst_flow.specs.Edges.{is_block, pick, picks, IsUnitOrder}
use Rattle.rst_flow.specs.Nets.{IsInOrder}
use Rattle.rst_flow.specs.Tables.{IsChoice}
use Rattle.rst_flow.proofs.Members.{In, below_at, contains_in, in_contains}

-- what comes next at each place of an order
next_at : (graph : Graph) (placed order : List ℕ) (k v : ℕ) → Continues graph placed order → slice_get order k ≡ Some v → IsNext graph (placed ++ take k order) v
next_at graph placed [] k v steps at = absurd (none_some v at)
  where
    none_some : {X : Type 0} (x : X) → ◌≡◌ {A = Option X} None (Some x) → ⊥
    none_some x e = cc
next_at graph placed (u ∷ order) zero v steps at =
    subst (λ (xs : List ℕ). IsNext graph xs v) (sym (no_more placed)) (subst (λ w. IsNext graph placed w) (same_some u v at) steps.0)
  where
    same_some : {X : Type 0} (x y : X) → Some x ≡ Some y → x ≡ y
    same_some x y e = cc

    no_more : (xs : List ℕ) → xs ++ [] ≡ xs
    no_more [] = refl
    no_more (x ∷ xs) = ap (λ (ys : List ℕ). x ∷ ys) (no_more xs)
next_at graph placed (u ∷ order) (suc k) v steps at =
    subst (λ (xs : List ℕ). IsNext graph xs v) (append_assoc placed (u ∷ []) (take k order)) (next_at graph (placed ++ u ∷ []) order k v steps.1 at)

-- what stands in front of a place
in_front : (order : List ℕ) (j k v : ℕ) → slice_get order j ≡ Some v → j < k → In v (take k order)
in_front [] j k v at below = absurd (none_some v at)
  where
    none_some : {X : Type 0} (x : X) → ◌≡◌ {A = Option X} None (Some x) → ⊥
    none_some x e = cc
in_front (u ∷ order) j zero v at below = absurd (omega arith)
in_front (u ∷ order) zero (suc k) v at below = inl (same_some u v at)
  where
    same_some : {X : Type 0} (x y : X) → Some x ≡ Some y → x ≡ y
    same_some x y e = cc
in_front (u ∷ order) (suc j) (suc k) v at below = inr (in_front order j k v at (omega arith))

front_at : (order : List ℕ) (k v : ℕ) → In v (take k order) → (j : ℕ) × (j < k) × (slice_get order j ≡ Some v)
front_at [] zero v h = absurd h
front_at [] (suc k) v h = absurd h
front_at (u ∷ order) zero v h = absurd h
front_at (u ∷ order) (suc k) v (inl e) = (0, omega arith, ap Some e)
front_at (u ∷ order) (suc k) v (inr h) = let r = front_at order k v h in (suc r.0, omega (arith, r.1), r.2)

module _ (graph : Graph) (order : List ℕ) (is : IsOrder graph order) where
  next : (k v : ℕ) → slice_get order k ≡ Some v → IsNext graph (take k order) v
  next k v at = next_at graph [] order k v is.steps at

  pub order_once : (j k v : ℕ) → slice_get order j ≡ Some v → slice_get order k ≡ Some v → j < k → ⊥
  order_once j k v at_j at_k below = (next k v at_k).new (in_contains (take k order) v (in_front order j k v at_j below))

  pub is_choice : IsChoice (length graph) order
  is_choice = record {
    below = λ k within.
        let x = below_at order k within in
        subst (λ n. n < length graph) (sym (get_or_from_slice_get order k x.0 0 x.1)) (next k x.0 x.1).vertex;
    once = λ j k before within same.
        let x = below_at order k within in
        let y = below_at order j (omega arith) in
        let e : y.0 ≡ x.0 = sym (get_or_from_slice_get order j y.0 0 y.1) ∙ same ∙ get_or_from_slice_get order k x.0 0 x.1 in
        order_once j k x.0 (subst (λ n. slice_get order j ≡ Some n) e y.1) x.1 before;
  }

  -- an edge leads from an earlier place to a later one
  pub edge_forward : (i j u v : ℕ) → slice_get order i ≡ Some u → slice_get order j ≡ Some v → Precedes graph u v → i < j
  edge_forward i j u v at_i at_j edge =
      let here = front_at order j u (contains_in (take j order) u ((next j v at_j).ready u edge)) in
      elim (cases_lt i j) [
        | inl before ↦ before
        | inr behind ↦ absurd (order_once here.0 i u here.2 at_i (omega (arith, here.1)))
      ]

-- the picked elements stand where their numbers do
pick_some : {X : Type 0} (o : Option X) (x : X) (rest : List X) → o ≡ Some x → pick o rest ≡ x ∷ rest
pick_some None x rest e = absurd cc
pick_some (Some y) x rest e = ap (λ z. z ∷ rest) (same_some y x e)
  where
    same_some : {X : Type 0} (x y : X) → Some x ≡ Some y → x ≡ y
    same_some x y e = cc

pub picks_at : {X : Type 0} (xs : List X) (order : List ℕ) (k : ℕ) (x : X) → ((j v : ℕ) → slice_get order j ≡ Some v → v < length xs) → slice_get (picks xs order) k ≡ Some x
    → (v : ℕ) × (slice_get order k ≡ Some v) × (slice_get xs v ≡ Some x)
picks_at xs [] k x below at = absurd (none_some x at)
  where
    none_some : {X : Type 0} (x : X) → ◌≡◌ {A = Option X} None (Some x) → ⊥
    none_some x e = cc
picks_at xs (v ∷ order) zero x below at =
    let y = below_at xs v (below 0 v refl) in
    let e : slice_get (pick (slice_get xs v) (picks xs order)) 0 ≡ Some y.0 = ap (λ ys. slice_get ys 0) (pick_some (slice_get xs v) y.0 (picks xs order) y.1) in
    (v, refl, y.1 ∙ sym e ∙ at)
picks_at xs (v ∷ order) (suc k) x below at =
    let y = below_at xs v (below 0 v refl) in
    let e : slice_get (pick (slice_get xs v) (picks xs order)) (suc k) ≡ slice_get (picks xs order) k = ap (λ ys. slice_get ys (suc k)) (pick_some (slice_get xs v) y.0 (picks xs order) y.1) in
    let r = picks_at xs order k x (λ j u h. below (suc j) u h) (sym e ∙ at) in
    (r.0, r.1, r.2)

pick-map : {X Y : Type 0} (f : X → Y) (o : Option X) (p : Option Y) (xs : List X) (ys : List Y) → p ≡ option_map f o → map f xs ≡ ys → map f (pick o xs) ≡ pick p ys
pick-map f None p xs ys e rest = rest ∙ ap (λ q. pick q ys) (sym e)
pick-map f (Some x) p xs ys e rest = ap (λ zs. f x ∷ zs) rest ∙ ap (λ q. pick q ys) (sym e)

pub picks-map : {X Y : Type 0} (f : X → Y) (xs : List X) (order : List ℕ) → map f (picks xs order) ≡ picks (map f xs) order
picks-map f xs [] = refl
picks-map f xs (v ∷ order) = pick-map f (slice_get xs v) (slice_get (map f xs) v) (picks xs order) (picks (map f xs) order) (slice_get-map f xs v) (picks-map f xs order)

-- so they are in order
pub in_order : (count : ℕ) (units : List PlainDriver) (order : List ℕ) → IsUnitOrder count units order → IsInOrder count (picks units order)
in_order count units order o i j e =
    let small : (k v : ℕ) → slice_get order k ≡ Some v → v < length units =
    λ k v at. subst (λ n. v < n) o.edges.vertices (next o.graph order o.steps k v at).vertex in
    let a = picks_at units order i e.before small e.at_a in
    let b = picks_at units order j e.behind small e.at_b in
    let not_own : a.0 ≡ b.0 → is_block e.behind ≡ false =
    λ same. e.not_own (place i j a.0 a.1 (subst (λ n. slice_get order j ≡ Some n) (sym same) b.1)) in
    edge_forward o.graph order o.steps i j a.0 b.0 a.1 b.1
    (o.edges.complete a.0 b.0 (record { before = e.before; behind = e.behind; at_a = a.2; at_b = b.2; feeds = e.feeds; not_own = not_own }))
  where
    place : (i j v : ℕ) → slice_get order i ≡ Some v → slice_get order j ≡ Some v → i ≡ j
    place i j v at_i at_j = elim (cases_lt i j) [
      | inl below ↦ absurd (order_once o.graph order o.steps i j v at_i at_j below)
      | inr above ↦ elim (cases_lt j i) [
        | inl below ↦ absurd (order_once o.graph order o.steps j i v at_j at_i below)
        | inr over ↦ omega arith
      ]
    ]
