-- Successors.
use Rattle.std.proofs.Common.{◌≡◌, ℕ, zero, suc, ◌+◌, ◌<◌, ◌≤◌, ◌⊎◌, inl, inr, List, [], ◌∷◌, ◌++◌, length, map, get_or, refl, sym, ◌∙◌, ap, subst, arith}
use Rattle.std.proofs.Math.ListN.{set}
use Rattle.std.specs.List.{Contains}
use Rattle.std.specs.declared.vec.Vec.{Vec}
use Rattle.std.specs.declared.alloc.Global.{Global}
use Rattle.std.proofs.lemmas.Bool.{cases_eq}
use Rattle.std.proofs.lemmas.List.{get_or-map, length-map, map-set, length-set, get_or-set_other, get_or-set_same, get_or_past}
use Rattle.std.proofs.lemmas.List.Elements.{Contains-append_left, Contains-push, Contains-push_cases}
use Rattle.rst_order.specs.Graphs.{Graph, graph_of, Precedes, IsGraph}
use Rattle.rst_order.specs.Walks.{AddsSuccessor, IsBounded, ListsBelow, HasSuccessors, preds}
use Rattle.rst_order.proofs.Members.{contains_none, place_of}

pub row_of : (predecessors : List (Vec ℕ Global)) (v : ℕ) (d : Vec ℕ Global) → v < length predecessors
    → (get_or predecessors v d).items ≡ get_or (graph_of predecessors) v []
row_of predecessors v d below = sym (get_or-map (λ (w : Vec ℕ Global). w.items) predecessors v d [] below)

pub none_added : (graph : Graph) (vertices : List ℕ) (successor : ℕ) → AddsSuccessor graph graph vertices 0 successor
none_added graph vertices successor = record {
  same_length = refl;
  kept = λ a b h. h;
  added = λ i below. absurd (omega arith);
  bounded = λ n small h. h;
}

-- one more of the vertices has the successor
pub one_added : (before now : Graph) (vertices : List ℕ) (i successor : ℕ) → AddsSuccessor before now vertices i successor
    → get_or vertices i 0 < length now
    → AddsSuccessor before (set now (get_or vertices i 0) (get_or now (get_or vertices i 0) [] ++ successor ∷ [])) vertices (i + 1) successor
one_added before now vertices i successor w below =
    let v = get_or vertices i 0 in
    let row = get_or now v [] ++ successor ∷ [] in
    let after = set now v row in
    let here : get_or after v [] ≡ row = get_or-set_same now v row [] below in
    let still : (a b : ℕ) → Contains (get_or now a []) b → Contains (get_or after a []) b = λ a b h. elim (cases_eq a v) [
      | inl e ↦ subst (λ z. Contains (get_or after z []) b) (sym e) (subst (λ z. Contains z b) (sym here)
          (Contains-append_left (get_or now v []) (successor ∷ []) b (subst (λ z. Contains (get_or now z []) b) e h)))
      | inr apart ↦ subst (λ z. Contains z b) (sym (get_or-set_other now v a row [] apart)) h
    ] in
    record {
      same_length = length-set now v row ∙ w.same_length;
      kept = λ a b h. still a b (w.kept a b h);
      added = λ j small. elim (cases_eq j i) [
        | inl e ↦ subst (λ z. Contains (get_or after (get_or vertices z 0) []) successor) (sym e)
            (subst (λ z. Contains z successor) (sym here) (Contains-push (get_or now v []) successor))
        | inr apart ↦ still (get_or vertices j 0) successor (w.added j (omega arith))
      ];
      bounded = λ n small bound a b h. elim (cases_eq a v) [
        | inl e ↦ elim (Contains-push_cases (get_or now v []) successor b (subst (λ z. Contains z b) here (subst (λ z. Contains (get_or after z []) b) e h))) [
          | inl old ↦ w.bounded n small bound v b old
          | inr new ↦ subst (λ z. z < n) new small
        ]
        | inr apart ↦ w.bounded n small bound a b (subst (λ z. Contains z b) (get_or-set_other now v a row [] apart) h)
      ];
    }

-- one more vertex without successors
pub empty_more : (rows : Graph) → ((a b : ℕ) → Contains (get_or rows a []) b → ⊥) → (a b : ℕ) → Contains (get_or (rows ++ [] ∷ []) a []) b → ⊥
empty_more [] none zero b h = contains_none b h
empty_more [] none (suc a) b h = contains_none b h
empty_more (row ∷ rows) none zero b h = none 0 b h
empty_more (row ∷ rows) none (suc a) b h = empty_more rows (λ c d k. none (suc c) d k) a b h

-- no edge is listed yet
pub lists_none : (graph successors : Graph) → length successors ≡ length graph → ((a b : ℕ) → Contains (get_or successors a []) b → ⊥) → ListsBelow graph successors 0
lists_none graph successors len none = record {
  same_length = len;
  listed = λ a b below e. absurd (omega arith);
  bounded = λ a b h. absurd (none a b h);
}

-- the edges to one more vertex are listed
pub lists_more : (graph before after : Graph) (v : ℕ) → ListsBelow graph before v → AddsSuccessor before after (preds graph v) (length (preds graph v)) v → ListsBelow graph after (v + 1)
lists_more graph before after v w added = record {
  same_length = added.same_length ∙ w.same_length;
  listed = λ a b below e. elim (cases_eq b v) [
    | inl same ↦
        let at = place_of (preds graph v) a (subst (λ z. Precedes graph a z) same e) in
        subst (λ z. Contains (get_or after a []) z) (sym same) (subst (λ z. Contains (get_or after z []) v) at.2 (added.added at.0 at.1))
    | inr apart ↦ added.kept a b (w.listed a b (omega arith) e)
  ];
  bounded = added.bounded (v + 1) (omega arith) (λ a b h. let below : b < v = w.bounded a b h in omega arith);
}

pub lists_all : (graph successors : Graph) → IsGraph graph → ListsBelow graph successors (length graph) → ((a b : ℕ) → Precedes graph a b → b < length graph) → HasSuccessors graph successors
lists_all graph successors g w leads = record { same_length = w.same_length; listed = λ a b e. w.listed a b (leads a b e) e; bounded = w.bounded }

-- an edge leads to a vertex
pub leads_within : (graph : Graph) (a b : ℕ) → Precedes graph a b → b < length graph
leads_within [] a b e = absurd (contains_none a e)
leads_within (row ∷ rows) a zero e = omega arith
leads_within (row ∷ rows) a (suc b) e = let below : b < length rows = leads_within rows a b e in omega arith
