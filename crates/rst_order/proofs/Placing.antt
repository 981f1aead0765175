-- How an order goes on.
use Rattle.std.proofs.Common.{◌≡◌, ℕ, zero, suc, ◌+◌, ◌<◌, ◌≤◌, Bool, true, false, ◌⊎◌, inl, inr, List, [], ◌∷◌, ◌++◌, length, get_or, refl, sym, ◌∙◌, ap, subst, arith}
use Rattle.std.proofs.Math.ListN.{set}
use Rattle.std.specs.List.{Contains}
use Rattle.std.proofs.lemmas.Bool.{cases_eq, cases_Bool, cases_lt}
use Rattle.std.proofs.lemmas.List.{length-set, get_or-set_other}
use Rattle.std.proofs.lemmas.List.Elements.{Contains-append_left, Contains-push, Contains-push_cases}
use Rattle.rst_order.specs.Graphs.{Graph, Precedes, IsGraph, HasCycle}
use Rattle.rst_order.specs.Orders.{IsReady, IsNext, Continues, IsOrder}
use Rattle.rst_order.specs.Walks.{Stage, IsStage, IsPending, IsLookedThrough, HasSuccessors, HasSources, stands, missing, preds, count_of}
use Rattle.rst_order.proofs.Members.{contains_none, place_of, member_at, marked_here, marked_still, marked_before, mark_within}
use Rattle.rst_order.proofs.Paths.{continues_more, walk}

clash : {b : Bool} → b ≡ true → b ≡ false → ⊥
clash is isnt = let e : true ≡ false = sym is ∙ isnt in cc

-- nothing is pending in an empty list
nothing_pending : (v : ℕ) → IsPending [] 0 v → ⊥
nothing_pending v (k, from, below, same) = absurd (omega arith)

-- the next vertex
pub is_next : (graph : Graph) (s : Stage) (v : ℕ) → IsGraph graph → IsStage graph [] 0 s → s.ready v ≡ true → ((u : ℕ) → u < v → s.ready u ≡ false) → IsNext graph s.order v
is_next graph s v g w here least = record {
  vertex = w.ready_vertex v here;
  new = λ member. clash (w.ordered_placed v member) (w.ready_new v here);
  ready = λ u precedes.
      let at = place_of (preds graph v) u precedes in
      let count : count_of s.passed v ≡ length (preds graph v) = w.ready_passed v here in
      w.placed_ordered u (subst (λ z. stands s.placed z ≡ true) at.2 (w.stand v at.0 (w.ready_vertex v here) (omega (arith, at.1))));
  first = λ u below stood. elim (cases_Bool (stands s.placed u)) [
    | inl placed ↦ w.placed_ordered u placed
    | inr free ↦
        let vertex : u < length graph = let h : v < length graph = w.ready_vertex v here in omega arith in
        let within : count_of s.passed u ≤ length (preds graph u) = w.within u vertex in
        elim (cases_lt (count_of s.passed u) (length (preds graph u))) [
          | inl more ↦
              let member = w.ordered_placed _ (stood (get_or (preds graph u) (count_of s.passed u) 0) (member_at (preds graph u) (count_of s.passed u) _ more refl)) in
              absurd (nothing_pending u (w.waits u vertex more member))
          | inr all ↦ absurd (clash (w.ready u vertex free (omega arith)) (least u below))
        ]
  ];
}

-- a vertex that is ready stands, and its successors are still to be looked at
pub placed_stage : (graph successors : Graph) (s : Stage) (v : ℕ) (ready : ℕ → Bool) → IsGraph graph → HasSuccessors graph successors → IsStage graph [] 0 s
    → s.ready v ≡ true → ((u : ℕ) → u < v → s.ready u ≡ false) → ready v ≡ false → ((u : ℕ) → (u ≡ v → ⊥) → ready u ≡ s.ready u)
    → IsStage graph (preds successors v) 0 (record { passed = s.passed; placed = set s.placed v true; ready = ready; order = s.order ++ v ∷ [] })
placed_stage graph successors s v ready g next w here least gone others =
    let below : v < length s.placed = let h : v < length graph = w.ready_vertex v here in omega (arith, w.placed_length) in
    let unlike : (u : ℕ) → ready u ≡ true → u ≡ v → ⊥ = λ u is same. clash is (subst (λ z. ready z ≡ false) (sym same) gone) in
    let was : (u : ℕ) → ready u ≡ true → s.ready u ≡ true = λ u is. sym (others u (unlike u is)) ∙ is in
    record {
      passed_length = w.passed_length;
      placed_length = length-set s.placed v true ∙ w.placed_length;
      within = w.within;
      stand = λ u i vertex small. marked_still s.placed v _ below (w.stand u i vertex small);
      waits = λ u vertex more met. elim (marked_before s.placed v _ met) [
        | inl same ↦
            let at = place_of (preds successors v) u (next.listed v u (subst (λ z. Precedes graph z u) same (member_at (preds graph u) (count_of s.passed u) _ more refl))) in
            (at.0, omega arith, at.1, at.2)
        | inr old ↦ absurd (nothing_pending u (w.waits u vertex more old))
      ];
      ready = λ u vertex free all. elim (cases_eq u v) [
        | inl same ↦ absurd (clash (subst (λ z. stands (set s.placed v true) z ≡ true) (sym same) (marked_here s.placed v below)) free)
        | inr apart ↦ others u apart ∙ w.ready u vertex (sym (get_or-set_other s.placed v u true false apart) ∙ free) all
      ];
      ready_vertex = λ u is. w.ready_vertex u (was u is);
      ready_new = λ u is. get_or-set_other s.placed v u true false (unlike u is) ∙ w.ready_new u (was u is);
      ready_passed = λ u is. w.ready_passed u (was u is);
      placed_ordered = λ u is. elim (marked_before s.placed v u is) [
        | inl same ↦ subst (λ z. Contains (s.order ++ v ∷ []) z) (sym same) (Contains-push s.order v)
        | inr old ↦ Contains-append_left s.order (v ∷ []) u (w.placed_ordered u old)
      ];
      ordered_placed = λ u member. elim (Contains-push_cases s.order v u member) [
        | inl old ↦ marked_still s.placed v u below (w.ordered_placed u old)
        | inr same ↦ subst (λ z. stands (set s.placed v true) z ≡ true) same (marked_here s.placed v below)
      ];
      steps = continues_more graph [] s.order v w.steps (is_next graph s v g w here least);
    }

-- one more vertex that was to be looked at is
pub looked_stage : (graph : Graph) (pending : List ℕ) (i : ℕ) (s t : Stage) (v : ℕ) → IsStage graph pending i s → get_or pending i 0 ≡ v → v < length graph
    → t.placed ≡ s.placed → t.order ≡ s.order → length t.passed ≡ length s.passed
    → ((u : ℕ) → (u ≡ v → ⊥) → count_of t.passed u ≡ count_of s.passed u)
    → IsLookedThrough (preds graph v) s.placed (count_of s.passed v) (count_of t.passed v)
    → (count_of t.passed v ≡ length (preds graph v) → stands s.placed v ≡ false → t.ready v ≡ true)
    → ((u : ℕ) → s.ready u ≡ true → t.ready u ≡ true)
    → ((u : ℕ) → t.ready u ≡ true → (s.ready u ≡ true) ⊎ ((u ≡ v) × (stands s.placed v ≡ false) × (count_of t.passed v ≡ length (preds graph v))))
    → IsStage graph pending (i + 1) t
looked_stage graph pending i s t v w at vertex placed order len others looked now kept added =
    let P : (List Bool) → ℕ → Bool → Type 0 = λ marks u b. stands marks u ≡ b in
    record {
      passed_length = len ∙ w.passed_length;
      placed_length = ap length placed ∙ w.placed_length;
      within = λ u below. elim (cases_eq u v) [
        | inl same ↦ subst (λ z. count_of t.passed z ≤ length (preds graph z)) (sym same) looked.ends
        | inr apart ↦ subst (λ n. n ≤ length (preds graph u)) (sym (others u apart)) (w.within u below)
      ];
      stand = λ u j below small. subst (λ marks. P marks (get_or (preds graph u) j 0) true) (sym placed) (elim (cases_eq u v) [
        | inl same ↦
            let small' : j < count_of t.passed v = subst (λ z. j < count_of t.passed z) same small in
            subst (λ z. P s.placed (get_or (preds graph z) j 0) true) (sym same) (elim (cases_lt j (count_of s.passed v)) [
              | inl old ↦ w.stand v j vertex old
              | inr new ↦ looked.stand j new small'
            ])
        | inr apart ↦ w.stand u j below (subst (λ n. j < n) (others u apart) small)
      ]);
      waits = λ u below more met. elim (cases_eq u v) [
        | inl same ↦
            let more' : count_of t.passed v < length (preds graph v) = subst (λ z. count_of t.passed z < length (preds graph z)) same more in
            let met' : stands t.placed (get_or (preds graph v) (count_of t.passed v) 0) ≡ true =
            subst (λ z. stands t.placed (get_or (preds graph z) (count_of t.passed z) 0) ≡ true) same met in
            absurd (clash (subst (λ marks. P marks (get_or (preds graph v) (count_of t.passed v) 0) true) placed met') (looked.waits more'))
        | inr apart ↦
            let more' : count_of s.passed u < length (preds graph u) = subst (λ n. n < length (preds graph u)) (others u apart) more in
            let met' : stands s.placed (get_or (preds graph u) (count_of t.passed u) 0) ≡ true = subst (λ marks. P marks (get_or (preds graph u) (count_of t.passed u) 0) true) placed met in
            let pending' = w.waits u below more' (subst (λ n. P s.placed (get_or (preds graph u) n 0) true) (others u apart) met') in
            elim (cases_eq pending'.0 i) [
              | inl same ↦ absurd (apart (sym pending'.3 ∙ ap (λ k. get_or pending k 0) same ∙ at))
              | inr other ↦ (pending'.0, omega (arith, pending'.1, other), pending'.2, pending'.3)
            ]
      ];
      ready = λ u below free all.
          let free' : stands s.placed u ≡ false = subst (λ marks. P marks u false) placed free in
          elim (cases_eq u v) [
            | inl same ↦ subst (λ z. t.ready z ≡ true) (sym same)
                (now (subst (λ z. count_of t.passed z ≡ length (preds graph z)) same all) (subst (λ z. P s.placed z false) same free'))
            | inr apart ↦ kept u (w.ready u below free' (sym (others u apart) ∙ all))
          ];
      ready_vertex = λ u is. elim (added u is) [
        | inl old ↦ w.ready_vertex u old
        | inr new ↦ subst (λ z. z < length graph) (sym new.0) vertex
      ];
      ready_new = λ u is. subst (λ marks. P marks u false) (sym placed) (elim (added u is) [
        | inl old ↦ w.ready_new u old
        | inr new ↦ subst (λ z. P s.placed z false) (sym new.0) new.1
      ]);
      ready_passed = λ u is. elim (added u is) [
        | inl old ↦ elim (cases_eq u v) [
          | inl same ↦
              let all : count_of s.passed v ≡ length (preds graph v) = subst (λ z. count_of s.passed z ≡ length (preds graph z)) same (w.ready_passed u old) in
              subst (λ z. count_of t.passed z ≡ length (preds graph z)) (sym same) (omega (arith, looked.begins, looked.ends))
          | inr apart ↦ others u apart ∙ w.ready_passed u old
        ]
        | inr new ↦ subst (λ z. count_of t.passed z ≡ length (preds graph z)) (sym new.0) new.2
      ];
      placed_ordered = λ u is. subst (λ z. Contains z u) (sym order) (w.placed_ordered u (subst (λ marks. P marks u true) placed is));
      ordered_placed = λ u member. subst (λ marks. P marks u true) (sym placed) (w.ordered_placed u (subst (λ z. Contains z u) order member));
      steps = subst (λ z. Continues graph [] z) (sym order) w.steps;
    }

-- all were looked at
pub looked_all : (graph : Graph) (pending : List ℕ) (s : Stage) → IsStage graph pending (length pending) s → IsStage graph [] 0 s
looked_all graph pending s w = record {
  passed_length = w.passed_length;
  placed_length = w.placed_length;
  within = w.within;
  stand = w.stand;
  waits = λ v below more met. let p = w.waits v below more met in absurd (omega (arith, p.1, p.2));
  ready = w.ready;
  ready_vertex = w.ready_vertex;
  ready_new = w.ready_new;
  ready_passed = w.ready_passed;
  placed_ordered = w.placed_ordered;
  ordered_placed = w.ordered_placed;
  steps = w.steps;
}

-- at the beginning nothing stands
pub first_stage : (graph : Graph) (passed : List ℕ) (placed : List Bool) (ready : ℕ → Bool) → length passed ≡ length graph → length placed ≡ length graph
    → ((v : ℕ) → v < length graph → count_of passed v ≡ 0) → ((v : ℕ) → stands placed v ≡ false) → HasSources graph ready (length graph)
    → IsStage graph [] 0 (record { passed = passed; placed = placed; ready = ready; order = [] })
first_stage graph passed placed ready passed_length placed_length zeros free sources = record {
  passed_length = passed_length;
  placed_length = placed_length;
  within = λ v below. let z : count_of passed v ≡ 0 = zeros v below in omega arith;
  stand = λ v i below small. let z : count_of passed v ≡ 0 = zeros v below in absurd (omega arith);
  waits = λ v below more met. absurd (clash met (free _));
  ready = λ v below new all. sources.all v below (sym all ∙ zeros v below);
  ready_vertex = sources.below;
  ready_new = λ v is. free v;
  ready_passed = λ v is. zeros v (sources.below v is) ∙ sym (sources.only v is);
  placed_ordered = λ v is. absurd (clash is (free v));
  ordered_placed = λ v member. absurd (contains_none v member);
  steps = tt;
}

-- once none is ready, the order has all vertices
pub whole_order : (graph : Graph) (s : Stage) → IsStage graph [] 0 s → ((v : ℕ) → v < length graph → stands s.placed v ≡ true) → IsOrder graph s.order
whole_order graph s w all = record { steps = w.steps; whole = λ v below. w.placed_ordered v (all v below) }

-- or some vertex lies on a cycle
pub stuck_cycle : (graph : Graph) (s : Stage) (marks : List Bool) → IsGraph graph → IsStage graph [] 0 s → ((v : ℕ) → s.ready v ≡ false)
    → length marks ≡ length graph → ((v : ℕ) → stands marks v ≡ false)
    → (u : ℕ) → u < length graph → stands s.placed u ≡ false → HasCycle graph
stuck_cycle graph s marks g w none len unmarked u below free =
    walk graph s.placed
    (λ v vertex open'.
    let within : count_of s.passed v ≤ length (preds graph v) = w.within v vertex in
    elim (cases_lt (count_of s.passed v) (length (preds graph v))) [
      | inl more ↦
          let p = get_or (preds graph v) (count_of s.passed v) 0 in
          let e : Precedes graph p v = member_at (preds graph v) (count_of s.passed v) p more refl in (
            p,
            e,
            g p v e,
            elim (cases_Bool (stands s.placed p)) [
              | inl met ↦ absurd (nothing_pending v (w.waits v vertex more met))
              | inr away ↦ away
            ],
          )
      | inr all ↦ absurd (clash (w.ready v vertex open' (omega arith)) (none v))
    ])
    (missing marks) marks u refl len below free (unmarked u) (λ x here. absurd (clash here (unmarked x)))
