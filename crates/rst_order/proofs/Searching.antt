-- What a search for a cycle knows.
use Rattle.std.proofs.Common.{◌≡◌, ℕ, zero, suc, ◌+◌, ◌<◌, ◌≤◌, ◌↔◌, Bool, true, false, ◌⊎◌, inl, inr, List, [], ◌∷◌, ◌++◌, length, get_or, refl, sym, ◌∙◌, ap, subst, arith, length-append}
use Rattle.std.proofs.Math.ListN.{set}
use Rattle.std.specs.List.{Contains}
use Rattle.std.proofs.lemmas.Bool.{cases_eq}
use Rattle.std.proofs.lemmas.List.{length-set}
use Rattle.std.proofs.lemmas.List.Elements.{Contains-append_left, Contains-push, Contains-push_cases}
use Rattle.rst_order.specs.Graphs.{Graph, Precedes, Reaches, edge, further, OnCycle, IsGraph}
use Rattle.rst_order.specs.Walks.{stands, missing, preds, IsMarking, IsSearch}
use Rattle.rst_order.proofs.Members.{contains_none, place_of, member_at, marked_here, marked_still, marked_before, mark_within, fewer_missing}

pub marking_start : (vertices : List ℕ) (marks : List Bool) (waiting : List ℕ) → IsMarking vertices 0 marks waiting marks waiting
marking_start vertices marks waiting = record {
  same_length = refl;
  kept = λ v h. h;
  marked = λ i below. absurd (omega arith);
  only = λ v h. inl h;
  waits = λ v h. inl h;
  still = λ v h. h;
  waits_marked = λ v h. inl h;
  measure = refl;
}

module _ (vertices : List ℕ) (i : ℕ) (before : List Bool) (waited : List ℕ) (marks : List Bool) (waiting : List ℕ)
    (w : IsMarking vertices i before waited marks waiting) (v : ℕ) (at : get_or vertices i 0 ≡ v) where
  -- a vertex that is marked already
  pub marking_old : stands marks v ≡ true → IsMarking vertices (i + 1) before waited marks waiting
  marking_old here = record {
    same_length = w.same_length;
    kept = w.kept;
    marked = λ j below. elim (cases_eq j i) [
      | inl same ↦ subst (λ z. stands marks z ≡ true) (sym (ap (λ k. get_or vertices k 0) same ∙ at)) here
      | inr apart ↦ w.marked j (omega arith)
    ];
    only = w.only;
    waits = w.waits;
    still = w.still;
    waits_marked = w.waits_marked;
    measure = w.measure;
  }

  -- a new one
  pub marking_new : i < length vertices → v < length marks → stands marks v ≡ false → IsMarking vertices (i + 1) before waited (set marks v true) (waiting ++ v ∷ [])
  marking_new within below free =
      let e : missing (set marks v true) + 1 ≡ missing marks = fewer_missing marks v below free in
      let len : length (waiting ++ v ∷ []) ≡ length waiting + 1 = length-append waiting (v ∷ []) in
      let measured : missing marks + length waiting ≡ missing before + length waited = w.measure in
      record {
        same_length = length-set marks v true ∙ w.same_length;
        kept = λ u h. marked_still marks v u below (w.kept u h);
        marked = λ j small. elim (cases_eq j i) [
          | inl same ↦ subst (λ z. stands (set marks v true) z ≡ true) (sym (ap (λ k. get_or vertices k 0) same ∙ at)) (marked_here marks v below)
          | inr apart ↦ marked_still marks v (get_or vertices j 0) below (w.marked j (omega arith))
        ];
        only = λ u h. elim (marked_before marks v u h) [
          | inl same ↦ inr (member_at vertices i u within (at ∙ sym same))
          | inr old ↦ w.only u old
        ];
        waits = λ u h. elim (marked_before marks v u h) [
          | inl same ↦ inr (subst (λ z. Contains (waiting ++ v ∷ []) z) (sym same) (Contains-push waiting v))
          | inr old ↦ elim (w.waits u old) [
            | inl b ↦ inl b
            | inr q ↦ inr (Contains-append_left waiting (v ∷ []) u q)
          ]
        ];
        still = λ u h. Contains-append_left waiting (v ∷ []) u (w.still u h);
        waits_marked = λ u h. elim (Contains-push_cases waiting v u h) [
          | inl old ↦ elim (w.waits_marked u old) [
            | inl q ↦ inl q
            | inr m ↦ inr (marked_still marks v u below m)
          ]
          | inr same ↦ inr (subst (λ z. stands (set marks v true) z ≡ true) same (marked_here marks v below))
        ];
        measure = omega (arith, e, len, measured);
      }

module _ (graph : Graph) (target : ℕ) where
  pub search_start : (none marks : List Bool) (waiting : List ℕ) → length none ≡ length graph → ((v : ℕ) → stands none v ≡ true → ⊥)
      → IsMarking (preds graph target) (length (preds graph target)) none [] marks waiting → IsSearch graph target marks waiting
  search_start none marks waiting len free w = record {
    marks_length = w.same_length ∙ len;
    reach = λ v h. elim (w.only v h) [
      | inl old ↦ absurd (free v old)
      | inr e ↦ edge e
    ];
    first = λ u e. let at = place_of (preds graph target) u e in subst (λ z. stands marks z ≡ true) at.2 (w.marked at.0 at.1);
    closed = λ v u h e. elim (w.waits v h) [
      | inl old ↦ absurd (free v old)
      | inr q ↦ inr q
    ];
    marked = λ v q. elim (w.waits_marked v q) [
      | inl old ↦ absurd (contains_none v old)
      | inr m ↦ m
    ];
  }

  pub search_more : (marks after : List Bool) (rest waiting : List ℕ) (v : ℕ) → IsSearch graph target marks (rest ++ v ∷ [])
      → IsMarking (preds graph v) (length (preds graph v)) marks rest after waiting → IsSearch graph target after waiting
  search_more marks after rest waiting v s w = record {
    marks_length = w.same_length ∙ s.marks_length;
    reach = λ u h. elim (w.only u h) [
      | inl old ↦ s.reach u old
      | inr e ↦ further e (s.reach v (s.marked v (Contains-push rest v)))
    ];
    first = λ u e. w.kept u (s.first u e);
    closed = λ x u h e. elim (w.waits x h) [
      | inl old ↦ elim (s.closed x u old e) [
        | inl m ↦ inl (w.kept u m)
        | inr q ↦ elim (Contains-push_cases rest v x q) [
          | inl r ↦ inr (w.still x r)
          | inr same ↦
              let at = place_of (preds graph v) u (subst (λ z. Precedes graph u z) (sym same) e) in
              inl (subst (λ z. stands after z ≡ true) at.2 (w.marked at.0 at.1))
        ]
      ]
      | inr q ↦ inr q
    ];
    marked = λ x q. elim (w.waits_marked x q) [
      | inl r ↦ w.kept x (s.marked x (Contains-append_left rest (v ∷ []) x r))
      | inr m ↦ m
    ];
  }

  -- all that reach the vertex are marked
  pub all_marked : (marks : List Bool) → IsSearch graph target marks [] → (u : ℕ) → Reaches graph u target → stands marks u ≡ true
  all_marked marks s u (edge e) = s.first u e
  all_marked marks s u (further {b = b} e path) = elim (s.closed b u (all_marked marks s b path) e) [
    | inl m ↦ m
    | inr q ↦ absurd (contains_none b q)
  ]
