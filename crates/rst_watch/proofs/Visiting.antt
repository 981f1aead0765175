-- The visits of the clauses that watch one literal.
use Rattle.std.proofs.Common.{◌≡◌, ◌≢◌, ℕ, ◌+◌, ◌-◌, ◌<◌, ◌≤◌, ◌⊎◌, inl, inr, ℤ, pos, Some, None, List, [], ◌∷◌, length, take, get_or, set, refl, sym, ◌∙◌, subst, ap, arith, append-nil, unsigned_abs, get_or-set_other, get_or-set_same}
use Rattle.std.specs.Global.{Vec}
use Rattle.std.specs.List.{Contains}
use Rattle.std.proofs.Math.ListN.{get_or-append}
use Rattle.std.proofs.lemmas.List.{get_or_default}
use Rattle.rst_clause.specs.Literals.{opposite}
use Rattle.rst_clause.specs.Trails.{Trail', Grows, IsComplete, IsConsistent, AllFalse, place_of, pushed}
use Rattle.rst_clause.specs.Trails.Grows.{same, more}
use Rattle.rst_clause.specs.Queue.{IsFalseAt, Propagates}
use Rattle.rst_clause.proofs.Members.{same_or_not}
use Rattle.rst_clause.proofs.Marks.{place_of-same}
use Rattle.rst_clause.proofs.Queueing.{Grows-join, Grows-longer}
use Rattle.rst_clause.proofs.Grown.{grown_continues, continues_has}
use Rattle.rst_watch.specs.Looks.{NotFalse, HasTrue, AreFalseBut}
use Rattle.rst_watch.specs.declared.state.Watch.{Watch}
use Rattle.rst_watch.specs.declared.state.State.{State}
use Rattle.rst_watch.specs.declared.visit.Visited.TheVariants.{Kept, Moved}
use Rattle.rst_watch.specs.Watching.{IsNoted, IsWatching, IsSame, Watches, Visits, HoldWhereWatched, no_watch, watch_of}
use Rattle.rst_watch.proofs.Guards.{true_more}
use Rattle.rst_watch.proofs.States.{same_number, watching_removed, watching_next, watching_complete}

-- the number stands in the list at this place or behind it
abbrev pub HasFrom : ℕ → List ℕ → ℕ → Type 0
HasFrom from list n = (q : ℕ) × (from ≤ q) × (q < length list) × (get_or list q 0 ≡ n)

from_start : (list : List ℕ) (n : ℕ) → Contains list n → HasFrom 0 list n
from_start list n (q, lt, e) = (q, omega arith, lt, get_or_default list q 0 n lt ∙ e)

to_start : (list : List ℕ) (n : ℕ) → HasFrom 0 list n → Contains list n
to_start list n (q, _, lt, e) = (q, lt, get_or_default list q n 0 lt ∙ e)

-- one number is taken out of the list, and the last takes its place
pub record IsRemoved (old new : List ℕ) (j : ℕ) : Type 0 where
  pub place : j < length old
  pub len : length new + 1 ≡ length old
  pub last : j + 1 < length old → get_or new j 0 ≡ get_or old (length old - 1) 0
  pub others : (q : ℕ) → q ≢ j → q + 1 < length old → get_or new q 0 ≡ get_or old q 0

removed_from : (old new : List ℕ) (j from n : ℕ) → IsRemoved old new j → from ≤ j → (get_or old j 0 ≡ n → ⊥) → HasFrom from old n → HasFrom from new n
removed_from old new j from n r le ne (q, ge, lt, e) =
    let len : length new + 1 ≡ length old = r.len in
    elim (same_number q j) [
      | inl s ↦ absurd (ne (ap (λ z. get_or old z 0) (sym s) ∙ e))
      | inr d ↦ elim (same_number (q + 1) (length old)) [
        | inl at_end ↦
            let before : j + 1 < length old = omega (arith, r.place, d, at_end) in
            let at : length old - 1 ≡ q = omega (arith, at_end) in
            (j, le, omega (arith, len, before), r.last before ∙ ap (λ z. get_or old z 0) at ∙ e)
        | inr inside ↦ let before : q + 1 < length old = omega (arith, lt, inside) in (q, ge, omega (arith, len, before), r.others q d before ∙ e)
      ]
    ]

pub grown_stands : (cs : List (List ℤ)) (s t : Trail') (k : ℤ) → Grows cs s t → Contains s.lits k → Contains t.lits k
grown_stands cs s t k g h = continues_has s.lits t.lits (grown_continues cs s.lits s t g ([], sym (append-nil s.lits))) k h

-- what stood stands on a trail that grew
pub grown_true : (cs : List (List ℤ)) (s t : Trail') (c : List ℤ) → Grows cs s t → HasTrue s.lits c → HasTrue t.lits c
grown_true cs s t c g h = true_more s.lits t.lits c (λ k i. grown_stands cs s t k g i) h

-- the clauses that watch the literal and were visited hold; the numbers of the others stand at j or behind it
pub record Visiting (s0 s : State) (l : ℤ) (j : ℕ) : Type 0 where
  pub watching : IsWatching s
  pub same : IsSame s0 s
  pub grows : Grows s0.store s0.trail s.trail
  pub seen : (i : ℕ) → i < length s.store → Watches (watch_of s i) l
      → HasTrue s.trail.lits (get_or s.store i []) ⊎ HasFrom j (get_or s.lists.items (place_of l) []) i

pub visiting_start : (s : State) (l : ℤ) → IsWatching s → Visiting s s l 0
visiting_start s l w = record {
  watching = w;
  same = record { store = refl; done = refl; floors = refl; vars = refl };
  grows = same;
  seen = λ i lt h. elim (w.guards i lt).pair [
    | inl p ↦ inr (from_start (get_or s.lists.items (place_of l) []) i (elim h [
      | inl e ↦ subst (λ z. IsNoted s.lists.items z i) e p.first
      | inr e ↦ subst (λ z. IsNoted s.lists.items z i) e p.second
    ]))
    | inr all ↦ inl (all s.trail.lits (take s.done s.trail.lits) (inl (refl, refl)))
  ];
}

pub same_join : (a b c : State) → IsSame a b → IsSame b c → IsSame a c
same_join a b c p q = record { store = q.store ∙ p.store; done = q.done ∙ p.done; floors = q.floors ∙ p.floors; vars = q.vars ∙ p.vars }

pub grows_join : (a b c : State) → IsSame a b → Grows a.store a.trail b.trail → Grows b.store b.trail c.trail → Grows a.store a.trail c.trail
grows_join a b c p g h = Grows-join a.store a.trail b.trail c.trail g (subst (λ z. Grows z b.trail c.trail) p.store h)

pub visiting_kept : (s0 s n : State) (l : ℤ) (j i : ℕ) → Visiting s0 s l j → IsWatching n → IsSame s n → Grows s.store s.trail n.trail → Visits s n i l Kept
    → get_or (get_or s.lists.items (place_of l) []) j 0 ≡ i → Visiting s0 n l (j + 1)
visiting_kept s0 s n l j i v w e g k is = record {
  watching = w;
  same = same_join s0 s n v.same e;
  grows = grows_join s0 s n v.same v.grows g;
  seen = λ m lt h. elim (same_number m i) [
    | inl at ↦
        inl (subst (λ z. HasTrue n.trail.lits (get_or n.store z [])) (sym at)
        (k.2 (subst (λ z. z < length n.store) at lt) (subst (λ z. Watches (watch_of n z) l) at h)))
    | inr ne ↦
        let watch : watch_of n m ≡ watch_of s m = ap (λ (p : Vec Watch). get_or p.items m no_watch) k.1 in
        let clause : get_or n.store m [] ≡ get_or s.store m [] = ap (λ z. get_or z m []) e.store in
        let list : get_or n.lists.items (place_of l) [] ≡ get_or s.lists.items (place_of l) [] = ap (λ (p : Vec (List ℕ)). get_or p.items (place_of l) []) k.0 in
        elim (v.seen m (subst (λ z. m < length z) e.store lt) (subst (λ (z : Watch). Watches z l) watch h)) [
          | inl t ↦ inl (subst (λ z. HasTrue n.trail.lits z) (sym clause) (grown_true s.store s.trail n.trail (get_or s.store m []) g t))
          | inr f ↦ inr (subst (λ z. HasFrom (j + 1) z m) (sym list) (behind m f ne))
        ]
  ];
}
  where
    behind : (m : ℕ) → HasFrom j (get_or s.lists.items (place_of l) []) m → m ≢ i → HasFrom (j + 1) (get_or s.lists.items (place_of l) []) m
    behind m (q, ge, lt, at) ne = elim (same_number q j) [
      | inl f ↦ absurd (ne (sym at ∙ ap (λ z. get_or (get_or s.lists.items (place_of l) []) z 0) f ∙ is))
      | inr d ↦ (q, omega (arith, ge, d), lt, at)
    ]

pub visiting_moved : (s0 s n : State) (ls : Vec (List ℕ)) (list : List ℕ) (l : ℤ) (j i : ℕ) → Visiting s0 s l j → IsWatching n → IsSame s n
    → Grows s.store s.trail n.trail → Visits s n i l Moved → get_or (get_or s.lists.items (place_of l) []) j 0 ≡ i
    → ls.items ≡ set n.lists.items (place_of l) list → place_of l < length n.lists.items
    → IsRemoved (get_or n.lists.items (place_of l) []) list j → Visiting s0 (record n { lists = ls }) l j
visiting_moved s0 s n ls list l j i v w e g k is el in' r = record {
  watching = watching_removed n ls l i list w k.2 el in' (λ m ne h. to_start list m (removed_from there list j 0 m r (omega arith) (λ f. ne (sym f ∙ there_is)) (from_start there m h)));
  same = record { store = e.store ∙ v.same.store; done = e.done ∙ v.same.done; floors = e.floors ∙ v.same.floors; vars = e.vars ∙ v.same.vars };
  grows = grows_join s0 s n v.same v.grows g;
  seen = λ m lt h. elim (same_number m i) [
    | inl at ↦ absurd (k.2 (subst (λ z. Watches (watch_of n z) l) at h))
    | inr ne ↦
        let clause : get_or n.store m [] ≡ get_or s.store m [] = ap (λ z. get_or z m []) e.store in
        elim (v.seen m (subst (λ z. m < length z) e.store lt) (subst (λ (z : Watch). Watches z l) (k.1 m ne) h)) [
          | inl t ↦ inl (subst (λ z. HasTrue n.trail.lits z) (sym clause) (grown_true s.store s.trail n.trail (get_or s.store m []) g t))
          | inr f ↦ inr (subst (λ z. HasFrom j z m) (sym (ap (λ z. get_or z (place_of l) []) el ∙ get_or-set_same n.lists.items (place_of l) list [] in'))
              (removed_from there list j j m r (omega arith) (λ f. ne (sym f ∙ there_is)) (subst (λ z. HasFrom j z m) (sym k.0) f)))
        ]
  ];
}
  where
    there : List ℕ
    there = get_or n.lists.items (place_of l) []

    there_is : get_or there j 0 ≡ i
    there_is = ap (λ z. get_or z j 0) k.0 ∙ is

pub visiting_end : (s0 s : State) (l : ℤ) (j : ℕ) → Visiting s0 s l j → length (get_or s.lists.items (place_of l) []) ≤ j → HoldWhereWatched s l
visiting_end s0 s l j v le i lt h = elim (v.seen i lt h) [ inl t ↦ t | inr (q, ge, below, e) ↦ absurd (omega (arith, le, ge, below)) ]

-- a literal that isn't false differs from one that is
pub differs : (t : List ℤ) (k l : ℤ) → NotFalse t k → Contains t (opposite l) → k ≢ l
differs t k l open' h e = open' (subst (λ z. Contains t (opposite z)) (sym e) h)

-- another literal is watched in the place of a false one
pub watch_visits : (s : State) (ls : Vec (List ℕ)) (ps : Vec Watch) (i : ℕ) (l other k : ℤ) (list : List ℕ) → k ≢ l → other ≢ l
    → ls.items ≡ set s.lists.items (place_of k) list → i < length s.pairs.items → ps.items ≡ set s.pairs.items i (record { first = k; second = other })
    → Visits s (record s { lists = ls; pairs = ps }) i l Moved
watch_visits s ls ps i l other k list ne no_other el lt ep = (
  ap (λ z. get_or z (place_of l) []) el ∙ get_or-set_other s.lists.items (place_of k) (place_of l) list [] (λ e. ne (sym (place_of-same l k e))),
  λ j d. ap (λ z. get_or z j no_watch) ep ∙ get_or-set_other s.pairs.items i j (record { first = k; second = other }) no_watch d,
  λ h. unwatched (subst (λ (z : Watch). Watches z l) (ap (λ z. get_or z i no_watch) ep ∙ get_or-set_same s.pairs.items i (record { first = k; second = other }) no_watch lt) h),
)
  where
    unwatched : Watches (record { first = k; second = other }) l → ⊥
    unwatched (inl e) = ne e
    unwatched (inr e) = no_other e

-- the only literal that isn't false is implied
pub implied_grows : (cs : List (List ℤ)) (t : Trail') (i : ℕ) (other : ℤ) → i < length cs → unsigned_abs other < length t.reasons
    → Contains (get_or cs i []) other → AreFalseBut t.lits (get_or cs i []) other → (Contains t.lits (opposite other) → ⊥) → Grows cs t (pushed t other i)
implied_grows cs t i other lt slot has f open' =
    more t other i same lt slot (record { has = has; others = f.others; not_there = f.none other has; not_opposite = open' })

-- none of the literals is open
pub all_false : (t c : List ℤ) (other : ℤ) → AreFalseBut t c other → Contains t (opposite other) → AllFalse t c
all_false t c other f h k kin = elim (same_or_not k other) [ inl e ↦ subst (λ z. Contains t (opposite z)) (sym e) h | inr ne ↦ f.others k kin ne ]

-- the list at the literal's place
pub list_at : (lists : List (List ℕ)) (place : ℕ) (l : ℤ) (x : List ℕ) → place ≡ place_of l → place_of l < length lists → x ≡ get_or lists place x
    → x ≡ get_or lists (place_of l) []
list_at lists place l x e lt is = is ∙ get_or_default lists place x [] (omega (arith, e, lt)) ∙ ap (λ p. get_or lists p []) e

-- what stands grew by propagation, and the rest is as it was
pub record Propagating (s0 s : State) : Type 0 where
  pub watching : IsWatching s
  pub store : s.store ≡ s0.store
  pub floors : s.floors ≡ s0.floors
  pub vars : s.trail.vars ≡ s0.trail.vars
  pub grows : Grows s0.store s0.trail s.trail

pub propagating_start : (s : State) → IsWatching s → Propagating s s
propagating_start s w = record { watching = w; store = refl; floors = refl; vars = refl; grows = same }

-- the clauses that watch the next literal's opposite were visited
pub propagating_next : (s0 s n : State) (l : ℤ) (d : ℕ) → Propagating s0 s → IsSame s n → Grows s.store s.trail n.trail → s.done < length s.trail.lits
    → get_or s.trail.lits s.done (pos 0) ≡ opposite l → IsWatching n → HoldWhereWatched n l → d ≡ n.done + 1 → Propagating s0 (record n { done = d })
propagating_next s0 s n l d p e g lt is w h ed =
    let longer : length s.trail.lits ≤ length n.trail.lits = Grows-longer s.store s.trail n.trail g in
    let at : get_or n.trail.lits n.done (pos 0) ≡ opposite l =
    ap (λ z. get_or n.trail.lits z (pos 0)) e.done ∙ grown_at s.store s.trail n.trail s.done g lt ∙ is in
    record {
      watching = watching_next n l d w (omega (arith, e.done, lt, longer)) at h ed;
      store = e.store ∙ p.store;
      floors = e.floors ∙ p.floors;
      vars = e.vars ∙ p.vars;
      grows = Grows-join s0.store s0.trail s.trail n.trail p.grows (subst (λ z. Grows z s.trail n.trail) p.store g);
    }
  where
    grown_at : (clauses : List (List ℤ)) (s t : Trail') (n : ℕ) → Grows clauses s t → n < length s.lits → get_or t.lits n (pos 0) ≡ get_or s.lits n (pos 0)
    grown_at clauses s _ n same lt = refl
    grown_at clauses s _ n (more t l r g lt' slot u) lt =
        let up : length s.lits ≤ length t.lits = Grows-longer clauses s t g in
        get_or-append t.lits (l ∷ []) (pos 0) n (omega (arith, lt, up)) ∙ grown_at clauses s t n g lt

-- a clause was found false
pub propagating_false : (s0 s n : State) (i : ℕ) → Propagating s0 s → IsSame s n → Grows s.store s.trail n.trail → IsFalseAt n.store n.trail.lits i
    → Propagates s0.store s0.trail n.trail (Some i)
propagating_false s0 s n i p e g f = record {
  grows = Grows-join s0.store s0.trail s.trail n.trail p.grows (subst (λ z. Grows z s.trail n.trail) p.store g);
  vars = e.vars ∙ p.vars;
  outcome = subst (λ z. IsFalseAt z n.trail.lits i) (e.store ∙ p.store) f;
}

-- all was propagated
pub propagating_end : (s0 s : State) → Propagating s0 s → s.done ≡ length s.trail.lits → IsConsistent s.trail.lits → Propagates s0.store s0.trail s.trail None
propagating_end s0 s p e con = record {
  grows = p.grows;
  vars = p.vars;
  outcome = subst (λ z. IsComplete s.trail.lits z) p.store (watching_complete s p.watching e con);
}
