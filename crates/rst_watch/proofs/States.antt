-- What changes of the state keep.
use Rattle.std.proofs.Common.{◌≡◌, ◌≢◌, ℕ, ◌+◌, ◌*◌, ◌<◌, ◌≤◌, ◌⊎◌, inl, inr, ℤ, pos, negsuc, unsigned_abs, ◌^◌, List, [], ◌∷◌, ◌++◌, length, take, get_or, set, refl, sym, ◌∙◌, subst, ap, arith, length-append, get_or-set_other, get_or-set_same}
use Rattle.std.specs.Global.{Vec}
use Rattle.std.specs.List.{Contains}
use Rattle.std.proofs.Math.ListN.{length-set, get_or-append}
use Rattle.std.proofs.Math.Seq.{get_or-append_seam}
use Rattle.std.proofs.lemmas.Bool.{cases_lt}
use Rattle.std.proofs.lemmas.List.{get_or_default, length-take}
use Rattle.std.proofs.lemmas.List.Elements.{All-contains, All-push, Contains-append_left}
use Rattle.rst_clause.specs.Literals.{opposite, IsLiteral, AreLiterals, AreClauses}
use Rattle.rst_clause.specs.Trails.{Trail', Grows, IsUnit, IsConsistent, IsComplete, IsQuiet, place_of, pushed}
use Rattle.rst_clause.specs.Trails.Grows.{same, more}
use Rattle.rst_clause.specs.Occurrences.{KeepsLists}
use Rattle.rst_clause.proofs.Members.{same_or_not, Contains-nil}
use Rattle.rst_clause.proofs.Marks.{place_of-same}
use Rattle.rst_clause.proofs.Noting.{keeps_set, noted_set}
use Rattle.rst_watch.specs.Looks.{HasTrue, IsOther}
use Rattle.rst_watch.specs.declared.state.Watch.{Watch}
use Rattle.rst_watch.specs.declared.state.State.{State}
use Rattle.rst_watch.specs.Watching.{IsPoint, IsNoted, IsGuarded, IsWatching, IsOf, Watches, AreFloors, HoldWhereWatched, no_watch, watch_of}
use Rattle.rst_watch.specs.Choices.{AreTwo}
use Rattle.rst_watch.proofs.Points.{covers_pushed, covers_opened, covers_taken_back, propagated_stands, floors_more}
use Rattle.rst_watch.proofs.Guards.{other_in, guarded_at, guarded_with, guarded_moved, guarded_quiet, guarded_next}

-- two numbers are the same or not
pub same_number : (a b : ℕ) → (a ≡ b) ⊎ (a ≢ b)
same_number a b = elim (cases_lt a b) [
  | inl low ↦ inr (λ e. absurd (omega arith))
  | inr le ↦ elim (cases_lt b a) [ inl high ↦ inr (λ e. absurd (omega arith)) | inr ge ↦ inl (omega arith) ]
]

-- one more literal stands
pub watching_pushed : (s : State) (u : Trail') (l : ℤ) → IsWatching s → u.vars ≡ s.trail.vars → u.lits ≡ s.trail.lits ++ l ∷ [] → IsWatching (record s { trail = u })
watching_pushed s u l w v e =
    let len : length u.lits ≡ length s.trail.lits + 1 = ap (λ z. length z) e ∙ length-append s.trail.lits (l ∷ []) in
    let le : s.done ≤ length s.trail.lits = w.done in
    record {
      few = subst (λ n. n < 2 ^ 31) (sym v) w.few;
      in_range = subst (λ n. AreClauses n s.store) (sym v) w.in_range;
      slots = w.slots ∙ ap (λ n. 2 * n + 2) (sym v);
      pairs = w.pairs;
      done = omega (arith, len, le);
      floors = floors_more s.floors (length s.trail.lits) (length u.lits) (omega (arith, len)) w.floors;
      guards = λ i lt. subst (λ z. IsGuarded (IsPoint z s.done s.floors) s.lists.items (get_or s.store i []) i (watch_of s i)) (sym e)
          (guarded_at (IsPoint (s.trail.lits ++ l ∷ []) s.done s.floors) (IsPoint s.trail.lits s.done s.floors) s.lists.items (get_or s.store i []) i (watch_of s i)
          (covers_pushed s.trail.lits l s.done s.floors le w.floors) (w.guards i lt));
    }

-- a level begins
pub watching_opened : (s : State) → IsWatching s → s.done ≡ length s.trail.lits → IsWatching (record s { floors = length s.trail.lits ∷ s.floors })
watching_opened s w d = record {
  few = w.few;
  in_range = w.in_range;
  slots = w.slots;
  pairs = w.pairs;
  done = w.done;
  floors = (omega arith, w.floors);
  guards = λ i lt.
      guarded_at (IsPoint s.trail.lits s.done (length s.trail.lits ∷ s.floors)) (IsPoint s.trail.lits s.done s.floors) s.lists.items (get_or s.store i []) i (watch_of s i)
      (covers_opened s.trail.lits s.done s.floors d) (w.guards i lt);
}

-- the last level is taken back
pub watching_taken_back : (s : State) (u : Trail') (m : ℕ) (rest : List ℕ) → IsWatching s → s.floors ≡ m ∷ rest → u.vars ≡ s.trail.vars → u.lits ≡ take m s.trail.lits
    → IsWatching (record s { trail = u; done = m; floors = rest })
watching_taken_back s u m rest w e v l =
    let a : AreFloors (m ∷ rest) (length s.trail.lits) = subst (λ z. AreFloors z (length s.trail.lits)) e w.floors in
    let le : m ≤ length s.trail.lits = a.0 in
    let len : length u.lits ≡ m = omega (arith, ap (λ z. length z) l, length-take m s.trail.lits, le) in
    record {
      few = subst (λ n. n < 2 ^ 31) (sym v) w.few;
      in_range = subst (λ n. AreClauses n s.store) (sym v) w.in_range;
      slots = w.slots ∙ ap (λ n. 2 * n + 2) (sym v);
      pairs = w.pairs;
      done = omega (arith, len);
      floors = floors_more rest m (length u.lits) (omega (arith, len)) a.1;
      guards = λ i lt. subst (λ z. IsGuarded (IsPoint z m rest) s.lists.items (get_or s.store i []) i (watch_of s i)) (sym l)
          (guarded_at (IsPoint (take m s.trail.lits) m rest) (IsPoint s.trail.lits s.done (m ∷ rest)) s.lists.items (get_or s.store i []) i (watch_of s i)
          (covers_taken_back s.trail.lits s.done m rest le a.1)
          (subst (λ z. IsGuarded (IsPoint s.trail.lits s.done z) s.lists.items (get_or s.store i []) i (watch_of s i)) e (w.guards i lt)));
    }

-- another literal is watched in the place of a false one
pub watching_moved : (s : State) (ls : Vec (List ℕ)) (ps : Vec Watch) (i : ℕ) (l other k : ℤ) → IsWatching s → i < length s.store → IsOf (watch_of s i) l other
    → IsOther s.trail.lits (get_or s.store i []) other k → ls.items ≡ set s.lists.items (place_of k) (get_or s.lists.items (place_of k) [] ++ i ∷ [])
    → place_of k < length s.lists.items → ps.items ≡ set s.pairs.items i (record { first = k; second = other }) → IsWatching (record s { lists = ls; pairs = ps })
watching_moved s ls ps i l other k w lt of o el in' ep = record {
  few = w.few;
  in_range = w.in_range;
  slots = ap (λ z. length z) el ∙ length-set s.lists.items (place_of k) (get_or s.lists.items (place_of k) [] ++ i ∷ []) ∙ w.slots;
  pairs = ap (λ z. length z) ep ∙ length-set s.pairs.items i (record { first = k; second = other }) ∙ w.pairs;
  done = w.done;
  floors = w.floors;
  guards = λ j below. elim (same_number j i) [
    | inl e ↦
        let is : get_or ps.items j no_watch ≡ record { first = k; second = other } =
        ap (λ z. get_or z j no_watch) ep ∙ ap (λ n. get_or (set s.pairs.items i (record { first = k; second = other })) n no_watch) e
        ∙ get_or-set_same s.pairs.items i (record { first = k; second = other }) no_watch (omega (arith, w.pairs, lt)) in
        subst (λ (z : Watch). IsGuarded (IsPoint s.trail.lits s.done s.floors) ls.items (get_or s.store j []) j z) (sym is)
        (subst (λ n. IsGuarded (IsPoint s.trail.lits s.done s.floors) ls.items (get_or s.store n []) n (record { first = k; second = other })) (sym e)
        (guarded_moved (IsPoint s.trail.lits s.done s.floors) s.lists.items ls.items (get_or s.store i []) i (watch_of s i) l other k of o.has o.differs
        (λ a p at h. o.not_false (propagated_stands s.trail.lits s.done s.floors a p at (opposite k) h))
        (subst (λ (z : List (List ℕ)). Contains (get_or z (place_of k) []) i) (sym el) (noted_set s.lists.items (place_of k) i (get_or s.lists.items (place_of k) []) in'))
        (keeps (place_of other) i) (w.guards i lt)))
    | inr ne ↦
        let is : get_or ps.items j no_watch ≡ watch_of s j =
        ap (λ z. get_or z j no_watch) ep ∙ get_or-set_other s.pairs.items i j (record { first = k; second = other }) no_watch ne in
        subst (λ (z : Watch). IsGuarded (IsPoint s.trail.lits s.done s.floors) ls.items (get_or s.store j []) j z) (sym is)
        (guarded_with (IsPoint s.trail.lits s.done s.floors) s.lists.items ls.items (get_or s.store j []) j (watch_of s j)
        (keeps (place_of (watch_of s j).first) j) (keeps (place_of (watch_of s j).second) j) (w.guards j below))
  ];
}
  where
    keeps : KeepsLists s.lists.items ls.items
    keeps = subst (λ z. KeepsLists s.lists.items z) (sym el)
        (keeps_set s.lists.items (place_of k) (get_or s.lists.items (place_of k) [] ++ i ∷ []) in' (λ n h. Contains-append_left (get_or s.lists.items (place_of k) []) (i ∷ []) n h))

-- longer lists
pub watching_noted : (s : State) (ls : Vec (List ℕ)) (k : ℤ) (i : ℕ) → IsWatching s → place_of k < length s.lists.items
    → ls.items ≡ set s.lists.items (place_of k) (get_or s.lists.items (place_of k) [] ++ i ∷ []) → IsWatching (record s { lists = ls })
watching_noted s ls k i w in' el = record {
  few = w.few;
  in_range = w.in_range;
  slots = ap (λ z. length z) el ∙ length-set s.lists.items (place_of k) (get_or s.lists.items (place_of k) [] ++ i ∷ []) ∙ w.slots;
  pairs = w.pairs;
  done = w.done;
  floors = w.floors;
  guards = λ j below.
      guarded_with (IsPoint s.trail.lits s.done s.floors) s.lists.items ls.items (get_or s.store j []) j (watch_of s j)
      (keeps (place_of (watch_of s j).first) j) (keeps (place_of (watch_of s j).second) j) (w.guards j below);
}
  where
    keeps : KeepsLists s.lists.items ls.items
    keeps = subst (λ z. KeepsLists s.lists.items z) (sym el)
        (keeps_set s.lists.items (place_of k) (get_or s.lists.items (place_of k) [] ++ i ∷ []) in' (λ n h. Contains-append_left (get_or s.lists.items (place_of k) []) (i ∷ []) n h))

-- a clause's number is taken out of the list of a literal that it doesn't watch
pub watching_removed : (s : State) (ls : Vec (List ℕ)) (l : ℤ) (i : ℕ) (list : List ℕ) → IsWatching s → (Watches (watch_of s i) l → ⊥)
    → ls.items ≡ set s.lists.items (place_of l) list → place_of l < length s.lists.items
    → ((n : ℕ) → n ≢ i → Contains (get_or s.lists.items (place_of l) []) n → Contains list n) → IsWatching (record s { lists = ls })
watching_removed s ls l i list w unwatched el in' keeps = record {
  few = w.few;
  in_range = w.in_range;
  slots = ap (λ z. length z) el ∙ length-set s.lists.items (place_of l) list ∙ w.slots;
  pairs = w.pairs;
  done = w.done;
  floors = w.floors;
  guards = λ j below.
      guarded_with (IsPoint s.trail.lits s.done s.floors) s.lists.items ls.items (get_or s.store j []) j (watch_of s j)
      (noted j (watch_of s j).first (λ e f. unwatched (subst (λ n. Watches (watch_of s n) l) f (inl e))))
      (noted j (watch_of s j).second (λ e f. unwatched (subst (λ n. Watches (watch_of s n) l) f (inr e)))) (w.guards j below);
}
  where
    noted : (j : ℕ) (k : ℤ) → (k ≡ l → j ≡ i → ⊥) → IsNoted s.lists.items k j → IsNoted ls.items k j
    noted j k other h = subst (λ (z : List (List ℕ)). IsNoted z k j) (sym el) (elim (same_or_not k l) [
      | inl e ↦
          subst (λ z. IsNoted (set s.lists.items (place_of l) list) z j) (sym e)
          (subst (λ z. Contains z j) (sym (get_or-set_same s.lists.items (place_of l) list [] in')) (keeps j (other e) (subst (λ z. IsNoted s.lists.items z j) e h)))
      | inr ne ↦ subst (λ z. Contains z j) (sym (get_or-set_other s.lists.items (place_of l) (place_of k) list [] (λ e. ne (place_of-same k l e)))) h
    ])

-- one more clause, where no level is open
pub watching_added : (s : State) (st : List (List ℤ)) (ps : Vec Watch) (clause : List ℤ) (pair : Watch) → IsWatching s → s.floors ≡ [] → AreLiterals s.trail.vars clause
    → st ≡ s.store ++ clause ∷ [] → ps.items ≡ s.pairs.items ++ pair ∷ []
    → IsGuarded (IsPoint s.trail.lits s.done s.floors) s.lists.items clause (length s.store) pair → IsWatching (record s { store = st; pairs = ps })
watching_added s st ps clause pair w root in' es ep g =
    let long : length st ≡ length s.store + 1 = ap (λ z. length z) es ∙ length-append s.store (clause ∷ []) in
    record {
      few = w.few;
      in_range = subst (λ z. AreClauses s.trail.vars z) (sym es) (All-push (AreLiterals s.trail.vars) s.store clause w.in_range in');
      slots = w.slots;
      pairs = ap (λ z. length z) ep ∙ length-append s.pairs.items (pair ∷ []) ∙ ap (λ n. n + 1) w.pairs ∙ sym long;
      done = w.done;
      floors = w.floors;
      guards = λ j below. elim (cases_lt j (length s.store)) [
        | inl low ↦
            let c : get_or st j [] ≡ get_or s.store j [] = ap (λ z. get_or z j []) es ∙ get_or-append s.store (clause ∷ []) [] j low in
            let p : get_or ps.items j no_watch ≡ watch_of s j = ap (λ z. get_or z j no_watch) ep ∙ get_or-append s.pairs.items (pair ∷ []) no_watch j (omega (arith, low, w.pairs)) in
            subst (λ (z : Watch). IsGuarded (IsPoint s.trail.lits s.done s.floors) s.lists.items (get_or st j []) j z) (sym p)
            (subst (λ z. IsGuarded (IsPoint s.trail.lits s.done s.floors) s.lists.items z j (watch_of s j)) (sym c) (w.guards j low))
        | inr high ↦
            let e : j ≡ length s.store = omega (arith, high, below, long) in
            let c : get_or st j [] ≡ clause = ap (λ n. get_or st n []) e ∙ ap (λ z. get_or z (length s.store) []) es ∙ get_or-append_seam s.store clause [] [] in
            let p : get_or ps.items j no_watch ≡ pair =
            ap (λ n. get_or ps.items n no_watch) (e ∙ sym w.pairs) ∙ ap (λ z. get_or z (length s.pairs.items) no_watch) ep ∙ get_or-append_seam s.pairs.items pair [] no_watch in
            subst (λ (z : Watch). IsGuarded (IsPoint s.trail.lits s.done s.floors) s.lists.items (get_or st j []) j z) (sym p)
            (subst (λ z. IsGuarded (IsPoint s.trail.lits s.done s.floors) s.lists.items z j pair) (sym c)
            (subst (λ n. IsGuarded (IsPoint s.trail.lits s.done s.floors) s.lists.items clause n pair) (sym e) g))
      ];
    }

-- one more literal was propagated
pub watching_next : (s : State) (a : ℤ) (n : ℕ) → IsWatching s → s.done < length s.trail.lits → get_or s.trail.lits s.done (pos 0) ≡ opposite a → HoldWhereWatched s a
    → n ≡ s.done + 1 → IsWatching (record s { done = n })
watching_next s a n w lt is holds e = subst (λ m. IsWatching (record s { done = m })) (sym e) (record {
  few = w.few;
  in_range = w.in_range;
  slots = w.slots;
  pairs = w.pairs;
  done = omega (arith, lt);
  floors = w.floors;
  guards = λ i below. guarded_next s.trail.lits s.done s.floors s.lists.items (get_or s.store i []) i (watch_of s i) a lt is (holds i below) (w.guards i below);
})

-- where all was propagated, propagation is complete
pub watching_complete : (s : State) → IsWatching s → s.done ≡ length s.trail.lits → IsConsistent s.trail.lits → IsComplete s.trail.lits s.store
watching_complete s w e con c (k, lt, is) =
    subst (λ z. IsQuiet s.trail.lits z) (get_or_default s.store k [] c lt ∙ is)
    (guarded_quiet s.trail.lits s.done s.floors s.lists.items (get_or s.store k []) k (watch_of s k) e con (w.guards k lt))

-- the literal at the place of a literal in range
pub place_in : (s : State) (l : ℤ) → IsWatching s → unsigned_abs l ≤ s.trail.vars → place_of l < length s.lists.items
place_in s (pos n) w h = omega (arith, w.slots, h)
place_in s (negsuc n) w h = omega (arith, w.slots, h)

-- the other watched literal is one of the clause
pub other_of : (s : State) (i : ℕ) (l other : ℤ) → IsWatching s → i < length s.store → IsOf (watch_of s i) l other → Contains (get_or s.store i []) other
other_of s i l other w lt of = other_in (IsPoint s.trail.lits s.done s.floors) s.lists.items (get_or s.store i []) i (watch_of s i) l other of (w.guards i lt)

pub clause_of : (s : State) (i : ℕ) → IsWatching s → i < length s.store → AreLiterals s.trail.vars (get_or s.store i [])
clause_of s i w lt = w.in_range i [] lt

pub other_in_range : (s : State) (i : ℕ) (l other : ℤ) → IsWatching s → i < length s.store → IsOf (watch_of s i) l other → IsLiteral s.trail.vars other
other_in_range s i l other w lt of = All-contains (IsLiteral s.trail.vars) (get_or s.store i []) other (clause_of s i w lt) (other_of s i l other w lt of)

-- a clause that watches one literal alone holds
pub settled_holds : (s : State) (i : ℕ) → IsWatching s → i < length s.store → (watch_of s i).first ≡ (watch_of s i).second → HasTrue s.trail.lits (get_or s.store i [])
settled_holds s i w lt e = elim (w.guards i lt).pair [ inl p ↦ absurd (p.differ e) | inr all ↦ all s.trail.lits (take s.done s.trail.lits) (inl (refl, refl)) ]

-- a clause that was not added
pub watching_put_back : (s : State) (st : List (List ℤ)) (ps : Vec Watch) → IsWatching s → st ≡ s.store → ps.items ≡ s.pairs.items → IsWatching (record s { store = st; pairs = ps })
watching_put_back s st ps w es ep = record {
  few = w.few;
  in_range = subst (λ z. AreClauses s.trail.vars z) (sym es) w.in_range;
  slots = w.slots;
  pairs = ap (λ z. length z) ep ∙ w.pairs ∙ ap (λ z. length z) (sym es);
  done = w.done;
  floors = w.floors;
  guards = λ i below.
      subst (λ z. IsGuarded (IsPoint s.trail.lits s.done s.floors) s.lists.items (get_or z i []) i (get_or ps.items i no_watch)) (sym es)
      (subst (λ z. IsGuarded (IsPoint s.trail.lits s.done s.floors) s.lists.items (get_or s.store i []) i (get_or z i no_watch)) (sym ep)
      (w.guards i (subst (λ z. i < length z) es below)));
}

-- a new clause that watches two literals which aren't false
pub two_guarded : (s : State) (l1 l2 : List (List ℕ)) (clause : List ℤ) (first second : ℤ) (number : ℕ) → AreTwo s.trail.lits clause first second
    → place_of first < length s.lists.items → place_of second < length l1
    → l1 ≡ set s.lists.items (place_of first) (get_or s.lists.items (place_of first) [] ++ number ∷ [])
    → l2 ≡ set l1 (place_of second) (get_or l1 (place_of second) [] ++ number ∷ [])
    → IsGuarded (IsPoint s.trail.lits s.done s.floors) l2 clause number (record { first = first; second = second })
two_guarded s l1 l2 clause first second number two in1 in2 e1 e2 = record {
  has_first = two.has_first;
  has_second = two.has_second;
  pair = inl (record {
    differ = two.differ;
    first = subst (λ (z : List (List ℕ)). IsNoted z first number) (sym e2)
        (keeps_set l1 (place_of second) (get_or l1 (place_of second) [] ++ number ∷ []) in2
        (λ n h. Contains-append_left (get_or l1 (place_of second) []) (number ∷ []) n h) (place_of first) number
        (subst (λ (z : List (List ℕ)). IsNoted z first number) (sym e1) (noted_set s.lists.items (place_of first) number (get_or s.lists.items (place_of first) []) in1)));
    second = subst (λ (z : List (List ℕ)). IsNoted z second number) (sym e2) (noted_set l1 (place_of second) number (get_or l1 (place_of second) []) in2);
  });
  fine = λ a p at. inr (
    λ h. two.first_not_false (propagated_stands s.trail.lits s.done s.floors a p at (opposite first) h),
    λ h. two.second_not_false (propagated_stands s.trail.lits s.done s.floors a p at (opposite second) h),
  );
}

-- a new clause of which a literal stands, where no level is open
pub true_guarded : (s : State) (clause : List ℤ) (l : ℤ) (number : ℕ) → s.floors ≡ [] → Contains clause l → HasTrue s.trail.lits clause
    → IsGuarded (IsPoint s.trail.lits s.done s.floors) s.lists.items clause number (record { first = l; second = l })
true_guarded s clause l number root has h = record {
  has_first = has;
  has_second = has;
  pair = inr everywhere;
  fine = λ a p at. inl (everywhere a p at);
}
  where
    everywhere : (a p : List ℤ) → IsPoint s.trail.lits s.done s.floors a p → HasTrue a clause
    everywhere a p (inl e) = subst (λ z. HasTrue z clause) (sym e.0) h
    everywhere a p (inr f) = absurd (Contains-nil f.0 (subst (λ z. Contains z f.0) root f.1))

-- a new clause that implies a literal
pub unit_grows : (cs : List (List ℤ)) (clause : List ℤ) (t : Trail') (l : ℤ) (r : ℕ) → r ≡ length cs → unsigned_abs l < length t.reasons → IsUnit t.lits clause l
    → Grows (cs ++ clause ∷ []) t (pushed t l r)
unit_grows cs clause t l r e slot u =
    let long : length (cs ++ clause ∷ []) ≡ length cs + 1 = length-append cs (clause ∷ []) in
    let is : get_or (cs ++ clause ∷ []) r [] ≡ clause = ap (λ n. get_or (cs ++ clause ∷ []) n []) e ∙ get_or-append_seam cs clause [] [] in
    more t l r same (omega (arith, long, e)) slot (subst (λ z. IsUnit t.lits z l) (sym is) u)
