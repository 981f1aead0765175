-- Two algebras whose operations respect a relation have related results of every recurrence.
use Rattle.std.proofs.Common.{◌≡◌, ℕ, zero, suc, Bool, List, [], ◌∷◌, ◌++◌, length, map, replicate, take, drop, refl, ap}
use Rattle.std.specs.List.{AllZip}
use Rattle.rst_terms.specs.declared.kinds.Connective.{Connective}
use Rattle.rst_terms.specs.declared.kinds.Connective.TheVariants.{And, Or, Xor}
use Rattle.rst_terms.specs.Algebras.{Algebra, Step}
use Rattle.rst_terms.specs.Recurrences.{either, connected, each, joined, of_none, reduced, equal, Added, added, Summed, summed, below, chosen}

-- R relates values of the first algebra to values of the second. `Good` is said of states of the first; it goes down from the
-- state behind an operation to the one before it, so that what is good at the end was good all along.
pub record Respects {S T X Y : Type 0} (Good : S → Type 0) (R : X → Y → Type 0) (A : Algebra S X) (B : Algebra T Y) : Type 0 where
  pub constant : (b : Bool) → R (A.constant b) (B.constant b)
  pub negation : (a : X) (x : Y) → R a x → R (A.negation a) (B.negation x)
  pub both_good : (s : S) (a b : X) → Good (A.both s a b).0 → Good s
  pub differ_good : (s : S) (a b : X) → Good (A.differ s a b).0 → Good s
  pub choice_good : (s : S) (c a b : X) → Good (A.choice s c a b).0 → Good s
  pub both : (s : S) (t : T) (a b : X) (x y : Y) → Good (A.both s a b).0 → R a x → R b y → R (A.both s a b).1 (B.both t x y).1
  pub differ : (s : S) (t : T) (a b : X) (x y : Y) → Good (A.differ s a b).0 → R a x → R b y → R (A.differ s a b).1 (B.differ t x y).1
  pub choice : (s : S) (t : T) (c a b : X) (z x y : Y) → Good (A.choice s c a b).0 → R c z → R a x → R b y → R (A.choice s c a b).1 (B.choice t z x y).1

pub same_length : {X Y : Type 0} (R : X → Y → Type 0) (xs : List X) (ys : List Y) → AllZip R xs ys → length xs ≡ length ys
same_length R [] [] h = refl
same_length R [] (y ∷ ys) h = absurd h
same_length R (x ∷ xs) [] h = absurd h
same_length R (x ∷ xs) (y ∷ ys) h = ap suc (same_length R xs ys h.1)

module _ {S T X Y : Type 0} (Good : S → Type 0) (R : X → Y → Type 0) (A : Algebra S X) (B : Algebra T Y) (r : Respects Good R A B) where
  pub either_good : (s : S) (a b : X) → Good (either A s a b).0 → Good s
  either_good s a b g = r.both_good s (A.negation a) (A.negation b) g

  pub either_related :
      (s : S) (t : T) (a b : X) (x y : Y) → Good (either A s a b).0 → R a x → R b y → R (either A s a b).1 (either B t x y).1
  either_related s t a b x y g p q = r.negation _ _ (r.both s t _ _ _ _ g (r.negation a x p) (r.negation b y q))

  pub added_good : (s : S) (a b c : X) → Good (added A s a b c).state → Good s
  unfolding added
  added_good s a b c g =
      r.differ_good _ _ _ (r.differ_good _ _ _ (r.both_good _ _ _ (either_good _ _ _ (r.both_good _ _ _ (either_good _ _ _ g)))))

  pub record AddedRelated (d : Added S X) (e : Added T Y) : Type 0 where
    pub bit : R d.bit e.bit
    pub carry : R d.carry e.carry

  pub added_related :
      (s : S) (t : T) (a b c : X) (x y z : Y) → Good (added A s a b c).state → R a x → R b y → R c z
      → AddedRelated (added A s a b c) (added B t x y z)
  unfolding added
  added_related s t a b c x y z g5 p q u =
      let g4 = either_good _ _ _ g5 in
      let g3 = r.both_good _ _ _ g4 in
      let g2 = either_good _ _ _ g3 in
      let g1 = r.both_good _ _ _ g2 in
      let g0 = r.differ_good _ _ _ g1 in
      let first = r.differ s t a b x y g0 p q in
      let and_ = r.both _ (B.differ (B.differ t x y).0 (B.differ t x y).1 z).0 a b x y g2 p q in
      record {
        bit = r.differ _ _ _ _ _ _ g1 first u;
        carry = either_related _ _ _ _ _ _ g5 and_
            (r.both _ _ _ _ _ _ g4 u (either_related _ _ a b x y g3 p q));
      }

  pub summed_good : (xs ys : List X) (s : S) (c : X) → Good (summed A s c xs ys).state → Good s
  summed_good [] ys s c g = g
  summed_good (x ∷ xs) [] s c g = g
  summed_good (x ∷ xs) (y ∷ ys) s c g = added_good s x y c (summed_good xs ys _ _ g)

  pub record SummedRelated (d : Summed S X) (e : Summed T Y) : Type 0 where
    pub bits : AllZip R d.bits e.bits
    pub carry : R d.carry e.carry

  pub summed_related :
      (xs ys : List X) (us ws : List Y) (s : S) (t : T) (c : X) (z : Y) → Good (summed A s c xs ys).state
      → R c z → AllZip R xs us → AllZip R ys ws → SummedRelated (summed A s c xs ys) (summed B t z us ws)
  summed_related [] ys [] ws s t c z g r p q = record { bits = tt; carry = r }
  summed_related [] ys (u ∷ us) ws s t c z g r p q = absurd p
  summed_related (x ∷ xs) ys [] ws s t c z g r p q = absurd p
  summed_related (x ∷ xs) [] (u ∷ us) [] s t c z g r p q = record { bits = tt; carry = r }
  summed_related (x ∷ xs) [] (u ∷ us) (w ∷ ws) s t c z g r p q = absurd q
  summed_related (x ∷ xs) (y ∷ ys) (u ∷ us) [] s t c z g r p q = absurd q
  summed_related (x ∷ xs) (y ∷ ys) (u ∷ us) (w ∷ ws) s t c z g r p q =
      let one = added_related s t x y c u w z (summed_good xs ys _ _ g) p.0 q.0 r in
      let rest = summed_related xs ys us ws (added A s x y c).state (added B t u w z).state _ _ g one.carry p.1 q.1 in
      record { bits = (one.bit, rest.bits); carry = rest.carry }

  pub below_good : (xs ys : List X) (s : S) (l : X) → Good (below A s l xs ys).0 → Good s
  below_good [] ys s l g = g
  below_good (x ∷ xs) [] s l g = g
  below_good (x ∷ xs) (y ∷ ys) s l g = r.differ_good _ _ _ (r.choice_good _ _ _ _ (below_good xs ys _ _ g))

  pub below_related :
      (xs ys : List X) (us ws : List Y) (s : S) (t : T) (l : X) (m : Y) → Good (below A s l xs ys).0
      → R l m → AllZip R xs us → AllZip R ys ws → R (below A s l xs ys).1 (below B t m us ws).1
  below_related [] ys [] ws s t l m g h p q = h
  below_related [] ys (u ∷ us) ws s t l m g h p q = absurd p
  below_related (x ∷ xs) ys [] ws s t l m g h p q = absurd p
  below_related (x ∷ xs) [] (u ∷ us) [] s t l m g h p q = h
  below_related (x ∷ xs) [] (u ∷ us) (w ∷ ws) s t l m g h p q = absurd q
  below_related (x ∷ xs) (y ∷ ys) (u ∷ us) [] s t l m g h p q = absurd q
  below_related (x ∷ xs) (y ∷ ys) (u ∷ us) (w ∷ ws) s t l m g h p q =
      let g1 = below_good xs ys _ _ g in
      let g0 = r.choice_good _ _ _ _ g1 in
      below_related xs ys us ws _ _ _ _ g
      (r.choice _ _ _ _ _ _ _ _ g1 (r.differ s t x y u w g0 p.0 q.0) q.0 h) p.1 q.1

  pub chosen_good : (ts es : List X) (s : S) (c : X) → Good (chosen A s c ts es).0 → Good s
  chosen_good [] es s c g = g
  chosen_good (x ∷ ts) [] s c g = g
  chosen_good (x ∷ ts) (y ∷ es) s c g = r.choice_good _ _ _ _ (chosen_good ts es _ _ g)

  pub chosen_related :
      (xs ys : List X) (us ws : List Y) (s : S) (t : T) (c : X) (z : Y) → Good (chosen A s c xs ys).0
      → R c z → AllZip R xs us → AllZip R ys ws → AllZip R (chosen A s c xs ys).1 (chosen B t z us ws).1
  chosen_related [] ys [] ws s t c z g h p q = tt
  chosen_related [] ys (u ∷ us) ws s t c z g h p q = absurd p
  chosen_related (x ∷ xs) ys [] ws s t c z g h p q = absurd p
  chosen_related (x ∷ xs) [] (u ∷ us) [] s t c z g h p q = tt
  chosen_related (x ∷ xs) [] (u ∷ us) (w ∷ ws) s t c z g h p q = absurd q
  chosen_related (x ∷ xs) (y ∷ ys) (u ∷ us) [] s t c z g h p q = absurd q
  chosen_related (x ∷ xs) (y ∷ ys) (u ∷ us) (w ∷ ws) s t c z g h p q =
      let g0 = chosen_good xs ys _ _ g in
      (r.choice s t c x y z u w g0 h p.0 q.0, chosen_related xs ys us ws _ _ _ _ g h p.1 q.1)

  pub connected_good : (op : Connective) (s : S) (a b : X) → Good (connected A op s a b).0 → Good s
  connected_good And s a b g = r.both_good s a b g
  connected_good Or s a b g = either_good s a b g
  connected_good Xor s a b g = r.differ_good s a b g

  pub connected_related :
      (op : Connective) (s : S) (t : T) (a b : X) (x y : Y) → Good (connected A op s a b).0 → R a x → R b y
      → R (connected A op s a b).1 (connected B op t x y).1
  connected_related And s t a b x y g p q = r.both s t a b x y g p q
  connected_related Or s t a b x y g p q = either_related s t a b x y g p q
  connected_related Xor s t a b x y g p q = r.differ s t a b x y g p q

  pub each_good : (op : Connective) (xs ys : List X) (s : S) → Good (each A op s xs ys).0 → Good s
  each_good op [] ys s g = g
  each_good op (x ∷ xs) [] s g = g
  each_good op (x ∷ xs) (y ∷ ys) s g = connected_good op s x y (each_good op xs ys (connected A op s x y).0 g)

  pub each_related :
      (op : Connective) (xs ys : List X) (us ws : List Y) (s : S) (t : T) → Good (each A op s xs ys).0
      → AllZip R xs us → AllZip R ys ws → AllZip R (each A op s xs ys).1 (each B op t us ws).1
  each_related op [] ys [] ws s t g p q = tt
  each_related op [] ys (u ∷ us) ws s t g p q = absurd p
  each_related op (x ∷ xs) ys [] ws s t g p q = absurd p
  each_related op (x ∷ xs) [] (u ∷ us) [] s t g p q = tt
  each_related op (x ∷ xs) [] (u ∷ us) (w ∷ ws) s t g p q = absurd q
  each_related op (x ∷ xs) (y ∷ ys) (u ∷ us) [] s t g p q = absurd q
  each_related op (x ∷ xs) (y ∷ ys) (u ∷ us) (w ∷ ws) s t g p q = (
    connected_related op s t x y u w (each_good op xs ys (connected A op s x y).0 g) p.0 q.0,
    each_related op xs ys us ws (connected A op s x y).0 (connected B op t u w).0 g p.1 q.1,
  )

  pub joined_good : (op : Connective) (xs : List X) (s : S) (a : X) → Good (joined A op s a xs).0 → Good s
  joined_good op [] s a g = g
  joined_good op (x ∷ xs) s a g = connected_good op s a x (joined_good op xs (connected A op s a x).0 (connected A op s a x).1 g)

  pub joined_related :
      (op : Connective) (xs : List X) (us : List Y) (s : S) (t : T) (a : X) (z : Y) → Good (joined A op s a xs).0
      → R a z → AllZip R xs us → R (joined A op s a xs).1 (joined B op t z us).1
  joined_related op [] [] s t a z g h p = h
  joined_related op [] (u ∷ us) s t a z g h p = absurd p
  joined_related op (x ∷ xs) [] s t a z g h p = absurd p
  joined_related op (x ∷ xs) (u ∷ us) s t a z g h p =
      joined_related op xs us (connected A op s a x).0 (connected B op t z u).0 (connected A op s a x).1 (connected B op t z u).1 g
      (connected_related op s t a x z u (joined_good op xs (connected A op s a x).0 (connected A op s a x).1 g) h p.0) p.1

  pub reduced_good : (op : Connective) (xs : List X) (s : S) → Good (reduced A op s xs).0 → Good s
  reduced_good op [] s g = g
  reduced_good op (x ∷ xs) s g = joined_good op xs s x g

  pub reduced_related :
      (op : Connective) (xs : List X) (us : List Y) (s : S) (t : T) → Good (reduced A op s xs).0 → AllZip R xs us
      → R (reduced A op s xs).1 (reduced B op t us).1
  reduced_related op [] [] s t g p = r.constant (of_none op)
  reduced_related op [] (u ∷ us) s t g p = absurd p
  reduced_related op (x ∷ xs) [] s t g p = absurd p
  reduced_related op (x ∷ xs) (u ∷ us) s t g p = joined_related op xs us s t x u g p.0 p.1

  pub negations_related : (xs : List X) (us : List Y) → AllZip R xs us → AllZip R (map A.negation xs) (map B.negation us)
  negations_related [] [] p = tt
  negations_related [] (u ∷ us) p = absurd p
  negations_related (x ∷ xs) [] p = absurd p
  negations_related (x ∷ xs) (u ∷ us) p = (r.negation x u p.0, negations_related xs us p.1)

  pub equal_good : (xs ys : List X) (s : S) → Good (equal A s xs ys).0 → Good s
  unfolding equal
  equal_good xs ys s g = each_good Xor xs ys s (reduced_good And (map A.negation (each A Xor s xs ys).1) (each A Xor s xs ys).0 g)

  pub equal_related :
      (xs ys : List X) (us ws : List Y) (s : S) (t : T) → Good (equal A s xs ys).0 → AllZip R xs us → AllZip R ys ws
      → R (equal A s xs ys).1 (equal B t us ws).1
  unfolding equal
  equal_related xs ys us ws s t g p q =
      let e : Step S (List X) = each A Xor s xs ys in
      let f : Step T (List Y) = each B Xor t us ws in
      reduced_related And (map A.negation e.1) (map B.negation f.1) e.0 f.0 g
      (negations_related e.1 f.1 (each_related Xor xs ys us ws s t (reduced_good And (map A.negation e.1) e.0 g) p q))

  pub replicate_related : (n : ℕ) (x : X) (u : Y) → R x u → AllZip R (replicate n x) (replicate n u)
  replicate_related zero x u h = tt
  replicate_related (suc n) x u h = (h, replicate_related n x u h)

  pub zip_take : (n : ℕ) (xs : List X) (us : List Y) → AllZip R xs us → AllZip R (take n xs) (take n us)
  zip_take zero xs us h = tt
  zip_take (suc n) [] [] h = tt
  zip_take (suc n) [] (u ∷ us) h = absurd h
  zip_take (suc n) (x ∷ xs) [] h = absurd h
  zip_take (suc n) (x ∷ xs) (u ∷ us) h = (h.0, zip_take n xs us h.1)

  pub zip_drop : (n : ℕ) (xs : List X) (us : List Y) → AllZip R xs us → AllZip R (drop n xs) (drop n us)
  zip_drop zero xs us h = h
  zip_drop (suc n) [] [] h = tt
  zip_drop (suc n) [] (u ∷ us) h = absurd h
  zip_drop (suc n) (x ∷ xs) [] h = absurd h
  zip_drop (suc n) (x ∷ xs) (u ∷ us) h = zip_drop n xs us h.1

  pub zip_append :
      (xs ys : List X) (us ws : List Y) → AllZip R xs us → AllZip R ys ws → AllZip R (xs ++ ys) (us ++ ws)
  zip_append [] ys [] ws p q = q
  zip_append [] ys (u ∷ us) ws p q = absurd p
  zip_append (x ∷ xs) ys [] ws p q = absurd p
  zip_append (x ∷ xs) ys (u ∷ us) ws p q = (p.0, zip_append xs ys us ws p.1 q)
