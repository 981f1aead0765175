-- Shifts, selects and products in two algebras whose operations respect a relation.
use Rattle.std.proofs.Common.{◌≡◌, ℕ, suc, ◌-◌, ◌*◌, Bool, true, false, List, [], ◌∷◌, ◌++◌, length, replicate, take, drop, cond, ltb, subst}
use Rattle.std.proofs.lemmas.Bool.{cond_both}
use Rattle.std.specs.List.{AllZip}
use Rattle.rst_terms.specs.declared.kinds.Connective.TheVariants.{Or}
use Rattle.rst_terms.specs.declared.kinds.Direction.{Direction}
use Rattle.rst_terms.specs.declared.kinds.Direction.TheVariants.{Up, Down}
use Rattle.rst_terms.specs.Algebras.{Algebra, Step}
use Rattle.rst_terms.specs.Recurrences.{Summed, summed, chosen, moved, moved_out, shifted, selected, evens, odds, masked, added_up, product}
use Rattle.rst_terms.proofs.Respects.{Respects, same_length}
use Rattle.rst_terms.proofs.Respects as law

module _ {S T X Y : Type 0} (Good : S → Type 0) (R : X → Y → Type 0) (A : Algebra S X) (B : Algebra T Y) (r : Respects Good R A B) where
  pub moved_out_good : (s : S) (fill : X) (high xs : List X) → Good (moved_out A s fill high xs).0 → Good s
  unfolding moved_out
  moved_out_good s fill high xs g = law.reduced_good Good R A B r Or high s (law.chosen_good Good R A B r (replicate (length xs) fill) xs _ _ g)

  pub moved_out_related :
      (s : S) (t : T) (fill : X) (z : Y) (high xs : List X) (low us : List Y) → Good (moved_out A s fill high xs).0
      → R fill z → AllZip R high low → AllZip R xs us
      → AllZip R (moved_out A s fill high xs).1 (moved_out B t z low us).1
  unfolding moved_out
  moved_out_related s t fill z high xs low us g h p q =
      let n : length xs ≡ length us = same_length R xs us q in
      law.chosen_related Good R A B r (replicate (length xs) fill) xs (replicate (length us) z) us _ _ _ _ g
      (law.reduced_related Good R A B r Or high low s t (law.chosen_good Good R A B r (replicate (length xs) fill) xs _ _ g) p)
      (rw n (law.replicate_related Good R A B r (length us) fill z h)) q

  -- a word is moved alike in both
  pub moved_related :
      (way : Direction) (fill : X) (z : Y) (p : ℕ) (xs : List X) (us : List Y) → R fill z → AllZip R xs us
      → AllZip R (moved way fill p xs) (moved way z p us)
  moved_related Up fill z p xs us h q =
      law.zip_append Good R A B r (replicate p fill) (take (length xs - p) xs) (replicate p z) (take (length us - p) us) (law.replicate_related Good R A B r p fill z h)
      (subst (λ k. AllZip R (take (length xs - p) xs) (take (k - p) us)) (same_length R xs us q) (law.zip_take Good R A B r (length xs - p) xs us q))
  moved_related Down fill z p xs us h q =
      law.zip_append Good R A B r (drop p xs) (replicate p fill) (drop p us) (replicate p z) (law.zip_drop Good R A B r p xs us q) (law.replicate_related Good R A B r p fill z h)

  pub shifted_good :
      (way : Direction) (ns : List X) (s : S) (fill : X) (p : ℕ) (xs : List X) → Good (shifted way A s fill p ns xs).0 → Good s
  shifted_good way [] s fill p xs g = moved_out_good s fill [] xs g
  shifted_good way (n ∷ ns) s fill p xs g =
      let stage : Step S (List X) = chosen A s n (moved way fill p xs) xs in
      cond_both (ltb p (length xs)) (shifted way A stage.0 fill (2 * p) ns stage.1) (moved_out A s fill (n ∷ ns) xs)
      (λ (r : Step S (List X)). Good r.0 → Good s)
      (λ _ g. law.chosen_good Good R A B r (moved way fill p xs) xs s n (shifted_good way ns stage.0 fill (2 * p) stage.1 g))
      (λ _ g. moved_out_good s fill (n ∷ ns) xs g) g

  -- both tests are one
  two_conds :
      (b : Bool) (x y : Step S (List X)) (u v : Step T (List Y))
      → (Good x.0 → AllZip R x.1 u.1) → (Good y.0 → AllZip R y.1 v.1) → Good (cond b x y).0 → AllZip R (cond b x y).1 (cond b u v).1
  two_conds true x y u v h k = h
  two_conds false x y u v h k = k

  pub shifted_related :
      (way : Direction) (ns : List X) (ms : List Y) (s : S) (t : T) (fill : X) (z : Y) (p : ℕ) (xs : List X) (us : List Y)
      → Good (shifted way A s fill p ns xs).0 → R fill z → AllZip R ns ms → AllZip R xs us
      → AllZip R (shifted way A s fill p ns xs).1 (shifted way B t z p ms us).1
  shifted_related way [] [] s t fill z p xs us g h q k = moved_out_related s t fill z [] xs [] us g h tt k
  shifted_related way [] (m ∷ ms) s t fill z p xs us g h q k = absurd q
  shifted_related way (n ∷ ns) [] s t fill z p xs us g h q k = absurd q
  shifted_related way (n ∷ ns) (m ∷ ms) s t fill z p xs us g h q k =
      let len : length xs ≡ length us = same_length R xs us k in
      let stage : Step S (List X) = chosen A s n (moved way fill p xs) xs in
      let other : Step T (List Y) = chosen B t m (moved way z p us) us in
      subst
      (λ w. AllZip R (shifted way A s fill p (n ∷ ns) xs).1
      (cond (ltb p w) (shifted way B other.0 z (2 * p) ms other.1) (moved_out B t z (m ∷ ms) us)).1)
      len
      (two_conds (ltb p (length xs)) (shifted way A stage.0 fill (2 * p) ns stage.1) (moved_out A s fill (n ∷ ns) xs)
      (shifted way B other.0 z (2 * p) ms other.1) (moved_out B t z (m ∷ ms) us)
      (λ g. shifted_related way ns ms stage.0 other.0 fill z (2 * p) stage.1 other.1 g h q.1
      (law.chosen_related Good R A B r (moved way fill p xs) xs (moved way z p us) us s t n m (shifted_good way ns stage.0 fill (2 * p) stage.1 g) q.0
      (moved_related way fill z p xs us h k) k))
      (λ g. moved_out_related s t fill z (n ∷ ns) xs (m ∷ ms) us g h q k) g)

  pub selected_good : (ns xs : List X) (s : S) → Good (selected A s ns xs).0 → Good s
  selected_good [] xs s g = g
  selected_good (n ∷ ns) xs s g = law.chosen_good Good R A B r (odds xs) (evens xs) s n (selected_good ns _ _ g)

  evens_related : (xs : List X) (us : List Y) → AllZip R xs us → AllZip R (evens xs) (evens us)
  evens_related [] [] h = tt
  evens_related [] (u ∷ us) h = absurd h
  evens_related (x ∷ xs) [] h = absurd h
  evens_related (x ∷ []) (u ∷ []) h = (h.0, tt)
  evens_related (x ∷ []) (u ∷ w ∷ us) h = absurd h.1
  evens_related (x ∷ y ∷ xs) (u ∷ []) h = absurd h.1
  evens_related (x ∷ y ∷ xs) (u ∷ w ∷ us) h = (h.0, evens_related xs us h.1.1)

  odds_related : (xs : List X) (us : List Y) → AllZip R xs us → AllZip R (odds xs) (odds us)
  odds_related [] [] h = tt
  odds_related [] (u ∷ us) h = absurd h
  odds_related (x ∷ xs) [] h = absurd h
  odds_related (x ∷ []) (u ∷ []) h = tt
  odds_related (x ∷ []) (u ∷ w ∷ us) h = absurd h.1
  odds_related (x ∷ y ∷ xs) (u ∷ []) h = absurd h.1
  odds_related (x ∷ y ∷ xs) (u ∷ w ∷ us) h = (h.1.0, odds_related xs us h.1.1)

  pub selected_related :
      (ns : List X) (ms : List Y) (xs : List X) (us : List Y) (s : S) (t : T) → Good (selected A s ns xs).0
      → AllZip R ns ms → AllZip R xs us → AllZip R (selected A s ns xs).1 (selected B t ms us).1
  selected_related [] [] xs us s t g p q = q
  selected_related [] (m ∷ ms) xs us s t g p q = absurd p
  selected_related (n ∷ ns) [] xs us s t g p q = absurd p
  selected_related (n ∷ ns) (m ∷ ms) xs us s t g p q =
      selected_related ns ms (chosen A s n (odds xs) (evens xs)).1 (chosen B t m (odds us) (evens us)).1 _ _ g p.1
      (law.chosen_related Good R A B r (odds xs) (evens xs) (odds us) (evens us) s t n m (selected_good ns _ _ g) p.0 (odds_related xs us q) (evens_related xs us q))

  pub masked_good : (xs : List X) (s : S) (b : X) → Good (masked A s b xs).0 → Good s
  masked_good [] s b g = g
  masked_good (x ∷ xs) s b g = r.both_good _ _ _ (masked_good xs _ _ g)

  pub masked_related :
      (xs : List X) (us : List Y) (s : S) (t : T) (b : X) (z : Y) → Good (masked A s b xs).0 → R b z → AllZip R xs us
      → AllZip R (masked A s b xs).1 (masked B t z us).1
  masked_related [] [] s t b z g h p = tt
  masked_related [] (u ∷ us) s t b z g h p = absurd p
  masked_related (x ∷ xs) [] s t b z g h p = absurd p
  masked_related (x ∷ xs) (u ∷ us) s t b z g h p =
      (r.both s t x b u z (masked_good xs _ _ g) p.0 h, masked_related xs us _ _ b z g h p.1)

  pub added_up_good :
      (ys : List X) (s : S) (rs : List X) (xs : List X) (i : ℕ) → Good (added_up A s rs xs i ys).0 → Good s
  added_up_good [] s rs xs i g = g
  added_up_good (y ∷ ys) s rs xs i g =
      let p : Step S (List X) = masked A s y (take (length xs - i) xs) in
      masked_good (take (length xs - i) xs) s y
      (law.summed_good Good R A B r rs (replicate i (A.constant false) ++ p.1) p.0 (A.constant false) (added_up_good ys _ _ xs (suc i) g))

  pub added_up_related :
      (ys : List X) (ws : List Y) (s : S) (t : T) (rs : List X) (qs : List Y) (xs : List X) (us : List Y) (i : ℕ)
      → Good (added_up A s rs xs i ys).0 → AllZip R rs qs → AllZip R xs us → AllZip R ys ws
      → AllZip R (added_up A s rs xs i ys).1 (added_up B t qs us i ws).1
  added_up_related [] [] s t rs qs xs us i g h p q = h
  added_up_related [] (w ∷ ws) s t rs qs xs us i g h p q = absurd q
  added_up_related (y ∷ ys) [] s t rs qs xs us i g h p q = absurd q
  added_up_related (y ∷ ys) (w ∷ ws) s t rs qs xs us i g h p q =
      let len : length xs ≡ length us = same_length R xs us p in
      let m : Step S (List X) = masked A s y (take (length xs - i) xs) in
      let n : Step T (List Y) = masked B t w (take (length us - i) us) in
      let part : List X = replicate i (A.constant false) ++ m.1 in
      let qart : List Y = replicate i (B.constant false) ++ n.1 in
      let d : Summed S X = summed A m.0 (A.constant false) rs part in
      let e : Summed T Y = summed B n.0 (B.constant false) qs qart in
      let g1 : Good d.state = added_up_good ys d.state d.bits xs (suc i) g in
      let g0 : Good m.0 = law.summed_good Good R A B r rs part m.0 (A.constant false) g1 in
      let short : AllZip R (take (length xs - i) xs) (take (length us - i) us) =
      subst (λ k. AllZip R (take (length xs - i) xs) (take (k - i) us)) len (law.zip_take Good R A B r (length xs - i) xs us p) in
      let masks : AllZip R m.1 n.1 = masked_related (take (length xs - i) xs) (take (length us - i) us) s t y w g0 q.0 short in
      let sum = law.summed_related Good R A B r rs part qs qart m.0 n.0 (A.constant false) (B.constant false) g1 (r.constant false) h
      (law.zip_append Good R A B r (replicate i (A.constant false)) m.1 (replicate i (B.constant false)) n.1
      (law.replicate_related Good R A B r i (A.constant false) (B.constant false) (r.constant false)) masks) in
      added_up_related ys ws d.state e.state d.bits e.bits xs us (suc i) g sum.bits p q.1

  pub product_good : (xs ys : List X) (s : S) → Good (product A s xs ys).0 → Good s
  product_good xs ys s g = added_up_good ys s (replicate (length xs) (A.constant false)) xs 0 g

  pub product_related :
      (xs ys : List X) (us ws : List Y) (s : S) (t : T) → Good (product A s xs ys).0 → AllZip R xs us → AllZip R ys ws
      → AllZip R (product A s xs ys).1 (product B t us ws).1
  product_related xs ys us ws s t g p q =
      added_up_related ys ws s t (replicate (length xs) (A.constant false)) (replicate (length us) (B.constant false)) xs us 0 g
      (subst (λ k. AllZip R (replicate (length xs) (A.constant false)) (replicate k (B.constant false))) (same_length R xs us p)
      (law.replicate_related Good R A B r (length xs) (A.constant false) (B.constant false) (r.constant false))) p q
