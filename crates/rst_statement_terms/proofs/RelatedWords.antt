-- Tables of words in two algebras whose operations respect a relation.
use Rattle.std.proofs.Common.{◌≡◌, ℕ, zero, suc, ◌+◌, Bool, true, false, List, [], ◌∷◌, ◌++◌, take, drop, get_or, set, cond}
use Rattle.std.proofs.lemmas.Bool.{cond_both}
use Rattle.std.specs.List.{AllZip}
use Rattle.rst_net.specs.declared.signal.Slice.{Slice}
use Rattle.rst_terms.specs.Algebras.{Algebra, Step}
use Rattle.rst_terms.proofs.Respects.{Respects}
use Rattle.rst_terms.proofs.Respects as law
use Rattle.rst_cycle.specs.Effects.{target_width}
use Rattle.rst_statement_terms.specs.Targets.{Words, word_of, replaced, with_slice, with_target, merged_word, merged}

module _ {S T X Y : Type 0} (Good : S → Type 0) (R : X → Y → Type 0) (A : Algebra S X) (B : Algebra T Y) (r : Respects Good R A B) where
  -- related words, signal by signal
  abbrev pub tables : Words X → Words Y → Type 0
  tables ws vs = AllZip (AllZip R) ws vs

  pub word_related : (ws : Words X) (vs : Words Y) (i : ℕ) → AllZip (AllZip R) ws vs → AllZip R (word_of ws i) (word_of vs i)
  word_related [] [] i p = tt
  word_related [] (v ∷ vs) i p = absurd p
  word_related (w ∷ ws) [] i p = absurd p
  word_related (w ∷ ws) (v ∷ vs) zero p = p.0
  word_related (w ∷ ws) (v ∷ vs) (suc i) p = word_related ws vs i p.1

  set_related : (ws : Words X) (vs : Words Y) (i : ℕ) (xs : List X) (us : List Y) → AllZip (AllZip R) ws vs → AllZip R xs us → AllZip (AllZip R) (set ws i xs) (set vs i us)
  set_related [] [] i xs us p q = tt
  set_related [] (v ∷ vs) i xs us p q = absurd p
  set_related (w ∷ ws) [] i xs us p q = absurd p
  set_related (w ∷ ws) (v ∷ vs) zero xs us p q = (q, p.1)
  set_related (w ∷ ws) (v ∷ vs) (suc i) xs us p q = (p.0, set_related ws vs i xs us p.1 q)

  replaced_related :
      (low width : ℕ) (part word : List X) (qart other : List Y) → AllZip R part qart → AllZip R word other
      → AllZip R (replaced low width part word) (replaced low width qart other)
  replaced_related low width part word qart other p q =
      law.zip_append Good R A B r (take low word) (take width part ++ drop (low + width) word) (take low other) (take width qart ++ drop (low + width) other)
      (law.zip_take Good R A B r low word other q)
      (law.zip_append Good R A B r (take width part) (drop (low + width) word) (take width qart) (drop (low + width) other)
      (law.zip_take Good R A B r width part qart p) (law.zip_drop Good R A B r (low + width) word other q))

  pub target_related :
      (target : List Slice) (part : List X) (qart : List Y) (ws : Words X) (vs : Words Y) → AllZip R part qart → AllZip (AllZip R) ws vs
      → AllZip (AllZip R) (with_target target part ws) (with_target target qart vs)
  target_related [] part qart ws vs p q = q
  target_related (slice ∷ slices) part qart ws vs p q =
      target_related slices part qart (with_slice slice (drop (target_width slices) part) ws) (with_slice slice (drop (target_width slices) qart) vs) p
      (set_related ws vs slice.signal (replaced slice.low slice.width (drop (target_width slices) part) (word_of ws slice.signal))
      (replaced slice.low slice.width (drop (target_width slices) qart) (word_of vs slice.signal)) q
      (replaced_related slice.low slice.width (drop (target_width slices) part) (word_of ws slice.signal) (drop (target_width slices) qart) (word_of vs slice.signal)
      (law.zip_drop Good R A B r (target_width slices) part qart p) (word_related ws vs slice.signal q)))

  merged_word_good : (which : ℕ → Bool) (c : X) (ys ns : List X) (place : ℕ) (s : S) → Good (merged_word A s c which place ys ns).0 → Good s
  merged_word_good which c [] ns place s g = g
  merged_word_good which c (y ∷ ys) [] place s g = g
  merged_word_good which c (y ∷ ys) (n ∷ ns) place s g =
      let m : Step S X = A.choice s c y n in
      let one : Step S (List X) = merged_word A m.0 c which (suc place) ys ns in
      let other : Step S (List X) = merged_word A s c which (suc place) ys ns in
      cond_both (which place) (one.0, m.1 ∷ one.1) (other.0, n ∷ other.1) (λ (z : Step S (List X)). Good z.0 → Good s)
      (λ _ g. r.choice_good s c y n (merged_word_good which c ys ns (suc place) m.0 g))
      (λ _ g. merged_word_good which c ys ns (suc place) s g) g

  pub two_conds :
      (b : Bool) (x y : Step S (List X)) (u v : Step T (List Y))
      → (Good x.0 → AllZip R x.1 u.1) → (Good y.0 → AllZip R y.1 v.1) → Good (cond b x y).0 → AllZip R (cond b x y).1 (cond b u v).1
  two_conds true x y u v h k = h
  two_conds false x y u v h k = k

  merged_word_related :
      (which : ℕ → Bool) (c : X) (z : Y) (ys ns : List X) (us ws : List Y) (place : ℕ) (s : S) (t : T) → Good (merged_word A s c which place ys ns).0
      → R c z → AllZip R ys us → AllZip R ns ws → AllZip R (merged_word A s c which place ys ns).1 (merged_word B t z which place us ws).1
  merged_word_related which c z [] ns [] ws place s t g h p q = tt
  merged_word_related which c z [] ns (u ∷ us) ws place s t g h p q = absurd p
  merged_word_related which c z (y ∷ ys) ns [] ws place s t g h p q = absurd p
  merged_word_related which c z (y ∷ ys) [] (u ∷ us) [] place s t g h p q = tt
  merged_word_related which c z (y ∷ ys) [] (u ∷ us) (w ∷ ws) place s t g h p q = absurd q
  merged_word_related which c z (y ∷ ys) (n ∷ ns) (u ∷ us) [] place s t g h p q = absurd q
  merged_word_related which c z (y ∷ ys) (n ∷ ns) (u ∷ us) (w ∷ ws) place s t g h p q =
      let m : Step S X = A.choice s c y n in
      let k : Step T Y = B.choice t z u w in
      let one : Step S (List X) = merged_word A m.0 c which (suc place) ys ns in
      let other : Step S (List X) = merged_word A s c which (suc place) ys ns in
      let two : Step T (List Y) = merged_word B k.0 z which (suc place) us ws in
      let second : Step T (List Y) = merged_word B t z which (suc place) us ws in
      two_conds (which place) (one.0, m.1 ∷ one.1) (other.0, n ∷ other.1) (two.0, k.1 ∷ two.1) (second.0, w ∷ second.1)
      (λ g. (
        r.choice s t c y n z u w (merged_word_good which c ys ns (suc place) m.0 g) h p.0 q.0,
        merged_word_related which c z ys ns us ws (suc place) m.0 k.0 g h p.1 q.1,
      ))
      (λ g. (q.0, merged_word_related which c z ys ns us ws (suc place) s t g h p.1 q.1)) g

  pub merged_good : (which : ℕ → ℕ → Bool) (c : X) (ys ns : Words X) (i : ℕ) (s : S) → Good (merged A s c which i ys ns).0 → Good s
  merged_good which c [] ns i s g = g
  merged_good which c (y ∷ ys) [] i s g = g
  merged_good which c (y ∷ ys) (n ∷ ns) i s g =
      merged_word_good (which i) c y n 0 s (merged_good which c ys ns (suc i) (merged_word A s c (which i) 0 y n).0 g)

  pub merged_related :
      (which : ℕ → ℕ → Bool) (c : X) (z : Y) (ys ns : Words X) (us ws : Words Y) (i : ℕ) (s : S) (t : T) → Good (merged A s c which i ys ns).0
      → R c z → AllZip (AllZip R) ys us → AllZip (AllZip R) ns ws → AllZip (AllZip R) (merged A s c which i ys ns).1 (merged B t z which i us ws).1
  merged_related which c z [] ns [] ws i s t g h p q = tt
  merged_related which c z [] ns (u ∷ us) ws i s t g h p q = absurd p
  merged_related which c z (y ∷ ys) ns [] ws i s t g h p q = absurd p
  merged_related which c z (y ∷ ys) [] (u ∷ us) [] i s t g h p q = tt
  merged_related which c z (y ∷ ys) [] (u ∷ us) (w ∷ ws) i s t g h p q = absurd q
  merged_related which c z (y ∷ ys) (n ∷ ns) (u ∷ us) [] i s t g h p q = absurd q
  merged_related which c z (y ∷ ys) (n ∷ ns) (u ∷ us) (w ∷ ws) i s t g h p q =
      let m : Step S (List X) = merged_word A s c (which i) 0 y n in
      let k : Step T (List Y) = merged_word B t z (which i) 0 u w in (
        merged_word_related (which i) c z y n u w 0 s t (merged_good which c ys ns (suc i) m.0 g) h p.0 q.0,
        merged_related which c z ys ns us ws (suc i) m.0 k.0 g h p.1 q.1,
      )
