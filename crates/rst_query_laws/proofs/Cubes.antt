-- What the literals of cubes and of outputs stand for, as tests.
use Rattle.std.proofs.Common.{◌≡◌, ◌∙◌, ℕ, zero, suc, ◌<◌, ℤ, Bool, true, false, not, ◌&&◌, ◌||◌, List, [], ◌∷◌, ◌++◌, length, map, refl, sym, ap, arith}
use Rattle.std.specs.Prelude.{slice_index_or}
use Rattle.std.specs.List.{All, AllZip}
use Rattle.std.proofs.lemmas.Bool.{false≢true}
use Rattle.rst_value.specs.declared.tern.Tern.{Tern}
use Rattle.rst_value.specs.declared.tern.Tern.TheVariants.{Zero, One, Unknown}
use Rattle.rst_value.specs.Bits.{bit_xor}
use Rattle.rst_value.specs.Domains.{Content}
use Rattle.rst_value.specs.Terns.{StandsFor}
use Rattle.rst_clause.specs.Literals.{opposite, literal_holds, Solves}
use Rattle.rst_clause.specs.Results.{largest, clause_results}
use Rattle.rst_pair.specs.Aims.{LiesInSome, LiesInNone}
use Rattle.rst_pose.specs.Posed.{Lits, with_place, in_cube, in_cubes, in_none, outs_differ}
use Rattle.rst_query_laws.proofs.Meaning as m
use Rattle.rst_query_laws.proofs.Meaning.{values, Ready, In, AllIn, Grown, grown_not, grown_twice, Means, MeansAll, means_as, in_more, all_more, both_means, differ_means, opposite_in, opposite_value, all_cons, all_head, all_tail}

-- whether the place stands for the bit
abbrev pub stands : Tern → Bool → Bool
stands Zero b = not b
stands One b = b
stands Unknown b = true

-- whether the bits agree with the cube's known places
abbrev pub agrees : List Tern → List Bool → Bool
agrees [] bits = true
agrees (place ∷ places) [] = true
agrees (place ∷ places) (b ∷ bits) = stands place b && agrees places bits

abbrev pub some_true : List Bool → Bool
some_true [] = false
some_true (b ∷ bits) = b || some_true bits

-- of each cube, whether the bits agree with it
abbrev pub agree_each : List (List Tern) → List Bool → List Bool
agree_each cubes bits = map (λ cube. agrees cube bits) cubes

-- of each two bits, whether they differ
abbrev pub differences : List Bool → List Bool → List Bool
differences [] ys = []
differences (x ∷ xs) [] = []
differences (x ∷ xs) (y ∷ ys) = bit_xor x y ∷ differences xs ys

and_true : (a : Bool) → a ≡ (a && true)
and_true true = refl
and_true false = refl

and_assoc : (a b c : Bool) → ((a && b) && c) ≡ (a && (b && c))
and_assoc true b c = refl
and_assoc false b c = refl

and_none : (a b c : Bool) → ((a && not b) && not c) ≡ (a && not (b || c))
and_none true true c = refl
and_none true false c = refl
and_none false b c = refl

place_means :
    (free : ℕ) (c : Content) (so_far z : ℤ) (place : Tern) → Ready free c → In c so_far → In c z
    → Means free c (with_place so_far place z c) (λ v. literal_holds v so_far && stands place (literal_holds v z))
place_means free c so_far z Zero ready p q =
    means_as free c (clause_results.both c so_far (opposite z)) _ _ (both_means free c so_far (opposite z) ready p (opposite_in c z q))
    (λ v s. ap (λ (b : Bool). literal_holds v so_far && b) (opposite_value c z v q))
place_means free c so_far z One ready p q = both_means free c so_far z ready p q
place_means free c so_far z Unknown ready p q = record { grown = grown_not free c ready; held = p; value = λ v s. and_true (literal_holds v so_far) }

pub cube_means :
    (free : ℕ) (c : Content) (so_far : ℤ) (places : List Tern) (zs : List ℤ) → Ready free c → In c so_far → AllIn c zs
    → Means free c (in_cube so_far places zs c) (λ v. literal_holds v so_far && agrees places (values v zs))
cube_means free c so_far [] zs ready p q = record { grown = grown_not free c ready; held = p; value = λ v s. and_true (literal_holds v so_far) }
cube_means free c so_far (place ∷ places) [] ready p q = record { grown = grown_not free c ready; held = p; value = λ v s. and_true (literal_holds v so_far) }
cube_means free c so_far (place ∷ places) (z ∷ zs) ready p q =
    let r : m.One = with_place so_far place z c in
    let one = place_means free c so_far z place ready p (all_head (largest c) z zs q) in
    let rest = cube_means free r.1 r.0 places zs one.grown.ready one.held (all_more free c r.1 zs one.grown (all_tail (largest c) z zs q)) in
    record {
      grown = grown_twice free c r.1 _ one.grown rest.grown;
      held = rest.held;
      value = λ v s. rest.value v s ∙ ap (λ (b : Bool). b && agrees places (values v zs)) (one.value v (rest.grown.earlier v s))
          ∙ and_assoc (literal_holds v so_far) (stands place (literal_holds v z)) (agrees places (values v zs));
    }

-- the literal is true under each solution
pub record IsHigh (free : ℕ) (c : Content) (high : ℤ) : Type 0 where
  pub ready : Ready free c
  pub held : In c high
  pub holds : (v : ℕ → Bool) → Solves v c → literal_holds v high ≡ true

pub high_more : (free : ℕ) (a b : Content) (high : ℤ) → Grown free a b → IsHigh free a high → IsHigh free b high
high_more free a b high g h = record { ready = g.ready; held = in_more free a b high g h.held; holds = λ v s. h.holds v (g.earlier v s) }

pub cubes_mean :
    (free : ℕ) (c : Content) (high : ℤ) (cubes : List (List Tern)) (zs : List ℤ) → IsHigh free c high → AllIn c zs
    → MeansAll free c (in_cubes high cubes zs c) (λ v. agree_each cubes (values v zs))
cubes_mean free c high [] zs h q = record { grown = grown_not free c h.ready; held = λ i d lt. absurd (omega arith); value = λ v s. refl }
cubes_mean free c high (cube ∷ cubes) zs h q =
    let r : m.One = in_cube high cube zs c in
    let one = cube_means free c high cube zs h.ready h.held q in
    let rest : MeansAll free r.1 (in_cubes high cubes zs r.1) (λ v. agree_each cubes (values v zs)) =
    cubes_mean free r.1 high cubes zs (high_more free c r.1 high one.grown h) (all_more free c r.1 zs one.grown q) in
    let behind : Lits = in_cubes high cubes zs r.1 in
    record {
      grown = grown_twice free c r.1 behind.1 one.grown rest.grown;
      held = all_cons (largest behind.1) r.0 behind.0 (in_more free r.1 behind.1 r.0 rest.grown one.held) rest.held;
      value = λ v s.
          let before = rest.grown.earlier v s in
          let first : literal_holds v r.0 ≡ agrees cube (values v zs) =
          one.value v before ∙ ap (λ (b : Bool). b && agrees cube (values v zs)) (h.holds v (one.grown.earlier v before)) in
          same_bits _ _ _ _ first (rest.value v s);
    }
  where
    same_bits : (a b : Bool) (xs ys : List Bool) → a ≡ b → xs ≡ ys → a ∷ xs ≡ b ∷ ys
    same_bits a b xs ys p q = cc

pub none_means :
    (free : ℕ) (c : Content) (high so_far : ℤ) (cubes : List (List Tern)) (zs : List ℤ) → IsHigh free c high → In c so_far → AllIn c zs
    → Means free c (in_none high so_far cubes zs c) (λ v. literal_holds v so_far && not (some_true (agree_each cubes (values v zs))))
none_means free c high so_far [] zs h p q = record { grown = grown_not free c h.ready; held = p; value = λ v s. and_true (literal_holds v so_far) }
none_means free c high so_far (cube ∷ cubes) zs h p q =
    let one : m.One = in_cube high cube zs c in
    let om = cube_means free c high cube zs h.ready h.held q in
    let bm = both_means free one.1 so_far (opposite one.0) om.grown.ready (in_more free c one.1 so_far om.grown p) (opposite_in one.1 one.0 om.held) in
    let z : m.One = clause_results.both one.1 so_far (opposite one.0) in
    let grown = grown_twice free c one.1 z.1 om.grown bm.grown in
    let rest = none_means free z.1 high z.0 cubes zs (high_more free c z.1 high grown h) bm.held (all_more free c z.1 zs grown q) in
    record {
      grown = grown_twice free c z.1 _ grown rest.grown;
      held = rest.held;
      value = λ v s.
          let at_z = rest.grown.earlier v s in
          let at_one = bm.grown.earlier v at_z in
          let cube_is : literal_holds v one.0 ≡ agrees cube (values v zs) =
          om.value v at_one ∙ ap (λ (b : Bool). b && agrees cube (values v zs)) (h.holds v (om.grown.earlier v at_one)) in
          let opposite_is : literal_holds v (opposite one.0) ≡ not (agrees cube (values v zs)) = opposite_value one.1 one.0 v om.held ∙ ap not cube_is in
          let others = not (some_true (agree_each cubes (values v zs))) in
          rest.value v s
          ∙ ap (λ (b : Bool). b && others) (bm.value v at_z ∙ ap (λ (b : Bool). literal_holds v so_far && b) opposite_is)
          ∙ and_none (literal_holds v so_far) (agrees cube (values v zs)) (some_true (agree_each cubes (values v zs)));
    }

pub outs_mean :
    (free : ℕ) (c : Content) (xs ys : List ℤ) → Ready free c → AllIn c xs → AllIn c ys
    → MeansAll free c (outs_differ xs ys c) (λ v. differences (values v xs) (values v ys))
outs_mean free c [] ys ready p q = record { grown = grown_not free c ready; held = λ i d lt. absurd (omega arith); value = λ v s. refl }
outs_mean free c (x ∷ xs) [] ready p q = record { grown = grown_not free c ready; held = λ i d lt. absurd (omega arith); value = λ v s. refl }
outs_mean free c (x ∷ xs) (y ∷ ys) ready p q =
    let r : m.One = clause_results.differ c x y in
    let one = differ_means free c x y ready (all_head (largest c) x xs p) (all_head (largest c) y ys q) in
    let rest : MeansAll free r.1 (outs_differ xs ys r.1) (λ v. differences (values v xs) (values v ys)) =
    outs_mean free r.1 xs ys one.grown.ready (all_more free c r.1 xs one.grown (all_tail (largest c) x xs p)) (all_more free c r.1 ys one.grown (all_tail (largest c) y ys q)) in
    let behind : Lits = outs_differ xs ys r.1 in
    record {
      grown = grown_twice free c r.1 behind.1 one.grown rest.grown;
      held = all_cons (largest behind.1) r.0 behind.0 (in_more free r.1 behind.1 r.0 rest.grown one.held) rest.held;
      value = λ v s. same_bits _ _ _ _ (one.value v (rest.grown.earlier v s)) (rest.value v s);
    }
  where
    same_bits : (a b : Bool) (xs ys : List Bool) → a ≡ b → xs ≡ ys → a ∷ xs ≡ b ∷ ys
    same_bits a b xs ys p q = cc

-- the test is exact
stands-is : (place : Tern) (b : Bool) → stands place b ≡ true → StandsFor place b
stands-is Zero true e = sym e
stands-is Zero false e = refl
stands-is One b e = e
stands-is Unknown b e = tt

stands-of : (place : Tern) (b : Bool) → StandsFor place b → stands place b ≡ true
stands-of Zero b e = ap not e
stands-of One b e = e
stands-of Unknown b e = refl

and_first : (a b : Bool) → (a && b) ≡ true → a ≡ true
and_first true b h = refl
and_first false b h = h

and_second : (a b : Bool) → (a && b) ≡ true → b ≡ true
and_second true b h = h
and_second false b h = absurd (false≢true h)

pub agrees-is : (cube : List Tern) (bits : List Bool) → length cube ≡ length bits → agrees cube bits ≡ true → AllZip StandsFor cube bits
agrees-is [] [] same e = tt
agrees-is [] (b ∷ bits) same e = absurd (omega (arith, same))
agrees-is (place ∷ places) [] same e = absurd (omega (arith, same))
agrees-is (place ∷ places) (b ∷ bits) same e =
    (stands-is place b (and_first (stands place b) (agrees places bits) e), agrees-is places bits (omega (arith, same)) (and_second (stands place b) (agrees places bits) e))

pub agrees-of : (cube : List Tern) (bits : List Bool) → AllZip StandsFor cube bits → agrees cube bits ≡ true
agrees-of [] bits h = refl
agrees-of (place ∷ places) [] h = refl
agrees-of (place ∷ places) (b ∷ bits) h =
    ap (λ (t : Bool). t && agrees places bits) (stands-of place b h.0) ∙ agrees-of places bits h.1

or_second : (a b : Bool) → b ≡ true → (a || b) ≡ true
or_second true b h = refl
or_second false b h = h

-- the pair lies in some of the cubes exactly where some test is true
pub some-is :
    (cubes : List (List Tern)) (s t : List Bool) → All (λ cube. length cube ≡ length (s ++ t)) cubes
    → some_true (agree_each cubes (s ++ t)) ≡ true → LiesInSome cubes s t
some-is [] s t wide e = absurd (false≢true e)
some-is (cube ∷ cubes) s t wide e = by_first (agrees cube (s ++ t)) refl e (λ r. some-is cubes s t (λ i d lt. wide (suc i) d (omega arith)) r)
  where
    by_first : (b : Bool) → agrees cube (s ++ t) ≡ b → (b || some_true (agree_each cubes (s ++ t))) ≡ true
        → (some_true (agree_each cubes (s ++ t)) ≡ true → LiesInSome cubes s t) → LiesInSome (cube ∷ cubes) s t
    by_first true f e later = (0, omega arith, agrees-is cube (s ++ t) (wide 0 cube (omega arith)) f)
    by_first false f e later = let r : LiesInSome cubes s t = later e in (suc r.0, omega (arith, r.1), r.2)

pub some-of : (cubes : List (List Tern)) (s t : List Bool) → LiesInSome cubes s t → some_true (agree_each cubes (s ++ t)) ≡ true
some-of cubes s t (i, lt, h) = at cubes i lt h
  where
    at : (cubes : List (List Tern)) (i : ℕ) → i < length cubes → AllZip StandsFor (slice_index_or cubes i []) (s ++ t)
        → some_true (agree_each cubes (s ++ t)) ≡ true
    at [] i lt h = absurd (omega arith)
    at (cube ∷ cubes) zero lt h = ap (λ (b : Bool). b || some_true (agree_each cubes (s ++ t))) (agrees-of cube (s ++ t) h)
    at (cube ∷ cubes) (suc i) lt h = or_second (agrees cube (s ++ t)) (some_true (agree_each cubes (s ++ t))) (at cubes i (omega arith) h)

pub none-is : (cubes : List (List Tern)) (s t : List Bool) → some_true (agree_each cubes (s ++ t)) ≡ false → LiesInNone cubes s t
none-is cubes s t e i lt h = false≢true (sym e ∙ some-of cubes s t (i, lt, h))

pub none-of :
    (cubes : List (List Tern)) (s t : List Bool) → All (λ cube. length cube ≡ length (s ++ t)) cubes → LiesInNone cubes s t
    → some_true (agree_each cubes (s ++ t)) ≡ false
none-of cubes s t wide none = by_test (some_true (agree_each cubes (s ++ t))) refl
  where
    by_test : (b : Bool) → some_true (agree_each cubes (s ++ t)) ≡ b → b ≡ false
    by_test false e = refl
    by_test true e = let r : LiesInSome cubes s t = some-is cubes s t wide e in absurd (none r.0 r.1 r.2)

-- two lists differ exactly where some place does
xor_same : (x : Bool) → bit_xor x x ≡ false
xor_same true = refl
xor_same false = refl

pub differ-is : (xs ys : List Bool) → some_true (differences xs ys) ≡ true → xs ≡ ys → ⊥
differ-is xs ys e same = false≢true (sym (none_differ ys) ∙ ap (λ (zs : List Bool). some_true (differences zs ys)) (sym same) ∙ e)
  where
    none_differ : (ys : List Bool) → some_true (differences ys ys) ≡ false
    none_differ [] = refl
    none_differ (y ∷ ys) = ap (λ (b : Bool). b || some_true (differences ys ys)) (xor_same y) ∙ none_differ ys

xor_is : (x y : Bool) → bit_xor x y ≡ false → x ≡ y
xor_is true true e = refl
xor_is true false e = e
xor_is false true e = sym e
xor_is false false e = refl

or_none_first : (a b : Bool) → (a || b) ≡ false → a ≡ false
or_none_first true b h = h
or_none_first false b h = refl

or_none_second : (a b : Bool) → (a || b) ≡ false → b ≡ false
or_none_second true b h = absurd (false≢true (sym h))
or_none_second false b h = h

pub same-of : (xs ys : List Bool) → length xs ≡ length ys → some_true (differences xs ys) ≡ false → xs ≡ ys
same-of [] [] same e = refl
same-of [] (y ∷ ys) same e = absurd (omega (arith, same))
same-of (x ∷ xs) [] same e = absurd (omega (arith, same))
same-of (x ∷ xs) (y ∷ ys) same e =
    let first : x ≡ y = xor_is x y (or_none_first (bit_xor x y) (some_true (differences xs ys)) e) in
    let rest : xs ≡ ys = same-of xs ys (omega (arith, same)) (or_none_second (bit_xor x y) (some_true (differences xs ys)) e) in
    cc

pub differ-of : (xs ys : List Bool) → length xs ≡ length ys → (xs ≡ ys → ⊥) → some_true (differences xs ys) ≡ true
differ-of xs ys same apart = by_test (some_true (differences xs ys)) refl
  where
    by_test : (b : Bool) → some_true (differences xs ys) ≡ b → b ≡ true
    by_test true e = refl
    by_test false e = absurd (apart (same-of xs ys same e))
