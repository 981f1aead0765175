-- The bits that units set, by the two definitions of them: one that looks for a bit, and one that counts its drivers.
use Rattle.std.proofs.Common.{◌≡◌, ℕ, ◌+◌, ◌<◌, ◌≤◌, true, List, [], ◌∷◌, ◌++◌, sym, ◌∙◌, inl, inr, subst, arith}
use Rattle.std.specs.List.{AllByRecursion, list_any}
use Rattle.std.proofs.lemmas.Bool.{or_cases, or_left, or_right, and_from, and_parts, eq-eqb, le-leb, lt-ltb}
use Rattle.std.proofs.lemmas.List.Folds.{list_any-append}
use Rattle.rst_net.specs.declared.signal.Slice.{Slice}
use Rattle.rst_net.specs.Statements.{Statement, Statements, Arms, Default, Block, If, Case, Set, Empty, end, more, no_arm, arm, no_default, default}
use Rattle.rst_net.specs.Units.{PlainDriver, Assign, Process}
use Rattle.rst_drivers.specs.Drives.{sets_of, sets_of_all, sets_of_arms, sets_of_default, is_of, has_bit}
use Rattle.rst_cycle.specs.Drivers.{slice_has, target_has, sets, all_set, arms_set, default_sets, drives}
use Rattle.rst_statement_values.specs.Fits.{SliceInside}
use Rattle.rst_settled.specs.Designs.{IsSound, AllSound, ArmsSound, DefaultSound, UnitSound}
use Rattle.rst_settled.proofs.Targets.{slice_is}

-- ---- a slice

module _ (i place : ℕ) where
  pub slice_bit : (s : Slice) → slice_has i place s ≡ true → has_bit i place s ≡ true
  slice_bit s h =
      let is = slice_is s i place h in
      and_from (is_of i s) _ (eq-eqb s.signal i (sym is.same))
      (and_from _ _ (le-leb s.low place is.from) (lt-ltb place (s.low + s.width) is.below))

  pub target_bit : (slices : List Slice) → target_has slices i place ≡ true → list_any (has_bit i place) slices ≡ true
  target_bit [] h = h
  target_bit (s ∷ slices) h = elim (or_cases (slice_has i place s) (target_has slices i place) h) [
    | inl a ↦ or_left (has_bit i place s) (list_any (has_bit i place) slices) (slice_bit s a)
    | inr b ↦ or_right (has_bit i place s) (list_any (has_bit i place) slices) (target_bit slices b)
  ]

  -- a slice with a bit of a signal is one of the signal
  pub bit_of : (slices : List Slice) → list_any (has_bit i place) slices ≡ true → list_any (is_of i) slices ≡ true
  bit_of [] h = h
  bit_of (s ∷ slices) h = elim (or_cases (has_bit i place s) (list_any (has_bit i place) slices) h) [
    | inl a ↦ or_left (is_of i s) (list_any (is_of i) slices) (and_parts (is_of i s) _ a).0
    | inr b ↦ or_right (is_of i s) (list_any (is_of i) slices) (bit_of slices b)
  ]

  -- ---- a statement

  left_any : (xs ys : List Slice) → list_any (has_bit i place) xs ≡ true → list_any (has_bit i place) (xs ++ ys) ≡ true
  left_any xs ys h = list_any-append (has_bit i place) xs ys ∙ or_left (list_any (has_bit i place) xs) (list_any (has_bit i place) ys) h

  right_any : (xs ys : List Slice) → list_any (has_bit i place) ys ≡ true → list_any (has_bit i place) (xs ++ ys) ≡ true
  right_any xs ys h = list_any-append (has_bit i place) xs ys ∙ or_right (list_any (has_bit i place) xs) (list_any (has_bit i place) ys) h

  mutual
    pub statement_bit : (s : Statement) → sets s i place ≡ true → list_any (has_bit i place) (sets_of s) ≡ true
    statement_bit (Block ss) h = statements_bit ss h
    statement_bit (If c s t) h = elim (or_cases (sets s i place) (sets t i place) h) [
      | inl a ↦ left_any (sets_of s) (sets_of t) (statement_bit s a)
      | inr b ↦ right_any (sets_of s) (sets_of t) (statement_bit t b)
    ]
    statement_bit (Case e arms otherwise full) h = elim (or_cases (arms_set arms i place) (default_sets otherwise i place) h) [
      | inl a ↦ left_any (sets_of_arms arms) (sets_of_default otherwise) (arms_bit arms a)
      | inr b ↦ right_any (sets_of_arms arms) (sets_of_default otherwise) (default_bit otherwise b)
    ]
    statement_bit (Set set) h = target_bit set.target h
    statement_bit Empty h = h

    statements_bit : (ss : Statements) → all_set ss i place ≡ true → list_any (has_bit i place) (sets_of_all ss) ≡ true
    statements_bit end h = h
    statements_bit (more s ss) h = elim (or_cases (sets s i place) (all_set ss i place) h) [
      | inl a ↦ left_any (sets_of s) (sets_of_all ss) (statement_bit s a)
      | inr b ↦ right_any (sets_of s) (sets_of_all ss) (statements_bit ss b)
    ]

    arms_bit : (arms : Arms) → arms_set arms i place ≡ true → list_any (has_bit i place) (sets_of_arms arms) ≡ true
    arms_bit no_arm h = h
    arms_bit (arm labels s arms) h = elim (or_cases (sets s i place) (arms_set arms i place) h) [
      | inl a ↦ left_any (sets_of s) (sets_of_arms arms) (statement_bit s a)
      | inr b ↦ right_any (sets_of s) (sets_of_arms arms) (arms_bit arms b)
    ]

    default_bit : (otherwise : Default) → default_sets otherwise i place ≡ true → list_any (has_bit i place) (sets_of_default otherwise) ≡ true
    default_bit no_default h = h
    default_bit (default s) h = statement_bit s h

  -- ---- a bit that is set lies inside its signal

  pub target_inside : (room : ℕ → ℕ) (slices : List Slice) → AllByRecursion (SliceInside room) slices → target_has slices i place ≡ true → place < room i
  target_inside room [] all h = absurd cc
  target_inside room (s ∷ slices) all h = elim (or_cases (slice_has i place s) (target_has slices i place) h) [
    | inl a ↦
        let is = slice_is s i place a in
        let low = is.below in
        let wide : s.low + s.width ≤ room i = subst (λ n. s.low + s.width ≤ room n) (sym is.same) all.0.inside in
        omega (arith, low, wide)
    | inr b ↦ target_inside room slices all.1 b
  ]

  mutual
    statement_inside : (room : ℕ → ℕ) (s : Statement) → IsSound room s → sets s i place ≡ true → place < room i
    statement_inside room (Block ss) sound h = statements_inside room ss sound h
    statement_inside room (If c s t) sound h = elim (or_cases (sets s i place) (sets t i place) h) [
      | inl a ↦ statement_inside room s sound.0 a
      | inr b ↦ statement_inside room t sound.1 b
    ]
    statement_inside room (Case e arms otherwise full) sound h = elim (or_cases (arms_set arms i place) (default_sets otherwise i place) h) [
      | inl a ↦ arms_inside room arms sound.0 a
      | inr b ↦ default_inside room otherwise sound.1 b
    ]
    statement_inside room (Set set) sound h = target_inside room set.target sound h
    statement_inside room Empty sound h = absurd cc

    statements_inside : (room : ℕ → ℕ) (ss : Statements) → AllSound room ss → all_set ss i place ≡ true → place < room i
    statements_inside room end sound h = absurd cc
    statements_inside room (more s ss) sound h = elim (or_cases (sets s i place) (all_set ss i place) h) [
      | inl a ↦ statement_inside room s sound.0 a
      | inr b ↦ statements_inside room ss sound.1 b
    ]

    arms_inside : (room : ℕ → ℕ) (arms : Arms) → ArmsSound room arms → arms_set arms i place ≡ true → place < room i
    arms_inside room no_arm sound h = absurd cc
    arms_inside room (arm labels s arms) sound h = elim (or_cases (sets s i place) (arms_set arms i place) h) [
      | inl a ↦ statement_inside room s sound.0 a
      | inr b ↦ arms_inside room arms sound.1 b
    ]

    default_inside : (room : ℕ → ℕ) (otherwise : Default) → DefaultSound room otherwise → default_sets otherwise i place ≡ true → place < room i
    default_inside room no_default sound h = absurd cc
    default_inside room (default s) sound h = statement_inside room s sound h

  pub unit_inside : (room : ℕ → ℕ) (unit : PlainDriver) → UnitSound room unit → drives unit i place ≡ true → place < room i
  unit_inside room (Assign set) sound h = target_inside room set.target sound h
  unit_inside room (Process process) sound h = statement_inside room process.body sound h
