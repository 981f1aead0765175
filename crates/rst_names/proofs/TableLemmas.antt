-- A table of places by name, in which the first of a name stands, one element further.
use Rattle.std.proofs.Common.{◌≡◌, ℕ, ◌+◌, ◌<◌, ◌≤◌, nat_lt, nat_eq, Bool, true, false, not, cond, List, [], ◌∷◌, ◌++◌, length, take, position, Option, Some, None, is_some, slice_get, refl, sym, ap, subst, ◌∙◌, arith, length-append, length-take-le}
use Rattle.std.specs.List.{position_or_len}
use Rattle.std.specs.Cmp.Lexicographic.{same_text as alike}
use Rattle.std.proofs.lemmas.Bool.Decides.{nat_tests}
use Rattle.std.proofs.lemmas.List.Folds.{position_or_len_push}
use Rattle.std.proofs.lemmas.Option.{slice_get_within}
use Rattle.rst_tree.specs.Trees.{Text}
use Rattle.rst_names.specs.Names.{same_text}
use Rattle.rst_names.specs.Tables.{or_here}
use Rattle.rst_names.proofs.Turns.{at}

-- two texts that the test finds the same are the same
pub one_text : (a b : Text) → same_text a b ≡ true → a ≡ b
one_text a b e = alike a b (sym e)

true_false : true ≡ false → ⊥
true_false e = cc

module _ {X : Type 0} (p : X → Bool) where
  within_length : (xs : List X) → position_or_len p xs ≤ length xs
  within_length [] = omega arith
  within_length (x ∷ xs) = by (p x) (within_length xs)
    where
      by : (b : Bool) → position_or_len p xs ≤ length xs → cond (not b) (1 + position_or_len p xs) 0 ≤ length (x ∷ xs)
      by true h = omega arith
      by false h = omega arith

  placed : (n l : ℕ) → n ≤ l → (test less same : Bool) → nat_lt n l ≡ less → nat_eq n l ≡ same
      → cond (nat_lt (cond same (l + cond test 0 1) n) (l + 1)) (Some (cond same (l + cond test 0 1) n)) None ≡ or_here (cond less (Some n) None) test l
  placed n l h test true true e k =
      let less : n < l = grind (arith, nat_tests) in
      let same : n ≡ l = grind (arith, nat_tests) in
      absurd (omega arith)
  placed n l h test true false e k =
      let less : n < l = grind (arith, nat_tests) in
      let more : nat_lt n (l + 1) ≡ true = grind (arith, nat_tests) in
      rw more refl
  placed n l h true false true e k =
      let more : nat_lt (l + 0) (l + 1) ≡ true = grind (arith, nat_tests) in
      let none : l + 0 ≡ l = omega arith in
      rw (more, none) refl
  placed n l h false false true e k =
      let past : nat_lt (l + 1) (l + 1) ≡ false = grind (arith, nat_tests) in
      rw past refl
  placed n l h test false false e k =
      let more : l ≤ n = grind (arith, nat_tests) in
      let other : n ≡ l = omega arith in
      let same : nat_eq n l ≡ true = grind (arith, nat_tests) in
      cc

  -- one element more at the end
  pub position_push : (xs : List X) (y : X) → position p (xs ++ y ∷ []) ≡ or_here (position p xs) (p y) (length xs)
  position_push xs y =
      let longer : length (xs ++ y ∷ []) ≡ length xs + 1 = length-append xs (y ∷ []) in
      rw (position_or_len_push p xs y, longer) (placed (position_or_len p xs) (length xs) (within_length xs) (p y) (nat_lt (position_or_len p xs) (length xs)) (nat_eq (position_or_len p xs) (length xs)) refl refl)

  -- one element more of those before a place
  pub position_more : (xs : List X) (i : ℕ) (x : X) → slice_get xs i ≡ Some x → position p (take (i + 1) xs) ≡ or_here (position p (take i xs)) (p x) i
  position_more xs i x is =
      let within : i < length xs = slice_get_within xs i x is in
      let long : length (take i xs) ≡ i = length-take-le i xs (omega arith) in
      ap (position p) (at xs i x is).front ∙ position_push (take i xs) x ∙ ap (or_here (position p (take i xs)) (p x)) long

or_other : (o : Option ℕ) (i : ℕ) → o ≡ or_here o false i
or_other None i = refl
or_other (Some k) i = refl

-- A table in which a name is already, and one to which it is added at a place.
module _ (table : Text → Option ℕ) (name : Text) (i : ℕ) where
  pub kept_here : is_some (table name) ≡ true → (q : Text) → table q ≡ or_here (table q) (same_text name q) i
  kept_here there q = by (table q) refl (same_text name q) refl
    where
      by : (o : Option ℕ) → table q ≡ o → (b : Bool) → same_text name q ≡ b → o ≡ or_here o b i
      by (Some k) e b same = refl
      by None e false same = refl
      by None e true same =
          let some : is_some (table q) ≡ true = subst (λ n. is_some (table n) ≡ true) (one_text name q same) there in
          let none : is_some (table q) ≡ false = ap is_some e in
          absurd (true_false (sym some ∙ none))

  pub added_here : (next : Text → Option ℕ) → is_some (table name) ≡ false → ((q : Text) → next q ≡ cond (same_text name q) (Some i) (table q))
      → (q : Text) → next q ≡ or_here (table q) (same_text name q) i
  added_here next absent gives q = by (same_text name q) refl (gives q)
    where
      new : (o : Option ℕ) → table q ≡ o → is_some (table q) ≡ false → Some i ≡ or_here o true i
      new None e none = refl
      new (Some k) e none = absurd (true_false (ap is_some (sym e) ∙ none))

      by : (b : Bool) → same_text name q ≡ b → next q ≡ cond b (Some i) (table q) → next q ≡ or_here (table q) b i
      by true same g = g ∙ new (table q) refl (subst (λ n. is_some (table n) ≡ false) (one_text name q same) absent)
      by false same g = g ∙ or_other (table q) i

-- A table that has the first place of each name among those before i.
module _ {X : Type 0} (key : X → Text) (xs : List X) (i : ℕ) (x : X) (is : slice_get xs i ≡ Some x) where
  abbrev pub first_at : ℕ → Text → Option ℕ
  first_at n name = position (λ y. same_text (key y) name) (take n xs)

  -- one element more
  pub goes_on : (table next : Text → Option ℕ) → ((name : Text) → table name ≡ first_at i name)
      → ((name : Text) → next name ≡ or_here (table name) (same_text (key x) name) i)
      → (name : Text) → next name ≡ first_at (i + 1) name
  goes_on table next right gives name =
      gives name ∙ ap (λ o. or_here o (same_text (key x) name) i) (right name) ∙ sym (position_more (λ y. same_text (key y) name) xs i x is)

  -- the name is in the table already
  pub kept : (table : Text → Option ℕ) → ((name : Text) → table name ≡ first_at i name) → is_some (table (key x)) ≡ true
      → (name : Text) → table name ≡ first_at (i + 1) name
  kept table right there = goes_on table table right (kept_here table (key x) i there)

  -- it is new
  pub added : (table next : Text → Option ℕ) → ((name : Text) → table name ≡ first_at i name) → is_some (table (key x)) ≡ false
      → ((name : Text) → next name ≡ cond (same_text (key x) name) (Some i) (table name))
      → (name : Text) → next name ≡ first_at (i + 1) name
  added table next right absent gives = goes_on table next right (added_here table (key x) i next absent gives)

pub ruleset tables = (kept_here, added_here)
