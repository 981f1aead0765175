-- What holds of each element of a list that is made of others, and lists of faults without a first one.
use Rattle.std.proofs.Common.{◌≡◌, ◌∙◌, Bool, true, false, ◌||◌, cond, List, [], ◌∷◌, ◌++◌, Some, None, map, refl, ap, subst}
use Rattle.std.specs.List.{AllByRecursion, flat_map, find, list_any, filter}
use Rattle.rst_names.specs.Faults.{first}
use Rattle.rst_accepted.proofs.Rows.{left_none, right_none}

-- ---- each element

pub each_weaker : {X : Type 0} (P Q : X → Type 0) → ((x : X) → P x → Q x) → (xs : List X) → AllByRecursion P xs → AllByRecursion Q xs
each_weaker P Q f [] h = tt
each_weaker P Q f (x ∷ xs) h = (f x h.0, each_weaker P Q f xs h.1)

pub each_both : {X : Type 0} (P Q : X → Type 0) (xs : List X) → AllByRecursion P xs → AllByRecursion Q xs → AllByRecursion (λ x. P x × Q x) xs
each_both P Q [] h k = tt
each_both P Q (x ∷ xs) h k = ((h.0, k.0), each_both P Q xs h.1 k.1)

pub each_always : {X : Type 0} (P : X → Type 0) → ((x : X) → P x) → (xs : List X) → AllByRecursion P xs
each_always P f [] = tt
each_always P f (x ∷ xs) = (f x, each_always P f xs)

pub each_joined : {X : Type 0} (P : X → Type 0) (xs ys : List X) → AllByRecursion P xs → AllByRecursion P ys → AllByRecursion P (xs ++ ys)
each_joined P [] ys h k = k
each_joined P (x ∷ xs) ys h k = (h.0, each_joined P xs ys h.1 k)

pub each_flat : {X Y : Type 0} (P : X → Type 0) (Q : Y → Type 0) (f : X → List Y) → ((x : X) → P x → AllByRecursion Q (f x)) → (xs : List X) → AllByRecursion P xs → AllByRecursion Q (flat_map f xs)
each_flat P Q f each [] h = tt
each_flat P Q f each (x ∷ xs) h = each_joined Q (f x) (flat_map f xs) (each x h.0) (each_flat P Q f each xs h.1)

pub each_map : {X Y : Type 0} (Q : Y → Type 0) (f : X → Y) (xs : List X) → AllByRecursion (λ x. Q (f x)) xs → AllByRecursion Q (map f xs)
each_map Q f [] h = tt
each_map Q f (x ∷ xs) h = (h.0, each_map Q f xs h.1)

-- ---- what is found

pub each_found : {X : Type 0} (P : X → Type 0) (test : X → Bool) (xs : List X) (x : X) → AllByRecursion P xs → find test xs ≡ Some x → P x
each_found P test [] x h is = absurd cc
each_found P test (y ∷ xs) x h is = by (test y) (λ e. each_found P test xs x h.1 e) is
  where
    by : (b : Bool) → (find test xs ≡ Some x → P x) → cond b (Some y) (find test xs) ≡ Some x → P x
    by true later e = let same : y ≡ x = cc in subst P same h.0
    by false later e = later e

pub found_any : {X : Type 0} (test other : X → Bool) (xs : List X) (x : X) → find test xs ≡ Some x → other x ≡ true → list_any other xs ≡ true
found_any test other [] x is h = absurd cc
found_any test other (y ∷ xs) x is h = by (test y) (λ e. found_any test other xs x e h) is
  where
    second : (b c : Bool) → c ≡ true → (b || c) ≡ true
    second true c e = refl
    second false c e = e

    by : (b : Bool) → (find test xs ≡ Some x → list_any other xs ≡ true) → cond b (Some y) (find test xs) ≡ Some x → (other y || list_any other xs) ≡ true
    by true later e = let same : y ≡ x = cc in ap (λ z. other z || list_any other xs) same ∙ ap (λ b. b || list_any other xs) h
    by false later e = second (other y) (list_any other xs) (later e)

-- ---- no first fault

pub none_in_each : {X Y : Type 0} (f : X → List Y) (xs : List X) → first (flat_map f xs) ≡ None → AllByRecursion (λ x. first (f x) ≡ None) xs
none_in_each f [] h = tt
none_in_each f (x ∷ xs) h = (left_none (f x) (flat_map f xs) h, none_in_each f xs (right_none (f x) (flat_map f xs) h))

pub none_in_kept : {X Y : Type 0} (test : X → Bool) (f : X → List Y) (xs : List X) → first (flat_map f (filter test xs)) ≡ None → AllByRecursion (λ x. test x ≡ true → first (f x) ≡ None) xs
none_in_kept test f [] h = tt
none_in_kept test f (x ∷ xs) h = by (test x) refl (λ e. none_in_kept test f xs e) h
  where
    by : (b : Bool) → test x ≡ b → (first (flat_map f (filter test xs)) ≡ None → AllByRecursion (λ y. test y ≡ true → first (f y) ≡ None) xs)
        → first (flat_map f (cond b (x ∷ filter test xs) (filter test xs))) ≡ None → AllByRecursion (λ y. test y ≡ true → first (f y) ≡ None) (x ∷ xs)
    by true t later e = ((λ k. left_none (f x) (flat_map f (filter test xs)) e), later (right_none (f x) (flat_map f (filter test xs)) e))
    by false t later e = ((λ k. absurd cc), later e)

pub none_mapped : {X Y : Type 0} (f : X → Y) (xs : List X) → first (map f xs) ≡ None → first xs ≡ None
none_mapped f [] h = refl
none_mapped f (x ∷ xs) h = absurd cc

-- ---- tests

pub any_joined : {X : Type 0} (test : X → Bool) (xs ys : List X) → list_any test (xs ++ ys) ≡ (list_any test xs || list_any test ys)
any_joined test [] ys = refl
any_joined test (x ∷ xs) ys = ap (λ b. test x || b) (any_joined test xs ys) ∙ by (test x) (list_any test xs) (list_any test ys)
  where
    by : (a b c : Bool) → (a || (b || c)) ≡ ((a || b) || c)
    by true b c = refl
    by false b c = refl

pub or_first : (a b : Bool) → a ≡ true → (a || b) ≡ true
or_first true b h = refl
or_first false b h = absurd cc

pub or_second : (a b : Bool) → b ≡ true → (a || b) ≡ true
or_second true b h = refl
or_second false b h = h
