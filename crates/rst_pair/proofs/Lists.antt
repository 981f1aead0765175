-- Lists that are related place by place, in parts.
use Rattle.std.proofs.Common.{◌≡◌, ℕ, zero, suc, List, [], ◌∷◌, ◌++◌, length, take, drop, refl, ap, arith}
use Rattle.std.specs.Prelude.{slice_set, slice_index_or}
use Rattle.std.specs.List.{AllZip}

pub zip-take :
    {A B : Type 0} (R : A → B → Type 0) (n : ℕ) (xs : List A) (ys : List B) → AllZip R xs ys → AllZip R (take n xs) (take n ys)
zip-take R zero xs ys h = tt
zip-take R (suc n) [] [] h = tt
zip-take R (suc n) [] (y ∷ ys) h = h
zip-take R (suc n) (x ∷ xs) [] h = h
zip-take R (suc n) (x ∷ xs) (y ∷ ys) h = (h.0, zip-take R n xs ys h.1)

pub zip-drop :
    {A B : Type 0} (R : A → B → Type 0) (n : ℕ) (xs : List A) (ys : List B) → AllZip R xs ys → AllZip R (drop n xs) (drop n ys)
zip-drop R zero xs ys h = h
zip-drop R (suc n) [] [] h = tt
zip-drop R (suc n) [] (y ∷ ys) h = absurd h
zip-drop R (suc n) (x ∷ xs) [] h = absurd h
zip-drop R (suc n) (x ∷ xs) (y ∷ ys) h = zip-drop R n xs ys h.1

-- a list against the first part of an appended one, and against the second
pub zip-left :
    {A B : Type 0} (R : A → B → Type 0) (xs : List A) (us : List B) (vs : List B) → AllZip R xs (us ++ vs)
    → AllZip R (take (length us) xs) us
zip-left R [] [] vs h = tt
zip-left R (x ∷ xs) [] vs h = tt
zip-left R [] (u ∷ us) vs h = absurd h
zip-left R (x ∷ xs) (u ∷ us) vs h = (h.0, zip-left R xs us vs h.1)

pub zip-right :
    {A B : Type 0} (R : A → B → Type 0) (xs : List A) (us : List B) (vs : List B) → AllZip R xs (us ++ vs)
    → AllZip R (drop (length us) xs) vs
zip-right R xs [] vs h = h
zip-right R [] (u ∷ us) vs h = absurd h
zip-right R (x ∷ xs) (u ∷ us) vs h = zip-right R xs us vs h.1

pub zip-length :
    {A B : Type 0} (R : A → B → Type 0) (xs : List A) (ys : List B) → AllZip R xs ys → length xs ≡ length ys
zip-length R [] [] h = refl
zip-length R [] (y ∷ ys) h = absurd h
zip-length R (x ∷ xs) [] h = absurd h
zip-length R (x ∷ xs) (y ∷ ys) h = omega (arith, zip-length R xs ys h.1)

pub zip-same : {A : Type 0} (R : A → A → Type 0) → ((a : A) → R a a) → (xs : List A) → AllZip R xs xs
zip-same R r [] = tt
zip-same R r (x ∷ xs) = (r x, zip-same R r xs)

pub zip-through :
    {A : Type 0} (R : A → A → Type 0) → ((a b c : A) → R a b → R b c → R a c) → (xs ys zs : List A)
    → AllZip R xs ys → AllZip R ys zs → AllZip R xs zs
zip-through R r [] [] [] p q = tt
zip-through R r [] [] (z ∷ zs) p q = q
zip-through R r [] (y ∷ ys) zs p q = absurd p
zip-through R r (x ∷ xs) [] zs p q = absurd p
zip-through R r (x ∷ xs) (y ∷ ys) [] p q = absurd q
zip-through R r (x ∷ xs) (y ∷ ys) (z ∷ zs) p q = (r x y z p.0 q.0, zip-through R r xs ys zs p.1 q.1)

-- a changed place of both lists
pub zip-set :
    {A B : Type 0} (R : A → B → Type 0) (xs : List A) (ys : List B) (i : ℕ) (a : A) (b : B)
    → R a b → AllZip R xs ys → AllZip R (slice_set xs i a) (slice_set ys i b)
zip-set R [] [] i a b r h = tt
zip-set R [] (y ∷ ys) i a b r h = absurd h
zip-set R (x ∷ xs) [] i a b r h = absurd h
zip-set R (x ∷ xs) (y ∷ ys) zero a b r h = (r, h.1)
zip-set R (x ∷ xs) (y ∷ ys) (suc i) a b r h = (h.0, zip-set R xs ys i a b r h.1)

-- a changed place of the first list alone
pub zip-set_left :
    {A B : Type 0} (R : A → B → Type 0) (xs : List A) (ys : List B) (i : ℕ) (a : A)
    → ((b : B) → R a b) → AllZip R xs ys → AllZip R (slice_set xs i a) ys
zip-set_left R [] [] i a r h = tt
zip-set_left R [] (y ∷ ys) i a r h = absurd h
zip-set_left R (x ∷ xs) [] i a r h = absurd h
zip-set_left R (x ∷ xs) (y ∷ ys) zero a r h = (r y, h.1)
zip-set_left R (x ∷ xs) (y ∷ ys) (suc i) a r h = (h.0, zip-set_left R xs ys i a r h.1)

-- the changed place
pub set-read : {A : Type 0} (xs : List A) (i : ℕ) (a : A) → slice_index_or (slice_set xs i a) i a ≡ a
set-read [] zero a = refl
set-read [] (suc i) a = refl
set-read (x ∷ xs) zero a = refl
set-read (x ∷ xs) (suc i) a = set-read xs i a

pub take-length : {A : Type 0} (xs ys : List A) → take (length xs) (xs ++ ys) ≡ xs
take-length [] ys = refl
take-length (x ∷ xs) ys = ap (λ r. x ∷ r) (take-length xs ys)

pub drop-length : {A : Type 0} (xs ys : List A) → drop (length xs) (xs ++ ys) ≡ ys
drop-length [] ys = refl
drop-length (x ∷ xs) ys = drop-length xs ys
