-- What two cubes say of each other, and of the bits that stand in them.
use Rattle.std.proofs.Common.{◌≡◌, ◌∙◌, ℕ, zero, suc, ◌<◌, Bool, true, false, ◌&&◌, ◌||◌, ◌⊎◌, inl, inr, List, [], ◌∷◌, length, map, refl, ap, sym, arith}
use Rattle.std.proofs.lemmas.Bool.{false≢true}
use Rattle.std.specs.Prelude.{slice_index_or}
use Rattle.std.specs.List.{AllZip}
use Rattle.rst_value.specs.declared.tern.Tern.{Tern}
use Rattle.rst_value.specs.declared.tern.Tern.TheVariants.{Zero, One, Unknown}
use Rattle.rst_value.specs.Terns.{known, StandsFor}
use Rattle.rst_value.specs.TernLaws.{Refines}
use Rattle.rst_pair.specs.Aims.{are_opposite, contradicts, agrees, is_within, contradicts_all}

-- either of two holds
pub either : (a b : Bool) → (a || b) ≡ true → (a ≡ true) ⊎ (b ≡ true)
either true b h = inl refl
either false b h = inr h

pub or_first : (a b : Bool) → a ≡ true → (a || b) ≡ true
or_first true b h = refl
or_first false b h = absurd (false≢true h)

pub or_second : (a b : Bool) → b ≡ true → (a || b) ≡ true
or_second true b h = refl
or_second false b h = h

pub and_first : (a b : Bool) → (a && b) ≡ true → a ≡ true
and_first true b h = refl
and_first false b h = h

pub and_second : (a b : Bool) → (a && b) ≡ true → b ≡ true
and_second true b h = h
and_second false b h = absurd (false≢true h)

pub and_both : (a b : Bool) → a ≡ true → b ≡ true → (a && b) ≡ true
and_both true b p q = q
and_both false b p q = p

pub Refines-refl : (a : Tern) → Refines a a
Refines-refl Zero = refl
Refines-refl One = refl
Refines-refl Unknown = tt

pub Refines-trans : (a b c : Tern) → Refines a b → Refines b c → Refines a c
Refines-trans a b c p q = grind arith

opposite-apart : (a b : Tern) (x : Bool) → are_opposite a b ≡ true → StandsFor a x → StandsFor b x → ⊥
opposite-apart Zero Zero x h p q = false≢true h
opposite-apart Zero One x h p q = false≢true (sym p ∙ q)
opposite-apart Zero Unknown x h p q = false≢true h
opposite-apart One Zero x h p q = false≢true (sym q ∙ p)
opposite-apart One One x h p q = false≢true h
opposite-apart One Unknown x h p q = false≢true h
opposite-apart Unknown b x h p q = false≢true h

-- no bits stand in two cubes that contradict each other
pub contradicts-apart :
    (xs ys : List Tern) (bits : List Bool) → contradicts xs ys ≡ true → AllZip StandsFor xs bits → AllZip StandsFor ys bits → ⊥
contradicts-apart [] ys bits h p q = false≢true h
contradicts-apart (x ∷ xs) [] bits h p q = false≢true h
contradicts-apart (x ∷ xs) (y ∷ ys) [] h p q = p
contradicts-apart (x ∷ xs) (y ∷ ys) (b ∷ bits) h p q = elim (either (are_opposite x y) (contradicts xs ys) h) [
  | inl e ↦ opposite-apart x y b e p.0 q.0
  | inr e ↦ contradicts-apart xs ys bits e p.1 q.1
]

agrees-stand : (a b : Tern) (x : Bool) → agrees a b ≡ true → StandsFor b x → StandsFor a x
agrees-stand Zero Zero x h p = p
agrees-stand Zero One x h p = absurd (false≢true h)
agrees-stand Zero Unknown x h p = absurd (false≢true h)
agrees-stand One Zero x h p = absurd (false≢true h)
agrees-stand One One x h p = p
agrees-stand One Unknown x h p = absurd (false≢true h)
agrees-stand Unknown b x h p = tt

-- bits that stand in the inner cube stand in the outer one
pub within-stand :
    (xs ys : List Tern) (bits : List Bool) → is_within xs ys ≡ true → AllZip StandsFor ys bits → AllZip StandsFor xs bits
within-stand [] [] bits h p = p
within-stand [] (y ∷ ys) bits h p = absurd (false≢true h)
within-stand (x ∷ xs) [] bits h p = absurd (false≢true h)
within-stand (x ∷ xs) (y ∷ ys) [] h p = p
within-stand (x ∷ xs) (y ∷ ys) (b ∷ bits) h p = (
  agrees-stand x y b (and_first (agrees x y) (is_within xs ys) h) p.0,
  within-stand xs ys bits (and_second (agrees x y) (is_within xs ys) h) p.1,
)

opposite-monotone : (a b c d : Tern) → Refines a c → Refines b d → are_opposite a b ≡ true → are_opposite c d ≡ true
opposite-monotone Zero Zero c d p q h = absurd (false≢true h)
opposite-monotone Zero One c d p q h = rw (p, q) refl
opposite-monotone Zero Unknown c d p q h = absurd (false≢true h)
opposite-monotone One Zero c d p q h = rw (p, q) refl
opposite-monotone One One c d p q h = absurd (false≢true h)
opposite-monotone One Unknown c d p q h = absurd (false≢true h)
opposite-monotone Unknown b c d p q h = absurd (false≢true h)

pub contradicts-monotone :
    (xs ys us vs : List Tern) → AllZip Refines xs us → AllZip Refines ys vs → contradicts xs ys ≡ true → contradicts us vs ≡ true
contradicts-monotone [] ys us vs p q h = absurd (false≢true h)
contradicts-monotone (x ∷ xs) [] us vs p q h = absurd (false≢true h)
contradicts-monotone (x ∷ xs) (y ∷ ys) [] vs p q h = absurd p
contradicts-monotone (x ∷ xs) (y ∷ ys) (u ∷ us) [] p q h = absurd q
contradicts-monotone (x ∷ xs) (y ∷ ys) (u ∷ us) (v ∷ vs) p q h = elim (either (are_opposite x y) (contradicts xs ys) h) [
  | inl e ↦ or_first (are_opposite u v) (contradicts us vs) (opposite-monotone x y u v p.0 q.0 e)
  | inr e ↦ or_second (are_opposite u v) (contradicts us vs) (contradicts-monotone xs ys us vs p.1 q.1 e)
]

agrees-monotone : (a b d : Tern) → Refines b d → agrees a b ≡ true → agrees a d ≡ true
agrees-monotone Zero Zero d q h = rw q refl
agrees-monotone Zero One d q h = absurd (false≢true h)
agrees-monotone Zero Unknown d q h = absurd (false≢true h)
agrees-monotone One Zero d q h = absurd (false≢true h)
agrees-monotone One One d q h = rw q refl
agrees-monotone One Unknown d q h = absurd (false≢true h)
agrees-monotone Unknown b d q h = refl

pub within-monotone : (xs ys vs : List Tern) → AllZip Refines ys vs → is_within xs ys ≡ true → is_within xs vs ≡ true
within-monotone [] [] [] q h = refl
within-monotone [] [] (v ∷ vs) q h = absurd q
within-monotone [] (y ∷ ys) vs q h = absurd (false≢true h)
within-monotone (x ∷ xs) [] vs q h = absurd (false≢true h)
within-monotone (x ∷ xs) (y ∷ ys) [] q h = absurd q
within-monotone (x ∷ xs) (y ∷ ys) (v ∷ vs) q h =
    and_both (agrees x v) (is_within xs vs) (agrees-monotone x y v q.0 (and_first (agrees x y) (is_within xs ys) h))
    (within-monotone xs ys vs q.1 (and_second (agrees x y) (is_within xs ys) h))

zip-refl : (xs : List Tern) → AllZip Refines xs xs
zip-refl [] = tt
zip-refl (x ∷ xs) = (Refines-refl x, zip-refl xs)

pub all-monotone :
    (cubes : List (List Tern)) (ys vs : List Tern) → AllZip Refines ys vs → contradicts_all cubes ys ≡ true → contradicts_all cubes vs ≡ true
all-monotone [] ys vs q h = refl
all-monotone (c ∷ cubes) ys vs q h =
    and_both (contradicts c vs) (contradicts_all cubes vs)
    (contradicts-monotone c ys c vs (zip-refl c) q (and_first (contradicts c ys) (contradicts_all cubes ys) h))
    (all-monotone cubes ys vs q (and_second (contradicts c ys) (contradicts_all cubes ys) h))

-- each of the cubes is contradicted
pub all-at :
    (cubes : List (List Tern)) (ys : List Tern) (i : ℕ) → contradicts_all cubes ys ≡ true → i < length cubes
    → contradicts (slice_index_or cubes i []) ys ≡ true
all-at [] ys i h below = absurd (omega arith)
all-at (c ∷ cubes) ys zero h below = and_first (contradicts c ys) (contradicts_all cubes ys) h
all-at (c ∷ cubes) ys (suc i) h below =
    all-at cubes ys i (and_second (contradicts c ys) (contradicts_all cubes ys) h) (omega arith)

pub all-each :
    (cubes : List (List Tern)) (ys : List Tern) → ((i : ℕ) → i < length cubes → contradicts (slice_index_or cubes i []) ys ≡ true)
    → contradicts_all cubes ys ≡ true
all-each [] ys h = refl
all-each (c ∷ cubes) ys h =
    and_both (contradicts c ys) (contradicts_all cubes ys) (h 0 (omega arith)) (all-each cubes ys (λ i below. h (suc i) (omega arith)))

-- two lists of known places contradict each other where the lists differ
pub known-contradicts :
    (xs ys : List Bool) → length xs ≡ length ys → (xs ≡ ys → ⊥) → contradicts (map known xs) (map known ys) ≡ true
known-contradicts [] [] same h = absurd (h refl)
known-contradicts [] (y ∷ ys) same h = absurd (omega arith)
known-contradicts (x ∷ xs) [] same h = absurd (omega arith)
known-contradicts (true ∷ xs) (true ∷ ys) same h = known-contradicts xs ys (omega arith) (λ e. h (ap (λ r. true ∷ r) e))
known-contradicts (true ∷ xs) (false ∷ ys) same h = refl
known-contradicts (false ∷ xs) (true ∷ ys) same h = refl
known-contradicts (false ∷ xs) (false ∷ ys) same h = known-contradicts xs ys (omega arith) (λ e. h (ap (λ r. false ∷ r) e))

agrees-known : (c : Tern) (x : Bool) → StandsFor c x → agrees c (known x) ≡ true
agrees-known Zero x h = rw h refl
agrees-known One x h = rw h refl
agrees-known Unknown x h = refl

-- a cube in which bits stand has them within it
pub known-within : (c : List Tern) (bits : List Bool) → AllZip StandsFor c bits → is_within c (map known bits) ≡ true
known-within [] [] h = refl
known-within [] (x ∷ xs) h = absurd h
known-within (c ∷ cs) [] h = absurd h
known-within (c ∷ cs) (x ∷ xs) h =
    and_both (agrees c (known x)) (is_within cs (map known xs)) (agrees-known c x h.0) (known-within cs xs h.1)

-- a cube in which bits don't stand contradicts them
pub known-outside :
    (c : List Tern) (bits : List Bool) → length c ≡ length bits → (AllZip StandsFor c bits → ⊥) → contradicts c (map known bits) ≡ true
known-outside [] [] same h = absurd (h tt)
known-outside [] (x ∷ xs) same h = absurd (omega arith)
known-outside (c ∷ cs) [] same h = absurd (omega arith)
known-outside (Zero ∷ cs) (true ∷ xs) same h = refl
known-outside (Zero ∷ cs) (false ∷ xs) same h = known-outside cs xs (omega arith) (λ z. h (refl, z))
known-outside (One ∷ cs) (true ∷ xs) same h = known-outside cs xs (omega arith) (λ z. h (refl, z))
known-outside (One ∷ cs) (false ∷ xs) same h = refl
known-outside (Unknown ∷ cs) (x ∷ xs) same h = known-outside cs xs (omega arith) (λ z. h (tt, z))
