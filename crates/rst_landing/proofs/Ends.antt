-- What is known behind a pattern is the same on both sides behind each filling.
use Rattle.std.proofs.Common.{◌≡◌, ℕ, zero, suc, ◌<◌, Bool, false, List, [], ◌∷◌, length, refl, sym, subst, arith}
use Rattle.std.specs.Prelude.{slice_index_or, replicate}
use Rattle.std.specs.List.{AllZip}
use Rattle.rst_value.specs.declared.tern.Tern.{Tern}
use Rattle.rst_value.specs.declared.tern.Tern.TheVariants.{Zero, One, Unknown}
use Rattle.rst_value.specs.Terns.{StandsFor}
use Rattle.rst_gate.specs.Machine.{after}
use Rattle.rst_gate.specs.Patterns.{IsFilling}
use Rattle.rst_gate.specs.TernMachine.{IsKnown, pattern_after}
use Rattle.rst_gate.specs.ClosedSets.{AgreeOn}
use Rattle.rst_gate.specs.GateMachines.{machine_of, terns_of}
use Rattle.rst_gate.specs.Circuits.{Circuit, IsCircuit}
use Rattle.rst_gate.proofs.Places.{unknown-stands}
use Rattle.rst_gate.proofs.KnownWords.{after-sound}
use Rattle.rst_gate.proofs.Readings.{gates_are_sound, gates_keep_registers}
use Rattle.rst_pair.specs.Sides.{Sides, AreSides, left_machine, right_machine, IsPair}
use Rattle.rst_pair.specs.Fronts.{Front'}
use Rattle.rst_query_laws.specs.Conditions.{AreShared}
use Rattle.rst_landing.specs.Landings.{known_behind, AreKnownBehind}

one_bit : (x y : Tern) (a b : Bool) → IsKnown x → x ≡ y → StandsFor x a → StandsFor y b → a ≡ b
one_bit Zero y a b k e p q = let q' : StandsFor Zero b = subst (λ (t : Tern). StandsFor t b) (sym e) q in cc (p, q')
one_bit One y a b k e p q = let q' : StandsFor One b = subst (λ (t : Tern). StandsFor t b) (sym e) q in cc (p, q')
one_bit Unknown y a b k e p q = absurd k

-- known places that are equal stand for equal bits
bits_agree :
    (xs ys : List Tern) (a b : List Bool) (i : ℕ) → AllZip StandsFor xs a → AllZip StandsFor ys b → IsKnown (slice_index_or xs i Unknown)
    → slice_index_or xs i Unknown ≡ slice_index_or ys i Unknown → slice_index_or a i false ≡ slice_index_or b i false
bits_agree [] ys a b i p q k e = absurd (nowhere i k) where
  nowhere : (n : ℕ) → IsKnown (slice_index_or [] n Unknown) → ⊥
  nowhere zero h = h
  nowhere (suc n) h = h
bits_agree (x ∷ xs) [] a b i p q k e = absurd (nowhere i (subst IsKnown e k)) where
  nowhere : (n : ℕ) → IsKnown (slice_index_or [] n Unknown) → ⊥
  nowhere zero h = h
  nowhere (suc n) h = h
bits_agree (x ∷ xs) (y ∷ ys) [] b i p q k e = absurd p
bits_agree (x ∷ xs) (y ∷ ys) (s ∷ a) [] i p q k e = absurd q
bits_agree (x ∷ xs) (y ∷ ys) (s ∷ a) (t ∷ b) zero p q k e = one_bit x y s t k e p.0 q.0
bits_agree (x ∷ xs) (y ∷ ys) (s ∷ a) (t ∷ b) (suc i) p q k e = bits_agree xs ys a b i p.1 q.1 k e

-- the state behind a filling lies in the three-valued state behind the pattern
ends_in :
    (c : Circuit) (pattern : List (List Tern)) (word : List (List Bool)) (s : List Bool) → IsFilling pattern word → length s ≡ c.states
    → AllZip StandsFor (known_behind (terns_of c) pattern) (after (machine_of c) s word)
ends_in c pattern word s fills is =
    after-sound (machine_of c) (terns_of c) (gates_are_sound c) pattern word (replicate c.states Unknown) s fills (unknown-stands c.states s is)

pub ends_agree :
    (p : Sides) (marks : List Bool) (pattern : List (List Tern)) (word : List (List Bool)) (s t : List Bool) → AreKnownBehind p marks pattern
    → IsFilling pattern word → IsPair p s t → AgreeOn marks (after (left_machine p) s word) (after (right_machine p) t word)
ends_agree p marks pattern word s t known fills pair = λ i marked.
    let k = known i marked in
    bits_agree (known_behind (terns_of p.left) pattern) (known_behind (terns_of p.right) pattern) _ _ i
    (ends_in p.left pattern word s fills pair.0) (ends_in p.right pattern word t fills pair.1) k.0 k.1

-- marked registers that are known are registers of the right side
known_below : (xs : List Tern) (i : ℕ) → IsKnown (slice_index_or xs i Unknown) → i < length xs
known_below [] zero h = absurd h
known_below [] (suc i) h = absurd h
known_below (x ∷ xs) zero h = omega arith
known_below (x ∷ xs) (suc i) h = omega (arith, known_below xs i h)

pattern_count :
    (c : Circuit) → IsCircuit c → (pattern : List (List Tern)) (cube : List Tern) → length cube ≡ c.states
    → length (pattern_after (terns_of c) cube pattern) ≡ c.states
pattern_count c is [] cube count = count
pattern_count c is (places ∷ pattern) cube count = pattern_count c is pattern ((terns_of c).step cube places) (gates_keep_registers c is cube places)

pub known_shared :
    (p : Sides) (f : Front') (pattern : List (List Tern)) → AreSides p → AreKnownBehind p f.equal pattern → AreShared p f
known_shared p f pattern sides known = λ i marked.
    let k = known i marked in
    let right : IsKnown (slice_index_or (known_behind (terns_of p.right) pattern) i Unknown) = subst IsKnown k.1 k.0 in
    let below : i < length (known_behind (terns_of p.right) pattern) = known_below (known_behind (terns_of p.right) pattern) i right in
    let count : length (known_behind (terns_of p.right) pattern) ≡ p.right.states =
    pattern_count p.right sides.right pattern (replicate p.right.states Unknown) (length-replicate p.right.states) in
    omega (arith, below, count)
  where
    length-replicate : (n : ℕ) → length (replicate n Unknown) ≡ n
    length-replicate zero = refl
    length-replicate (suc n) = omega (arith, length-replicate n)
