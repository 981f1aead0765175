-- The literals of free bits, under a choice that begins with bits.
use Rattle.std.proofs.Common.{◌≡◌, ◌∙◌, ℕ, zero, suc, ◌+◌, ◌<◌, ◌≤◌, ℤ, pos, Bool, true, false, if◌then◌else◌, List, [], ◌∷◌, length, map, take, drop, refl, sym, ap, arith}
use Rattle.std.specs.Prelude.{slice_index_or}
use Rattle.std.proofs.lemmas.Bool.{false≢true}
use Rattle.rst_value.specs.declared.tern.Tern.{Tern}
use Rattle.rst_value.specs.declared.tern.Tern.TheVariants.{Zero, One, Unknown}
use Rattle.rst_value.specs.Terns.{known}
use Rattle.rst_gate.specs.ClosedSets.{AgreeOn}
use Rattle.rst_gate.specs.Patterns.{known_pattern, free_count, filled_places, filled}
use Rattle.rst_clause.specs.Literals.{opposite, literal_holds, IsLiteral, AreLiterals}
use Rattle.rst_clause.specs.Standing.{BeginsWith}
use Rattle.rst_pair.specs.Queries.{open_count, sharing_state}
use Rattle.rst_pose.specs.Posed.{free_literals, sharing_literals, cycle_literals}
use Rattle.rst_query_laws.proofs.Meaning.{values, all_cons}

pub dropped : {X : Type 0} (i : ℕ) (xs : List X) → drop 1 (drop i xs) ≡ drop (suc i) xs
dropped zero xs = refl
dropped (suc i) [] = refl
dropped (suc i) (x ∷ xs) = dropped i xs

pub drop_drop : {X : Type 0} (i j : ℕ) (xs : List X) → drop j (drop i xs) ≡ drop (i + j) xs
drop_drop zero j xs = let e : 0 + j ≡ j = omega arith in rw e refl
drop_drop (suc i) j [] = empty j
  where
    empty : {X : Type 0} (j : ℕ) → ◌≡◌ {A = List X} (drop j []) (drop (suc i + j) [])
    empty {X} j = nil j ∙ sym (nil (suc i + j))
      where
        nil : (k : ℕ) → ◌≡◌ {A = List X} (drop k []) []
        nil zero = refl
        nil (suc k) = refl
drop_drop (suc i) j (x ∷ xs) = let e : suc i + j ≡ suc (i + j) = omega arith in rw e (drop_drop i j xs)

first_dropped : {X : Type 0} (i : ℕ) (xs : List X) (d : X) → slice_index_or (drop i xs) 0 d ≡ slice_index_or xs i d
first_dropped zero xs d = refl
first_dropped (suc i) [] d = refl
first_dropped (suc i) (x ∷ xs) d = first_dropped i xs d

-- the bit behind others
pub bit_is : (free : ℕ) (bits : List Bool) (v : ℕ → Bool) (i : ℕ) → BeginsWith free bits v → i < free → v (suc i) ≡ slice_index_or (drop i bits) 0 false
bit_is free bits v i begins lt = begins i lt ∙ sym (first_dropped i bits false)

take_more : (n : ℕ) (bits : List Bool) → suc n ≤ length bits → take (suc n) bits ≡ slice_index_or bits 0 false ∷ take n (drop 1 bits)
take_more n [] le = absurd (omega arith)
take_more n (b ∷ bits) le = refl

same_bits : (a b : Bool) (xs ys : List Bool) → a ≡ b → xs ≡ ys → a ∷ xs ≡ b ∷ ys
same_bits a b xs ys p q = cc

length_drop : (i : ℕ) (bits : List Bool) → length bits ≤ length (drop i bits) + i
length_drop zero bits = omega arith
length_drop (suc i) [] = omega arith
length_drop (suc i) (b ∷ bits) = omega (arith, length_drop i bits)

pub free_values :
    (free : ℕ) (bits : List Bool) (v : ℕ → Bool) (before n : ℕ) → BeginsWith free bits v → length bits ≡ free → before + n ≤ free
    → values v (free_literals before n) ≡ take n (drop before bits)
free_values free bits v before zero begins len le = refl
free_values free bits v before (suc n) begins len le =
    same_bits _ _ _ _ (bit_is free bits v before begins (omega (arith, le)))
    (free_values free bits v (suc before) n begins len (omega (arith, le)) ∙ ap (take n) (sym (dropped before bits)))
    ∙ sym (take_more n (drop before bits) (omega (arith, len, le, length_drop before bits)))

pub free_in : (n before count : ℕ) → before + count ≤ n → AreLiterals n (free_literals before count)
free_in n before zero le = λ i d lt. absurd (omega arith)
free_in n before (suc count) le =
    all_cons n (pos (suc before)) (free_literals (suc before) count) (omega arith, omega (arith, le)) (free_in n (suc before) count (omega (arith, le)))

-- the right state that shares marked registers
first_of : (v : ℕ → Bool) (zs : List ℤ) → literal_holds v (slice_index_or zs 0 (pos 0)) ≡ slice_index_or (values v zs) 0 false
first_of v [] = refl
first_of v (z ∷ zs) = refl

rest_of : (v : ℕ → Bool) (zs : List ℤ) → values v (drop 1 zs) ≡ drop 1 (values v zs)
rest_of v [] = refl
rest_of v (z ∷ zs) = refl

pub sharing_values :
    (free : ℕ) (bits : List Bool) (v : ℕ → Bool) (n : ℕ) (marks : List Bool) (left : List ℤ) (before : ℕ) → BeginsWith free bits v
    → before + open_count n marks ≤ free
    → values v (sharing_literals n marks left before) ≡ sharing_state n marks (values v left) (drop before bits)
sharing_values free bits v zero marks left before begins le = refl
sharing_values free bits v (suc n) marks left before begins le = by_mark (slice_index_or marks 0 false) le
    (λ k. sharing_values free bits v n (drop 1 marks) (drop 1 left) before begins k)
    (λ k. sharing_values free bits v n (drop 1 marks) (drop 1 left) (suc before) begins k)
  where
    by_mark : (b : Bool) → before + ((if b then 0 else 1) + open_count n (drop 1 marks)) ≤ free
        → (before + open_count n (drop 1 marks) ≤ free
        → values v (sharing_literals n (drop 1 marks) (drop 1 left) before) ≡ sharing_state n (drop 1 marks) (values v (drop 1 left)) (drop before bits))
        → (suc before + open_count n (drop 1 marks) ≤ free
        → values v (sharing_literals n (drop 1 marks) (drop 1 left) (suc before)) ≡ sharing_state n (drop 1 marks) (values v (drop 1 left)) (drop (suc before) bits))
        → values v (if b then slice_index_or left 0 (pos 0) ∷ sharing_literals n (drop 1 marks) (drop 1 left) before else pos (suc before) ∷ sharing_literals n (drop 1 marks) (drop 1 left) (suc before))
        ≡ (if b then slice_index_or (values v left) 0 false ∷ sharing_state n (drop 1 marks) (drop 1 (values v left)) (drop before bits)
        else slice_index_or (drop before bits) 0 false ∷ sharing_state n (drop 1 marks) (drop 1 (values v left)) (drop 1 (drop before bits)))
    by_mark true le marked open_one =
        same_bits _ _ _ _ (first_of v left)
        (marked (omega (arith, le)) ∙ ap (λ (xs : List Bool). sharing_state n (drop 1 marks) xs (drop before bits)) (rest_of v left))
    by_mark false le marked open_one =
        same_bits _ _ _ _ (bit_is free bits v before begins (omega (arith, le)))
        (open_one (omega (arith, le)) ∙ ap (λ (xs : List Bool). sharing_state n (drop 1 marks) xs (drop (suc before) bits)) (rest_of v left)
        ∙ ap (λ (xs : List Bool). sharing_state n (drop 1 marks) (drop 1 (values v left)) xs) (sym (dropped before bits)))

pub sharing_in :
    (n count : ℕ) (marks : List Bool) (left : List ℤ) (before : ℕ) → length marks ≡ length left → AreLiterals n left
    → before + open_count count marks ≤ n → AreLiterals n (sharing_literals count marks left before)
sharing_in n zero marks left before same held le = λ i d lt. absurd (omega arith)
sharing_in n (suc count) [] left before same held le =
    all_cons n (pos (suc before)) (sharing_literals count [] (drop 1 left) (suc before)) (omega arith, omega (arith, le))
    (sharing_in n count [] (drop 1 left) (suc before) (shorter left same) (tail left held) (omega (arith, le)))
  where
    shorter : (zs : List ℤ) → length {A = Bool} [] ≡ length zs → length {A = Bool} [] ≡ length (drop 1 zs)
    shorter [] e = e
    shorter (z ∷ zs) e = absurd (omega (arith, e))

    tail : (zs : List ℤ) → AreLiterals n zs → AreLiterals n (drop 1 zs)
    tail [] h = h
    tail (z ∷ zs) h = λ i d lt. h (suc i) d (omega arith)
sharing_in n (suc count) (mark ∷ marks) [] before same held le = absurd (omega (arith, same))
sharing_in n (suc count) (true ∷ marks) (z ∷ left) before same held le =
    all_cons n z (sharing_literals count marks left before) (held 0 z (omega arith))
    (sharing_in n count marks left before (omega (arith, same)) (λ i d lt. held (suc i) d (omega arith)) (omega (arith, le)))
sharing_in n (suc count) (false ∷ marks) (z ∷ left) before same held le =
    all_cons n (pos (suc before)) (sharing_literals count marks left (suc before)) (omega arith, omega (arith, le))
    (sharing_in n count marks left (suc before) (omega (arith, same)) (λ i d lt. held (suc i) d (omega arith)) (omega (arith, le)))

pub length_sharing : (n : ℕ) (marks s bits : List Bool) → length (sharing_state n marks s bits) ≡ n
length_sharing zero marks s bits = refl
length_sharing (suc n) marks s bits =
    by_mark (slice_index_or marks 0 false) (λ rest. length_sharing n (drop 1 marks) (drop 1 s) rest)
  where
    by_mark : (b : Bool) → ((rest : List Bool) → length (sharing_state n (drop 1 marks) (drop 1 s) rest) ≡ n)
        → length (if b then slice_index_or s 0 false ∷ sharing_state n (drop 1 marks) (drop 1 s) bits
        else slice_index_or bits 0 false ∷ sharing_state n (drop 1 marks) (drop 1 s) (drop 1 bits)) ≡ suc n
    by_mark true h = omega (arith, h bits)
    by_mark false h = omega (arith, h (drop 1 bits))

tail_at : {X : Type 0} (xs : List X) (i : ℕ) (d : X) → slice_index_or (drop 1 xs) i d ≡ slice_index_or xs (suc i) d
tail_at [] i d = refl
tail_at (x ∷ xs) i d = refl

-- marked registers of the sharing state have the other state's bits
pub sharing_agrees :
    (n : ℕ) (marks s bits : List Bool) → ((i : ℕ) → slice_index_or marks i false ≡ true → i < n) → AgreeOn marks s (sharing_state n marks s bits)
sharing_agrees zero marks s bits below i e = let lt : i < 0 = below i e in absurd (omega (arith, lt))
sharing_agrees (suc n) marks s bits below zero e = by_mark (slice_index_or marks 0 false) e
  where
    by_mark : (b : Bool) → b ≡ true → slice_index_or s 0 false ≡ slice_index_or (if b then slice_index_or s 0 false ∷ sharing_state n (drop 1 marks) (drop 1 s) bits
        else slice_index_or bits 0 false ∷ sharing_state n (drop 1 marks) (drop 1 s) (drop 1 bits)) 0 false
    by_mark true e = refl
    by_mark false e = absurd (false≢true e)
sharing_agrees (suc n) marks s bits below (suc i) e =
    by_mark (slice_index_or marks 0 false) (λ rest.
    sym (tail_at s i false)
    ∙ sharing_agrees n (drop 1 marks) (drop 1 s) rest
    (λ k marked. let lt : suc k < suc n = below (suc k) (sym (tail_at marks k false) ∙ marked) in omega (arith, lt)) i (tail_at marks i false ∙ e))
  where
    by_mark : (b : Bool) → ((rest : List Bool) → slice_index_or s (suc i) false ≡ slice_index_or (sharing_state n (drop 1 marks) (drop 1 s) rest) i false)
        → slice_index_or s (suc i) false ≡ slice_index_or (if b then slice_index_or s 0 false ∷ sharing_state n (drop 1 marks) (drop 1 s) bits
        else slice_index_or bits 0 false ∷ sharing_state n (drop 1 marks) (drop 1 s) (drop 1 bits)) (suc i) false
    by_mark true h = h bits
    by_mark false h = h (drop 1 bits)

-- the inputs of a cycle
pub cycle_values :
    (free : ℕ) (bits : List Bool) (v : ℕ → Bool) (low : ℤ) (places : List Tern) (before : ℕ) → BeginsWith free bits v
    → literal_holds v low ≡ false → literal_holds v (opposite low) ≡ true → before + free_count places ≤ free
    → values v (cycle_literals low places before) ≡ filled_places places (drop before bits)
cycle_values free bits v low [] before begins e f le = refl
cycle_values free bits v low (Zero ∷ places) before begins e f le =
    same_bits _ _ _ _ e (cycle_values free bits v low places before begins e f (omega (arith, le)))
cycle_values free bits v low (One ∷ places) before begins e f le =
    same_bits _ _ _ _ f (cycle_values free bits v low places before begins e f (omega (arith, le)))
cycle_values free bits v low (Unknown ∷ places) before begins e f le =
    same_bits _ _ _ _ (bit_is free bits v before begins (omega (arith, le)))
    (cycle_values free bits v low places (suc before) begins e f (omega (arith, le))
    ∙ ap (λ (xs : List Bool). filled_places places xs) (sym (dropped before bits)))

pub cycle_in :
    (n : ℕ) (low : ℤ) (places : List Tern) (before : ℕ) → IsLiteral n low → IsLiteral n (opposite low) → before + free_count places ≤ n
    → AreLiterals n (cycle_literals low places before)
cycle_in n low [] before p q le = λ i d lt. absurd (omega arith)
cycle_in n low (Zero ∷ places) before p q le = all_cons n low (cycle_literals low places before) p (cycle_in n low places before p q (omega (arith, le)))
cycle_in n low (One ∷ places) before p q le = all_cons n (opposite low) (cycle_literals low places before) q (cycle_in n low places before p q (omega (arith, le)))
cycle_in n low (Unknown ∷ places) before p q le =
    all_cons n (pos (suc before)) (cycle_literals low places (suc before)) (omega arith, omega (arith, le)) (cycle_in n low places (suc before) p q (omega (arith, le)))

-- the one filling of a pattern without free bits
known_filled : (bits free : List Bool) → filled_places (map known bits) free ≡ bits
known_filled [] free = refl
known_filled (true ∷ bits) free = ap (λ (xs : List Bool). true ∷ xs) (known_filled bits free)
known_filled (false ∷ bits) free = ap (λ (xs : List Bool). false ∷ xs) (known_filled bits free)

pub word_filled : (word : List (List Bool)) (free : List Bool) → filled (known_pattern word) free ≡ word
word_filled [] free = refl
word_filled (input ∷ word) free = same_words _ _ _ _ (known_filled input free) (word_filled word (drop (free_count (map known input)) free))
  where
    same_words : (a b : List Bool) (xs ys : List (List Bool)) → a ≡ b → xs ≡ ys → a ∷ xs ≡ b ∷ ys
    same_words a b xs ys p q = cc
