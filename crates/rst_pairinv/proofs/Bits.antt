-- The free bits of splitting, and the pair that they are read as.
use Rattle.std.proofs.Common.{◌≡◌, ◌∙◌, ℕ, zero, suc, ◌<◌, ◌≤◌, ◌+◌, ◌-◌, Bool, true, false, if◌then◌else◌, List, [], ◌∷◌, ◌++◌, length, take, drop, refl, ap, sym, subst, arith, append_assoc, add-one, length-append}
use Rattle.std.proofs.Math.Seq.{take-append_seam, drop-append_seam}
use Rattle.std.specs.Prelude.{slice_index_or}
use Rattle.rst_gate.specs.ClosedSets.{AgreeOn}
use Rattle.rst_pair.specs.Queries.{open_count, sharing_state}

-- the bits of the registers that aren't marked
abbrev pub open_bits : ℕ → List Bool → List Bool → List Bool
open_bits zero marks t = []
open_bits (suc n) marks t =
    if slice_index_or marks 0 false then open_bits n (drop 1 marks) (drop 1 t)
    else slice_index_or t 0 false ∷ open_bits n (drop 1 marks) (drop 1 t)

pub length_open : (n : ℕ) (marks t : List Bool) → length (open_bits n marks t) ≡ open_count n marks
length_open zero marks t = refl
length_open (suc n) marks t = by (slice_index_or marks 0 false) (length_open n (drop 1 marks) (drop 1 t))
  where
    by : (b : Bool) → length (open_bits n (drop 1 marks) (drop 1 t)) ≡ open_count n (drop 1 marks)
        → length (if b then open_bits n (drop 1 marks) (drop 1 t) else slice_index_or t 0 false ∷ open_bits n (drop 1 marks) (drop 1 t))
        ≡ (if b then 0 else 1) + open_count n (drop 1 marks)
    by true h = omega (arith, h)
    by false h = omega (arith, h)

read_dropped : (xs : List Bool) (i : ℕ) → slice_index_or (drop 1 xs) i false ≡ slice_index_or xs (suc i) false
read_dropped [] i = refl
read_dropped (x ∷ xs) i = refl

first_and_rest : (n : ℕ) (t : List Bool) → length t ≡ suc n → slice_index_or t 0 false ∷ drop 1 t ≡ t
first_and_rest n [] e = absurd (omega (arith, e))
first_and_rest n (x ∷ t) e = refl

one_fewer : (n : ℕ) (xs : List Bool) → length xs ≡ suc n → length (drop 1 xs) ≡ n
one_fewer n [] e = absurd (omega (arith, e))
one_fewer n (x ∷ xs) e = omega (arith, e)

agree_behind : (marks s t : List Bool) → AgreeOn marks s t → AgreeOn (drop 1 marks) (drop 1 s) (drop 1 t)
agree_behind marks s t agree i marked =
    read_dropped s i ∙ agree (suc i) (sym (read_dropped marks i) ∙ marked) ∙ sym (read_dropped t i)

-- states that agree on the marked registers share them
pub sharing_open :
    (n : ℕ) (marks s t : List Bool) → length t ≡ n → AgreeOn marks s t → sharing_state n marks s (open_bits n marks t) ≡ t
sharing_open zero marks s [] count agree = refl
sharing_open zero marks s (x ∷ t) count agree = absurd (omega (arith, count))
sharing_open (suc n) marks s t count agree =
    by (slice_index_or marks 0 false) refl
    (sharing_open n (drop 1 marks) (drop 1 s) (drop 1 t) (one_fewer n t count) (agree_behind marks s t agree))
    ∙ first_and_rest n t count
  where
    by : (b : Bool) → slice_index_or marks 0 false ≡ b
        → sharing_state n (drop 1 marks) (drop 1 s) (open_bits n (drop 1 marks) (drop 1 t)) ≡ drop 1 t
        → (let bits = if b then open_bits n (drop 1 marks) (drop 1 t) else slice_index_or t 0 false ∷ open_bits n (drop 1 marks) (drop 1 t) in
        (if b then slice_index_or s 0 false ∷ sharing_state n (drop 1 marks) (drop 1 s) bits
        else slice_index_or bits 0 false ∷ sharing_state n (drop 1 marks) (drop 1 s) (drop 1 bits)))
        ≡ slice_index_or t 0 false ∷ drop 1 t
    by true marked rest =
        ap (λ (x : Bool). x ∷ sharing_state n (drop 1 marks) (drop 1 s) (open_bits n (drop 1 marks) (drop 1 t))) (agree 0 marked)
        ∙ ap (λ (r : List Bool). slice_index_or t 0 false ∷ r) rest
    by false unmarked rest = ap (λ (r : List Bool). slice_index_or t 0 false ∷ r) rest

pub length_sharing : (n : ℕ) (marks s bits : List Bool) → length (sharing_state n marks s bits) ≡ n
length_sharing zero marks s bits = refl
length_sharing (suc n) marks s bits =
    by (slice_index_or marks 0 false) (length_sharing n (drop 1 marks) (drop 1 s) bits) (length_sharing n (drop 1 marks) (drop 1 s) (drop 1 bits))
  where
    by : (b : Bool) → length (sharing_state n (drop 1 marks) (drop 1 s) bits) ≡ n
        → length (sharing_state n (drop 1 marks) (drop 1 s) (drop 1 bits)) ≡ n
        → length (if b then slice_index_or s 0 false ∷ sharing_state n (drop 1 marks) (drop 1 s) bits
        else slice_index_or bits 0 false ∷ sharing_state n (drop 1 marks) (drop 1 s) (drop 1 bits)) ≡ suc n
    by true g h = omega (arith, g)
    by false g h = omega (arith, h)

drop_one : {X : Type 0} (i : ℕ) (xs : List X) → drop 1 (drop i xs) ≡ drop (i + 1) xs
drop_one i xs = rw (add-one i) (one i xs)
  where
    one : {X : Type 0} (i : ℕ) (xs : List X) → drop 1 (drop i xs) ≡ drop (suc i) xs
    one zero xs = refl
    one (suc i) [] = refl
    one (suc i) (x ∷ xs) = one i xs

first_dropped : {X : Type 0} (i : ℕ) (xs : List X) (d : X) → slice_index_or (drop i xs) 0 d ≡ slice_index_or xs i d
first_dropped zero xs d = refl
first_dropped (suc i) [] d = refl
first_dropped (suc i) (x ∷ xs) d = first_dropped i xs d

-- one more register of the state
pub sharing_more :
    (n i last step : ℕ) (marks s bits state state' : List Bool) (b x : Bool) → i < n
    → b ≡ slice_index_or marks i false
    → x ≡ (if b then slice_index_or s i false else slice_index_or bits last false)
    → step ≡ (if b then 0 else 1) → state' ≡ state ++ x ∷ []
    → state ++ sharing_state (n - i) (drop i marks) (drop i s) (drop last bits)
    ≡ state' ++ sharing_state (n - (i + 1)) (drop (i + 1) marks) (drop (i + 1) s) (drop (last + step) bits)
sharing_more n i last step marks s bits state state' b x below mark is more e =
    let left_over : n - i ≡ suc (n - (i + 1)) = omega arith in
    rw (e, append_assoc, left_over, first_dropped i marks false, first_dropped i s false, first_dropped last bits false, drop_one i marks, drop_one i s, drop_one last bits, ← mark)
    (by b is more)
  where
    by : (b : Bool) → x ≡ (if b then slice_index_or s i false else slice_index_or bits last false) → step ≡ (if b then 0 else 1)
        → state ++ (if b then slice_index_or s i false ∷ sharing_state (n - (i + 1)) (drop (i + 1) marks) (drop (i + 1) s) (drop last bits)
        else slice_index_or bits last false ∷ sharing_state (n - (i + 1)) (drop (i + 1) marks) (drop (i + 1) s) (drop (last + 1) bits))
        ≡ state ++ (x ∷ sharing_state (n - (i + 1)) (drop (i + 1) marks) (drop (i + 1) s) (drop (last + step) bits))
    by true is more = let same : last + step ≡ last = omega (arith, more) in rw (is, same) refl
    by false is more = let same : last + step ≡ last + 1 = omega (arith, more) in rw (is, same) refl

-- the three parts of the bits
pub read_parts : (input s rest : List Bool) (m n : ℕ) → length input ≡ m → length s ≡ n
    → (take m (input ++ (s ++ rest)) ≡ input) × (take n (drop m (input ++ (s ++ rest))) ≡ s) × (drop (m + n) (input ++ (s ++ rest)) ≡ rest)
read_parts input s rest m n e f = (first, second, third)
  where
    first : take m (input ++ (s ++ rest)) ≡ input
    first = subst (λ (k : ℕ). take k (input ++ (s ++ rest)) ≡ input) e (take-append_seam input (s ++ rest))

    behind : drop m (input ++ (s ++ rest)) ≡ s ++ rest
    behind = subst (λ (k : ℕ). drop k (input ++ (s ++ rest)) ≡ s ++ rest) e (drop-append_seam input (s ++ rest))

    second : take n (drop m (input ++ (s ++ rest))) ≡ s
    second = ap (take n) behind ∙ subst (λ (k : ℕ). take k (s ++ rest) ≡ s) f (take-append_seam s rest)

    third : drop (m + n) (input ++ (s ++ rest)) ≡ rest
    third =
        let count : length (input ++ s) ≡ m + n = omega (arith, length-append input s, e, f) in
        ap (drop (m + n)) (sym (append_assoc input s rest))
        ∙ subst (λ (k : ℕ). drop k ((input ++ s) ++ rest) ≡ rest) count (drop-append_seam (input ++ s) rest)

pub free_step : (n : ℕ) (b : Bool) → n ≡ (if b then 0 else 1) → n ≤ 1
free_step n true e = omega (arith, e)
free_step n false e = omega (arith, e)
