-- Selects of a bit by an index, in two values.
use Rattle.std.proofs.Common.{◌≡◌, ℕ, zero, suc, ◌+◌, ◌*◌, ◌^◌, Bool, true, false, List, [], ◌∷◌, length, get_or, cond, arith, refl, sym, ap, ◌∙◌}
use Rattle.std.proofs.Math.Nat.{two-pow-succ}
use Rattle.rst_terms.specs.Algebras.{bits}
use Rattle.rst_terms.specs.Recurrences.{chosen, evens, odds, selected}
use Rattle.rst_terms.specs.Numbers.{digit, number}
use Rattle.rst_terms.proofs.Choices.{chosen_bits, cond_length}

-- the bit at the place that the index spells
two_evens : (xs : List Bool) (i : ℕ) → get_or (evens xs) i false ≡ get_or xs (2 * i) false
two_evens [] i = refl
two_evens (x ∷ []) zero = refl
two_evens (x ∷ []) (suc i) = let e : 2 * suc i ≡ suc (suc (2 * i)) = omega arith in rw e
two_evens (x ∷ y ∷ xs) zero = refl
two_evens (x ∷ y ∷ xs) (suc i) = let e : 2 * suc i ≡ suc (suc (2 * i)) = omega arith in rw e (two_evens xs i)

two_odds : (xs : List Bool) (i : ℕ) → get_or (odds xs) i false ≡ get_or xs (1 + 2 * i) false
two_odds [] i = refl
two_odds (x ∷ []) i = let e : 1 + 2 * i ≡ suc (2 * i) = omega arith in rw e
two_odds (x ∷ y ∷ xs) zero = refl
two_odds (x ∷ y ∷ xs) (suc i) =
    let e : 1 + 2 * suc i ≡ suc (suc (1 + 2 * i)) = omega arith in rw e (two_odds xs i)

pub even_length : {X : Type 0} (k : ℕ) (xs : List X) → length xs ≡ k + k → length (evens xs) ≡ k
even_length zero [] h = refl
even_length zero (x ∷ xs) h = absurd (omega arith)
even_length (suc k) [] h = absurd (omega arith)
even_length (suc k) (x ∷ []) h = absurd (omega arith)
even_length (suc k) (x ∷ y ∷ xs) h = let r = even_length k xs (omega arith) in omega (arith, r)

pub odd_length : {X : Type 0} (k : ℕ) (xs : List X) → length xs ≡ k + k → length (odds xs) ≡ k
odd_length zero [] h = refl
odd_length zero (x ∷ xs) h = absurd (omega arith)
odd_length (suc k) [] h = absurd (omega arith)
odd_length (suc k) (x ∷ []) h = absurd (omega arith)
odd_length (suc k) (x ∷ y ∷ xs) h = let r = odd_length k xs (omega arith) in omega (arith, r)

select_cond : (n : Bool) (xs : List Bool) (i : ℕ) → get_or (cond n (odds xs) (evens xs)) i false ≡ get_or xs (digit n + 2 * i) false
select_cond true xs i = two_odds xs i
select_cond false xs i = let e : 0 + 2 * i ≡ 2 * i = omega arith in rw e (two_evens xs i)

-- one stage of a select, and what is left of the word
stage : (n : Bool) (ns xs : List Bool) → length xs ≡ 2 ^ length (n ∷ ns) → (chosen bits tt n (odds xs) (evens xs)).1 ≡ cond n (odds xs) (evens xs)
stage n ns xs h =
    let half : length xs ≡ 2 ^ length ns + 2 ^ length ns = h ∙ two-pow-succ (length ns) in
    chosen_bits n (odds xs) (evens xs) (odd_length (2 ^ length ns) xs half ∙ sym (even_length (2 ^ length ns) xs half))

stage_width : (n : Bool) (ns xs : List Bool) → length xs ≡ 2 ^ length (n ∷ ns) → length (cond n (odds xs) (evens xs)) ≡ 2 ^ length ns
stage_width n ns xs h =
    let half : length xs ≡ 2 ^ length ns + 2 ^ length ns = h ∙ two-pow-succ (length ns) in
    cond_length n (odds xs) (evens xs) (2 ^ length ns) (odd_length (2 ^ length ns) xs half) (even_length (2 ^ length ns) xs half)

pub selected_bit :
    (ns xs : List Bool) → length xs ≡ 2 ^ length ns → get_or (selected bits tt ns xs).1 0 false ≡ get_or xs (number ns) false
selected_bit [] xs h = refl
selected_bit (n ∷ ns) xs h =
    ap (λ zs. get_or (selected bits tt ns zs).1 0 false) (stage n ns xs h)
    ∙ (selected_bit ns (cond n (odds xs) (evens xs)) (stage_width n ns xs h) ∙ select_cond n xs (number ns))

pub selected_width : (ns xs : List Bool) → length xs ≡ 2 ^ length ns → length (selected bits tt ns xs).1 ≡ 1
selected_width [] xs h = h
selected_width (n ∷ ns) xs h =
    ap (λ zs. length (selected bits tt ns zs).1) (stage n ns xs h)
    ∙ selected_width ns (cond n (odds xs) (evens xs)) (stage_width n ns xs h)
