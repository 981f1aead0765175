-- The parts of a setting, as the function that splits them finds them.
use Rattle.std.proofs.Common.{◌≡◌, ℕ, suc, ◌+◌, ◌-◌, ◌<◌, ◌≤◌, Bool, true, false, cond, not, Option, Some, None, option_map, List, [], ◌∷◌, length, take, drop, refl, sym, ap, subst, ◌∙◌, arith}
use Rattle.std.specs.List.{prefix_len}
use Rattle.rst_script.specs.Steps.{is_sign, parted}
use Rattle.rst_script.proofs.LineFacts.{all_of_rest}

abbrev pub in_name : ℕ → Bool
in_name b = not (is_sign b)

abbrev with_front : ℕ → Option (List ℕ × List ℕ) → Option (List ℕ × List ℕ)
with_front b parts = option_map (λ (parts : List ℕ × List ℕ). (b ∷ parts.0, parts.1)) parts

sign_by : (b : ℕ) (bs : List ℕ) (x : Bool) → (prefix_len in_name bs < length bs → parted bs ≡ Some (take (prefix_len in_name bs) bs, drop (prefix_len in_name bs + 1) bs))
    → cond (not x) (1 + prefix_len in_name bs) 0 < suc (length bs)
    → cond x (Some ([], bs)) (with_front b (parted bs))
    ≡ Some (take (cond (not x) (1 + prefix_len in_name bs) 0) (b ∷ bs), drop (cond (not x) (1 + prefix_len in_name bs) 0 + 1) (b ∷ bs))
sign_by b bs true later h = refl
sign_by b bs false later h =
    let n = prefix_len in_name bs in
    let e : 1 + n ≡ suc n = omega arith in
    let f : 1 + n + 1 ≡ suc (n + 1) = omega arith in
    ap (with_front b) (later (omega arith))
    ∙ (ap (λ k. Some (take k (b ∷ bs), drop (n + 1) bs)) (sym e) ∙ ap (λ k. Some (take (1 + n) (b ∷ bs), drop k (b ∷ bs))) (sym f))

first_sign : (word : List ℕ) → prefix_len in_name word < length word → parted word ≡ Some (take (prefix_len in_name word) word, drop (prefix_len in_name word + 1) word)
first_sign [] h = absurd (omega (arith, h))
first_sign (b ∷ bs) h = sign_by b bs (is_sign b) (first_sign bs) h

-- a word with a sign
pub sign_cut : (word : List ℕ) (len : ℕ) → len ≡ prefix_len in_name word → len < length word
    → parted word ≡ Some (take len word, take (length word - (len + 1)) (drop (len + 1) word))
sign_cut word len e h =
    subst (λ k. parted word ≡ Some (take k word, drop (k + 1) word)) (sym e) (first_sign word (omega (arith, e, h)))
    ∙ ap (λ rest. Some (take len word, rest)) (sym (all_of_rest (len + 1) word))

unsigned_by : (b : ℕ) (bs : List ℕ) (x : Bool) → (length bs ≡ prefix_len in_name bs → parted bs ≡ None) → suc (length bs) ≡ cond (not x) (1 + prefix_len in_name bs) 0
    → cond x (Some ([], bs)) (with_front b (parted bs)) ≡ None
unsigned_by b bs true later h = absurd (omega (arith, h))
unsigned_by b bs false later h = ap (with_front b) (later (omega arith))

no_sign : (word : List ℕ) → length word ≡ prefix_len in_name word → parted word ≡ None
no_sign [] e = refl
no_sign (b ∷ bs) e = unsigned_by b bs (is_sign b) (no_sign bs) e

-- a word without one
pub sign_none : (word : List ℕ) (len : ℕ) → len ≡ prefix_len in_name word → len ≤ length word → length word ≤ len → parted word ≡ None
sign_none word len e h k = no_sign word (omega (arith, e, h, k))
