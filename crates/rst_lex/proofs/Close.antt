-- Looking for the end of a comment by index.
use Rattle.std.proofs.Common.{◌≡◌, ℕ, zero, suc, ◌+◌, ◌<◌, ◌≤◌, true, false, List, [], ◌∷◌, length, get_or, drop, Option, Some, None, refl, sym, ap, subst, ◌-◌, ◌∙◌, arith, drop-cons, length-drop}
use Rattle.std.specs.Option.{option_map}
use Rattle.rst_lex.specs.Fronts.{closes, close_len}

two_at : (s : List ℕ) (k : ℕ) → suc k < length s → drop k s ≡ get_or s k 0 ∷ get_or s (suc k) 0 ∷ drop (suc (suc k)) s
two_at s k lt =
    let less : k < length s = omega arith in
    drop-cons s k 0 less ∙ ap (λ t. get_or s k 0 ∷ t) (drop-cons s (suc k) 0 lt)

closed : (x y : ℕ) (s : List ℕ) (k : ℕ) → suc k < length s → closes x y (get_or s k 0) (get_or s (suc k) 0) ≡ true → close_len x y (drop k s) ≡ Some 2
unfolding close_len
closed x y s k lt e = ap (close_len x y) (two_at s k lt) ∙ rw e refl

goes : (x y : ℕ) (s : List ℕ) (k : ℕ) → suc k < length s → closes x y (get_or s k 0) (get_or s (suc k) 0) ≡ false → close_len x y (drop k s) ≡ option_map suc (close_len x y (drop (suc k) s))
unfolding close_len
goes x y s k lt e = ap (close_len x y) (two_at s k lt) ∙ rw e (ap (λ t. option_map suc (close_len x y t)) (sym (drop-cons s (suc k) 0 lt)))

short_close : (x y : ℕ) (t : List ℕ) → length t ≤ 1 → close_len x y t ≡ None
unfolding close_len
short_close x y [] le = refl
short_close x y (a ∷ []) le = refl
short_close x y (a ∷ b ∷ t) le = absurd (omega arith)

-- with k bytes passed
abbrev pub Passed : ℕ → ℕ → List ℕ → ℕ → Type 0
Passed x y s k = close_len x y s ≡ option_map (λ n. k + n) (close_len x y (drop k s))

shift : (k : ℕ) (o : Option ℕ) → option_map (λ n. k + n) (option_map suc o) ≡ option_map (λ n. suc k + n) o
shift k None = refl
shift k (Some n) = let e : k + suc n ≡ suc k + n = omega arith in ap Some e

none_yet : (o : Option ℕ) → o ≡ option_map (λ n. 0 + n) o
none_yet None = refl
none_yet (Some n) = let e : n ≡ 0 + n = omega arith in ap Some e

pub passed_none : (x y : ℕ) (s : List ℕ) → Passed x y s 0
passed_none x y s = none_yet (close_len x y s)

pub passed_more : (x y : ℕ) (s : List ℕ) (k : ℕ) → suc k < length s → closes x y (get_or s k 0) (get_or s (suc k) 0) ≡ false → Passed x y s k → Passed x y s (suc k)
passed_more x y s k lt e p = p ∙ ap (option_map (λ n. k + n)) (goes x y s k lt e) ∙ shift k (close_len x y (drop (suc k) s))

pub passed_found : (x y : ℕ) (s : List ℕ) (k : ℕ) → suc k < length s → closes x y (get_or s k 0) (get_or s (suc k) 0) ≡ true → Passed x y s k → close_len x y s ≡ Some (k + 2)
passed_found x y s k lt e p = p ∙ ap (option_map (λ n. k + n)) (closed x y s k lt e)

pub passed_all : (x y : ℕ) (s : List ℕ) (k : ℕ) → length s ≤ suc k → Passed x y s k → close_len x y s ≡ None
passed_all x y s k le p = p ∙ ap (option_map (λ n. k + n)) (short_close x y (drop k s) (omega (arith, length-drop k s)))

less_one : (k : ℕ) → suc k - 1 ≡ k
less_one k = omega arith

pub found_at : (x y : ℕ) (s : List ℕ) (i : ℕ) → 1 ≤ i → i < length s → closes x y (get_or s (i - 1) 0) (get_or s i 0) ≡ true → Passed x y s (i - 1) → Some (i + 1) ≡ close_len x y s
found_at x y s zero le lt e p = absurd (omega arith)
found_at x y s (suc k) le lt e p =
    let e' = rw less_one at e in
    let p' = rw less_one at p in
    let n : suc k + 1 ≡ k + 2 = omega arith in
    ap Some n ∙ sym (passed_found x y s k lt e' p')

pub more_at : (x y : ℕ) (s : List ℕ) (i : ℕ) → 1 ≤ i → i < length s → closes x y (get_or s (i - 1) 0) (get_or s i 0) ≡ false → Passed x y s (i - 1) → Passed x y s (i + 1 - 1)
more_at x y s zero le lt e p = absurd (omega arith)
more_at x y s (suc k) le lt e p =
    let e' = rw less_one at e in
    let p' = rw less_one at p in
    let n : suc k ≡ suc k + 1 - 1 = omega arith in
    subst (Passed x y s) n (passed_more x y s k lt e' p')

pub all_at : (x y : ℕ) (s : List ℕ) (i : ℕ) → length s ≤ i → Passed x y s (i - 1) → None ≡ close_len x y s
all_at x y s i le p = sym (passed_all x y s (i - 1) (omega arith) p)
