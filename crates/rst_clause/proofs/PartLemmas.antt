-- Parts of a flat list: one more, the part at a place, and the first ones.
use Rattle.std.proofs.Common.{◌≡◌, ℕ, zero, suc, ◌+◌, ◌-◌, ◌<◌, ◌≤◌, ℤ, List, [], ◌∷◌, ◌++◌, length, take, drop, get_or, refl, sym, ◌∙◌, subst, ap, arith, length-append, length-drop, slice_range}
use Rattle.std.proofs.lemmas.List.{take-append-le, drop-append-le, length-take-le, take-append-drop, drop-take}
use Rattle.std.proofs.Math.Seq.{drop-append_seam, take-length}
use Rattle.rst_clause.specs.Parts.{parts, begin_of, AreEnds}

pub ends_rise : (start : ℕ) (ends : List ℕ) (n : ℕ) → AreEnds start ends n → start ≤ n
ends_rise start [] n e = omega arith
ends_rise start (e ∷ ends) n h = omega (arith, h.0, ends_rise e ends n h.1)

pub length-parts : (start : ℕ) (ends : List ℕ) (all : List ℤ) → length (parts start ends all) ≡ length ends
length-parts start [] all = refl
length-parts start (e ∷ ends) all = ap suc (length-parts e ends all)

range-append : (all more : List ℤ) (a b : ℕ) → a ≤ b → b ≤ length all → slice_range (all ++ more) a b ≡ slice_range all a b
range-append all more a b le fits =
    let low : a ≤ length all = omega arith in
    let len : length (drop a all) ≡ length all - a = length-drop a all in
    let inside : b - a ≤ length (drop a all) = omega arith in
    ap (λ z. take (b - a) z) (drop-append-le a all more low) ∙ take-append-le (b - a) (drop a all) more inside

range-last : (all more : List ℤ) (a b : ℕ) → a ≡ length all → b ≡ length all + length more → slice_range (all ++ more) a b ≡ more
range-last all more a b e f =
    let n : b - a ≡ length more = omega arith in
    ap (λ z. take (b - a) z) (ap (λ k. drop k (all ++ more)) e ∙ drop-append_seam all more) ∙ ap (λ k. take k more) n ∙ take-length more

-- one more part
pub parts-push : (start : ℕ) (ends : List ℕ) (all more : List ℤ) (n : ℕ) → AreEnds start ends (length all) → n ≡ length all + length more
    → parts start (ends ++ n ∷ []) (all ++ more) ≡ parts start ends all ++ more ∷ []
parts-push start [] all more n h e = ap (λ z. z ∷ []) (range-last all more start n h e)
parts-push start (e ∷ ends) all more n h f =
    let fits : e ≤ length all = ends_rise e ends (length all) h.1 in
    ap (λ z. z ∷ parts e (ends ++ n ∷ []) (all ++ more)) (range-append all more start e h.0 fits)
    ∙ ap (λ z. slice_range all start e ∷ z) (parts-push e ends all more n h.1 f)

pub ends-push : (start : ℕ) (ends : List ℕ) (m n : ℕ) → AreEnds start ends m → m ≤ n → AreEnds start (ends ++ n ∷ []) n
ends-push start [] m n h le = (omega arith, refl)
ends-push start (e ∷ ends) m n h le = (h.0, ends-push e ends m n h.1 le)

-- the part at a place
pub parts-at : (start : ℕ) (ends : List ℕ) (all : List ℤ) (i : ℕ) → i < length ends
    → get_or (parts start ends all) i [] ≡ slice_range all (begin_of start ends i) (get_or ends i 0)
parts-at start [] all i lt = absurd (omega arith)
parts-at start (e ∷ ends) all zero lt = refl
parts-at start (e ∷ ends) all (suc zero) lt = parts-at e ends all zero (omega arith)
parts-at start (e ∷ ends) all (suc (suc i)) lt = parts-at e ends all (suc i) (omega arith)

-- it lies within the list
pub part_within : (start : ℕ) (ends : List ℕ) (n i : ℕ) → AreEnds start ends n → i < length ends
    → (begin_of start ends i ≤ get_or ends i 0) × (get_or ends i 0 ≤ n)
part_within start [] n i h lt = absurd (omega arith)
part_within start (e ∷ ends) n zero h lt = (h.0, ends_rise e ends n h.1)
part_within start (e ∷ ends) n (suc zero) h lt = part_within e ends n zero h.1 (omega arith)
part_within start (e ∷ ends) n (suc (suc i)) h lt = part_within e ends n (suc i) h.1 (omega arith)

-- the first parts
pub begin_within : (start : ℕ) (ends : List ℕ) (n i : ℕ) → AreEnds start ends n → i ≤ length ends → (start ≤ begin_of start ends i) × (begin_of start ends i ≤ n)
begin_within start ends n zero h le = (omega arith, ends_rise start ends n h)
begin_within start [] n (suc i) h le = absurd (omega arith)
begin_within start (e ∷ ends) n (suc zero) h le = (h.0, ends_rise e ends n h.1)
begin_within start (e ∷ ends) n (suc (suc i)) h le =
    let ih : (e ≤ begin_of e ends (suc i)) × (begin_of e ends (suc i) ≤ n) = begin_within e ends n (suc i) h.1 (omega arith) in
    (omega (arith, h.0, ih.0), ih.1)

pub ends-take : (start : ℕ) (ends : List ℕ) (n i : ℕ) → AreEnds start ends n → i ≤ length ends → AreEnds start (take i ends) (begin_of start ends i)
ends-take start ends n zero h le = refl
ends-take start [] n (suc i) h le = absurd (omega arith)
ends-take start (e ∷ ends) n (suc zero) h le = (h.0, refl)
ends-take start (e ∷ ends) n (suc (suc i)) h le = (h.0, ends-take e ends n (suc i) h.1 (omega arith))

range-take : (all : List ℤ) (a b n : ℕ) → a ≤ b → b ≤ n → n ≤ length all → slice_range (take n all) a b ≡ slice_range all a b
range-take all a b n le fits top =
    let e : take n all ++ drop n all ≡ all = take-append-drop n all in
    let len : length (take n all) ≡ n = length-take-le n all top in
    sym (range-append (take n all) (drop n all) a b le (omega arith)) ∙ ap (λ z. slice_range z a b) e

pub parts-take : (start : ℕ) (ends : List ℕ) (all : List ℤ) (i m : ℕ) → AreEnds start ends (length all) → i ≤ length ends
    → begin_of start ends i ≤ m → m ≤ length all → parts start (take i ends) (take m all) ≡ take i (parts start ends all)
parts-take start ends all zero m h le low top = refl
parts-take start [] all (suc i) m h le low top = absurd (omega arith)
parts-take start (e ∷ ends) all (suc zero) m h le low top = ap (λ z. z ∷ []) (range-take all start e m h.0 low top)
parts-take start (e ∷ ends) all (suc (suc i)) m h le low top =
    let inner : (e ≤ begin_of e ends (suc i)) × (begin_of e ends (suc i) ≤ length all) = begin_within e ends (length all) (suc i) h.1 (omega arith) in
    let fits : e ≤ m = omega (arith, inner.0) in
    ap (λ z. z ∷ parts e (take (suc i) ends) (take m all)) (range-take all start e m h.0 fits top)
    ∙ ap (λ z. slice_range all start e ∷ z) (parts-take e ends all (suc i) m h.1 (omega arith) low top)

-- a part as what is left of a front
pub range-split : (all : List ℤ) (a b : ℕ) → a ≤ b → drop a (take b all) ≡ slice_range all a b
range-split all a b le =
    let e : a + (b - a) ≡ b = omega arith in
    ap (λ n. drop a (take n all)) (sym e) ∙ drop-take a (b - a) all

-- one more part, of lists that are known by equations
pub parts-pushed : (ends new_ends : List ℕ) (all new_all more : List ℤ) (n : ℕ) → AreEnds 0 ends (length all)
    → new_all ≡ all ++ more → n ≡ length new_all → new_ends ≡ ends ++ n ∷ []
    → AreEnds 0 new_ends (length new_all) × (parts 0 new_ends new_all ≡ parts 0 ends all ++ more ∷ [])
parts-pushed ends new_ends all new_all more n h e f g =
    let len : length (all ++ more) ≡ length all + length more = length-append all more in
    let at : n ≡ length (all ++ more) = f ∙ ap (λ z. length z) e in
    let le : length all ≤ n = omega arith in (
      subst (λ z. AreEnds 0 z (length new_all)) (sym g) (subst (λ k. AreEnds 0 (ends ++ n ∷ []) k) f (ends-push 0 ends (length all) n h le)),
      ap (λ z. parts 0 z new_all) g ∙ ap (λ z. parts 0 (ends ++ n ∷ []) z) e ∙ parts-push 0 ends all more n h (at ∙ len),
    )

-- the first parts, of lists that are known by equations
pub parts-taken : (ends new_ends : List ℕ) (all new_all : List ℤ) (i n : ℕ) → AreEnds 0 ends (length all) → i ≤ length ends
    → n ≡ begin_of 0 ends i → new_all ≡ take n all → new_ends ≡ take i ends
    → AreEnds 0 new_ends (length new_all) × (parts 0 new_ends new_all ≡ take i (parts 0 ends all))
parts-taken ends new_ends all new_all i n h le e f g =
    let within : (0 ≤ begin_of 0 ends i) × (begin_of 0 ends i ≤ length all) = begin_within 0 ends (length all) i h le in
    let top : n ≤ length all = subst (λ k. k ≤ length all) (sym e) within.1 in
    let low : begin_of 0 ends i ≤ n = subst (λ k. begin_of 0 ends i ≤ k) (sym e) (omega arith) in
    let len : length new_all ≡ begin_of 0 ends i = ap (λ z. length z) f ∙ length-take-le n all top ∙ e in (
      subst (λ z. AreEnds 0 z (length new_all)) (sym g) (subst (λ k. AreEnds 0 (take i ends) k) (sym len) (ends-take 0 ends (length all) i h le)),
      ap (λ z. parts 0 z new_all) g ∙ ap (λ z. parts 0 (take i ends) z) f ∙ parts-take 0 ends all i n h le low top,
    )
