-- A choice between two branches, in two values: what neither sets is as it was.
use Rattle.std.proofs.Common.{◌≡◌, ℕ, zero, suc, ◌+◌, ◌-◌, ◌<◌, ◌≤◌, Bool, true, false, not, ◌&&◌, ◌||◌, List, [], ◌∷◌, ◌++◌, length, take, drop, get_or, set, cond, eqb, ltb, arith, refl, sym, ap, ◌∙◌, inl, inr, subst, ⊎_elim}
use Rattle.std.specs.List.{AllByRecursion, list_any}
use Rattle.std.proofs.lemmas.Bool.{cond_both, cases_lt, lt-ltb, le-ltb}
use Rattle.std.proofs.lemmas.Bool.Decides.{eqb_tells}
use Rattle.std.proofs.lemmas.List.{length-take-le, length-set, length-drop, length-append, get_or_append_left, get_or-append_right, get_or-take, get_or-drop, get_or-set_same, get_or-set_other}
use Rattle.rst_value.specs.Bits.{bit_mux}
use Rattle.rst_net.specs.declared.signal.Slice.{Slice}
use Rattle.rst_terms.specs.Algebras.{bits, Step}
use Rattle.rst_cycle.specs.Drivers.{slice_has}
use Rattle.rst_cycle.specs.Effects.{target_width}
use Rattle.rst_statement_terms.specs.Targets.{Words, word_of, replaced, with_slice, with_target, merged_word, merged}
use Rattle.rst_statement_values.specs.Fits.{SliceInside}
use Rattle.rst_statement_values.proofs.Slices.{replaced_width, there}

-- A bit of a table.
abbrev pub bit_of : Words Bool → ℕ → ℕ → Bool
bit_of words i place = get_or (word_of words i) place false

-- Two tables of one shape, whose bits are equal wherever a test says no.
pub record Keeps (ws vs : Words Bool) (which : ℕ → ℕ → Bool) : Type 0 where
  pub count : length ws ≡ length vs
  pub widths : (i : ℕ) → length (word_of ws i) ≡ length (word_of vs i)
  pub bits : (i place : ℕ) → which i place ≡ false → bit_of ws i place ≡ bit_of vs i place

pub keeps_itself : (ws : Words Bool) (which : ℕ → ℕ → Bool) → Keeps ws ws which
keeps_itself ws which = record { count = refl; widths = λ i. refl; bits = λ i place h. refl }

pub keeps_more : (ws vs : Words Bool) (which other : ℕ → ℕ → Bool) → ((i place : ℕ) → other i place ≡ false → which i place ≡ false) → Keeps ws vs which → Keeps ws vs other
keeps_more ws vs which other less h = record { count = h.count; widths = h.widths; bits = λ i place e. h.bits i place (less i place e) }

pub left_false : (a b : Bool) → (a || b) ≡ false → a ≡ false
left_false true b h = cc
left_false false b h = refl

pub right_false : (a b : Bool) → (a || b) ≡ false → b ≡ false
right_false true b h = cc
right_false false b h = h

pub keeps_then : (us ws vs : Words Bool) (first second : ℕ → ℕ → Bool) → Keeps us ws first → Keeps ws vs second → Keeps us vs (λ i place. first i place || second i place)
keeps_then us ws vs first second h k = record {
  count = h.count ∙ k.count;
  widths = λ i. h.widths i ∙ k.widths i;
  bits = λ i place e. h.bits i place (left_false (first i place) (second i place) e) ∙ k.bits i place (right_false (first i place) (second i place) e);
}

-- merging
put : (c y n : Bool) (rest ys ns : List Bool) → rest ≡ cond c ys ns → (bit_mux c y n ∷ rest) ≡ cond c (y ∷ ys) (n ∷ ns)
put true y n rest ys ns h = ap (λ zs. y ∷ zs) h
put false y n rest ys ns h = ap (λ zs. n ∷ zs) h

kept : (c y n : Bool) (rest ys ns : List Bool) → y ≡ n → rest ≡ cond c ys ns → (n ∷ rest) ≡ cond c (y ∷ ys) (n ∷ ns)
kept true y n rest ys ns e h = λ i. sym e i ∷ h i
kept false y n rest ys ns e h = ap (λ zs. n ∷ zs) h

merged_word_choice :
    (which : ℕ → Bool) (c : Bool) (ys ns : List Bool) (place : ℕ) → length ys ≡ length ns
    → ((k : ℕ) → which (place + k) ≡ false → get_or ys k false ≡ get_or ns k false)
    → (merged_word bits tt c which place ys ns).1 ≡ cond c ys ns
merged_word_choice which true [] [] place h same = refl
merged_word_choice which false [] [] place h same = refl
merged_word_choice which c [] (n ∷ ns) place h same = absurd (omega arith)
merged_word_choice which c (y ∷ ys) [] place h same = absurd (omega arith)
merged_word_choice which c (y ∷ ys) (n ∷ ns) place h same =
    let rest : (merged_word bits tt c which (suc place) ys ns).1 ≡ cond c ys ns =
    merged_word_choice which c ys ns (suc place) (omega arith)
    (λ k e. let at : suc place + k ≡ place + suc k = omega arith in same (suc k) (ap which (sym at) ∙ e)) in
    let more : List Bool = (merged_word bits tt c which (suc place) ys ns).1 in
    cond_both (which place) (tt, bit_mux c y n ∷ more) (tt, n ∷ more)
    (λ (z : Step (Unit {0}) (List Bool)). z.1 ≡ cond c (y ∷ ys) (n ∷ ns))
    (λ e. put c y n more ys ns rest)
    (λ e. let at : place + 0 ≡ place = omega arith in kept c y n more ys ns (same 0 (ap which at ∙ e)) rest)

pick : (c : Bool) (y n : List Bool) (ys ns : Words Bool) → (cond c y n ∷ cond c ys ns) ≡ cond c (y ∷ ys) (n ∷ ns)
pick true y n ys ns = refl
pick false y n ys ns = refl

merged_choice :
    (which : ℕ → ℕ → Bool) (c : Bool) (ys ns : Words Bool) (i : ℕ) → length ys ≡ length ns
    → ((k : ℕ) → length (get_or ys k []) ≡ length (get_or ns k []))
    → ((k place : ℕ) → which (i + k) place ≡ false → get_or (get_or ys k []) place false ≡ get_or (get_or ns k []) place false)
    → (merged bits tt c which i ys ns).1 ≡ cond c ys ns
merged_choice which true [] [] i h widths same = refl
merged_choice which false [] [] i h widths same = refl
merged_choice which c [] (n ∷ ns) i h widths same = absurd (omega arith)
merged_choice which c (y ∷ ys) [] i h widths same = absurd (omega arith)
merged_choice which c (y ∷ ys) (n ∷ ns) i h widths same =
    let at : i + 0 ≡ i = omega arith in
    let one = merged_word_choice (which i) c y n 0 (widths 0) (λ k e. let zero_k : 0 + k ≡ k = omega arith in same 0 k (ap (λ z. which z k) at ∙ (ap (which i) (sym zero_k) ∙ e))) in
    let rest = merged_choice which c ys ns (suc i) (omega arith) (λ k. widths (suc k))
    (λ k place e. let next : suc i + k ≡ i + suc k = omega arith in same (suc k) place (ap (λ z. which z place) (sym next) ∙ e)) in
    (λ j. one j ∷ rest j) ∙ pick c y n ys ns

-- the two branches of a choice, from one table
pub branch_choice :
    (c : Bool) (words ys ns : Words Bool) (first second : ℕ → ℕ → Bool) → Keeps words ys first → Keeps words ns second
    → (merged bits tt c (λ i place. first i place || second i place) 0 ys ns).1 ≡ cond c ys ns
branch_choice c words ys ns first second h k =
    merged_choice (λ i place. first i place || second i place) c ys ns 0 (sym h.count ∙ k.count) (λ i. sym (h.widths i) ∙ k.widths i)
    (λ i place e.
    let zero_i : 0 + i ≡ i = omega arith in
    let none : (first i place || second i place) ≡ false = ap (λ z. first z place || second z place) (sym zero_i) ∙ e in
    sym (h.bits i place (left_false (first i place) (second i place) none)) ∙ k.bits i place (right_false (first i place) (second i place) none))

pub branch_keeps :
    (c : Bool) (words ys ns : Words Bool) (first second : ℕ → ℕ → Bool) → Keeps words ys first → Keeps words ns second
    → Keeps words (cond c ys ns) (λ i place. first i place || second i place)
branch_keeps true words ys ns first second h k = keeps_more words ys first (λ i place. first i place || second i place) (λ i place e. left_false (first i place) (second i place) e) h
branch_keeps false words ys ns first second h k = keeps_more words ns second (λ i place. first i place || second i place) (λ i place e. right_false (first i place) (second i place) e) k

-- a bit outside the part that is replaced
below_part : (low width place : ℕ) (part word : List Bool) → low + width ≤ length word → place < low → get_or (replaced low width part word) place false ≡ get_or word place false
below_part low width place part word h k =
    get_or_append_left (take low word) (take width part ++ drop (low + width) word) false place (let l = length-take-le low word (omega arith) in omega (arith, l))
    ∙ get_or-take low word place false k

above_part : (low width place : ℕ) (part word : List Bool) → low + width ≤ length word → width ≤ length part → low + width ≤ place → get_or (replaced low width part word) place false ≡ get_or word place false
above_part low width place part word h k l =
    let back : low + width + (place - low - width) ≡ place = omega arith in
    get_or-append_right (take low word) (take width part ++ drop (low + width) word) low place false (length-take-le low word (omega arith)) (omega arith)
    ∙ (get_or-append_right (take width part) (drop (low + width) word) width (place - low) false (length-take-le width part k) (omega arith)
    ∙ (get_or-drop (low + width) word (place - low - width) false ∙ ap (λ n. get_or word n false) back))

clash : (a b : Bool) → a ≡ false → b ≡ true → (not a && b) ≡ false → ⊥
clash true b h k e = cc
clash false true h k e = cc
clash false false h k e = cc

outside : (low width place : ℕ) → (not (ltb place low) && ltb place (low + width)) ≡ false → low ≤ place → low + width ≤ place
outside low width place h k =
    ⊎_elim (λ p. absurd (clash (ltb place low) (ltb place (low + width)) (le-ltb place low k) (lt-ltb place (low + width) p) h)) (λ p. p) (cases_lt place (low + width))

-- a set leaves every other bit
slice_keeps :
    (room : ℕ → ℕ) (slice : Slice) (part : List Bool) (words : Words Bool) → ((i : ℕ) → length (word_of words i) ≡ room i) → SliceInside room slice → slice.width ≤ length part
    → Keeps words (with_slice slice part words) (λ i place. slice_has i place slice)
slice_keeps room slice part words widths inside wide =
    let new : List Bool = replaced slice.low slice.width part (word_of words slice.signal) in
    let fits : slice.low + slice.width ≤ length (word_of words slice.signal) = let w = widths slice.signal in let h = inside.inside in omega (arith, w, h) in
    let some : slice.signal < length words = let k = inside.some_bits in there words slice.signal (omega (arith, fits, k)) in
    record {
      count = sym (length-set words slice.signal new);
      widths = λ i. elim (eqb_tells i slice.signal) [
        | inl t ↦ ap (λ k. length (word_of words k)) t.1
            ∙ (sym (replaced_width slice.low slice.width part (word_of words slice.signal) fits wide)
            ∙ sym (ap (λ k. length (get_or (set words slice.signal new) k [])) t.1 ∙ ap length (get_or-set_same words slice.signal new [] some)))
        | inr t ↦ sym (ap length (get_or-set_other words slice.signal i new [] t.1))
      ];
      bits = λ i place e. elim (eqb_tells i slice.signal) [
        | inl t ↦
            let free : (not (ltb place slice.low) && ltb place (slice.low + slice.width)) ≡ false =
            sym (ap (λ b. b && (not (ltb place slice.low) && ltb place (slice.low + slice.width))) t.0) ∙ e in
            let same : get_or new place false ≡ get_or (word_of words slice.signal) place false =
            ⊎_elim (λ p. below_part slice.low slice.width place part (word_of words slice.signal) fits p)
            (λ p. above_part slice.low slice.width place part (word_of words slice.signal) fits wide (outside slice.low slice.width place free p))
            (cases_lt place slice.low) in
            ap (λ k. get_or (word_of words k) place false) t.1
            ∙ (sym same
            ∙ sym (ap (λ k. get_or (get_or (set words slice.signal new) k []) place false) t.1 ∙ ap (λ w. get_or w place false) (get_or-set_same words slice.signal new [] some)))
        | inr t ↦ sym (ap (λ w. get_or w place false) (get_or-set_other words slice.signal i new [] t.1))
      ];
    }

pub target_keeps :
    (room : ℕ → ℕ) (slices : List Slice) (part : List Bool) (words : Words Bool) → ((i : ℕ) → length (word_of words i) ≡ room i) → AllByRecursion (SliceInside room) slices
    → target_width slices ≤ length part → Keeps words (with_target slices part words) (λ i place. list_any (slice_has i place) slices)
target_keeps room [] part words widths inside wide = keeps_itself words (λ i place. false)
target_keeps room (slice ∷ slices) part words widths inside wide =
    let upper : List Bool = drop (target_width slices) part in
    let long : slice.width ≤ length upper = omega (arith, length-drop (target_width slices) part) in
    let one = slice_keeps room slice upper words widths inside.0 long in
    keeps_then words (with_slice slice upper words) (with_target slices part (with_slice slice upper words)) (λ i place. slice_has i place slice) (λ i place. list_any (slice_has i place) slices)
    one (target_keeps room slices part (with_slice slice upper words) (λ i. sym (one.widths i) ∙ widths i) inside.1 (omega arith))
