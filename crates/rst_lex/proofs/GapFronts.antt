-- White space, comments, attributes and directives at the front of a text.
use Rattle.std.proofs.Common.{◌≡◌, ℕ, zero, suc, ◌+◌, ◌≤◌, Bool, true, false, cond, List, [], ◌∷◌, ◌++◌, length, take, drop, Option, Some, None, inl, inr, ◌⊎◌, refl, sym, ap, subst, ◌∙◌, arith, take-append-drop, codes, bytes_eq}
use Rattle.std.specs.List.{prefix_len, take_while}
use Rattle.std.specs.Option.{option_map}
use Rattle.std.proofs.lemmas.List.Folds.{length-prefix_len}
use Rattle.std.proofs.lemmas.List.{length-take-le}
use Rattle.std.proofs.lemmas.Bool.Decides.{nat_tests}
use Rattle.std.specs.Prelude.{◌||◌, ◌==◌}
use Rattle.rst_lex.specs.Bytes.{is_space, is_name_byte}
use Rattle.rst_lex.specs.Gaps.{is_in_line, IsWhite, IsLine, EndsAtFirst, IsBlock, begins_with_close, closes_next, IsAttribute, is_skipped_directive, IsGap, white, line, block, attribute, directive}
use Rattle.rst_lex.specs.Tokens.{Begins}
use Rattle.rst_lex.specs.Lexing.{Nowhere}
use Rattle.rst_lex.specs.Fronts.{closes, close_len}
use Rattle.rst_lex.proofs.Shapes.{run_longest, run_fits}

-- ---- the end of a comment

closes_true : (x y a b : ℕ) → closes x y a b ≡ true → (a ≡ x) × (b ≡ y)
closes_true x y a b e = (grind (arith, nat_tests), grind (arith, nat_tests))

closes_same : (x y : ℕ) → closes x y x y ≡ true
closes_same x y = grind (arith, nat_tests)

closes_false : (x y a b : ℕ) → closes x y a b ≡ false → (a ≡ x) × (b ≡ y) → ⊥
closes_false x y a b e g = let f : closes x y a b ≡ true = (λ i. closes x y (g.0 i) (g.1 i)) ∙ closes_same x y in let h = sym e ∙ f in cc

opens_not : (x y a b : ℕ) → ((a ≡ x) × (b ≡ y) → ⊥) → closes x y a b ≡ false
opens_not x y a b n = by_test (closes x y a b) refl
  where
    by_test : (t : Bool) → closes x y a b ≡ t → t ≡ false
    by_test true e = absurd (n (closes_true x y a b e))
    by_test false e = refl

opens_same : (x y a b : ℕ) → (a ≡ x) → (b ≡ y) → closes x y a b ≡ true
opens_same x y a b e f = (λ i. closes x y (e i) (f i)) ∙ closes_same x y

-- the first end is where the bytes end that end at the first
pub ends_len : (x y : ℕ) (bs front behind : List ℕ) → bs ≡ front ++ behind → EndsAtFirst x y front → close_len x y bs ≡ Some (length front)
unfolding close_len
ends_len x y bs [] behind e c = absurd c
ends_len x y bs (a ∷ []) behind e c = absurd c
ends_len x y bs (a ∷ b ∷ front) behind e (inl c) = rw (e, opens_same x y a b c.0 c.1, c.2) refl
ends_len x y bs (a ∷ b ∷ front) behind e (inr c) = rw (e, opens_not x y a b c.0, ends_len x y (b ∷ (front ++ behind)) (b ∷ front) behind refl c.1) refl

ends_step : (x y a b : ℕ) (bs : List ℕ) (m : ℕ) → closes x y a b ≡ false → EndsAtFirst x y (take m (b ∷ bs)) → EndsAtFirst x y (take (suc m) (a ∷ b ∷ bs))
ends_step x y a b bs zero e c = absurd c
ends_step x y a b bs (suc m) e c = inr (closes_false x y a b e, c)

suc_some : (o : Option ℕ) (n : ℕ) → option_map suc o ≡ Some n → (m : ℕ) × (o ≡ Some m) × (n ≡ suc m)
suc_some None n e = absurd cc
suc_some (Some m) n e = (m, refl, cc)

pub ends_fits : (x y : ℕ) (bs : List ℕ) (n : ℕ) → close_len x y bs ≡ Some n → EndsAtFirst x y (take n bs) × (n ≤ length bs)
unfolding close_len
ends_fits x y [] n e = absurd cc
ends_fits x y (a ∷ []) n e = absurd cc
ends_fits x y (a ∷ b ∷ bs) n e = ends_case a b bs n (closes x y a b) refl e (λ m. ends_fits x y (b ∷ bs) m)
  where
    ends_case : (a b : ℕ) (bs : List ℕ) (n : ℕ) (t : Bool) → closes x y a b ≡ t → cond t (Some 2) (option_map suc (close_len x y (b ∷ bs))) ≡ Some n
        → ((m : ℕ) → close_len x y (b ∷ bs) ≡ Some m → EndsAtFirst x y (take m (b ∷ bs)) × (m ≤ length (b ∷ bs)))
        → EndsAtFirst x y (take n (a ∷ b ∷ bs)) × (n ≤ length (a ∷ b ∷ bs))
    ends_case a b bs n true t e again =
        let two : 2 ≡ n = cc in
        let g = closes_true x y a b t in
        subst (λ k. EndsAtFirst x y (take k (a ∷ b ∷ bs)) × (k ≤ length (a ∷ b ∷ bs))) two (inl (g.0, g.1, refl), omega arith)
    ends_case a b bs n false t e again =
        let m = suc_some (close_len x y (b ∷ bs)) n e in
        let c = again m.0 m.1 in
        rw m.2 (ends_step x y a b bs m.0 t c.0, omega (arith, c.1))

-- ---- what gaps begin with

white_head : (a : ℕ) (bs : List ℕ) → IsWhite (a ∷ bs) → (is_space a ≡ true) × (bs ≡ [])
white_head a [] w = (w, refl)
white_head a (b ∷ bs) w = absurd w

line_head : (a : ℕ) (bs : List ℕ) → IsLine (a ∷ bs) → a ≡ 47
line_head a [] l = absurd l
line_head a (c ∷ rest) l = l.0

block_head : (a : ℕ) (bs : List ℕ) → IsBlock (a ∷ bs) → a ≡ 47
block_head a [] l = absurd l
block_head a (c ∷ rest) l = l.0

attribute_head : (a : ℕ) (bs : List ℕ) → IsAttribute (a ∷ bs) → a ≡ 40
attribute_head a [] l = absurd l
attribute_head a (c ∷ rest) l = l.0

pub no_empty_gap : IsGap [] → ⊥
no_empty_gap (white w) = w
no_empty_gap (line l) = l
no_empty_gap (block b) = b
no_empty_gap (attribute t) = t
no_empty_gap (directive d) = d

-- a gap begins with white space, / or ( or a backquote
abbrev pub begins_gap : ℕ → Bool
begins_gap a = is_space a || (a == 47) || (a == 40) || (a == 96)

gap_head : (a : ℕ) (bs : List ℕ) → IsGap (a ∷ bs) → begins_gap a ≡ true
gap_head a bs (white w) = rw (white_head a bs w).0 refl
gap_head a bs (line l) = ap begins_gap (line_head a bs l)
gap_head a bs (block l) = ap begins_gap (block_head a bs l)
gap_head a bs (attribute l) = ap begins_gap (attribute_head a bs l)
gap_head a bs (directive d) = ap begins_gap d.0

pub no_gap : (a : ℕ) (bs : List ℕ) → begins_gap a ≡ false → Nowhere IsGap (a ∷ bs)
no_gap a bs n [] behind e g = no_empty_gap g
no_gap a bs n (x ∷ front) behind e g = let h : a ≡ x = cc in let f = sym n ∙ ap begins_gap h ∙ gap_head x front g in cc

space_no_slash : (a : ℕ) → is_space a ≡ true → a ≡ 47 → ⊥
space_no_slash a s e = let f = ap is_space (sym e) ∙ s in cc

space_no_bracket : (a : ℕ) → is_space a ≡ true → a ≡ 40 → ⊥
space_no_bracket a s e = let f = ap is_space (sym e) ∙ s in cc

space_no_backquote : (a : ℕ) → is_space a ≡ true → a ≡ 96 → ⊥
space_no_backquote a s e = let f = ap is_space (sym e) ∙ s in cc

differ : (a b c : ℕ) → a ≡ b → a ≡ c → (b == c) ≡ false → ⊥
differ a b c e f n = grind (arith, nat_tests)

-- ---- white space

white_longest : (a : ℕ) (bs front behind : List ℕ) → is_space a ≡ true → a ∷ bs ≡ front ++ behind → IsGap front → length front ≤ 1
white_longest a bs [] behind s e g = omega arith
white_longest a bs (x ∷ front) behind s e (white w) = let h = (white_head x front w).1 in omega (arith, ap length h)
white_longest a bs (x ∷ front) behind s e (line l) = let h : a ≡ x = cc in absurd (space_no_slash a s (h ∙ line_head x front l))
white_longest a bs (x ∷ front) behind s e (block l) = let h : a ≡ x = cc in absurd (space_no_slash a s (h ∙ block_head x front l))
white_longest a bs (x ∷ front) behind s e (attribute l) = let h : a ≡ x = cc in absurd (space_no_bracket a s (h ∙ attribute_head x front l))
white_longest a bs (x ∷ front) behind s e (directive d) = let h : a ≡ x = cc in absurd (space_no_backquote a s (h ∙ d.0))

-- a gap of so many bytes begins the text
abbrev pub GapOf : ℕ → List ℕ → Type 0
GapOf n text = (bs : List ℕ) × (rest : List ℕ) × Begins IsGap text bs rest × (length bs ≡ n)

pub white_gap : (a : ℕ) (bs : List ℕ) → is_space a ≡ true → GapOf 1 (a ∷ bs)
white_gap a bs s = (a ∷ [], bs, record { parts = refl; fits = white s; longest = λ front behind e g. white_longest a bs front behind s e g }, refl)

-- ---- what begins with /

slash_gap : (a : ℕ) (bs front behind : List ℕ) → a ≡ 47 → a ∷ bs ≡ front ++ behind → IsGap front → IsLine front ⊎ IsBlock front
slash_gap a bs [] behind s e g = absurd (no_empty_gap g)
slash_gap a bs (x ∷ front) behind s e (white w) = let h : x ≡ a = cc in absurd (space_no_slash x (white_head x front w).0 (h ∙ s))
slash_gap a bs (x ∷ front) behind s e (line l) = inl l
slash_gap a bs (x ∷ front) behind s e (block l) = inr l
slash_gap a bs (x ∷ front) behind s e (attribute l) = let h : x ≡ a = cc in absurd (differ x 47 40 (h ∙ s) (attribute_head x front l) refl)
slash_gap a bs (x ∷ front) behind s e (directive d) = let h : x ≡ a = cc in absurd (differ x 47 96 (h ∙ s) d.0 refl)

line_len : (b : ℕ) (bs front behind : List ℕ) → b ≡ 47 → 47 ∷ b ∷ bs ≡ front ++ behind → IsLine front ⊎ IsBlock front → length front ≤ 2 + prefix_len is_in_line bs
line_len b bs [] behind s e g = omega arith
line_len b bs (x ∷ []) behind s e g = omega arith
line_len b bs (x ∷ y ∷ front) behind s e (inl l) = let h : bs ≡ front ++ behind = cc in omega (arith, run_longest is_in_line bs front behind h l.2)
line_len b bs (x ∷ y ∷ front) behind s e (inr l) = let h : y ≡ b = cc in absurd (differ y 47 42 (h ∙ s) l.1 refl)

pub line_gap : (bs : List ℕ) → GapOf (2 + prefix_len is_in_line bs) (47 ∷ 47 ∷ bs)
line_gap bs =
    let n = prefix_len is_in_line bs in
    let size = length-prefix_len is_in_line bs in
    let len : length (47 ∷ 47 ∷ take n bs) ≡ 2 + n = omega arith in (
      47 ∷ 47 ∷ take n bs,
      drop n bs,
      record {
        parts = ap (λ t. 47 ∷ 47 ∷ t) (sym (take-append-drop n bs));
        fits = line (refl, refl, run_fits is_in_line bs);
        longest = λ front behind e g. omega (arith, len, line_len 47 bs front behind refl e (slash_gap 47 (47 ∷ bs) front behind refl e g));
      },
      len,
    )

block_len : (b : ℕ) (bs front behind : List ℕ) (n : ℕ) → b ≡ 42 → close_len 42 47 bs ≡ Some n → 47 ∷ b ∷ bs ≡ front ++ behind → IsLine front ⊎ IsBlock front → length front ≤ 2 + n
block_len b bs [] behind n s c e g = omega arith
block_len b bs (x ∷ []) behind n s c e g = omega arith
block_len b bs (x ∷ y ∷ front) behind n s c e (inl l) = let h : y ≡ b = cc in absurd (differ y 42 47 (h ∙ s) l.1 refl)
block_len b bs (x ∷ y ∷ front) behind n s c e (inr l) =
    let h : bs ≡ front ++ behind = cc in
    let k = sym c ∙ ends_len 42 47 bs front behind h l.2 in
    let same : n ≡ length front = cc in
    omega arith

pub block_gap : (bs : List ℕ) (n : ℕ) → close_len 42 47 bs ≡ Some n → (front : List ℕ) × (rest : List ℕ) × Begins IsGap (47 ∷ 42 ∷ bs) front rest × (length front ≡ 2 + n) × IsBlock front
block_gap bs n e =
    let c = ends_fits 42 47 bs n e in
    let size = length-take-le n bs c.1 in
    let len : length (47 ∷ 42 ∷ take n bs) ≡ 2 + n = omega arith in (
      47 ∷ 42 ∷ take n bs,
      drop n bs,
      record {
        parts = ap (λ t. 47 ∷ 42 ∷ t) (sym (take-append-drop n bs));
        fits = block (refl, refl, c.0);
        longest = λ front behind p g. omega (arith, len, block_len 42 bs front behind n refl e p (slash_gap 47 (42 ∷ bs) front behind refl p g));
      },
      len,
      (refl, refl, c.0),
    )

pub no_block : (bs : List ℕ) → close_len 42 47 bs ≡ None → Nowhere IsBlock (47 ∷ 42 ∷ bs)
no_block bs n [] behind e b = b
no_block bs n (x ∷ []) behind e b = b
no_block bs n (x ∷ y ∷ front) behind e b = let h : bs ≡ front ++ behind = cc in let k = sym n ∙ ends_len 42 47 bs front behind h b.2 in cc

no_slash_gap : (bs front : List ℕ) (behind : List ℕ) → ((c : ℕ) (cs : List ℕ) → bs ≡ c ∷ cs → (c ≡ 47) ⊎ (c ≡ 42) → ⊥) → 47 ∷ bs ≡ front ++ behind → IsLine front ⊎ IsBlock front → ⊥
no_slash_gap bs [] behind n e (inl l) = l
no_slash_gap bs [] behind n e (inr l) = l
no_slash_gap bs (x ∷ []) behind n e (inl l) = l
no_slash_gap bs (x ∷ []) behind n e (inr l) = l
no_slash_gap bs (x ∷ y ∷ front) behind n e (inl l) = let h : bs ≡ y ∷ (front ++ behind) = cc in n y (front ++ behind) h (inl l.1)
no_slash_gap bs (x ∷ y ∷ front) behind n e (inr l) = let h : bs ≡ y ∷ (front ++ behind) = cc in n y (front ++ behind) h (inr l.1)

pub slash_alone : (bs : List ℕ) → ((c : ℕ) (cs : List ℕ) → bs ≡ c ∷ cs → (c ≡ 47) ⊎ (c ≡ 42) → ⊥) → Nowhere IsGap (47 ∷ bs)
slash_alone bs n front behind e g = no_slash_gap bs front behind n e (slash_gap 47 bs front behind refl e g)

-- ---- what begins with (

bracket_gap : (a : ℕ) (bs front behind : List ℕ) → a ≡ 40 → a ∷ bs ≡ front ++ behind → IsGap front → IsAttribute front
bracket_gap a bs [] behind s e g = absurd (no_empty_gap g)
bracket_gap a bs (x ∷ front) behind s e (white w) = let h : x ≡ a = cc in absurd (space_no_bracket x (white_head x front w).0 (h ∙ s))
bracket_gap a bs (x ∷ front) behind s e (line l) = let h : x ≡ a = cc in absurd (differ x 40 47 (h ∙ s) (line_head x front l) refl)
bracket_gap a bs (x ∷ front) behind s e (block l) = let h : x ≡ a = cc in absurd (differ x 40 47 (h ∙ s) (block_head x front l) refl)
bracket_gap a bs (x ∷ front) behind s e (attribute l) = l
bracket_gap a bs (x ∷ front) behind s e (directive d) = let h : x ≡ a = cc in absurd (differ x 40 96 (h ∙ s) d.0 refl)

next_space : (b : ℕ) (bs : List ℕ) → is_space b ≡ true → closes_next (b ∷ bs) ≡ closes_next bs
next_space b bs s =
    let n = prefix_len is_space bs in
    let count : 1 + n ≡ suc n = omega arith in
    ap (λ t. begins_with_close (drop (cond t (1 + n) 0) (b ∷ bs))) s ∙ ap (λ k. begins_with_close (drop k (b ∷ bs))) count

next_other : (b : ℕ) (bs : List ℕ) → is_space b ≡ false → closes_next (b ∷ bs) ≡ (b == 41)
next_other b bs s = ap (λ t. begins_with_close (drop (cond t (1 + prefix_len is_space bs) 0) (b ∷ bs))) s

star_no_space : (b : ℕ) → b ≡ 42 → is_space b ≡ false
star_no_space b e = ap is_space e

-- what stands next is the same in an attribute and in the text that it begins
next_same : (bs behind : List ℕ) → EndsAtFirst 42 41 bs → closes_next (bs ++ behind) ≡ closes_next bs
next_same [] behind c = absurd c
next_same (a ∷ []) behind c = absurd c
next_same (a ∷ b ∷ bs) behind (inl c) = next_other a (b ∷ (bs ++ behind)) (star_no_space a c.0) ∙ sym (next_other a (b ∷ bs) (star_no_space a c.0))
next_same (a ∷ b ∷ bs) behind (inr c) = by_test (is_space a) refl (next_same (b ∷ bs) behind c.1)
  where
    by_test : (t : Bool) → is_space a ≡ t → closes_next (b ∷ (bs ++ behind)) ≡ closes_next (b ∷ bs) → closes_next (a ∷ b ∷ (bs ++ behind)) ≡ closes_next (a ∷ b ∷ bs)
    by_test true s again = next_space a (b ∷ (bs ++ behind)) s ∙ again ∙ sym (next_space a (b ∷ bs) s)
    by_test false s again = next_other a (b ∷ (bs ++ behind)) s ∙ sym (next_other a (b ∷ bs) s)

attribute_len : (bs front behind : List ℕ) (n : ℕ) → close_len 42 41 bs ≡ Some n → 40 ∷ 42 ∷ bs ≡ front ++ behind → IsAttribute front → length front ≤ 2 + n
attribute_len bs [] behind n c e l = omega arith
attribute_len bs (x ∷ []) behind n c e l = omega arith
attribute_len bs (x ∷ y ∷ front) behind n c e l =
    let h : bs ≡ front ++ behind = cc in
    let k = sym c ∙ ends_len 42 41 bs front behind h l.3 in
    let same : n ≡ length front = cc in
    omega arith

pub attribute_gap : (bs : List ℕ) (n : ℕ) → closes_next bs ≡ false → close_len 42 41 bs ≡ Some n → (front : List ℕ) × (rest : List ℕ) × Begins IsGap (40 ∷ 42 ∷ bs) front rest × (length front ≡ 2 + n) × IsAttribute front
attribute_gap bs n o e =
    let c = ends_fits 42 41 bs n e in
    let size = length-take-le n bs c.1 in
    let next : closes_next (take n bs) ≡ false = sym (next_same (take n bs) (drop n bs) c.0) ∙ ap closes_next (take-append-drop n bs) ∙ o in
    let len : length (40 ∷ 42 ∷ take n bs) ≡ 2 + n = omega arith in (
      40 ∷ 42 ∷ take n bs,
      drop n bs,
      record {
        parts = ap (λ t. 40 ∷ 42 ∷ t) (sym (take-append-drop n bs));
        fits = attribute (refl, refl, next, c.0);
        longest = λ front behind p g. omega (arith, len, attribute_len bs front behind n e p (bracket_gap 40 (42 ∷ bs) front behind refl p g));
      },
      len,
      (refl, refl, next, c.0),
    )

-- no attribute begins where no * follows, or where ) stands next
pub bracket_alone : (bs : List ℕ) → ((c : ℕ) (cs : List ℕ) → bs ≡ c ∷ cs → c ≡ 42 → closes_next cs ≡ false → ⊥) → Nowhere IsGap (40 ∷ bs)
bracket_alone bs n front behind e g = none front behind e (bracket_gap 40 bs front behind refl e g)
  where
    none : (front behind : List ℕ) → 40 ∷ bs ≡ front ++ behind → IsAttribute front → ⊥
    none [] behind e l = l
    none (x ∷ []) behind e l = l
    none (x ∷ y ∷ front) behind e l = let h : bs ≡ y ∷ (front ++ behind) = cc in n y (front ++ behind) h l.1 (next_same front behind l.3 ∙ l.2)

pub no_attribute : (bs : List ℕ) → close_len 42 41 bs ≡ None → Nowhere IsAttribute (40 ∷ 42 ∷ bs)
no_attribute bs n [] behind e b = b
no_attribute bs n (x ∷ []) behind e b = b
no_attribute bs n (x ∷ y ∷ front) behind e b = let h : bs ≡ front ++ behind = cc in let k = sym n ∙ ends_len 42 41 bs front behind h b.3 in cc

-- ---- what begins with a backquote

directive_len : (a : ℕ) (bs front behind : List ℕ) → a ≡ 96 → a ∷ bs ≡ front ++ behind → IsGap front → length front ≤ 1 + prefix_len is_in_line bs
directive_len a bs [] behind s e g = omega arith
directive_len a bs (x ∷ front) behind s e (white w) = let h : x ≡ a = cc in absurd (space_no_backquote x (white_head x front w).0 (h ∙ s))
directive_len a bs (x ∷ front) behind s e (line l) = let h : x ≡ a = cc in absurd (differ x 96 47 (h ∙ s) (line_head x front l) refl)
directive_len a bs (x ∷ front) behind s e (block l) = let h : x ≡ a = cc in absurd (differ x 96 47 (h ∙ s) (block_head x front l) refl)
directive_len a bs (x ∷ front) behind s e (attribute l) = let h : x ≡ a = cc in absurd (differ x 96 40 (h ∙ s) (attribute_head x front l) refl)
directive_len a bs (x ∷ front) behind s e (directive d) = let h : bs ≡ front ++ behind = cc in omega (arith, run_longest is_in_line bs front behind h d.2)

name_in_line : (b : ℕ) → is_in_line b ≡ false → is_name_byte b ≡ true → ⊥
name_in_line b l n = grind (arith, nat_tests)

word_step : (b : ℕ) (bs : List ℕ) (t : Bool) → is_name_byte b ≡ t → take_while is_name_byte (b ∷ bs) ≡ cond t (b ∷ take_while is_name_byte bs) []
word_step b bs true e = let n : 1 + prefix_len is_name_byte bs ≡ suc (prefix_len is_name_byte bs) = omega arith in
    ap (λ t. take (cond t (1 + prefix_len is_name_byte bs) 0) (b ∷ bs)) e ∙ ap (λ k. take k (b ∷ bs)) n
word_step b bs false e = ap (λ t. take (cond t (1 + prefix_len is_name_byte bs) 0) (b ∷ bs)) e

-- the word at the front of a line is the word at the front of the text
word_of_line : (bs : List ℕ) → take_while is_name_byte (take (prefix_len is_in_line bs) bs) ≡ take_while is_name_byte bs
word_of_line [] = refl
word_of_line (b ∷ bs) = by_line (is_in_line b) refl (word_of_line bs)
  where
    outside : (t : Bool) → is_name_byte b ≡ t → is_in_line b ≡ false → [] ≡ take_while is_name_byte (b ∷ bs)
    outside true n l = absurd (name_in_line b l n)
    outside false n l = sym (word_step b bs false n)

    within : (t : Bool) → is_name_byte b ≡ t → take_while is_name_byte (take (prefix_len is_in_line bs) bs) ≡ take_while is_name_byte bs → take_while is_name_byte (b ∷ take (prefix_len is_in_line bs) bs) ≡ take_while is_name_byte (b ∷ bs)
    within true n again = word_step b (take (prefix_len is_in_line bs) bs) true n ∙ ap (λ w. b ∷ w) again ∙ sym (word_step b bs true n)
    within false n again = word_step b (take (prefix_len is_in_line bs) bs) false n ∙ sym (word_step b bs false n)

    by_line : (t : Bool) → is_in_line b ≡ t → take_while is_name_byte (take (prefix_len is_in_line bs) bs) ≡ take_while is_name_byte bs → take_while is_name_byte (take (cond t (1 + prefix_len is_in_line bs) 0) (b ∷ bs)) ≡ take_while is_name_byte (b ∷ bs)
    by_line true l again =
        let n : 1 + prefix_len is_in_line bs ≡ suc (prefix_len is_in_line bs) = omega arith in
        ap (λ k. take_while is_name_byte (take k (b ∷ bs))) n ∙ within (is_name_byte b) refl again
    by_line false l again = outside (is_name_byte b) refl l

skipped_line : (bs : List ℕ) → is_skipped_directive bs ≡ true → is_skipped_directive (take (prefix_len is_in_line bs) bs) ≡ true
skipped_line bs s = ap (λ w. bytes_eq w (codes "timescale") || bytes_eq w (codes "default_nettype")) (word_of_line bs) ∙ s

pub directive_gap : (bs : List ℕ) → is_skipped_directive bs ≡ true → GapOf (1 + prefix_len is_in_line bs) (96 ∷ bs)
directive_gap bs s =
    let n = prefix_len is_in_line bs in
    let size = length-prefix_len is_in_line bs in
    let len : length (96 ∷ take n bs) ≡ 1 + n = omega arith in (
      96 ∷ take n bs,
      drop n bs,
      record {
        parts = ap (λ t. 96 ∷ t) (sym (take-append-drop n bs));
        fits = directive (refl, skipped_line bs s, run_fits is_in_line bs);
        longest = λ front behind e g. omega (arith, len, directive_len 96 bs front behind refl e g);
      },
      len,
    )
