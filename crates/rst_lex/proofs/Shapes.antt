-- What tokens begin with, and how far they reach.
use Rattle.std.proofs.Common.{zero, ◌≡◌, ℕ, suc, ◌+◌, ◌<◌, ◌≤◌, Bool, true, false, cond, List, [], ◌∷◌, ◌++◌, length, take, drop, inl, inr, ◌⊎◌, refl, sym, ap, subst, ◌∙◌, arith, take-append-drop}
use Rattle.std.specs.List.{prefix_len, list_all}
use Rattle.std.proofs.lemmas.List.Folds.{length-prefix_len}
use Rattle.std.proofs.lemmas.List.{length-take-le}
use Rattle.std.proofs.lemmas.Bool.Decides.{nat_tests}
use Rattle.std.proofs.lemmas.Bool.{and_parts}
use Rattle.rst_lex.specs.Bytes.{is_space, is_digit, is_name_start, is_name_byte, EachByte}
use Rattle.rst_lex.specs.Words.{IsIdentifier}
use Rattle.rst_lex.specs.Marks.{IsMark}
use Rattle.rst_lex.specs.MarkFronts.{is_mark, is_mark_of_two, is_mark_of_three, mark_len}
use Rattle.rst_lex.specs.Numbers.{IsSize, Based, IsBased}
use Rattle.rst_lex.specs.Tokens.{IsSystem, IsToken, identifier, system, decimal, based, mark, Begins}
use Rattle.rst_lex.proofs.MarkShapes.{MarkShape, mark_shape, shape_mark, no_mark}

-- ---- runs

pub each_byte : (p : ℕ → Bool) (bs : List ℕ) → list_all p bs ≡ true → EachByte p bs
each_byte p [] e = tt
each_byte p (b ∷ bs) e = let h = and_parts (p b) (list_all p bs) e in (h.0, each_byte p bs h.1)

pub all_bytes : (p : ℕ → Bool) (bs : List ℕ) → EachByte p bs → list_all p bs ≡ true
all_bytes p [] e = refl
all_bytes p (b ∷ bs) e = rw e.0 (all_bytes p bs e.1)

pub run_longest : (p : ℕ → Bool) (bs front behind : List ℕ) → bs ≡ front ++ behind → EachByte p front → length front ≤ prefix_len p bs
run_longest p bs [] behind e all = omega arith
run_longest p [] (c ∷ front) behind e all = absurd cc
run_longest p (b ∷ bs) (c ∷ front) behind e all =
    let head : b ≡ c = cc in
    let tail : bs ≡ front ++ behind = cc in
    let passes : p b ≡ true = ap p head ∙ all.0 in
    let rest = run_longest p bs front behind tail all.1 in
    rw passes (omega arith)

run_head : (p : ℕ → Bool) (b : ℕ) (bs : List ℕ) (t : Bool) → p b ≡ t → EachByte p (take (prefix_len p bs) bs) → EachByte p (take (cond t (1 + prefix_len p bs) 0) (b ∷ bs))
run_head p b bs true e rest = let n : suc (prefix_len p bs) ≡ 1 + prefix_len p bs = omega arith in subst (λ k. EachByte p (take k (b ∷ bs))) n (e, rest)
run_head p b bs false e rest = tt

pub run_fits : (p : ℕ → Bool) (bs : List ℕ) → EachByte p (take (prefix_len p bs) bs)
run_fits p [] = tt
run_fits p (b ∷ bs) = run_head p b bs (p b) refl (run_fits p bs)

-- ---- what tokens begin with

pub identifier_head : (a : ℕ) (bs : List ℕ) → IsIdentifier (a ∷ bs) → is_name_start a ≡ true
identifier_head a bs i = (and_parts (is_name_start a) (list_all is_name_byte bs) i).0

pub identifier_rest : (a : ℕ) (bs : List ℕ) → IsIdentifier (a ∷ bs) → EachByte is_name_byte bs
identifier_rest a bs i = each_byte is_name_byte bs (and_parts (is_name_start a) (list_all is_name_byte bs) i).1

pub make_identifier : (a : ℕ) (bs : List ℕ) → is_name_start a ≡ true → EachByte is_name_byte bs → IsIdentifier (a ∷ bs)
make_identifier a bs s e = rw s (all_bytes is_name_byte bs e)

pub system_head : (a : ℕ) (bs : List ℕ) → IsSystem (a ∷ bs) → a ≡ 36
system_head a [] s = absurd s
system_head a (b ∷ bs) s = s.0

two_head : (a b : ℕ) → is_mark_of_two a b ≡ true → is_mark a ≡ true
two_head a b m = grind (arith, nat_tests)

three_head : (a b c : ℕ) → is_mark_of_three a b c ≡ true → is_mark a ≡ true
three_head a b c m = grind (arith, nat_tests)

shape_head : (a : ℕ) (bs : List ℕ) → MarkShape (a ∷ bs) → is_mark a ≡ true
shape_head a [] m = m
shape_head a (b ∷ []) m = two_head a b m
shape_head a (b ∷ c ∷ []) m = three_head a b c m
shape_head a (b ∷ c ∷ d ∷ bs) m = absurd m

pub mark_head : (a : ℕ) (bs : List ℕ) → IsMark (a ∷ bs) → is_mark a ≡ true
mark_head a bs m = shape_head a bs (mark_shape (a ∷ bs) m)

-- a based literal begins with a digit or '
pub parts_head : (a : ℕ) (bs size gap more : List ℕ) → a ∷ bs ≡ size ++ (gap ++ 39 ∷ more) → IsSize size gap → (is_digit a ≡ true) ⊎ (a ≡ 39)
parts_head a bs [] gap more e s =
    let whole : a ∷ bs ≡ 39 ∷ more = e ∙ ap (λ g. g ++ 39 ∷ more) s in
    inr cc
parts_head a bs (b ∷ size) gap more e s = let head : a ≡ b = cc in inl (ap is_digit head ∙ s.0.0)

pub based_head : (a : ℕ) (bs : List ℕ) (b : Based) → IsBased (a ∷ bs) b → (is_digit a ≡ true) ⊎ (a ≡ 39)
based_head a bs b i = parts_head a bs b.size b.gap _ i.text i.sized

pub digit_no_name : (a : ℕ) → is_name_start a ≡ true → is_digit a ≡ true → ⊥
digit_no_name a n m = grind (arith, nat_tests)

pub mark_no_name : (a : ℕ) → is_name_start a ≡ true → is_mark a ≡ true → ⊥
mark_no_name a n m = grind (arith, nat_tests)

pub mark_no_digit : (a : ℕ) → is_mark a ≡ true → is_digit a ≡ true → ⊥
mark_no_digit a n m = grind (arith, nat_tests)

pub quote_no_name : (a : ℕ) → is_name_start a ≡ true → a ≡ 39 → ⊥
quote_no_name a n e = let f = ap is_name_start (sym e) ∙ n in cc

pub quote_no_mark : (a : ℕ) → is_mark a ≡ true → a ≡ 39 → ⊥
quote_no_mark a n e = let f = ap is_mark (sym e) ∙ n in cc

pub dollar_no_name : (a : ℕ) → is_name_start a ≡ true → a ≡ 36 → ⊥
dollar_no_name a n e = let f = ap is_name_start (sym e) ∙ n in cc

pub dollar_no_mark : (a : ℕ) → is_mark a ≡ true → a ≡ 36 → ⊥
dollar_no_mark a n e = let f = ap is_mark (sym e) ∙ n in cc

space_no_name : (a : ℕ) → is_space a ≡ true → is_name_start a ≡ true → ⊥
space_no_name a s n = grind (arith, nat_tests)

space_no_digit : (a : ℕ) → is_space a ≡ true → is_digit a ≡ true → ⊥
space_no_digit a s n = grind (arith, nat_tests)

space_no_mark : (a : ℕ) → is_space a ≡ true → is_mark a ≡ true → ⊥
space_no_mark a s n = grind (arith, nat_tests)

-- no token begins with white space
pub token_no_space : (a : ℕ) (bs : List ℕ) → IsToken (a ∷ bs) → is_space a ≡ true → ⊥
token_no_space a bs (identifier i) s = space_no_name a s (identifier_head a bs i)
token_no_space a bs (system y) s = let f = ap is_space (sym (system_head a bs y)) ∙ s in cc
token_no_space a bs (decimal d) s = space_no_digit a s d.0
token_no_space a bs (based b i) s = elim (based_head a bs b i) [ inl d ↦ space_no_digit a s d | inr q ↦ (let f = ap is_space (sym q) ∙ s in cc) ]
token_no_space a bs (mark m) s = space_no_mark a s (mark_head a bs m)

pub no_based : (b : Based) → IsBased [] b → ⊥
no_based b i = empty b.size b.gap _ i.text i.sized
  where
    empty : (size gap more : List ℕ) → [] ≡ size ++ (gap ++ 39 ∷ more) → IsSize size gap → ⊥
    empty [] [] more e s = cc
    empty [] (g ∷ gap) more e s = cc
    empty (b ∷ size) gap more e s = cc

-- a token has a byte at least
pub no_empty_token : IsToken [] → ⊥
no_empty_token (identifier i) = cc
no_empty_token (system y) = y
no_empty_token (decimal d) = d
no_empty_token (based b i) = no_based b i
no_empty_token (mark m) = no_mark m

-- ---- marks

one_of_two : (t : Bool) → 1 ≤ cond t 2 1
one_of_two true = omega arith
one_of_two false = omega arith

one_of_three : (s t : Bool) → 1 ≤ cond s 3 (cond t 2 1)
one_of_three true t = omega arith
one_of_three false true = omega arith
one_of_three false false = omega arith

two_of_three : (s : Bool) → 2 ≤ cond s 3 2
two_of_three true = omega arith
two_of_three false = omega arith

fit1 : (x : ℕ) (u : Bool) → is_mark x ≡ u → 0 < cond u 1 0 → MarkShape (take (cond u 1 0) (x ∷ []))
fit1 x true e lt = e
fit1 x false e lt = absurd (omega arith)

fit2 : (x y : ℕ) (t u : Bool) → is_mark_of_two x y ≡ t → is_mark x ≡ u → 0 < cond t 2 (cond u 1 0) → MarkShape (take (cond t 2 (cond u 1 0)) (x ∷ y ∷ []))
fit2 x y true u e f lt = e
fit2 x y false true e f lt = f
fit2 x y false false e f lt = absurd (omega arith)

fit3 : (x y z : ℕ) (text : List ℕ) (s t u : Bool) → is_mark_of_three x y z ≡ s → is_mark_of_two x y ≡ t → is_mark x ≡ u → 0 < cond s 3 (cond t 2 (cond u 1 0)) → MarkShape (take (cond s 3 (cond t 2 (cond u 1 0))) (x ∷ y ∷ z ∷ text))
fit3 x y z text true t u d e f lt = d
fit3 x y z text false true u d e f lt = e
fit3 x y z text false false true d e f lt = f
fit3 x y z text false false false d e f lt = absurd (omega arith)

shape_longest : (text front behind : List ℕ) → text ≡ front ++ behind → MarkShape front → length front ≤ mark_len text
shape_longest text [] behind e m = absurd m
shape_longest [] (a ∷ front) behind e m = absurd cc
shape_longest (x ∷ []) (a ∷ []) behind e m = let h : x ≡ a = cc in rw (ap is_mark h ∙ m) (omega arith)
shape_longest (x ∷ []) (a ∷ b ∷ front) behind e m = absurd cc
shape_longest (x ∷ y ∷ []) (a ∷ []) behind e m = let h : x ≡ a = cc in rw (ap is_mark h ∙ m) (one_of_two (is_mark_of_two x y))
shape_longest (x ∷ y ∷ []) (a ∷ b ∷ []) behind e m =
    let h : x ≡ a = cc in
    let g : y ≡ b = cc in
    rw ((λ i. is_mark_of_two (h i) (g i)) ∙ m) (omega arith)
shape_longest (x ∷ y ∷ []) (a ∷ b ∷ c ∷ front) behind e m = absurd cc
shape_longest (x ∷ y ∷ z ∷ text) (a ∷ []) behind e m = let h : x ≡ a = cc in rw (ap is_mark h ∙ m) (one_of_three (is_mark_of_three x y z) (is_mark_of_two x y))
shape_longest (x ∷ y ∷ z ∷ text) (a ∷ b ∷ []) behind e m =
    let h : x ≡ a = cc in
    let g : y ≡ b = cc in
    rw ((λ i. is_mark_of_two (h i) (g i)) ∙ m) (two_of_three (is_mark_of_three x y z))
shape_longest (x ∷ y ∷ z ∷ text) (a ∷ b ∷ c ∷ []) behind e m =
    let h : x ≡ a = cc in
    let g : y ≡ b = cc in
    let f : z ≡ c = cc in
    rw ((λ i. is_mark_of_three (h i) (g i) (f i)) ∙ m) (omega arith)
shape_longest (x ∷ y ∷ z ∷ text) (a ∷ b ∷ c ∷ d ∷ front) behind e m = absurd m

pub mark_longest : (text front behind : List ℕ) → text ≡ front ++ behind → IsMark front → length front ≤ mark_len text
mark_longest text front behind e m = shape_longest text front behind e (mark_shape front m)

shape_fits : (text : List ℕ) → 0 < mark_len text → MarkShape (take (mark_len text) text)
shape_fits [] lt = absurd (omega arith)
shape_fits (x ∷ []) lt = fit1 x (is_mark x) refl lt
shape_fits (x ∷ y ∷ []) lt = fit2 x y (is_mark_of_two x y) (is_mark x) refl refl lt
shape_fits (x ∷ y ∷ z ∷ text) lt = fit3 x y z text (is_mark_of_three x y z) (is_mark_of_two x y) (is_mark x) refl refl refl lt

pub mark_fits : (text : List ℕ) → 0 < mark_len text → IsMark (take (mark_len text) text)
mark_fits text lt = shape_mark (take (mark_len text) text) (shape_fits text lt)

len1 : (u : Bool) → cond u 1 0 ≤ 1
len1 true = omega arith
len1 false = omega arith

len2 : (t u : Bool) → cond t 2 (cond u 1 0) ≤ 2
len2 true u = omega arith
len2 false u = omega (arith, len1 u)

len3 : (s t u : Bool) → cond s 3 (cond t 2 (cond u 1 0)) ≤ 3
len3 true t u = omega arith
len3 false t u = omega (arith, len2 t u)

pub mark_len-le : (text : List ℕ) → mark_len text ≤ length text
mark_len-le [] = omega arith
mark_len-le (x ∷ []) = len1 (is_mark x)
mark_len-le (x ∷ y ∷ []) = len2 (is_mark_of_two x y) (is_mark x)
mark_len-le (x ∷ y ∷ z ∷ text) = omega (arith, len3 (is_mark_of_three x y z) (is_mark_of_two x y) (is_mark x))

-- ---- longest

-- two fronts of one length are one
pub same_front : (bs cs rest more : List ℕ) → bs ++ rest ≡ cs ++ more → length bs ≡ length cs → (bs ≡ cs) × (rest ≡ more)
same_front [] [] rest more e l = (refl, e)
same_front [] (c ∷ cs) rest more e l = absurd (omega arith)
same_front (b ∷ bs) [] rest more e l = absurd (omega arith)
same_front (b ∷ bs) (c ∷ cs) rest more e l =
    let tail : bs ++ rest ≡ cs ++ more = cc in
    let head : b ≡ c = cc in
    let len : length bs ≡ length cs = omega arith in
    let s = same_front bs cs rest more tail len in
    ((λ i. head i ∷ s.0 i), s.1)

pub same_begins : (Kind : List ℕ → Type 0) (text bs cs rest more : List ℕ) → Begins Kind text bs rest → Begins Kind text cs more → (bs ≡ cs) × (rest ≡ more)
same_begins Kind text bs cs rest more p q = same_front bs cs rest more (sym p.parts ∙ q.parts) (omega (arith, p.longest cs more q.parts q.fits, q.longest bs rest p.parts p.fits))

identifier_longest : (a : ℕ) (bs front behind : List ℕ) → is_name_start a ≡ true → a ∷ bs ≡ front ++ behind → IsToken front → length front ≤ 1 + prefix_len is_name_byte bs
identifier_longest a bs [] behind n e t = omega arith
identifier_longest a bs (x ∷ front) behind n e (identifier i) = let h : bs ≡ front ++ behind = cc in omega (arith, run_longest is_name_byte bs front behind h (identifier_rest x front i))
identifier_longest a bs (x ∷ front) behind n e (system y) = let h : a ≡ x = cc in absurd (dollar_no_name a n (h ∙ system_head x front y))
identifier_longest a bs (x ∷ front) behind n e (decimal d) = let h : a ≡ x = cc in absurd (digit_no_name a n (ap is_digit h ∙ d.0))
identifier_longest a bs (x ∷ front) behind n e (based b i) =
    let h : a ≡ x = cc in
    absurd (elim (based_head x front b i) [ inl d ↦ digit_no_name a n (ap is_digit h ∙ d) | inr q ↦ quote_no_name a n (h ∙ q) ])
identifier_longest a bs (x ∷ front) behind n e (mark m) = let h : a ≡ x = cc in absurd (mark_no_name a n (ap is_mark h ∙ mark_head x front m))

-- where an identifier begins, it is the token
pub begins_identifier : (a : ℕ) (bs : List ℕ) → is_name_start a ≡ true → let k = prefix_len is_name_byte bs in
    Begins IsToken (a ∷ bs) (a ∷ take k bs) (drop k bs) × IsIdentifier (a ∷ take k bs) × (length (a ∷ take k bs) ≡ 1 + k)
begins_identifier a bs n =
    let k = prefix_len is_name_byte bs in
    let size = length-prefix_len is_name_byte bs in
    let len : length (a ∷ take k bs) ≡ 1 + k = omega arith in
    let fits = make_identifier a (take k bs) n (run_fits is_name_byte bs) in (
      record {
        parts = ap (λ t. a ∷ t) (sym (take-append-drop k bs));
        fits = identifier fits;
        longest = λ front behind p t. omega (arith, identifier_longest a bs front behind n p t);
      },
      fits,
      len,
    )

-- where a mark begins, the longest mark is the token
other_longest : (a : ℕ) (bs front behind : List ℕ) → is_mark a ≡ true → a ∷ bs ≡ front ++ behind → IsToken front → length front ≤ mark_len (a ∷ bs)
other_longest a bs [] behind m e t = absurd (no_empty_token t)
other_longest a bs (x ∷ front) behind m e (identifier i) = let h : a ≡ x = cc in absurd (mark_no_name x (identifier_head x front i) (sym (ap is_mark h) ∙ m))
other_longest a bs (x ∷ front) behind m e (system y) = let h : a ≡ x = cc in absurd (dollar_no_mark a m (h ∙ system_head x front y))
other_longest a bs (x ∷ front) behind m e (decimal d) = let h : a ≡ x = cc in absurd (mark_no_digit a m (ap is_digit h ∙ d.0))
other_longest a bs (x ∷ front) behind m e (based b i) =
    let h : a ≡ x = cc in
    absurd (elim (based_head x front b i) [ inl d ↦ mark_no_digit a m (ap is_digit h ∙ d) | inr q ↦ quote_no_mark a m (h ∙ q) ])
other_longest a bs (x ∷ front) behind m e (mark n) = mark_longest (a ∷ bs) (x ∷ front) behind e n

some_mark : (text : List ℕ) → 0 < length text → MarkShape (take 1 text) → 0 < mark_len text
some_mark [] lt m = absurd (omega arith)
some_mark (x ∷ text) lt m = omega (arith, shape_longest (x ∷ text) (x ∷ []) text refl m)

pub begins_mark : (a : ℕ) (bs : List ℕ) → is_mark a ≡ true → let k = mark_len (a ∷ bs) in
    Begins IsToken (a ∷ bs) (take k (a ∷ bs)) (drop k (a ∷ bs)) × IsMark (take k (a ∷ bs)) × (length (take k (a ∷ bs)) ≡ k)
begins_mark a bs m =
    let text = a ∷ bs in
    let k = mark_len text in
    let fits = mark_fits text (some_mark text (omega arith) m) in
    let len = length-take-le k text (mark_len-le text) in (
      record {
        parts = sym (take-append-drop k text);
        fits = mark fits;
        longest = λ front behind p t. rw len (other_longest a bs front behind m p t);
      },
      fits,
      len,
    )

-- no mark begins with a byte that is none
pub empty_len : (a : ℕ) (bs : List ℕ) → is_mark a ≡ false → mark_len (a ∷ bs) ≡ 0
empty_len a bs m = by_len (mark_len (a ∷ bs)) refl
  where
    by_len : (n : ℕ) → mark_len (a ∷ bs) ≡ n → n ≡ 0
    by_len zero e = refl
    by_len (suc n) e =
        let some : 0 < mark_len (a ∷ bs) = omega arith in
        let fits : IsMark (a ∷ take n bs) = subst (λ k. IsMark (take k (a ∷ bs))) e (mark_fits (a ∷ bs) some) in
        let f = sym m ∙ mark_head a (take n bs) fits in
        absurd cc
