-- What stands at the front of a text is what `text_front` says.
use Rattle.std.proofs.Common.{◌≡◌, ℕ, ◌+◌, ◌<◌, ◌≤◌, Bool, true, false, cond, List, [], ◌∷◌, ◌++◌, length, take, drop, Option, Some, None, inl, inr, ◌⊎◌, refl, sym, ap, subst, ◌∙◌, arith, take-append-drop}
use Rattle.std.specs.List.{prefix_len}
use Rattle.std.proofs.lemmas.List.Folds.{length-prefix_len}
use Rattle.std.proofs.lemmas.Bool.{eqb-true}
use Rattle.std.proofs.lemmas.Bool.Decides.{nat_tests}
use Rattle.std.specs.Prelude.{◌&&◌, ◌==◌, not}
use Rattle.rst_lex.specs.declared.front.Tail.{Tail}
use Rattle.rst_lex.specs.declared.front.Cause.TheVariants as causes
use Rattle.rst_lex.specs.declared.front.Front.{Front}
use Rattle.rst_lex.specs.declared.front.Front.TheVariants as fronts
use Rattle.rst_lex.specs.declared.piece.Piece.TheVariants as pieces
use Rattle.rst_lex.specs.Bytes.{is_space, is_digit, is_name_start, is_name_byte, is_decimal_byte, EachByte}
use Rattle.rst_lex.specs.Words.{IsIdentifier}
use Rattle.rst_lex.specs.Marks.{IsMark}
use Rattle.rst_lex.specs.MarkFronts.{is_mark, mark_len}
use Rattle.rst_lex.specs.Numbers.{IsDecimal, IsSize, Based, IsBased}
use Rattle.rst_lex.specs.Literals.{width_of}
use Rattle.rst_lex.specs.Gaps.{is_in_line, OpensBlock, closes_next, OpensAttribute, is_skipped_directive, IsGap}
use Rattle.rst_lex.specs.Tokens.{IsSystem, IsToken, identifier, system, decimal, based, mark, Begins}
use Rattle.rst_lex.specs.Lexing.{Nowhere, IsBasedText, OpensBased, IsFault, block, attribute, directive, broken, IsNoNumber, IsSound}
use Rattle.rst_lex.specs.Pieces.{IsPiece}
use Rattle.rst_lex.specs.Fronts.{close_len, comment_front, slash_front, bracket_front, directive_front, system_front, tail_front, tail_based, based_front, quote_front, number_front, mark_front, text_front}
use Rattle.rst_lex.proofs.MarkShapes.{no_mark}
use Rattle.rst_lex.proofs.Shapes.{run_longest, run_fits, begins_identifier, begins_mark, no_empty_token, identifier_head, system_head, mark_head, based_head, mark_longest, empty_len}
use Rattle.rst_lex.proofs.GapFronts.{begins_gap, no_gap, GapOf, white_gap, line_gap, block_gap, no_block, slash_alone, attribute_gap, bracket_alone, no_attribute, directive_gap}
use Rattle.rst_lex.proofs.Sounds.{begins_number, begins_fault, sound_other, sound_slash, sound_bracket, sound_backquote, sound_number}
use Rattle.rst_lex.proofs.Numbers.{TailSays, tail_says, tail_of, head_is, quote_is, OneHead, based_behind, based_parts}

not_true : (t : Bool) → (t ≡ true → ⊥) → t ≡ false
not_true true n = absurd (n refl)
not_true false n = refl

name_fault : (a : ℕ) → is_name_start a ≡ true → begins_fault a ≡ true → ⊥
name_fault a n e = grind (arith, nat_tests)

name_gap : (a : ℕ) → is_name_start a ≡ true → begins_gap a ≡ true → ⊥
name_gap a n e = grind (arith, nat_tests)

space_fault : (a : ℕ) → is_space a ≡ true → begins_fault a ≡ true → ⊥
space_fault a n e = grind (arith, nat_tests)

digit_gap : (a : ℕ) → is_digit a ≡ true → begins_gap a ≡ true → ⊥
digit_gap a n e = grind (arith, nat_tests)

digit_name : (a : ℕ) → is_digit a ≡ true → is_name_start a ≡ true → ⊥
digit_name a n e = grind (arith, nat_tests)

digit_mark : (a : ℕ) → is_digit a ≡ true → is_mark a ≡ true → ⊥
digit_mark a n e = grind (arith, nat_tests)

-- ---- gaps

gap_piece : (n : ℕ) (text : List ℕ) → IsSound text → GapOf n text → IsPiece (pieces.Gap n) text
gap_piece n text s g = (g.0, g.1, s, g.2, g.3)

says_white : (a : ℕ) (bs : List ℕ) → is_space a ≡ true → IsPiece (pieces.Gap 1) (a ∷ bs)
says_white a bs s = gap_piece 1 (a ∷ bs) (sound_other a bs (not_true (begins_fault a) (λ e. space_fault a s e))) (white_gap a bs s)

-- ---- what a front says

pub record BasedSays (text : List ℕ) (size_len gap_len : ℕ) (tail : Tail) : Type 0 where
  pub size : List ℕ
  pub gap : List ℕ
  pub more : List ℕ
  pub head : OneHead text size gap more
  pub says : TailSays more tail
  pub size_is : length size ≡ size_len
  pub gap_is : length gap ≡ gap_len
  pub no_gaps : Nowhere IsGap text
  pub first : (front behind : List ℕ) → text ≡ front ++ behind → IsToken front → (length front ≤ length size) ⊎ IsBasedText front
  pub sound : (OpensBased text → Nowhere IsBasedText text → ⊥)
      → ((cs rest : List ℕ) (b : Based) → Begins IsBasedText text cs rest → IsBased cs b → (IsNoNumber b → ⊥) × (64 < width_of b.size → ⊥)) → IsSound text

abbrev pub WordSays : (List ℕ → Type 0) → ℕ → List ℕ → Type 0
WordSays Kind n text = (bs : List ℕ) × (rest : List ℕ) × IsSound text × Nowhere IsGap text × Begins IsToken text bs rest × Kind bs × (length bs ≡ n)

abbrev pub Says : Front → List ℕ → Type 0
Says (fronts.Gap n) text = IsPiece (pieces.Gap n) text
Says (fronts.Word n) text = WordSays IsIdentifier n text
Says (fronts.System n) text = WordSays IsSystem n text
Says (fronts.Decimal n) text = WordSays IsDecimal n text
Says (fronts.Based size gap tail) text = BasedSays text size gap tail
Says (fronts.Mark n) text = WordSays IsMark n text
Says (fronts.Fault cause) text = IsPiece (pieces.Fault cause) text

says_word : (a : ℕ) (bs : List ℕ) → is_name_start a ≡ true → Says (fronts.Word (1 + prefix_len is_name_byte bs)) (a ∷ bs)
says_word a bs n =
    let k = prefix_len is_name_byte bs in
    let b = begins_identifier a bs n in
    (a ∷ take k bs, drop k bs, sound_other a bs (not_true (begins_fault a) (λ e. name_fault a n e)), no_gap a bs (not_true (begins_gap a) (λ e. name_gap a n e)), b.0, b.1, b.2)

-- ---- / and (

one_slash : (bs : List ℕ) → mark_len (47 ∷ bs) ≡ 1
one_slash [] = refl
one_slash (b ∷ []) = refl
one_slash (b ∷ c ∷ bs) = refl

one_bracket : (bs : List ℕ) → mark_len (40 ∷ bs) ≡ 1
one_bracket [] = refl
one_bracket (b ∷ []) = refl
one_bracket (b ∷ c ∷ bs) = refl

mark_says : (a : ℕ) (bs : List ℕ) → is_mark a ≡ true → IsSound (a ∷ bs) → Nowhere IsGap (a ∷ bs) → Says (fronts.Mark (mark_len (a ∷ bs))) (a ∷ bs)
mark_says a bs m s n = let b = begins_mark a bs m in (take (mark_len (a ∷ bs)) (a ∷ bs), drop (mark_len (a ∷ bs)) (a ∷ bs), s, n, b.0, b.1, b.2)

slash_mark : (bs : List ℕ) → ((c : ℕ) (cs : List ℕ) → bs ≡ c ∷ cs → (c ≡ 47) ⊎ (c ≡ 42) → ⊥) → Says (fronts.Mark 1) (47 ∷ bs)
slash_mark bs n =
    subst (λ k. Says (fronts.Mark k) (47 ∷ bs)) (one_slash bs) (mark_says 47 bs refl (sound_slash bs (λ o w. opens bs n o)) (slash_alone bs n))
  where
    opens : (bs : List ℕ) → ((c : ℕ) (cs : List ℕ) → bs ≡ c ∷ cs → (c ≡ 47) ⊎ (c ≡ 42) → ⊥) → OpensBlock (47 ∷ bs) → ⊥
    opens [] n o = o
    opens (c ∷ cs) n o = n c cs refl (inr o.1)

block_case : (bs : List ℕ) (o : Option ℕ) → close_len 42 47 bs ≡ o → Says (comment_front o) (47 ∷ 42 ∷ bs)
block_case bs (Some n) e =
    let g = block_gap bs n e in
    gap_piece (2 + n) (47 ∷ 42 ∷ bs) (sound_slash (42 ∷ bs) (λ o w. w g.0 g.1 g.2.parts g.4)) (g.0, g.1, g.2, g.3)
block_case bs None e = inl (block (refl, refl) (no_block bs e))

slash_case : (b : ℕ) (bs : List ℕ) (s t : Bool) → (b == 47) ≡ s → (b == 42) ≡ t
    → Says (cond s (fronts.Gap (2 + prefix_len is_in_line bs)) (cond t (comment_front (close_len 42 47 bs)) (fronts.Mark 1))) (47 ∷ b ∷ bs)
slash_case b bs true t e f = rw (eqb-true b 47 e) (gap_piece (2 + prefix_len is_in_line bs) (47 ∷ 47 ∷ bs) (sound_slash (47 ∷ bs) (λ o w. no_star 47 refl o.1)) (line_gap bs))
  where
    no_star : (c : ℕ) → c ≡ 47 → c ≡ 42 → ⊥
    no_star c g h = omega arith
slash_case b bs false true e f = rw (eqb-true b 42 f) (block_case bs (close_len 42 47 bs) refl)
slash_case b bs false false e f = slash_mark (b ∷ bs) (λ c cs p q. none c cs p q)
  where
    none : (c : ℕ) (cs : List ℕ) → b ∷ bs ≡ c ∷ cs → (c ≡ 47) ⊎ (c ≡ 42) → ⊥
    none c cs p (inl h) = let g : b ≡ c = cc in let k = sym e ∙ ap (λ k. k == 47) (g ∙ h) in cc
    none c cs p (inr h) = let g : b ≡ c = cc in let k = sym f ∙ ap (λ k. k == 42) (g ∙ h) in cc

says_slash : (bs : List ℕ) → Says (slash_front bs) (47 ∷ bs)
unfolding slash_front
says_slash [] = slash_mark [] (λ c cs p q. cc)
says_slash (b ∷ bs) = slash_case b bs (b == 47) (b == 42) refl refl

bracket_mark : (bs : List ℕ) → ((c : ℕ) (cs : List ℕ) → bs ≡ c ∷ cs → c ≡ 42 → closes_next cs ≡ false → ⊥) → Says (fronts.Mark 1) (40 ∷ bs)
bracket_mark bs n = subst (λ k. Says (fronts.Mark k) (40 ∷ bs)) (one_bracket bs) (mark_says 40 bs refl (sound_bracket bs (λ o w. opens bs n o)) (bracket_alone bs n))
  where
    opens : (bs : List ℕ) → ((c : ℕ) (cs : List ℕ) → bs ≡ c ∷ cs → c ≡ 42 → closes_next cs ≡ false → ⊥) → OpensAttribute (40 ∷ bs) → ⊥
    opens [] n o = o
    opens (c ∷ cs) n o = n c cs refl o.1 o.2

attribute_case : (bs : List ℕ) (o : Option ℕ) → closes_next bs ≡ false → close_len 42 41 bs ≡ o → Says (comment_front o) (40 ∷ 42 ∷ bs)
attribute_case bs (Some n) f e =
    let g = attribute_gap bs n f e in
    gap_piece (2 + n) (40 ∷ 42 ∷ bs) (sound_bracket (42 ∷ bs) (λ o w. w g.0 g.1 g.2.parts g.4)) (g.0, g.1, g.2, g.3)
attribute_case bs None f e = inl (attribute (refl, refl, f) (no_attribute bs e))

bracket_case : (b : ℕ) (bs : List ℕ) (s t : Bool) → (b == 42) ≡ s → closes_next bs ≡ t → Says (cond (s && not t) (comment_front (close_len 42 41 bs)) (fronts.Mark 1)) (40 ∷ b ∷ bs)
bracket_case b bs true false e f = rw (eqb-true b 42 e) (attribute_case bs (close_len 42 41 bs) f refl)
bracket_case b bs true true e f = bracket_mark (b ∷ bs) (λ c cs p q r. none c cs p r)
  where
    none : (c : ℕ) (cs : List ℕ) → b ∷ bs ≡ c ∷ cs → closes_next cs ≡ false → ⊥
    none c cs p r = let h : bs ≡ cs = cc in let g = sym f ∙ ap closes_next h ∙ r in cc
bracket_case b bs false t e f = bracket_mark (b ∷ bs) (λ c cs p q r. none c cs p q)
  where
    none : (c : ℕ) (cs : List ℕ) → b ∷ bs ≡ c ∷ cs → c ≡ 42 → ⊥
    none c cs p q = let h : b ≡ c = cc in let g = sym e ∙ ap (λ k. k == 42) (h ∙ q) in cc

says_bracket : (bs : List ℕ) → Says (bracket_front bs) (40 ∷ bs)
unfolding bracket_front
says_bracket [] = bracket_mark [] (λ c cs p q r. cc)
says_bracket (b ∷ bs) = bracket_case b bs (b == 42) (closes_next bs) refl refl

-- ---- directives

directive_case : (bs : List ℕ) (t : Bool) → is_skipped_directive bs ≡ t → Says (cond t (fronts.Gap (1 + prefix_len is_in_line bs)) (fronts.Fault causes.Directive)) (96 ∷ bs)
directive_case bs true e = gap_piece (1 + prefix_len is_in_line bs) (96 ∷ bs) (sound_backquote bs e) (directive_gap bs e)
directive_case bs false e = inl (directive (refl, e))

says_directive : (bs : List ℕ) → Says (directive_front bs) (96 ∷ bs)
unfolding directive_front
says_directive bs = directive_case bs (is_skipped_directive bs) refl

-- ---- other tokens

-- no token but a system token begins with $
dollar_token : (bs front behind : List ℕ) → 36 ∷ bs ≡ front ++ behind → IsToken front → IsSystem front
dollar_token bs [] behind e t = absurd (no_empty_token t)
dollar_token bs (x ∷ front) behind e t = only x front (first x front behind bs e) t
  where
    first : (x : ℕ) (front behind bs : List ℕ) → 36 ∷ bs ≡ x ∷ (front ++ behind) → x ≡ 36
    first x front behind bs e = cc

    number : (x : ℕ) → x ≡ 36 → (is_digit x ≡ true) ⊎ (x ≡ 39) → ⊥
    number x h (inl d) = let f = ap is_digit (sym h) ∙ d in cc
    number x h (inr q) = let f : false ≡ true = ap (λ k. k == 39) (sym h ∙ q) in cc

    only : (x : ℕ) (front : List ℕ) → x ≡ 36 → IsToken (x ∷ front) → IsSystem (x ∷ front)
    only x front h (identifier i) = let f = ap is_name_start (sym h) ∙ identifier_head x front i in absurd cc
    only x front h (system y) = y
    only x front h (decimal d) = absurd (number x h (inl d.0))
    only x front h (based b i) = absurd (number x h (based_head x front b i))
    only x front h (mark m) = let f = ap is_mark (sym h) ∙ mark_head x front m in absurd cc

system_len : (bs front behind : List ℕ) → 36 ∷ bs ≡ front ++ behind → IsSystem front → (1 < length front) × (length front ≤ 1 + prefix_len is_name_byte bs)
system_len bs [] behind e s = absurd s
system_len bs (x ∷ []) behind e s = absurd s
system_len bs (x ∷ y ∷ front) behind e s = let h : bs ≡ y ∷ (front ++ behind) = cc in let r = run_longest is_name_byte bs (y ∷ front) behind h s.1 in (omega arith, omega arith)

make_system : (run : List ℕ) → EachByte is_name_byte run → (length run ≡ 0 → ⊥) → IsSystem (36 ∷ run)
make_system [] e n = absurd (n refl)
make_system (b ∷ run) e n = (refl, e)

dollar_sound : (bs : List ℕ) → IsSound (36 ∷ bs)
dollar_sound bs = sound_other 36 bs refl

dollar_gap : (bs : List ℕ) → Nowhere IsGap (36 ∷ bs)
dollar_gap bs = no_gap 36 bs refl

system_case : (bs : List ℕ) (t : Bool) → (prefix_len is_name_byte bs == 0) ≡ t → Says (cond t (fronts.Fault causes.BadByte) (fronts.System (1 + prefix_len is_name_byte bs))) (36 ∷ bs)
system_case bs true e = inr (refl, dollar_sound bs, dollar_gap bs, λ front behind p t. none front behind p t)
  where
    none : (front behind : List ℕ) → 36 ∷ bs ≡ front ++ behind → IsToken front → ⊥
    none front behind p t = let l = system_len bs front behind p (dollar_token bs front behind p t) in let z = eqb-true (prefix_len is_name_byte bs) 0 e in omega arith
system_case bs false e =
    let k = prefix_len is_name_byte bs in
    let size = length-prefix_len is_name_byte bs in
    let len : length (36 ∷ take k bs) ≡ 1 + k = omega arith in
    let fits = make_system (take k bs) (run_fits is_name_byte bs) (λ z. some (sym size ∙ z)) in (
      36 ∷ take k bs,
      drop k bs,
      dollar_sound bs,
      dollar_gap bs,
      record {
        parts = ap (λ t. 36 ∷ t) (sym (take-append-drop k bs));
        fits = system fits;
        longest = λ front behind p t. omega (arith, len, system_len bs front behind p (dollar_token bs front behind p t));
      },
      fits,
      len,
    )
  where
    some : prefix_len is_name_byte bs ≡ 0 → ⊥
    some z = let f : (prefix_len is_name_byte bs == 0) ≡ true = ap (λ k. k == 0) z in let g = sym e ∙ f in cc

says_system : (bs : List ℕ) → Says (system_front bs) (36 ∷ bs)
unfolding system_front
says_system bs = system_case bs (prefix_len is_name_byte bs == 0) refl

-- ---- numbers

digit_number : (a : ℕ) → is_digit a ≡ true → begins_number a ≡ true
digit_number a d = rw d refl

digit_no_gap : (a : ℕ) (bs : List ℕ) → is_digit a ≡ true → Nowhere IsGap (a ∷ bs)
digit_no_gap a bs d = no_gap a bs (not_true (begins_gap a) (λ e. digit_gap a d e))

-- where a digit stands, a token is a decimal number or a based literal
digit_token : (a : ℕ) (bs front behind : List ℕ) → is_digit a ≡ true → a ∷ bs ≡ front ++ behind → IsToken front → (length front ≤ 1 + prefix_len is_decimal_byte bs) ⊎ IsBasedText front
digit_token a bs [] behind d e t = absurd (no_empty_token t)
digit_token a bs (x ∷ front) behind d e (identifier i) = let h : x ≡ a = cc in absurd (digit_name x (ap is_digit h ∙ d) (identifier_head x front i))
digit_token a bs (x ∷ front) behind d e (system y) = let h : x ≡ a = cc in let f = sym d ∙ ap is_digit (sym h ∙ system_head x front y) in absurd cc
digit_token a bs (x ∷ front) behind d e (decimal m) = let h : bs ≡ front ++ behind = cc in inl (omega (arith, run_longest is_decimal_byte bs front behind h m.1))
digit_token a bs (x ∷ front) behind d e (based b i) = inr (b, i)
digit_token a bs (x ∷ front) behind d e (mark m) = let h : x ≡ a = cc in absurd (digit_mark x (ap is_digit h ∙ d) (mark_head x front m))

quote_token : (bs front behind : List ℕ) → 39 ∷ bs ≡ front ++ behind → IsToken front → IsBasedText front
quote_token bs [] behind e t = absurd (no_empty_token t)
quote_token bs (x ∷ front) behind e t = only x front (first x front behind bs e) t
  where
    first : (x : ℕ) (front behind bs : List ℕ) → 39 ∷ bs ≡ x ∷ (front ++ behind) → x ≡ 39
    first x front behind bs e = cc

    only : (x : ℕ) (front : List ℕ) → x ≡ 39 → IsToken (x ∷ front) → IsBasedText (x ∷ front)
    only x front h (identifier i) = let f = ap is_name_start (sym h) ∙ identifier_head x front i in absurd cc
    only x front h (system y) = let f : false ≡ true = ap (λ k. k == 36) (sym h ∙ system_head x front y) in absurd cc
    only x front h (decimal d) = let f = ap is_digit (sym h) ∙ d.0 in absurd cc
    only x front h (based b i) = (b, i)
    only x front h (mark m) = let f = ap is_mark (sym h) ∙ mark_head x front m in absurd cc

-- where the parts behind ' aren't there, no based literal begins
broken_number : (text size gap more : List ℕ) → OneHead text size gap more → tail_front more ≡ None → IsFault text causes.BadNumber
broken_number text size gap more o e =
    broken (record { size = size; gap = gap; more = more; parts = o.parts; sized = o.sized })
    (λ front behind p t. let q = based_parts text size gap more front behind t.0 o p t.1 in let f = sym e ∙ tail_of more t.0.sign t.0.letter t.0.space t.0.digits behind q.splits in cc)

one_head : (a : ℕ) (bs gap more : List ℕ) → is_digit a ≡ true → let k = prefix_len is_decimal_byte bs in
    gap ≡ take (prefix_len is_space (drop k bs)) (drop k bs) → 39 ∷ more ≡ drop (prefix_len is_space (drop k bs)) (drop k bs) → EachByte is_space gap → OneHead (a ∷ bs) (a ∷ take k bs) gap more
one_head a bs gap more d g n s =
    let k = prefix_len is_decimal_byte bs in
    let behind : gap ++ 39 ∷ more ≡ drop k bs = (λ i. g i ++ n i) ∙ take-append-drop (prefix_len is_space (drop k bs)) (drop k bs) in
    record {
      parts = ap (λ t. a ∷ t) (sym (take-append-drop k bs)) ∙ ap (λ t. a ∷ (take k bs ++ t)) (sym behind);
      sized = ((d, run_fits is_decimal_byte bs), s);
      only = λ size' gap' more' e z. let h = head_is a bs size' gap' more' d e z in (h.size_is, h.gap_is ∙ sym g, same_rest more' more (h.next_is ∙ sym n));
    }
  where
    same_rest : (x y : List ℕ) → 39 ∷ x ≡ 39 ∷ y → x ≡ y
    same_rest x y e = cc

quote_head : (bs : List ℕ) → OneHead (39 ∷ bs) [] [] bs
quote_head bs = record { parts = refl; sized = refl; only = λ size gap more e z. quote_is bs size gap more e z }

digit_tail : (a : ℕ) (bs gap more : List ℕ) (t : Option Tail) → is_digit a ≡ true → OneHead (a ∷ bs) (a ∷ take (prefix_len is_decimal_byte bs) bs) gap more → tail_front more ≡ t
    → Says (tail_based (1 + prefix_len is_decimal_byte bs) (length gap) t) (a ∷ bs)
digit_tail a bs gap more None d o e = inl (broken_number (a ∷ bs) (a ∷ take (prefix_len is_decimal_byte bs) bs) gap more o e)
digit_tail a bs gap more (Some tail) d o e =
    let k = prefix_len is_decimal_byte bs in
    let size = length-prefix_len is_decimal_byte bs in
    let len : length (a ∷ take k bs) ≡ 1 + k = omega arith in
    record {
      size = a ∷ take k bs;
      gap = gap;
      more = more;
      head = o;
      says = tail_says more tail e;
      size_is = len;
      gap_is = refl;
      no_gaps = digit_no_gap a bs d;
      first = λ front behind p t. subst (λ n. (length front ≤ n) ⊎ IsBasedText front) (sym len) (digit_token a bs front behind d p t);
      sound = λ p q. sound_number a bs (digit_number a d) p q;
    }

quote_tail : (bs : List ℕ) (t : Option Tail) → tail_front bs ≡ t → Says (tail_based 0 0 t) (39 ∷ bs)
quote_tail bs None e = inl (broken_number (39 ∷ bs) [] [] bs (quote_head bs) e)
quote_tail bs (Some tail) e = record {
  size = [];
  gap = [];
  more = bs;
  head = quote_head bs;
  says = tail_says bs tail e;
  size_is = refl;
  gap_is = refl;
  no_gaps = no_gap 39 bs refl;
  first = λ front behind p t. inr (quote_token bs front behind p t);
  sound = λ p q. sound_number 39 bs refl p q;
}

says_quote : (bs : List ℕ) → Says (based_front 0 0 bs) (39 ∷ bs)
unfolding based_front
says_quote bs = quote_tail bs (tail_front bs) refl

-- a decimal number with no ' behind it
decimal_says : (a : ℕ) (bs : List ℕ) → is_digit a ≡ true → let k = prefix_len is_decimal_byte bs in
    ((size gap more : List ℕ) → a ∷ bs ≡ size ++ (gap ++ 39 ∷ more) → IsSize size gap → ⊥) → Says (fronts.Decimal (1 + k)) (a ∷ bs)
decimal_says a bs d none =
    let k = prefix_len is_decimal_byte bs in
    let size = length-prefix_len is_decimal_byte bs in
    let len : length (a ∷ take k bs) ≡ 1 + k = omega arith in (
      a ∷ take k bs,
      drop k bs,
      sound_number a bs (digit_number a d) (λ o w. none o.size o.gap o.more o.parts o.sized) (λ cs rest b g i. absurd (no_text cs rest g.parts (b, i))),
      digit_no_gap a bs d,
      record {
        parts = ap (λ t. a ∷ t) (sym (take-append-drop k bs));
        fits = decimal (d, run_fits is_decimal_byte bs);
        longest = λ front behind p t. elim (digit_token a bs front behind d p t) [ inl l ↦ omega (arith, len, l) | inr b ↦ absurd (no_text front behind p b) ];
      },
      (d, run_fits is_decimal_byte bs),
      len,
    )
  where
    no_text : (front behind : List ℕ) → a ∷ bs ≡ front ++ behind → IsBasedText front → ⊥
    no_text front behind p b = none b.0.size b.0.gap (b.0.sign ++ b.0.letter ∷ (b.0.space ++ (b.0.digits ++ behind))) (p ∙ ap (λ t. t ++ behind) b.1.text ∙ based_behind b.0 behind) b.1.sized

number_case : (a : ℕ) (bs next : List ℕ) → is_digit a ≡ true → let k = prefix_len is_decimal_byte bs in let g = prefix_len is_space (drop k bs) in
    drop g (drop k bs) ≡ next → Says (quote_front (1 + k) g next) (a ∷ bs)
unfolding based_front
number_case a bs [] d e = decimal_says a bs d (λ size gap more p s. let h = head_is a bs size gap more d p s in let f = h.next_is ∙ e in cc)
number_case a bs (b ∷ more) d e = by_test (b == 39) refl
  where
    k : ℕ
    k = prefix_len is_decimal_byte bs

    by_test : (t : Bool) → (b == 39) ≡ t → Says (cond t (based_front (1 + prefix_len is_decimal_byte bs) (prefix_len is_space (drop (prefix_len is_decimal_byte bs) bs)) more) (fronts.Decimal (1 + prefix_len is_decimal_byte bs))) (a ∷ bs)
    by_test true f =
        let behind = drop (prefix_len is_decimal_byte bs) bs in
        let gap = take (prefix_len is_space behind) behind in
        let n : 39 ∷ more ≡ drop (prefix_len is_space behind) behind = ap (λ c. c ∷ more) (sym (eqb-true b 39 f)) ∙ sym e in
        let o = one_head a bs gap more d refl n (run_fits is_space behind) in
        subst (λ g. Says (tail_based (1 + prefix_len is_decimal_byte bs) g (tail_front more)) (a ∷ bs)) (length-prefix_len is_space behind) (digit_tail a bs gap more (tail_front more) d o refl)
    by_test false f = decimal_says a bs d (λ size gap more' p s. let h = head_is a bs size gap more' d p s in other more' (h.next_is ∙ e))
      where
        other : (more' : List ℕ) → 39 ∷ more' ≡ b ∷ more → ⊥
        other more' p = let g : b ≡ 39 = cc in let q = sym f ∙ ap (λ c. c == 39) g in cc

says_number : (a : ℕ) (bs : List ℕ) → is_digit a ≡ true → Says (number_front bs) (a ∷ bs)
unfolding number_front
says_number a bs d = let k = prefix_len is_decimal_byte bs in number_case a bs (drop (prefix_len is_space (drop k bs)) (drop k bs)) d refl

-- ---- marks and other bytes

-- bytes that begin neither a gap nor a number, nor an identifier or a system token
pub record IsOther (a : ℕ) : Type 0 where
  pub no_gaps : begins_gap a ≡ false
  pub no_fault : begins_fault a ≡ false
  pub no_name : is_name_start a ≡ false
  pub no_dollar : (a == 36) ≡ false

other_token : (a : ℕ) (bs front behind : List ℕ) → IsOther a → a ∷ bs ≡ front ++ behind → IsToken front → IsMark front
other_token a bs [] behind o e t = absurd (no_empty_token t)
other_token a bs (x ∷ front) behind o e t = only x front (first x front behind e) t
  where
    first : (x : ℕ) (front behind : List ℕ) → a ∷ bs ≡ x ∷ (front ++ behind) → a ≡ x
    first x front behind e = cc

    number : (x : ℕ) → a ≡ x → (is_digit x ≡ true) ⊎ (x ≡ 39) → ⊥
    number x h d = not_number a x h o.no_fault d
      where
        not_number : (a x : ℕ) → a ≡ x → begins_fault a ≡ false → (is_digit x ≡ true) ⊎ (x ≡ 39) → ⊥
        not_number a x h f (inl d) = let g = ap is_digit h ∙ d in grind (arith, nat_tests)
        not_number a x h f (inr q) = let g = h ∙ q in grind (arith, nat_tests)

    only : (x : ℕ) (front : List ℕ) → a ≡ x → IsToken (x ∷ front) → IsMark (x ∷ front)
    only x front h (identifier i) = let f = sym o.no_name ∙ ap is_name_start h ∙ identifier_head x front i in absurd cc
    only x front h (system y) = let f = sym o.no_dollar ∙ ap (λ k. k == 36) (h ∙ system_head x front y) in absurd cc
    only x front h (decimal d) = absurd (number x h (inl d.0))
    only x front h (based b i) = absurd (number x h (based_head x front b i))
    only x front h (mark m) = m

mark_case : (a : ℕ) (bs : List ℕ) (t : Bool) → IsOther a → (mark_len (a ∷ bs) == 0) ≡ t → Says (cond t (fronts.Fault causes.BadByte) (fronts.Mark (mark_len (a ∷ bs)))) (a ∷ bs)
mark_case a bs true o e = inr (refl, sound_other a bs o.no_fault, no_gap a bs o.no_gaps, λ front behind p t. none front behind p (other_token a bs front behind o p t))
  where
    none : (front behind : List ℕ) → a ∷ bs ≡ front ++ behind → IsMark front → ⊥
    none [] behind p m = no_mark m
    none (x ∷ front) behind p m = let l = mark_longest (a ∷ bs) (x ∷ front) behind p m in let z = eqb-true (mark_len (a ∷ bs)) 0 e in omega arith
mark_case a bs false o e = mark_says a bs (is_one (is_mark a) refl) (sound_other a bs o.no_fault) (no_gap a bs o.no_gaps)
  where
    no_len : is_mark a ≡ false → mark_len (a ∷ bs) ≡ 0
    no_len f = empty_len a bs f

    is_one : (t : Bool) → is_mark a ≡ t → t ≡ true
    is_one true m = refl
    is_one false m = let f : (mark_len (a ∷ bs) == 0) ≡ true = ap (λ k. k == 0) (no_len m) in let g = sym e ∙ f in cc

says_mark : (a : ℕ) (bs : List ℕ) → IsOther a → Says (mark_front (a ∷ bs)) (a ∷ bs)
unfolding mark_front
says_mark a bs o = mark_case a bs (mark_len (a ∷ bs) == 0) o refl

is_other : (a : ℕ) → is_space a ≡ false → is_name_start a ≡ false → (a == 47) ≡ false → (a == 40) ≡ false → is_digit a ≡ false → (a == 39) ≡ false → (a == 36) ≡ false → (a == 96) ≡ false → IsOther a
is_other a s n l b d q y r = record { no_gaps = rw (s, l, b, r) refl; no_fault = rw (l, b, r, d, q) refl; no_name = n; no_dollar = y }

text_case : (a : ℕ) (bs : List ℕ) (s n l b d q y r : Bool) → is_space a ≡ s → is_name_start a ≡ n → (a == 47) ≡ l → (a == 40) ≡ b → is_digit a ≡ d → (a == 39) ≡ q → (a == 36) ≡ y → (a == 96) ≡ r
    → Says (cond s (fronts.Gap 1) (cond n (fronts.Word (1 + prefix_len is_name_byte bs)) (cond l (slash_front bs) (cond b (bracket_front bs) (cond d (number_front bs) (cond q (based_front 0 0 bs) (cond y (system_front bs) (cond r (directive_front bs) (mark_front (a ∷ bs)))))))))) (a ∷ bs)
text_case a bs true n l b d q y r es en el eb ed eq ey er = says_white a bs es
text_case a bs false true l b d q y r es en el eb ed eq ey er = says_word a bs en
text_case a bs false false true b d q y r es en el eb ed eq ey er = rw (eqb-true a 47 el) (says_slash bs)
text_case a bs false false false true d q y r es en el eb ed eq ey er = rw (eqb-true a 40 eb) (says_bracket bs)
text_case a bs false false false false true q y r es en el eb ed eq ey er = says_number a bs ed
text_case a bs false false false false false true y r es en el eb ed eq ey er = rw (eqb-true a 39 eq) (says_quote bs)
text_case a bs false false false false false false true r es en el eb ed eq ey er = rw (eqb-true a 36 ey) (says_system bs)
text_case a bs false false false false false false false true es en el eb ed eq ey er = rw (eqb-true a 96 er) (says_directive bs)
text_case a bs false false false false false false false false es en el eb ed eq ey er = says_mark a bs (is_other a es en el eb ed eq ey er)

-- what `text_front` says holds of each text that isn't empty
pub says : (text : List ℕ) → 0 < length text → Says (text_front text) text
unfolding text_front
says [] lt = absurd (omega arith)
says (a ∷ bs) lt = text_case a bs (is_space a) (is_name_start a) (a == 47) (a == 40) (is_digit a) (a == 39) (a == 36) (a == 96) refl refl refl refl refl refl refl refl
