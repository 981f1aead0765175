-- Marks by their length: what the list of marks says, and what the tests of the code say.
use Rattle.std.proofs.Common.{◌≡◌, ℕ, Bool, true, false, List, [], ◌∷◌, refl, sym, subst, inl, inr, codes, bytes_eq}
use Rattle.std.specs.Prelude.{◌&&◌, ◌||◌, ◌==◌, IsTrue}
use Rattle.std.specs.List.{list_all}
use Rattle.std.proofs.lemmas.Bool.{and_parts, or_cases, eqb-true}
use Rattle.std.proofs.lemmas.Slice.Eq.{bytes_eq-Decides}
use Rattle.rst_lex.specs.Words.{is_listed}
use Rattle.rst_lex.specs.Marks.{marks, IsMark}
use Rattle.rst_lex.specs.MarkFronts.{is_mark, is_mark_of_two, is_mark_of_three}

-- each word of the list is of a kind
abbrev pub EachWord : (List ℕ → Type 0) → List (List ℕ) → Type 0
EachWord Kind [] = Unit {0}
EachWord Kind (word ∷ words) = Kind word × EachWord Kind words

-- a word of a list, each word of which is of a kind, is of that kind
pub of_kind : (Kind : List ℕ → Type 0) (words : List (List ℕ)) (bs : List ℕ) → EachWord Kind words → is_listed words bs ≡ true → Kind bs
of_kind Kind [] bs each e = absurd cc
of_kind Kind (word ∷ words) bs each e = here (bytes_eq word bs) refl e (λ h. of_kind Kind words bs each.1 h)
  where
    here : (t : Bool) → bytes_eq word bs ≡ t → (t || is_listed words bs) ≡ true → (is_listed words bs ≡ true → Kind bs) → Kind bs
    here true h e others = subst Kind ((bytes_eq-Decides word bs).0 h) each.0
    here false h e others = others e

-- a mark by its length
abbrev pub MarkShape : List ℕ → Type 0
MarkShape [] = ⊥
MarkShape (a ∷ []) = IsTrue (is_mark a)
MarkShape (a ∷ b ∷ []) = IsTrue (is_mark_of_two a b)
MarkShape (a ∷ b ∷ c ∷ []) = IsTrue (is_mark_of_three a b c)
MarkShape (a ∷ b ∷ c ∷ d ∷ bs) = ⊥

each_shape : EachWord MarkShape marks
each_shape = (refl, (refl, (refl, (refl, (refl, (refl, (refl, (refl, (refl, (refl, (refl, (refl, (refl, (refl, (refl, (refl, (refl, (refl, (refl, (refl, (refl, (refl, (refl, (refl, (refl, (refl, (refl, (refl, (refl, (refl, (refl, (refl, (refl, (refl, (refl, (refl, (refl, (refl, (refl, (refl, (refl, (refl, (refl, tt)))))))))))))))))))))))))))))))))))))))))))

pub mark_shape : (bs : List ℕ) → IsMark bs → MarkShape bs
mark_shape bs m = of_kind MarkShape marks bs each_shape m

-- What holds at each of these numbers holds where one of the tests passes, the first of which stands in front.
abbrev any_of : {K : Type 0} → (K → Bool) → Bool → List K → Bool
any_of test first [] = first
any_of test first (k ∷ ks) = any_of test (first || test k) ks

any_says : {K : Type 0} (test p : K → Bool) (Q : Type 0) (first : Bool) (ks : List K) → any_of test first ks ≡ true → (first ≡ true → Q) → ((k : K) → test k ≡ true → p k ≡ true → Q)
    → list_all p ks ≡ true → Q
any_says test p Q first [] any here each all = here any
any_says test p Q first (k ∷ ks) any here each all =
    let parts = and_parts (p k) (list_all p ks) all in
    any_says test p Q (first || test k) ks any (λ is. elim (or_cases first (test k) is) [ inl e ↦ here e | inr e ↦ each k e parts.0 ]) each parts.1

abbrev marks_of_one : List ℕ
marks_of_one = codes "()[]{},;:.#@=?+-!~&|^*/%<>"

one_mark : (a : ℕ) → is_mark a ≡ true → IsMark (a ∷ [])
one_mark a is = any_says (λ k. a == k) (λ k. is_listed marks (k ∷ [])) (IsMark (a ∷ [])) false marks_of_one is
    (λ e. absurd cc) (λ k same here. subst (λ (x : ℕ). IsMark (x ∷ [])) (sym (eqb-true a k same)) here) refl

abbrev Two : Type 0
Two = ℕ × ℕ

abbrev marks_of_two : List Two
marks_of_two = (60, 60) ∷ (62, 62) ∷ (60, 61) ∷ (62, 61) ∷ (61, 61) ∷ (33, 61) ∷ (38, 38) ∷ (124, 124) ∷ (126, 38) ∷ (126, 124) ∷ (126, 94) ∷ (94, 126) ∷ (42, 42) ∷ []

two_mark : (a b : ℕ) → is_mark_of_two a b ≡ true → IsMark (a ∷ b ∷ [])
two_mark a b is = any_says (λ (k : Two). (a == k.0) && (b == k.1)) (λ k. is_listed marks (k.0 ∷ k.1 ∷ [])) (IsMark (a ∷ b ∷ [])) false marks_of_two is
    (λ e. absurd cc) (λ k same here. let parts = and_parts (a == k.0) (b == k.1) same in rw (eqb-true a k.0 parts.0, eqb-true b k.1 parts.1) here) refl

abbrev Three : Type 0
Three = ℕ × ℕ × ℕ

abbrev marks_of_three : List Three
marks_of_three = (60, 60, 60) ∷ (62, 62, 62) ∷ (61, 61, 61) ∷ (33, 61, 61) ∷ []

three_mark : (a b c : ℕ) → is_mark_of_three a b c ≡ true → IsMark (a ∷ b ∷ c ∷ [])
three_mark a b c is = any_says (λ (k : Three). (a == k.0) && (b == k.1) && (c == k.2)) (λ k. is_listed marks (k.0 ∷ k.1 ∷ k.2 ∷ [])) (IsMark (a ∷ b ∷ c ∷ [])) false marks_of_three is
    (λ e. absurd cc) (λ k same here.
    let parts = and_parts ((a == k.0) && (b == k.1)) (c == k.2) same in
    let more = and_parts (a == k.0) (b == k.1) parts.0 in
    rw (eqb-true a k.0 more.0, eqb-true b k.1 more.1, eqb-true c k.2 parts.1) here) refl

pub shape_mark : (bs : List ℕ) → MarkShape bs → IsMark bs
shape_mark [] m = absurd m
shape_mark (a ∷ []) m = one_mark a m
shape_mark (a ∷ b ∷ []) m = two_mark a b m
shape_mark (a ∷ b ∷ c ∷ []) m = three_mark a b c m
shape_mark (a ∷ b ∷ c ∷ d ∷ bs) m = absurd m

pub no_mark : IsMark [] → ⊥
no_mark m = mark_shape [] m
