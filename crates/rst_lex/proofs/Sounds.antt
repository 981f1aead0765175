-- Where no faulty thing begins.
use Rattle.std.proofs.Common.{◌≡◌, ℕ, ◌<◌, Bool, true, false, List, [], ◌∷◌, inl, inr, ◌⊎◌, refl, sym, ap, ◌∙◌, arith}
use Rattle.std.proofs.lemmas.Bool.Decides.{nat_tests}
use Rattle.std.specs.Prelude.{◌||◌, ◌==◌}
use Rattle.rst_lex.specs.declared.front.Cause.{Cause}
use Rattle.rst_lex.specs.declared.front.Cause.TheVariants as causes
use Rattle.rst_lex.specs.Bytes.{is_digit}
use Rattle.rst_lex.specs.Numbers.{Based, IsBased}
use Rattle.rst_lex.specs.Literals.{width_of}
use Rattle.rst_lex.specs.Gaps.{is_skipped_directive, OpensBlock, IsBlock, OpensAttribute, IsAttribute}
use Rattle.rst_lex.specs.Tokens.{Begins}
use Rattle.rst_lex.specs.Lexing.{Nowhere, IsBasedText, IsNoNumber, OpensBased, IsFault, block, attribute, directive, broken, no_number, too_wide, IsSound}
use Rattle.rst_lex.proofs.Shapes.{parts_head, based_head, no_based}

pub opens_block_head : (a : ℕ) (bs : List ℕ) → OpensBlock (a ∷ bs) → a ≡ 47
opens_block_head a [] o = absurd o
opens_block_head a (b ∷ bs) o = o.0

pub opens_attribute_head : (a : ℕ) (bs : List ℕ) → OpensAttribute (a ∷ bs) → a ≡ 40
opens_attribute_head a [] o = absurd o
opens_attribute_head a (b ∷ bs) o = o.0

-- a digit or '
abbrev pub begins_number : ℕ → Bool
begins_number a = is_digit a || (a == 39)

number_head : (a : ℕ) → (is_digit a ≡ true) ⊎ (a ≡ 39) → begins_number a ≡ true
number_head a (inl d) = rw d refl
number_head a (inr q) = ap begins_number q

opens_based_head : (a : ℕ) (bs : List ℕ) → OpensBased (a ∷ bs) → begins_number a ≡ true
opens_based_head a bs o = number_head a (parts_head a bs o.size o.gap o.more o.parts o.sized)

based_text_head : (a : ℕ) (text bs rest : List ℕ) (b : Based) → Begins IsBasedText (a ∷ text) bs rest → IsBased bs b → begins_number a ≡ true
based_text_head a text [] rest b g i = absurd (no_based b i)
based_text_head a text (x ∷ bs) rest b g i = let h : a ≡ x = cc (g.parts) in ap begins_number h ∙ number_head x (based_head x bs b i)

-- what a faulty thing begins with, by its cause
abbrev pub begins_cause : Cause → ℕ → Bool
begins_cause causes.OpenComment a = (a == 47) || (a == 40)
begins_cause causes.Directive a = a == 96
begins_cause causes.BadNumber a = begins_number a
begins_cause causes.NumberTooWide a = begins_number a
begins_cause causes.BadByte a = false

pub fault_head : (a : ℕ) (bs : List ℕ) (cause : Cause) → IsFault (a ∷ bs) cause → begins_cause cause a ≡ true
fault_head a bs causes.OpenComment (block o n) = ap (begins_cause causes.OpenComment) (opens_block_head a bs o)
fault_head a bs causes.OpenComment (attribute o n) = ap (begins_cause causes.OpenComment) (opens_attribute_head a bs o)
fault_head a bs causes.Directive (directive o) = ap (begins_cause causes.Directive) o.0
fault_head a bs causes.BadNumber (broken o n) = opens_based_head a bs o
fault_head a bs causes.BadNumber (no_number cs rest b g i n) = based_text_head a bs cs rest b g i
fault_head a bs causes.NumberTooWide (too_wide cs rest b g i n w) = based_text_head a bs cs rest b g i
fault_head a bs causes.BadByte f = elim f [ ]

abbrev pub begins_fault : ℕ → Bool
begins_fault a = (a == 47) || (a == 40) || (a == 96) || begins_number a

cause_in : (a : ℕ) (cause : Cause) → begins_cause cause a ≡ true → begins_fault a ≡ true
cause_in a causes.OpenComment e = grind (arith, nat_tests)
cause_in a causes.Directive e = grind (arith, nat_tests)
cause_in a causes.BadNumber e = grind (arith, nat_tests)
cause_in a causes.NumberTooWide e = grind (arith, nat_tests)
cause_in a causes.BadByte e = absurd cc

pub sound_other : (a : ℕ) (bs : List ℕ) → begins_fault a ≡ false → IsSound (a ∷ bs)
sound_other a bs n cause f = let g = sym n ∙ cause_in a cause (fault_head a bs cause f) in cc

-- ---- text that begins with /, ( or a backquote

pub sound_slash : (bs : List ℕ) → (OpensBlock (47 ∷ bs) → Nowhere IsBlock (47 ∷ bs) → ⊥) → IsSound (47 ∷ bs)
sound_slash bs n causes.OpenComment (block o w) = n o w
sound_slash bs n causes.OpenComment (attribute o w) = let e : false ≡ true = ap (λ k. k == 40) (opens_attribute_head 47 bs o) in cc
sound_slash bs n causes.Directive f = let e = fault_head 47 bs causes.Directive f in cc
sound_slash bs n causes.BadNumber f = let e = fault_head 47 bs causes.BadNumber f in cc
sound_slash bs n causes.NumberTooWide f = let e = fault_head 47 bs causes.NumberTooWide f in cc
sound_slash bs n causes.BadByte f = elim f [ ]

pub sound_bracket : (bs : List ℕ) → (OpensAttribute (40 ∷ bs) → Nowhere IsAttribute (40 ∷ bs) → ⊥) → IsSound (40 ∷ bs)
sound_bracket bs n causes.OpenComment (block o w) = let e : false ≡ true = ap (λ k. k == 47) (opens_block_head 40 bs o) in cc
sound_bracket bs n causes.OpenComment (attribute o w) = n o w
sound_bracket bs n causes.Directive f = let e = fault_head 40 bs causes.Directive f in cc
sound_bracket bs n causes.BadNumber f = let e = fault_head 40 bs causes.BadNumber f in cc
sound_bracket bs n causes.NumberTooWide f = let e = fault_head 40 bs causes.NumberTooWide f in cc
sound_bracket bs n causes.BadByte f = elim f [ ]

pub sound_backquote : (bs : List ℕ) → is_skipped_directive bs ≡ true → IsSound (96 ∷ bs)
sound_backquote bs s causes.OpenComment f = let e = fault_head 96 bs causes.OpenComment f in cc
sound_backquote bs s causes.Directive (directive o) = let e = sym s ∙ o.1 in cc
sound_backquote bs s causes.BadNumber f = let e = fault_head 96 bs causes.BadNumber f in cc
sound_backquote bs s causes.NumberTooWide f = let e = fault_head 96 bs causes.NumberTooWide f in cc
sound_backquote bs s causes.BadByte f = elim f [ ]

-- ---- text that begins with a digit or '

number_apart : (a : ℕ) → begins_number a ≡ true → (begins_cause causes.OpenComment a ≡ false) × (begins_cause causes.Directive a ≡ false)
number_apart a n = (grind (arith, nat_tests), grind (arith, nat_tests))

pub sound_number : (a : ℕ) (bs : List ℕ) → begins_number a ≡ true → (OpensBased (a ∷ bs) → Nowhere IsBasedText (a ∷ bs) → ⊥)
    → ((cs rest : List ℕ) (b : Based) → Begins IsBasedText (a ∷ bs) cs rest → IsBased cs b → (IsNoNumber b → ⊥) × (64 < width_of b.size → ⊥)) → IsSound (a ∷ bs)
sound_number a bs n o w causes.OpenComment f = let e = sym (number_apart a n).0 ∙ fault_head a bs causes.OpenComment f in cc
sound_number a bs n o w causes.Directive f = let e = sym (number_apart a n).1 ∙ fault_head a bs causes.Directive f in cc
sound_number a bs n o w causes.BadNumber (broken p q) = o p q
sound_number a bs n o w causes.BadNumber (no_number cs rest b g i z) = (w cs rest b g i).0 z
sound_number a bs n o w causes.NumberTooWide (too_wide cs rest b g i z x) = (w cs rest b g i).1 x
sound_number a bs n o w causes.BadByte f = elim f [ ]
