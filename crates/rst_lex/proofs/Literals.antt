-- Two literals are equal where their fields are.
use Rattle.std.proofs.Common.{◌≡◌, ℕ, ◌<◌, ◌≤◌, ◌^◌, bit_and}
use Rattle.std.proofs.Math.Path.{to_path_p, PathP}
use Rattle.std.proofs.Props.{props}
use Rattle.rst_lex.specs.declared.token.Literal.{Literal}

-- two proofs of one of the facts beside a literal's fields
along : (A : 𝕀 → Type 0) → IsProp (A 1) → (a : A 0) (b : A 1) → PathP A a b
along A prop a b = to_path_p A (prop (coe 0 1 (k. A k) a) b)

pub same_literal : (l m : Literal) → l.width ≡ m.width → l.signed ≡ m.signed → l.value ≡ m.value → l.mask ≡ m.mask → l ≡ m
same_literal l m w s v k =
    let not_empty : PathP (λ i. 1 ≤ w i) l.not_empty m.not_empty = along (λ i. 1 ≤ w i) (hlevel props) l.not_empty m.not_empty in
    let in_word : PathP (λ i. w i ≤ 64) l.in_word m.in_word = along (λ i. w i ≤ 64) (hlevel props) l.in_word m.in_word in
    let value_fits : PathP (λ i. v i < 2 ^ w i) l.value_fits m.value_fits = along (λ i. v i < 2 ^ w i) (hlevel props) l.value_fits m.value_fits in
    let mask_fits : PathP (λ i. k i < 2 ^ w i) l.mask_fits m.mask_fits = along (λ i. k i < 2 ^ w i) (hlevel props) l.mask_fits m.mask_fits in
    let masked : PathP (λ i. bit_and (v i) (k i) ≡ 0) l.masked_are_zero m.masked_are_zero = along (λ i. bit_and (v i) (k i) ≡ 0) (hlevel props) l.masked_are_zero m.masked_are_zero in
    λ i. record { width = w i; signed = s i; value = v i; mask = k i; not_empty = not_empty i; in_word = in_word i; value_fits = value_fits i; mask_fits = mask_fits i; masked_are_zero = masked i }
