-- What is left of a text behind a piece.
use Rattle.std.proofs.Common.{◌≡◌, ℕ, ◌+◌, ◌-◌, ◌≤◌, List, ◌++◌, length, drop, take, sym, ap, ◌∙◌, arith, length-append, length-drop}
use Rattle.std.proofs.lemmas.List.{drop-drop}
use Rattle.std.proofs.Math.Nat.{sub_self}
use Rattle.std.proofs.Math.Seq.{drop-append_seam, take-append_seam}
use Rattle.rst_certificate.specs.Sections.{EndsIn}

-- no more is left than the text has
pub left_fits : (text rest : List ℕ) → EndsIn text rest → length rest ≤ length text
left_fits text rest ends =
    let count : length rest ≡ length text - (length text - length rest) = sym (ap length ends) ∙ length-drop (length text - length rest) text in
    omega arith

-- how many bytes were given grows by those of the piece
pub given_more : (text piece rest left : List ℕ) → piece ++ left ≡ rest → EndsIn text rest → length text - length left ≡ (length text - length rest) + length piece
given_more text piece rest left parts ends =
    let fits = left_fits text rest ends in
    let count : length piece + length left ≡ length rest = sym (length-append piece left) ∙ ap length parts in
    omega arith

-- the text still ends in what is left
pub ends_on : (text piece rest left : List ℕ) → piece ++ left ≡ rest → EndsIn text rest → EndsIn text left
ends_on text piece rest left parts ends =
    ap (λ count. drop count text) (given_more text piece rest left parts ends)
    ∙ sym (drop-drop (length piece) (length text - length rest) text)
    ∙ ap (drop (length piece)) (ends ∙ sym parts)
    ∙ drop-append_seam piece left

-- the piece is the first bytes of what was left
pub front_of_left : (text piece rest left : List ℕ) → piece ++ left ≡ rest → EndsIn text rest → piece ≡ take (length piece) (drop (length text - length rest) text)
front_of_left text piece rest left parts ends = sym (ap (take (length piece)) (ends ∙ sym parts) ∙ take-append_seam piece left)

-- a text ends in itself, with nothing given
pub whole_ends : (text rest : List ℕ) → rest ≡ text → EndsIn text rest × (length text - length rest ≡ 0)
whole_ends text rest whole =
    let none : length text - length rest ≡ 0 = ap (λ list. length text - length list) whole ∙ sub_self (length text) in
    (ap (λ count. drop count text) none ∙ sym whole, none)
