-- The first piece is cut off, and the others are cut as before.
use Rattle.std.proofs.Common.{◌≡◌, ℕ, zero, suc, ◌+◌, ◌<◌, ◌≤◌, Bool, true, false, List, [], ◌∷◌, length, take, drop, get_or, refl, sym, ap, ◌∙◌, arith, if◌then◌else◌}
use Rattle.std.proofs.lemmas.List.{length-take-le, at_drop_more, at_drop_all}
use Rattle.rst_grammar.specs.declared.symbol.Symbol.{Symbol}
use Rattle.rst_parse.specs.Pieces.{is_endmodule, with_symbol, pieces, piece_len}

-- the first n symbols are a piece
abbrev CutAt : ℕ → List Symbol → List (List Symbol) → Type 0
CutAt n ss cut = cut ≡ take n ss ∷ pieces (drop n ss)

cut_here : (b : Bool) (s : Symbol) (ss : List Symbol) (n : ℕ) (cut : List (List Symbol)) → CutAt n ss cut
    → CutAt (if b then 1 else suc n) (s ∷ ss) (if b then (s ∷ []) ∷ pieces ss else with_symbol s cut)
cut_here true s ss n cut e = refl
cut_here false s ss n cut e = ap (with_symbol s) e

pub first_cut : (ss : List Symbol) → 0 < length ss → pieces ss ≡ take (piece_len ss) ss ∷ pieces (drop (piece_len ss) ss)
unfolding piece_len
first_cut [] some = absurd (omega arith)
first_cut (s ∷ []) some = last (is_endmodule s)
  where
    last : (b : Bool) → CutAt (if b then 1 else suc zero) (s ∷ []) (if b then (s ∷ []) ∷ [] else (s ∷ []) ∷ [])
    last true = refl
    last false = refl
first_cut (s ∷ t ∷ ts) some = cut_here (is_endmodule s) s (t ∷ ts) (piece_len (t ∷ ts)) (pieces (t ∷ ts)) (first_cut (t ∷ ts) (omega arith))

pub piece_within : (ss : List Symbol) → piece_len ss ≤ length ss
unfolding piece_len
piece_within [] = omega arith
piece_within (s ∷ ss) = by_test (is_endmodule s) (piece_within ss)
  where
    by_test : (b : Bool) → piece_len ss ≤ length ss → (if b then 1 else suc (piece_len ss)) ≤ suc (length ss)
    by_test true le = omega arith
    by_test false le = omega arith

pub piece_some : (ss : List Symbol) → 0 < length ss → 0 < piece_len ss
unfolding piece_len
piece_some [] some = absurd (omega arith)
piece_some (s ∷ ss) some = by_test (is_endmodule s)
  where
    by_test : (b : Bool) → 0 < (if b then 1 else suc (piece_len ss))
    by_test true = omega arith
    by_test false = omega arith

-- what is cut off is the first piece
pub cut_is : (ss piece : List Symbol) (n : ℕ) → 0 < length ss → n ≡ piece_len ss → piece ≡ take n ss → pieces ss ≡ piece ∷ pieces (drop (length piece) ss)
cut_is ss piece n some e is =
    let first : piece ≡ take (piece_len ss) ss = is ∙ ap (λ k. take k ss) e in
    let len : length piece ≡ piece_len ss = ap length first ∙ length-take-le (piece_len ss) ss (piece_within ss) in
    first_cut ss some ∙ ap (λ p. p ∷ pieces (drop (piece_len ss) ss)) (sym first) ∙ ap (λ k. piece ∷ pieces (drop k ss)) (sym len)

-- one symbol more of the first piece
ends_here : (s : Symbol) (ss : List Symbol) → is_endmodule s ≡ true → piece_len (s ∷ ss) ≡ 1
unfolding piece_len
ends_here s ss e = rw e refl

goes_on : (s : Symbol) (ss : List Symbol) → is_endmodule s ≡ false → piece_len (s ∷ ss) ≡ suc (piece_len ss)
unfolding piece_len
goes_on s ss e = rw e refl

len_none : piece_len [] ≡ 0
unfolding piece_len
len_none = refl

pub len_ends : (ss : List Symbol) (i : ℕ) (s : Symbol) → i < length ss → s ≡ get_or ss i s → is_endmodule s ≡ true → i + piece_len (drop i ss) ≡ piece_len ss → i + 1 ≡ piece_len ss
len_ends ss i s within is ends so_far =
    let next = at_drop_more piece_len ss i s within in
    let here : piece_len (get_or ss i s ∷ drop (i + 1) ss) ≡ 1 = ap (λ t. piece_len (t ∷ drop (i + 1) ss)) (sym is) ∙ ends_here s (drop (i + 1) ss) ends in
    sym (ap (λ n. i + n) (next ∙ here)) ∙ so_far

pub len_goes : (ss : List Symbol) (i : ℕ) (s : Symbol) → i < length ss → s ≡ get_or ss i s → is_endmodule s ≡ false → i + piece_len (drop i ss) ≡ piece_len ss
    → i + 1 + piece_len (drop (i + 1) ss) ≡ piece_len ss
len_goes ss i s within is goes so_far =
    let next = at_drop_more piece_len ss i s within in
    let here : piece_len (get_or ss i s ∷ drop (i + 1) ss) ≡ suc (piece_len (drop (i + 1) ss)) = ap (λ t. piece_len (t ∷ drop (i + 1) ss)) (sym is) ∙ goes_on s (drop (i + 1) ss) goes in
    omega (arith, next, here, so_far)

pub len_all : (ss : List Symbol) (i : ℕ) → length ss ≤ i → i + piece_len (drop i ss) ≡ piece_len ss → i ≡ piece_len ss
len_all ss i all so_far =
    let none : piece_len (drop i ss) ≡ 0 = at_drop_all piece_len ss i all ∙ len_none in
    omega (arith, none, so_far)
