-- Loops over tokens: one more.
use Rattle.std.proofs.Common.{◌≡◌, ℕ, zero, suc, ◌+◌, ◌<◌, ◌≤◌, arith, true, false, cond, List, [], ◌∷◌, ◌++◌, length, take, drop, get_or, map, Option, Some, None, refl, sym, ap, ◌∙◌, subst, length-drop}
use Rattle.std.specs.List.{position_from}
use Rattle.std.proofs.lemmas.List.{at_drop_more, take_more, map-append, nil_from_length, length-map}
use Rattle.rst_lex.specs.declared.token.Token.{Token}
use Rattle.rst_lex.specs.Tokens.{InOrder}
use Rattle.rst_grammar.specs.declared.symbol.Symbol.{Symbol}
use Rattle.rst_parse.specs.Symbols.{is_refused_token, first_refused, token_symbol, AreSymbols}

-- tokens in order end within the text
ends_within : (len : ℕ) (tokens : List Token) (from : ℕ) → InOrder from len tokens → from ≤ len
ends_within len [] from order = order
ends_within len (token ∷ tokens) from order = let behind = ends_within len tokens token.end order.2 in omega arith

pub token_within : (len : ℕ) (tokens : List Token) (from i : ℕ) (token : Token) → InOrder from len tokens → i < length tokens → token ≡ get_or tokens i token
    → (token.start ≤ token.end) × (token.end ≤ len)
token_within len [] from i token order within is = absurd (omega arith)
token_within len (t ∷ tokens) from zero token order within is =
    let behind = ends_within len tokens t.end order.2 in
    subst (λ (u : Token). (u.start ≤ u.end) × (u.end ≤ len)) (sym is) (omega arith, behind)
token_within len (t ∷ tokens) from (suc i) token order within is = token_within len tokens t.end i token order.2 (omega arith) is

-- a text has at least as many bytes as tokens
pub few_tokens : (len : ℕ) (tokens : List Token) (from : ℕ) → InOrder from len tokens → from + length tokens ≤ len
few_tokens len [] from order = omega arith
few_tokens len (token ∷ tokens) from order = let behind = few_tokens len tokens token.end order.2 in omega arith

-- the first refused token, where those before this one are not refused
pub found_refused : (text : List ℕ) (tokens : List Token) (i : ℕ) (token : Token) → i < length tokens → token ≡ get_or tokens i token
    → position_from (is_refused_token text) i (drop i tokens) ≡ first_refused text tokens → is_refused_token text token ≡ true → first_refused text tokens ≡ Some i
found_refused text tokens i token within is so_far refused =
    let next = at_drop_more (position_from (is_refused_token text) i) tokens i token within in
    let here : cond (is_refused_token text (get_or tokens i token)) (Some i) (position_from (is_refused_token text) (i + 1) (drop (i + 1) tokens)) ≡ Some i = rw (sym is, refused) refl in
    sym so_far ∙ next ∙ here

pub not_refused : (text : List ℕ) (tokens : List Token) (i : ℕ) (token : Token) → i < length tokens → token ≡ get_or tokens i token
    → position_from (is_refused_token text) i (drop i tokens) ≡ first_refused text tokens → is_refused_token text token ≡ false
    → position_from (is_refused_token text) (i + 1) (drop (i + 1) tokens) ≡ first_refused text tokens
not_refused text tokens i token within is so_far kept =
    let next = at_drop_more (position_from (is_refused_token text) i) tokens i token within in
    let here : cond (is_refused_token text (get_or tokens i token)) (Some i) (position_from (is_refused_token text) (i + 1) (drop (i + 1) tokens)) ≡ position_from (is_refused_token text) (i + 1) (drop (i + 1) tokens) = rw (sym is, kept) refl in
    sym here ∙ sym next ∙ so_far

pub none_refused : (text : List ℕ) (tokens : List Token) (i : ℕ) → length tokens ≤ i → position_from (is_refused_token text) i (drop i tokens) ≡ first_refused text tokens → first_refused text tokens ≡ None
none_refused text tokens i all so_far =
    let empty : drop i tokens ≡ [] = nil_from_length (drop i tokens) (omega (arith, length-drop i tokens)) in
    sym so_far ∙ ap (position_from (is_refused_token text) i) empty

-- one symbol more
pub one_symbol : (text : List ℕ) (tokens : List Token) (i : ℕ) (token : Token) (symbols : List Symbol) (symbol : Symbol) → i < length tokens → token ≡ get_or tokens i token
    → AreSymbols text (take i tokens) symbols → Some symbol ≡ token_symbol text token → AreSymbols text (take (i + 1) tokens) (symbols ++ symbol ∷ [])
one_symbol text tokens i token symbols symbol within is so_far same =
    ap (map (token_symbol text)) (take_more tokens i token within ∙ ap (λ t. take i tokens ++ t ∷ []) (sym is))
    ∙ map-append (token_symbol text) (take i tokens) (token ∷ [])
    ∙ ap (λ s. map (token_symbol text) (take i tokens) ++ s ∷ []) (sym same)
    ∙ ap (λ ss. ss ++ Some symbol ∷ []) so_far
    ∙ sym (map-append (λ s. Some s) symbols (symbol ∷ []))

some_of : List Symbol → List (Option Symbol)
some_of symbols = map (λ s. Some s) symbols

-- as many symbols as tokens
pub symbol_count : (text : List ℕ) (tokens : List Token) (symbols : List Symbol) → AreSymbols text tokens symbols → length symbols ≡ length tokens
symbol_count text tokens symbols are = sym (length-map symbols (λ s. Some s)) ∙ sym (ap length are) ∙ length-map tokens (token_symbol text)

-- what a text's symbols are
pub same_symbols : (xs ys : List Symbol) → map (λ s. Some s) xs ≡ map (λ s. Some s) ys → xs ≡ ys
same_symbols [] [] e = refl
same_symbols [] (y ∷ ys) e = absurd cc
same_symbols (x ∷ xs) [] e = absurd cc
same_symbols (x ∷ xs) (y ∷ ys) e =
    let parts = same_parts x y xs ys e in
    ap (λ z. z ∷ xs) parts.0 ∙ ap (λ zs. y ∷ zs) (same_symbols xs ys parts.1)
  where
    same_parts : (x y : Symbol) (xs ys : List Symbol) → map (λ s. Some s) (x ∷ xs) ≡ map (λ s. Some s) (y ∷ ys) → (x ≡ y) × (map (λ s. Some s) xs ≡ map (λ s. Some s) ys)
    same_parts x y xs ys e = (cc, cc)

-- What the loop keeps: the symbols of the tokens so far, none of which is refused.
pub record SoFar (text : List ℕ) (tokens : List Token) (i : ℕ) (symbols : List Symbol) : Type 0 where
  pub are : AreSymbols text (take i tokens) symbols
  pub kept : position_from (is_refused_token text) i (drop i tokens) ≡ first_refused text tokens

pub start : (text : List ℕ) (tokens : List Token) → SoFar text tokens 0 []
start text tokens = record { are = refl; kept = refl }
