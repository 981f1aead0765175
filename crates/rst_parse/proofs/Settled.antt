-- What is settled of every parse: fault places lie among the tokens, modules are well formed, and there is an answer.
use Rattle.std.proofs.Common.{◌≡◌, ◌≢◌, ℕ, suc, ◌+◌, ◌<◌, ◌≤◌, Bool, true, false, cond, List, [], ◌∷◌, length, map, Option, Some, None, Ok, Err, inl, inr, refl, sym, ap, subst, ◌∙◌, arith, if◌then◌else◌}
use Rattle.std.specs.List.{All, position_from}
use Rattle.std.specs.Option.{is_none}
use Rattle.std.specs.Prelude.{◌⊎◌}
use Rattle.std.proofs.lemmas.List.Elements.{All-nil, All-cons, All-head, All-tail}
use Rattle.rst_lex.specs.declared.token.Token.{Token}
use Rattle.rst_lex.specs.Tokens.{token_text}
use Rattle.rst_lex.specs.Lexing.{Reads, IsTokenOf}
use Rattle.rst_lex.proofs.LexLoop.{kinds_in}
use Rattle.rst_tree.specs.Modules.{PlainModule}
use Rattle.rst_tree.specs.WellFormed.{WellFormed}
use Rattle.rst_grammar.specs.declared.symbol.Symbol.{Symbol}
use Rattle.rst_grammar.specs.ReadModule.{module_reader}
use Rattle.rst_grammar.proofs.ExactModules.{module_sound, module_only, module_none}
use Rattle.rst_grammar.proofs.FormedModules.{module_formed, module_long}
use Rattle.rst_parse.specs.declared.parser.ParseFault.{ParseFault}
use Rattle.rst_parse.specs.declared.parser.ParseFault.TheVariants as faults
use Rattle.rst_parse.specs.Symbols.{is_refused_token, first_refused, token_symbol, AreSymbols}
use Rattle.rst_parse.specs.Pieces.{is_endmodule, with_symbol, pieces}
use Rattle.rst_parse.specs.Parsing.{IsModuleOf, IsNoModule, Answer, with_module, ReadsPieces, Parses, refused, read, NamesToken}
use Rattle.rst_parse.proofs.Refused.{symbol_settled}
use Rattle.rst_parse.proofs.SymbolSteps.{symbol_count}

-- ---- pieces

total : List (List Symbol) → ℕ
total [] = 0
total (piece ∷ ps) = length piece + total ps

abbrev AreFull : List (List Symbol) → Type 0
AreFull [] = Unit {0}
AreFull (piece ∷ ps) = (0 < length piece) × AreFull ps

one_more : (s : Symbol) (ps : List (List Symbol)) → total (with_symbol s ps) ≡ suc (total ps)
unfolding total
one_more s [] = refl
one_more s (piece ∷ ps) = omega arith

still_full : (s : Symbol) (ps : List (List Symbol)) → AreFull ps → AreFull (with_symbol s ps)
still_full s [] full = (omega arith, tt)
still_full s (piece ∷ ps) full = (omega arith, full.1)

-- the pieces have all symbols, and each has one
pieces_total : (ss : List Symbol) → total (pieces ss) ≡ length ss
unfolding total
pieces_total [] = refl
pieces_total (s ∷ ss) = by_test (is_endmodule s) (pieces_total ss)
  where
    by_test : (b : Bool) → total (pieces ss) ≡ length ss → total (if b then (s ∷ []) ∷ pieces ss else with_symbol s (pieces ss)) ≡ suc (length ss)
    by_test true e = omega (arith, e)
    by_test false e = one_more s (pieces ss) ∙ ap suc e

pieces_full : (ss : List Symbol) → AreFull (pieces ss)
pieces_full [] = tt
pieces_full (s ∷ ss) = by_test (is_endmodule s) (pieces_full ss)
  where
    by_test : (b : Bool) → AreFull (pieces ss) → AreFull (if b then (s ∷ []) ∷ pieces ss else with_symbol s (pieces ss))
    by_test true full = (omega arith, full)
    by_test false full = still_full s (pieces ss) full

-- ---- places

abbrev failed : ParseFault → Answer
failed fault = Err fault

abbrev made : List PlainModule → Answer
made modules = Ok modules

same_fault : (e f : ParseFault) → failed e ≡ failed f → e ≡ f
same_fault e f same = cc

same_modules : (ms ns : List PlainModule) → made ms ≡ made ns → ms ≡ ns
same_modules ms ns same = cc

no_fault : (ms : List PlainModule) (fault : ParseFault) → made ms ≡ failed fault → ⊥
no_fault ms fault same = cc

abbrev Behind : ℕ → List (List Symbol) → ParseFault → Type 0
Behind at ps fault = NamesToken (at + total ps) fault

fault_among : (at : ℕ) (ps : List (List Symbol)) (answer : Answer) (fault : ParseFault) → AreFull ps → ReadsPieces at ps answer → answer ≡ Err fault → Behind at ps fault
unfolding total
fault_among at [] answer fault full reads is = absurd (no_fault [] fault (sym reads ∙ is))
fault_among at (piece ∷ ps) answer fault full (inl none) is =
    let here : at < at + (length piece + total ps) = omega (arith, full.0) in
    subst (Behind at (piece ∷ ps)) (same_fault (faults.NoTree at) fault (sym none.1 ∙ is)) here
fault_among at (piece ∷ ps) answer fault full (inr some) is =
    by_more some.1 some.3 (λ f reads same. fault_among (at + length piece) ps (Err f) fault full.1 reads same) (sym some.4 ∙ is)
  where
    by_more : (more : Answer) → ReadsPieces (at + length piece) ps more → ((f : ParseFault) → ReadsPieces (at + length piece) ps (failed f) → failed f ≡ failed fault → Behind (at + length piece) ps fault)
        → with_module some.0 more ≡ Err fault → Behind at (piece ∷ ps) fault
    by_more (Ok others) reads go same = absurd (no_fault (some.0 ∷ others) fault same)
    by_more (Err f) reads go same =
        let same_end : at + length piece + total ps ≡ at + (length piece + total ps) = omega arith in
        subst (λ n. NamesToken n fault) same_end (go f reads same)

refused_among : (p : Token → Bool) (tokens : List Token) (at i : ℕ) → position_from p at tokens ≡ Some i → i < at + length tokens
refused_among p [] at i is = absurd cc
refused_among p (token ∷ tokens) at i is = by_test (p token) (λ e. refused_among p tokens (at + 1) i e) is
  where
    by_test : (b : Bool) → (position_from p (at + 1) tokens ≡ Some i → i < at + 1 + length tokens) → cond b (Some at) (position_from p (at + 1) tokens) ≡ Some i → i < at + suc (length tokens)
    by_test true go e = let same : at ≡ i = cc in omega arith
    by_test false go e = let more = go e in omega arith

same_answer : (fault : ParseFault) (answer : Answer) → answer ≡ Err fault → (e : ParseFault) → answer ≡ Err e → e ≡ fault
same_answer fault answer is e same = same_fault e fault (sym same ∙ is)

place_of : (text : List ℕ) (tokens : List Token) (answer : Answer) (fault : ParseFault) → Parses text tokens answer → answer ≡ Err fault → NamesToken (length tokens) fault
place_of text tokens answer fault (refused i first same) is =
    let among = refused_among (is_refused_token text) tokens 0 i first in
    let here : i < length tokens = omega arith in
    subst (NamesToken (length tokens)) (same_answer fault answer is (faults.Unsupported i) same) here
place_of text tokens answer fault (read symbols none are reads) is =
    let count : total (pieces symbols) ≡ length tokens = pieces_total symbols ∙ symbol_count text tokens symbols are in
    let all : 0 + total (pieces symbols) ≡ length tokens = omega (arith, count) in
    subst (λ n. NamesToken n fault) all (fault_among 0 (pieces symbols) answer fault (pieces_full symbols) reads is)

-- the place of a fault lies among the tokens
pub fault_place : (text : List ℕ) (tokens : List Token) (fault : ParseFault) → Parses text tokens (Err fault) → NamesToken (length tokens) fault
fault_place text tokens fault parses = place_of text tokens (Err fault) fault parses refl

-- what was answered, where want of memory may have been
pub answered_place : (text : List ℕ) (tokens : List Token) (fault : ParseFault) → (fault ≢ faults.NoMemory → Parses text tokens (Err fault)) → NamesToken (length tokens) fault
answered_place text tokens faults.NoMemory is = tt
answered_place text tokens (faults.Unsupported i) is = fault_place text tokens (faults.Unsupported i) (is (λ e. cc))
answered_place text tokens (faults.NoTree i) is = fault_place text tokens (faults.NoTree i) (is (λ e. cc))

-- ---- well formed modules

all_formed : (at : ℕ) (ps : List (List Symbol)) (answer : Answer) (ms : List PlainModule) → total ps ≤ 1048576 → ReadsPieces at ps answer → answer ≡ Ok ms → All WellFormed ms
unfolding total
all_formed at [] answer ms few reads is = subst (All WellFormed) (same_modules [] ms (sym reads ∙ is)) (All-nil WellFormed)
all_formed at (piece ∷ ps) answer ms few (inl none) is = absurd (no_fault ms (faults.NoTree at) (sym is ∙ none.1))
all_formed at (piece ∷ ps) answer ms few (inr some) is =
    by_more some.1 some.3 (λ others reads. all_formed (at + length piece) ps (Ok others) others (omega (arith, few)) reads refl) (sym some.4 ∙ is)
  where
    first : WellFormed some.0
    first = record {
      formed = module_formed some.0 piece some.2.spelled;
      few = omega (arith, few, module_long some.0 piece some.2.spelled);
      low = some.2.within;
    }

    by_more : (more : Answer) → ReadsPieces (at + length piece) ps more → ((others : List PlainModule) → ReadsPieces (at + length piece) ps (made others) → All WellFormed others)
        → with_module some.0 more ≡ Ok ms → All WellFormed ms
    by_more (Ok others) reads go same = subst (All WellFormed) (same_modules (some.0 ∷ others) ms same) (All-cons WellFormed some.0 others first (go others reads))
    by_more (Err f) reads go same = absurd (no_fault ms f (sym same))

modules_formed : (text : List ℕ) (tokens : List Token) (answer : Answer) (ms : List PlainModule) → length tokens ≤ 1048576 → Parses text tokens answer → answer ≡ Ok ms → All WellFormed ms
modules_formed text tokens answer ms few (refused i first same) is = absurd (no_fault ms (faults.Unsupported i) (sym is ∙ same))
modules_formed text tokens answer ms few (read symbols none are reads) is =
    all_formed 0 (pieces symbols) answer ms (omega (arith, few, pieces_total symbols, symbol_count text tokens symbols are)) reads is

-- each module of an answer is well formed
pub well_formed : (text : List ℕ) (tokens : List Token) (ms : List PlainModule) → length tokens ≤ 1048576 → Parses text tokens (Ok ms) → All WellFormed ms
well_formed text tokens ms few parses = modules_formed text tokens (Ok ms) ms few parses refl

-- ---- there is an answer

-- whether a piece is a module is decided by reading it
decided : (piece : List Symbol) → IsNoModule piece ⊎ ((m : PlainModule) × IsModuleOf m piece)
decided piece = by_read (module_reader 200 piece) refl
  where
    by_rest : (m : PlainModule) (rest : List Symbol) → module_reader 200 piece ≡ Some (m, rest) → IsNoModule piece ⊎ ((n : PlainModule) × IsModuleOf n piece)
    by_rest m [] e =
        let s = module_sound 200 piece [] m e refl in
        inr (m, record { spelled = s.0; within = s.1 })
    by_rest m (s ∷ rest) e = inl (λ n is. nothing_left s rest (module_only 200 piece (s ∷ rest) n m e is.spelled is.within).1)
      where
        nothing_left : (s : Symbol) (rest : List Symbol) → s ∷ rest ≡ [] → ⊥
        nothing_left s rest e = cc

    by_read : (o : Option (PlainModule × List Symbol)) → module_reader 200 piece ≡ o → IsNoModule piece ⊎ ((m : PlainModule) × IsModuleOf m piece)
    by_read None e = inl (λ m is. module_none 200 piece m e is.spelled is.within)
    by_read (Some x) e = by_rest x.0 x.1 e

pieces_answer : (at : ℕ) (ps : List (List Symbol)) → (answer : Answer) × ReadsPieces at ps answer
pieces_answer at [] = (Ok [], refl)
pieces_answer at (piece ∷ ps) = elim (decided piece) [
  | inl none ↦ (Err (faults.NoTree at), inl (none, refl))
  | inr some ↦ let more = pieces_answer (at + length piece) ps in (with_module some.0 more.0, inr (some.0, more.0, some.1, more.1, refl))
]

module _ (text : List ℕ) where
  one_symbol : (token : Token) → IsTokenOf token.kind (token_text text token) → is_refused_token text token ≡ false → (s : Symbol) × (token_symbol text token ≡ Some s)
  one_symbol token kind kept = by_option (token_symbol text token) (symbol_settled token.kind (token_text text token) kind ∙ kept)
    where
      by_option : (o : Option Symbol) → is_none o ≡ false → (s : Symbol) × (o ≡ Some s)
      by_option None e = absurd cc
      by_option (Some s) e = (s, refl)

  all_symbols : (tokens : List Token) (at : ℕ) → All (λ token. IsTokenOf token.kind (token_text text token)) tokens → position_from (is_refused_token text) at tokens ≡ None → (symbols : List Symbol) × AreSymbols text tokens symbols
  all_symbols [] at kinds none = ([], refl)
  all_symbols (token ∷ tokens) at kinds none =
      by_test (is_refused_token text token) refl (λ f. all_symbols tokens (at + 1) (All-tail (λ t. IsTokenOf t.kind (token_text text t)) token tokens kinds) f) none
    where
      by_test : (b : Bool) → is_refused_token text token ≡ b → (position_from (is_refused_token text) (at + 1) tokens ≡ None → (symbols : List Symbol) × AreSymbols text tokens symbols)
          → cond b (Some at) (position_from (is_refused_token text) (at + 1) tokens) ≡ None → (symbols : List Symbol) × AreSymbols text (token ∷ tokens) symbols
      by_test true e go f = absurd cc
      by_test false e go f =
          let one = one_symbol token (All-head (λ t. IsTokenOf t.kind (token_text text t)) token tokens kinds) e in
          let more = go f in
          (one.0 ∷ more.0, rw (one.1, more.1) refl)

-- the tokens that a text is read as have an answer
pub some_answer : (text : List ℕ) (tokens : List Token) → Reads text (Ok tokens) → (answer : Answer) × Parses text tokens answer
some_answer text tokens reads = by_first (first_refused text tokens) refl
  where
    by_first : (o : Option ℕ) → first_refused text tokens ≡ o → (answer : Answer) × Parses text tokens answer
    by_first (Some i) e = (Err (faults.Unsupported i), refused i e refl)
    by_first None e =
        let symbols = all_symbols text tokens 0 (kinds_in text tokens reads) e in
        let answer = pieces_answer 0 (pieces symbols.0) in
        (answer.0, read symbols.0 e symbols.1 answer.1)
