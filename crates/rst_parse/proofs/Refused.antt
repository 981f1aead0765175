-- A token spells no terminal exactly where it is refused.
use Rattle.std.proofs.Common.{◌≡◌, ℕ, Bool, true, false, not, ◌||◌, List, Some, None, refl, sym, ◌∙◌, inl, inr, bytes_eq, codes, if◌then◌else◌}
use Rattle.std.specs.List.{list_all}
use Rattle.std.specs.Option.{is_none}
use Rattle.std.proofs.lemmas.Bool.{or_cases, cases_Bool}
use Rattle.rst_lex.specs.declared.token.TokenKind.{TokenKind}
use Rattle.rst_lex.specs.declared.token.TokenKind.TheVariants as kinds
use Rattle.rst_lex.specs.Marks.{marks as profile_marks, IsMark}
use Rattle.rst_lex.specs.Words.{keywords as profile_keywords, refused_keywords, is_profile_keyword, is_refused_keyword, IsKeyword}
use Rattle.rst_lex.specs.Lexing.{IsTokenOf}
use Rattle.rst_grammar.specs.declared.symbol.Terminal.TheVariants as terminal
use Rattle.rst_parse.specs.Spelling.{keywords, marks, functions, terminal_in}
use Rattle.rst_parse.specs.Symbols.{is_refused, terminal_symbol, symbol_of}
use Rattle.rst_parse.proofs.Tables.{each_listed, agree, agree_same, none_mapped}

-- ---- keywords

no_keyword : List ℕ → Bool
no_keyword text = is_none (terminal_in keywords text)

refused_have_none : list_all no_keyword refused_keywords ≡ true
unfolding no_keyword
refused_have_none = refl

is_keyword : List ℕ → Bool
is_keyword text = not (is_none (terminal_in keywords text))

others_have_one : list_all is_keyword profile_keywords ≡ true
unfolding is_keyword
others_have_one = refl

refused_keyword : (text : List ℕ) → is_refused_keyword text ≡ true → is_none (terminal_in keywords text) ≡ true
unfolding no_keyword is_refused_keyword
refused_keyword text is = each_listed no_keyword refused_keywords text refused_have_none is

profile_keyword : (text : List ℕ) → is_profile_keyword text ≡ true → is_none (terminal_in keywords text) ≡ false
unfolding is_keyword is_profile_keyword
profile_keyword text is = from_not (is_none (terminal_in keywords text)) (each_listed is_keyword profile_keywords text others_have_one is)
  where
    from_not : (b : Bool) → not b ≡ true → b ≡ false
    from_not true e = absurd cc
    from_not false e = refl

keyword_settled : (text : List ℕ) → IsKeyword text → is_none (terminal_in keywords text) ≡ is_refused_keyword text
keyword_settled text is = elim (cases_Bool (is_refused_keyword text)) [
  | inl refused ↦ refused_keyword text refused ∙ sym refused
  | inr kept ↦ elim (or_cases (is_profile_keyword text) (is_refused_keyword text) is) [
    | inl profile ↦ profile_keyword text profile ∙ sym kept
    | inr refused ↦ refused_keyword text refused ∙ sym refused
  ]
]

-- ---- marks

settled : List ℕ → Bool
settled text = agree (is_none (terminal_in marks text)) (is_refused kinds.Mark text)

all_settled : list_all settled profile_marks ≡ true
unfolding settled
all_settled = refl

mark_settled : (text : List ℕ) → IsMark text → is_none (terminal_in marks text) ≡ is_refused kinds.Mark text
unfolding settled
mark_settled text is = agree_same (is_none (terminal_in marks text)) (is_refused kinds.Mark text) (each_listed settled profile_marks text all_settled is)

-- ---- system tokens

function_settled : (text : List ℕ) → is_none (terminal_in functions text) ≡ is_refused kinds.System text
function_settled text = by_tests (bytes_eq (codes "$signed") text) (bytes_eq (codes "$unsigned") text)
  where
    by_tests : (s u : Bool) → is_none (if s then Some terminal.SystemSigned else (if u then Some terminal.SystemUnsigned else None)) ≡ not (s || (u || false))
    by_tests true u = refl
    by_tests false true = refl
    by_tests false false = refl

pub symbol_settled : (kind : TokenKind) (text : List ℕ) → IsTokenOf kind text → is_none (symbol_of kind text) ≡ is_refused kind text
symbol_settled kinds.Name text is = refl
symbol_settled (kinds.Number literal) text is = refl
symbol_settled kinds.Keyword text is = none_mapped terminal_symbol (terminal_in keywords text) ∙ keyword_settled text is.1
symbol_settled kinds.Mark text is = none_mapped terminal_symbol (terminal_in marks text) ∙ mark_settled text is
symbol_settled kinds.System text is = none_mapped terminal_symbol (terminal_in functions text) ∙ function_settled text
