-- The tokens of a text are parsed in one way.
use Rattle.std.proofs.Common.{◌≡◌, ◌≢◌, ℕ, ◌+◌, List, [], ◌∷◌, length, Option, Some, None, Result, Err, inl, inr, sym, ap, subst, ◌∙◌}
use Rattle.rst_lex.specs.declared.token.Token.{Token}
use Rattle.rst_tree.specs.declared.module.Source.{Source}
use Rattle.rst_grammar.specs.declared.symbol.Symbol.{Symbol}
use Rattle.rst_parse.specs.declared.parser.ParseFault.{ParseFault}
use Rattle.rst_parse.specs.declared.parser.ParseFault.TheVariants as faults
use Rattle.rst_grammar.proofs.ExactModules.{one_module}
use Rattle.rst_parse.specs.Symbols.{first_refused}
use Rattle.rst_parse.specs.Pieces.{pieces}
use Rattle.rst_parse.specs.Parsing.{Answer, with_module, ReadsPieces, Parses, refused, read, plain_answer}
use Rattle.rst_parse.proofs.SymbolSteps.{same_symbols}

pub one_reading : (at : ℕ) (ps : List (List Symbol)) (p q : Answer) → ReadsPieces at ps p → ReadsPieces at ps q → p ≡ q
one_reading at [] p q a b = a ∙ sym b
one_reading at (piece ∷ others) p q (inl a) (inl b) = a.1 ∙ sym b.1
one_reading at (piece ∷ others) p q (inl a) (inr b) = absurd (a.0 b.0 b.2)
one_reading at (piece ∷ others) p q (inr a) (inl b) = absurd (b.0 a.0 a.2)
one_reading at (piece ∷ others) p q (inr a) (inr b) =
    let same = one_module a.0 b.0 piece a.2.spelled b.2.spelled in
    let more = one_reading (at + length piece) others a.1 b.1 a.3 b.3 in
    a.4 ∙ ap (λ m. with_module m a.1) same ∙ ap (with_module b.0) more ∙ sym b.4

same_number : (i j : ℕ) (o : Option ℕ) → o ≡ Some i → o ≡ Some j → i ≡ j
same_number i j o e f = cc

not_both : (i : ℕ) (o : Option ℕ) → o ≡ Some i → o ≡ None → ⊥
not_both i o e f = cc

pub one_answer : (text : List ℕ) (tokens : List Token) (p q : Answer) → Parses text tokens p → Parses text tokens q → p ≡ q
one_answer text tokens p q (refused i e f) (refused j g h) = f ∙ ap (λ k. Err (faults.Unsupported k)) (same_number i j (first_refused text tokens) e g) ∙ sym h
one_answer text tokens p q (refused i e f) (read ys g h b) = absurd (not_both i (first_refused text tokens) e g)
one_answer text tokens p q (read xs e f a) (refused j g h) = absurd (not_both j (first_refused text tokens) g e)
one_answer text tokens p q (read xs e f a) (read ys g h b) =
    let same = same_symbols xs ys (sym f ∙ h) in
    one_reading 0 (pieces ys) p q (subst (λ ss. ReadsPieces 0 (pieces ss) p) same a) b

abbrev pub failed : ParseFault → Result Source ParseFault
failed fault = Err fault

-- a fault that is answered is the one answer
pub only_fault : (text : List ℕ) (tokens : List Token) (fault : ParseFault) → (fault ≢ faults.NoMemory → Parses text tokens (Err fault)) → (answer : Answer) → Parses text tokens answer
    → failed fault ≢ failed faults.NoMemory → plain_answer (failed fault) ≡ answer
only_fault text tokens fault is answer parses some = one_answer text tokens (Err fault) answer (is (λ e. some (ap failed e))) parses
