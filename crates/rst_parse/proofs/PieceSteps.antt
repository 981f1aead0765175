-- What the loop over pieces keeps.
use Rattle.std.proofs.Common.{◌≡◌, ℕ, ◌+◌, ◌≤◌, List, [], ◌∷◌, ◌++◌, length, drop, Ok, Err, inl, inr, refl, sym, ap, subst, arith, append_assoc, length-drop}
use Rattle.std.proofs.lemmas.List.{append-nil, nil_from_length, drop-drop}
use Rattle.rst_tree.specs.Modules.{PlainModule}
use Rattle.rst_grammar.specs.declared.symbol.Symbol.{Symbol}
use Rattle.rst_parse.specs.declared.parser.ParseFault.TheVariants as faults
use Rattle.rst_parse.specs.Pieces.{pieces}
use Rattle.rst_parse.specs.Parsing.{IsModuleOf, IsNoModule, Answer, with_module, ReadsPieces}

-- an answer with these modules before the others
abbrev pub with_modules : List PlainModule → Answer → Answer
with_modules ms (Ok others) = Ok (ms ++ others)
with_modules ms (Err fault) = Err fault

-- What the symbols from this place on are read as is, behind these modules, what all are read as.
pub record Front (symbols : List Symbol) (at : ℕ) (ms : List PlainModule) : Type 0 where
  pub goes : (answer : Answer) → ReadsPieces at (pieces (drop at symbols)) answer → ReadsPieces 0 (pieces symbols) (with_modules ms answer)
  pub within : at ≤ length symbols

with_none : (answer : Answer) → answer ≡ with_modules [] answer
with_none (Ok others) = refl
with_none (Err fault) = refl

pub front_start : (symbols : List Symbol) → Front symbols 0 []
front_start symbols = record { goes = λ answer reads. subst (ReadsPieces 0 (pieces symbols)) (with_none answer) reads; within = omega arith }

with_one : (ms : List PlainModule) (m : PlainModule) (answer : Answer) → with_modules ms (with_module m answer) ≡ with_modules (ms ++ m ∷ []) answer
with_one ms m (Ok others) = ap (λ (l : List PlainModule). Ok l) (sym (append_assoc ms (m ∷ []) others))
with_one ms m (Err fault) = refl

-- the first piece of the symbols from a place on
abbrev pub IsCut : List Symbol → ℕ → List Symbol → Type 0
IsCut symbols at piece = pieces (drop at symbols) ≡ piece ∷ pieces (drop (length piece) (drop at symbols))

pub front_module : (symbols : List Symbol) (at : ℕ) (ms : List PlainModule) (piece : List Symbol) (m : PlainModule) → Front symbols at ms → IsCut symbols at piece → at + length piece ≤ length symbols
    → IsModuleOf m piece → Front symbols (at + length piece) (ms ++ m ∷ [])
front_module symbols at ms piece m front cut within is = record {
  goes = λ answer reads.
      let behind : ReadsPieces (at + length piece) (pieces (drop (length piece) (drop at symbols))) answer =
      subst (λ ss. ReadsPieces (at + length piece) (pieces ss) answer) (sym (drop-drop (length piece) at symbols)) reads in
      subst (ReadsPieces 0 (pieces symbols)) (with_one ms m answer)
      (front.goes (with_module m answer) (subst (λ ps. ReadsPieces at ps (with_module m answer)) (sym cut) (inr (m, answer, is, behind, refl))));
  within = within;
}

pub front_done : (symbols : List Symbol) (at : ℕ) (ms : List PlainModule) → Front symbols at ms → length symbols ≤ at → ReadsPieces 0 (pieces symbols) (Ok ms)
front_done symbols at ms front all =
    let empty : drop at symbols ≡ [] = nil_from_length (drop at symbols) (omega (arith, length-drop at symbols)) in
    subst (λ (l : List PlainModule). ReadsPieces 0 (pieces symbols) (Ok l)) (append-nil ms)
    (front.goes (Ok []) (subst (λ ss. ReadsPieces at (pieces ss) (Ok [])) (sym empty) refl))

pub front_fault : (symbols : List Symbol) (at : ℕ) (ms : List PlainModule) (piece : List Symbol) → Front symbols at ms → IsCut symbols at piece → IsNoModule piece
    → ReadsPieces 0 (pieces symbols) (Err (faults.NoTree at))
front_fault symbols at ms piece front cut none =
    front.goes (Err (faults.NoTree at)) (subst (λ ps. ReadsPieces at ps (Err (faults.NoTree at))) (sym cut) (inl (none, refl)))
