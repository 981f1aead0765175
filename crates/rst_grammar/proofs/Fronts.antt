-- What stands in front of a text, and how productions in a row part it.
use Rattle.std.proofs.Common.{◌≡◌, ◌∙◌, ◌≤◌, length, length-append, arith, List, [], ◌∷◌, ◌++◌, refl, sym, ap, subst, append_assoc}
use Rattle.std.proofs.lemmas.List.{append-nil}
use Rattle.rst_grammar.specs.declared.symbol.Symbol.{Symbol}
use Rattle.rst_grammar.specs.Says.{Nothing, One, Then}

-- the text begins with what P says, and the rest follows
pub record Front (P : List Symbol → Type 0) (ts rest : List Symbol) : Type 0 where
  pub text : List Symbol
  pub parts : ts ≡ text ++ rest
  pub says : P text

pub record Parted (P Q : List Symbol → Type 0) (ts rest : List Symbol) : Type 0 where
  pub mid : List Symbol
  pub left : Front P ts mid
  pub right : Front Q mid rest

pub split : {P Q : List Symbol → Type 0} {ts rest : List Symbol} → Front (Then P Q) ts rest → Parted P Q ts rest
split {rest = rest} f = record {
  mid = f.says.second ++ rest;
  left = record { text = f.says.first; parts = f.parts ∙ ap (λ t. t ++ rest) f.says.parts ∙ append_assoc f.says.first f.says.second rest; says = f.says.left };
  right = record { text = f.says.second; parts = refl; says = f.says.right };
}

pub joined : {P Q : List Symbol → Type 0} {ts mid rest : List Symbol} → Front P ts mid → Front Q mid rest → Front (Then P Q) ts rest
joined {rest = rest} f g = record {
  text = f.text ++ g.text;
  parts = f.parts ∙ ap (λ t. f.text ++ t) g.parts ∙ sym (append_assoc f.text g.text rest);
  says = record { first = f.text; second = g.text; parts = refl; left = f.says; right = g.says };
}

pub one_is : {s : Symbol} {ts rest : List Symbol} → Front (One s) ts rest → ts ≡ s ∷ rest
one_is {rest = rest} f = f.parts ∙ ap (λ t. t ++ rest) f.says.is

pub one_front : {s : Symbol} {ts rest : List Symbol} → ts ≡ s ∷ rest → Front (One s) ts rest
one_front {s = s} e = record { text = s ∷ []; parts = e; says = record { is = refl } }

pub nothing_is : {ts rest : List Symbol} → Front Nothing ts rest → ts ≡ rest
nothing_is {rest = rest} f = f.parts ∙ ap (λ t. t ++ rest) f.says.is

pub nothing_front : (ts : List Symbol) → Front Nothing ts ts
nothing_front ts = record { text = []; parts = refl; says = record { is = refl } }

pub whole : {P : List Symbol → Type 0} (ts : List Symbol) → P ts → Front P ts []
whole ts p = record { text = ts; parts = sym (append-nil ts); says = p }

-- nothing behind it
pub whole_of : {P : List Symbol → Type 0} (ts rest : List Symbol) → Front P ts rest → rest ≡ [] → P ts
whole_of {P = P} ts rest f none =
    let text-is : ts ≡ f.text = f.parts ∙ ap (λ t. f.text ++ t) none ∙ append-nil f.text in
    subst P (sym text-is) f.says

-- what is left is no longer
pub no_longer : {P : List Symbol → Type 0} {ts rest : List Symbol} → Front P ts rest → length rest ≤ length ts
no_longer {rest = rest} f = omega (arith, ap length f.parts, length-append f.text rest)
