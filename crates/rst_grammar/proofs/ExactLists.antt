-- Exact readers of lists.
use Rattle.std.proofs.Common.{◌≡◌, ℕ, zero, suc, ◌<◌, ◌≤◌, List, [], ◌∷◌, ◌++◌, length, length-append, Option, Some, None, refl, sym, ap, subst, ◌∙◌, arith}
use Rattle.rst_tree.specs.Modules.{tallest}
use Rattle.rst_grammar.specs.declared.symbol.Terminal.{Terminal}
use Rattle.rst_grammar.specs.declared.symbol.Terminal.TheVariants as terminal
use Rattle.rst_grammar.specs.declared.symbol.Symbol.{Symbol}
use Rattle.rst_grammar.specs.declared.symbol.Symbol.TheVariants as symbol
use Rattle.rst_grammar.specs.Says.{Nothing, ◌⊗◌, quoted}
use Rattle.rst_grammar.specs.Productions.{Repeated, MoreSeparated, Separated}
use Rattle.rst_grammar.specs.Reading.{◌>>=◌, cases, after}
use Rattle.rst_grammar.specs.ReadParts.{ReaderOf, more_separated, separated, comma, comma_before_name, until}
use Rattle.rst_grammar.proofs.Fronts.{Front, split, joined, one_is, nothing_is, nothing_front, no_longer}
use Rattle.rst_grammar.proofs.Tools.{bind_some}
use Rattle.rst_grammar.proofs.Terminals.{after_is}
use Rattle.rst_grammar.proofs.Sound.{some_is, after_front}
use Rattle.rst_grammar.proofs.Exact.{IsExact, Anything, is_after, no_result}

-- What stands between the parts of a list: `next` finds it before a part, and a part may stand before it.
pub record IsSeparator {A : Type 0} (Separator : List Symbol → Type 0) (next : List Symbol → Option (List Symbol)) (one : ReaderOf A) (May : List Symbol → Type 0) : Type 0 where
  pub sound : (ts rest : List Symbol) → next ts ≡ Some rest → Front Separator ts rest
  pub takes : (ts rest : List Symbol) (y : A × List Symbol) → Front Separator ts rest → one rest ≡ Some y → next ts ≡ Some rest
  pub before : (ts rest : List Symbol) (y : A × List Symbol) → next ts ≡ Some rest → one rest ≡ Some y → May ts
  pub shorter : (ts rest : List Symbol) → Front Separator ts rest → length rest < length ts

module _ {A : Type 0} {P : A → List Symbol → Type 0} {size : A → ℕ} {limit : ℕ} {one : ReaderOf A} {May : List Symbol → Type 0} {Separator : List Symbol → Type 0} {next : List Symbol → Option (List Symbol)} (e : IsExact P size limit one May)
    (separator : IsSeparator Separator next one May) where
  abbrev MoreRead : List Symbol → List A × List Symbol → Type 0
  MoreRead ts x = Front (MoreSeparated Separator P x.0) ts x.1 × (tallest size x.0 ≤ limit)

  no_more : (ts : List Symbol) (x : List A × List Symbol) → Some ([], ts) ≡ Some x → MoreRead ts x
  no_more ts x r =
      let made : List A × List Symbol = ([], ts) in
      let f = nothing_front ts in
      subst (MoreRead ts) (some_is made x r) (record { text = f.text; parts = f.parts; says = f.says }, omega arith)

  turn : (most : ℕ) (ts : List Symbol) (x : List A × List Symbol) (o : Option (List Symbol)) → next ts ≡ o → ((m : List Symbol) (y : List A × List Symbol) → more_separated next one most m ≡ Some y → MoreRead m y)
      → cases o (Some ([], ts)) (λ rest. one rest >>= λ first. more_separated next one most first.1 >>= λ others. Some (first.0 ∷ others.0, others.1)) ≡ Some x → MoreRead ts x
  turn most ts x None is go r = no_more ts x r
  turn most ts x (Some rest) is go r =
      let a = bind_some (one rest) (λ first. more_separated next one most first.1 >>= λ others. Some (first.0 ∷ others.0, others.1)) x r in
      let b = bind_some (more_separated next one most a.0.1) (λ others. Some (a.0.0 ∷ others.0, others.1)) x a.2 in
      let first = e.sound rest a.0 a.1 in
      let others = go a.0.1 b.0 b.1 in
      let made : List A × List Symbol = (a.0.0 ∷ b.0.0, b.0.1) in
      let f : Front (Separator ⊗ P a.0.0 ⊗ MoreSeparated Separator P b.0.0) ts b.0.1 = joined (separator.sound ts rest is) (joined first.0 others.0) in
      subst (MoreRead ts) (some_is made x b.2) (record { text = f.text; parts = f.parts; says = f.says }, omega (arith, first.1, others.1))

  more_sound : (most : ℕ) (ts : List Symbol) (x : List A × List Symbol) → more_separated next one most ts ≡ Some x → MoreRead ts x
  unfolding more_separated
  more_sound zero ts x r = no_more ts x r
  more_sound (suc most) ts x r = turn most ts x (next ts) refl (λ m y g. more_sound most m y g) r

  list_sound : (ts : List Symbol) (x : List A × List Symbol) → separated next one ts ≡ Some x → Front (Separated Separator P x.0) ts x.1 × (tallest size x.0 ≤ limit)
  unfolding separated
  list_sound ts x r =
      let a = bind_some (one ts) (λ first. more_separated next one (length first.1) first.1 >>= λ others. Some (first.0 ∷ others.0, others.1)) x r in
      let b = bind_some (more_separated next one (length a.0.1) a.0.1) (λ others. Some (a.0.0 ∷ others.0, others.1)) x a.2 in
      let first = e.sound ts a.0 a.1 in
      let others = more_sound (length a.0.1) a.0.1 b.0 b.1 in
      let made : List A × List Symbol = (a.0.0 ∷ b.0.0, b.0.1) in
      let f : Front (P a.0.0 ⊗ MoreSeparated Separator P b.0.0) ts b.0.1 = joined first.0 others.0 in
      subst (λ (y : List A × List Symbol). Front (Separated Separator P y.0) ts y.1 × (tallest size y.0 ≤ limit)) (some_is made x b.2) (record { text = f.text; parts = f.parts; says = f.says }, omega (arith, first.1, others.1))

  none_next : (most : ℕ) (rest : List Symbol) → next rest ≡ None → more_separated next one most rest ≡ Some ([], rest)
  unfolding more_separated
  none_next zero rest n = refl
  none_next (suc most) rest n = rw n refl

  one_next : (most : ℕ) (x : A) (xs : List A) (ts m1 m2 rest : List Symbol) → length ts ≤ most → length m2 < length ts → next ts ≡ Some m1 → one m1 ≡ Some (x, m2) → ((k : ℕ) → length m2 ≤ k → more_separated next one k m2 ≡ Some (xs, rest))
      → more_separated next one most ts ≡ Some (x ∷ xs, rest)
  unfolding more_separated
  one_next zero x xs ts m1 m2 rest room lt n first others = absurd (omega arith)
  one_next (suc most) x xs ts m1 m2 rest room lt n first others = rw (n, first, others most (omega arith)) refl

  -- the rest of the list is read, and it may follow a part
  more_takes : (xs : List A) (ts rest : List Symbol) → Front (MoreSeparated Separator P xs) ts rest → tallest size xs ≤ limit → May rest → next rest ≡ None
      → ((most : ℕ) → length ts ≤ most → more_separated next one most ts ≡ Some (xs, rest)) × May ts
  more_takes [] ts rest f small may n =
      let is : Front Nothing ts rest = record { text = f.text; parts = f.parts; says = f.says } in
      let same = nothing_is is in
      (λ most room. ap (more_separated next one most) same ∙ none_next most rest n, subst May (sym same) may)
  more_takes (x ∷ xs) ts rest f small may n =
      let g : Front (Separator ⊗ P x ⊗ MoreSeparated Separator P xs) ts rest = record { text = f.text; parts = f.parts; says = f.says } in
      let a = split {P = Separator} {Q = P x ⊗ MoreSeparated Separator P xs} g in
      let b = split {P = P x} {Q = MoreSeparated Separator P xs} a.right in
      let others = more_takes xs b.mid rest b.right (omega (arith, small)) may n in
      let first = e.takes x a.mid b.mid b.left (omega (arith, small)) others.1 in
      let found = separator.takes ts a.mid (x, b.mid) a.left first in
      let lt : length b.mid < length ts = omega (arith, separator.shorter ts a.mid a.left, no_longer b.left) in
      (λ most room. one_next most x xs ts a.mid b.mid rest room lt found first others.0, separator.before ts a.mid (x, b.mid) found first)

  list_takes : (xs : List A) (ts rest : List Symbol) → Front (Separated Separator P xs) ts rest → tallest size xs ≤ limit → May rest × (next rest ≡ None) → separated next one ts ≡ Some (xs, rest)
  unfolding separated
  list_takes [] ts rest f small may = absurd f.says
  list_takes (x ∷ xs) ts rest f small may =
      let g : Front (P x ⊗ MoreSeparated Separator P xs) ts rest = record { text = f.text; parts = f.parts; says = f.says } in
      let a = split {P = P x} {Q = MoreSeparated Separator P xs} g in
      let others = more_takes xs a.mid rest a.right (omega (arith, small)) may.0 may.1 in
      rw (e.takes x ts a.mid a.left (omega (arith, small)) others.1, others.0 (length a.mid) (omega arith)) refl

  pub separated_exact : IsExact (Separated Separator P) (tallest size) limit (separated next one) (λ rest. May rest × (next rest ≡ None))
  separated_exact = record { sound = list_sound; takes = list_takes }

pub quoted_shorter : (t : Terminal) (ts rest : List Symbol) → Front (quoted t) ts rest → length rest < length ts
quoted_shorter t ts rest f = omega (arith, ap length (one_is f))

-- a comma
pub comma_separator : {A : Type 0} {one : ReaderOf A} {May : List Symbol → Type 0} → ((rest : List Symbol) (y : A × List Symbol) → one rest ≡ Some y → May (symbol.Terminal terminal.Comma ∷ rest)) → IsSeparator (quoted terminal.Comma) comma one May
unfolding comma
comma_separator {May = May} may = record {
  sound = λ ts rest n. after_front terminal.Comma ts rest n;
  takes = λ ts rest y f r. is_after terminal.Comma ts rest (one_is f);
  before = λ ts rest y n r. subst May (sym (after_is terminal.Comma ts rest n)) (may rest y r);
  shorter = quoted_shorter terminal.Comma;
}

comma_name_is : (ts rest : List Symbol) → comma_before_name ts ≡ Some rest → ts ≡ symbol.Terminal terminal.Comma ∷ rest
unfolding comma_before_name
comma_name_is [] rest e = absurd cc
comma_name_is (symbol.Terminal terminal.Comma ∷ symbol.Name n ∷ ts) rest e =
    let tail : symbol.Name n ∷ ts ≡ rest = cc in
    ap (λ (xs : List Symbol). symbol.Terminal terminal.Comma ∷ xs) tail
comma_name_is (t ∷ ts) rest e = absurd cc

comma_name_found : (ts rest : List Symbol) (n : List ℕ) (behind : List Symbol) → ts ≡ symbol.Terminal terminal.Comma ∷ rest → rest ≡ symbol.Name n ∷ behind → comma_before_name ts ≡ Some rest
unfolding comma_before_name
comma_name_found ts rest n behind e is = rw (e, is) refl

-- a comma before a name, with which each part begins
pub name_separator : {A : Type 0} {one : ReaderOf A} {May : List Symbol → Type 0} → ((rest : List Symbol) (y : A × List Symbol) → one rest ≡ Some y → (n : List ℕ) × (behind : List Symbol) × (rest ≡ symbol.Name n ∷ behind))
    → ((rest : List Symbol) → May (symbol.Terminal terminal.Comma ∷ rest)) → IsSeparator (quoted terminal.Comma) comma_before_name one May
name_separator {A = A} {one = one} {May = May} begins may = record {
  sound = λ ts rest n. after_front terminal.Comma ts rest (is_after terminal.Comma ts rest (comma_name_is ts rest n));
  takes = λ ts rest y f r. let b = begins rest y r in comma_name_found ts rest b.0 b.1 (one_is f) b.2;
  before = λ ts rest y n r. subst May (sym (comma_name_is ts rest n)) (may rest);
  shorter = quoted_shorter terminal.Comma;
}

-- parts up to a terminal with which no part begins
module _ {A : Type 0} {P : A → List Symbol → Type 0} {size : A → ℕ} {limit : ℕ} {one : ReaderOf A} {May : List Symbol → Type 0} (t : Terminal) (empty : one [] ≡ None) (may_end : May [])
    (refuses : (rest : List Symbol) → one (symbol.Terminal t ∷ rest) ≡ None) (may_stop : (rest : List Symbol) → May (symbol.Terminal t ∷ rest)) (may_next : (ts : List Symbol) (y : A × List Symbol) → one ts ≡ Some y → May ts) (e : IsExact P size limit one May) where
  abbrev UntilRead : List Symbol → List A × List Symbol → Type 0
  UntilRead ts x = Front (Repeated P x.0 ⊗ quoted t) ts x.1 × (tallest size x.0 ≤ limit)

  longer : (x : A) (xs : List A) (ts mid rest : List Symbol) → Front (P x) ts mid → Front (Repeated P xs ⊗ quoted t) mid rest → Front (Repeated P (x ∷ xs) ⊗ quoted t) ts rest
  longer x xs ts mid rest f g =
      let s = split {P = Repeated P xs} {Q = quoted t} g in
      let h : Front (P x ⊗ Repeated P xs) ts s.mid = joined f s.left in
      let again : Front (Repeated P (x ∷ xs)) ts s.mid = record { text = h.text; parts = h.parts; says = h.says } in
      joined again s.right

  until_turn : (most : ℕ) (ts : List Symbol) (x : List A × List Symbol) (o : Option (List Symbol)) → after t ts ≡ o → ((m : List Symbol) (y : List A × List Symbol) → until t one most m ≡ Some y → UntilRead m y)
      → cases o (one ts >>= λ first. until t one most first.1 >>= λ others. Some (first.0 ∷ others.0, others.1)) (λ rest. Some ([], rest)) ≡ Some x → UntilRead ts x
  until_turn most ts x None is go r =
      let a = bind_some (one ts) (λ first. until t one most first.1 >>= λ others. Some (first.0 ∷ others.0, others.1)) x r in
      let b = bind_some (until t one most a.0.1) (λ others. Some (a.0.0 ∷ others.0, others.1)) x a.2 in
      let first = e.sound ts a.0 a.1 in
      let others = go a.0.1 b.0 b.1 in
      let made : List A × List Symbol = (a.0.0 ∷ b.0.0, b.0.1) in
      subst (UntilRead ts) (some_is made x b.2) (longer a.0.0 b.0.0 ts a.0.1 b.0.1 first.0 others.0, omega (arith, first.1, others.1))
  until_turn most ts x (Some rest) is go r =
      let made : List A × List Symbol = ([], rest) in
      let f = nothing_front ts in
      let none : Front (Repeated P []) ts ts = record { text = f.text; parts = f.parts; says = f.says } in
      subst (UntilRead ts) (some_is made x r) (joined none (after_front t ts rest is), omega arith)

  until_sound : (most : ℕ) (ts : List Symbol) (x : List A × List Symbol) → until t one most ts ≡ Some x → UntilRead ts x
  unfolding until
  until_sound zero ts x r = absurd cc
  until_sound (suc most) ts x r = until_turn most ts x (after t ts) refl (λ m y g. until_sound most m y g) r

  -- no part is spelled by no symbol
  shorter : (x : A) (ts mid : List Symbol) → Front (P x) ts mid → size x ≤ limit → length mid < length ts
  shorter x ts mid f small = by_text f.text f.parts f.says
    where
      by_text : (text : List Symbol) → ts ≡ text ++ mid → P x text → length mid < length ts
      by_text [] parts says =
          let g : Front (P x) [] [] = record { text = []; parts = refl; says = says } in
          absurd (no_result (x, []) (sym empty ∙ e.takes x [] [] g small may_end))
      by_text (s ∷ text) parts says = omega (arith, ap length parts, length-append text mid)

  stop : (most : ℕ) (ts rest : List Symbol) → ts ≡ symbol.Terminal t ∷ rest → length ts ≤ most → until t one most ts ≡ Some ([], rest)
  unfolding until
  stop zero ts rest is room = absurd (omega (arith, ap length is))
  stop (suc most) ts rest is room = rw (is_after t ts rest is) refl

  none_after : (ts : List Symbol) (y : A × List Symbol) → one ts ≡ Some y → after t ts ≡ None
  none_after ts y r = by_case (after t ts) refl
    where
      by_case : (o : Option (List Symbol)) → after t ts ≡ o → after t ts ≡ None
      by_case None is = is
      by_case (Some rest) is = absurd (no_result y (sym (refuses rest) ∙ sym (ap one (after_is t ts rest is)) ∙ r))

  step : (most : ℕ) (x : A) (xs : List A) (ts mid rest : List Symbol) → length ts ≤ most → length mid < length ts → after t ts ≡ None → one ts ≡ Some (x, mid) → ((k : ℕ) → length mid ≤ k → until t one k mid ≡ Some (xs, rest))
      → until t one most ts ≡ Some (x ∷ xs, rest)
  unfolding until
  step zero x xs ts mid rest room lt n first others = absurd (omega arith)
  step (suc most) x xs ts mid rest room lt n first others = rw (n, first, others most (omega arith)) refl

  until_takes : (xs : List A) (ts mid rest : List Symbol) → Front (Repeated P xs) ts mid → mid ≡ symbol.Terminal t ∷ rest → tallest size xs ≤ limit
      → ((most : ℕ) → length ts ≤ most → until t one most ts ≡ Some (xs, rest)) × May ts
  until_takes [] ts mid rest f close small =
      let is : Front Nothing ts mid = record { text = f.text; parts = f.parts; says = f.says } in
      let front = nothing_is is ∙ close in
      (λ most room. stop most ts rest front room, subst May (sym front) (may_stop rest))
  until_takes (x ∷ xs) ts mid rest f close small =
      let g : Front (P x ⊗ Repeated P xs) ts mid = record { text = f.text; parts = f.parts; says = f.says } in
      let s = split {P = P x} {Q = Repeated P xs} g in
      let others = until_takes xs s.mid mid rest s.right close (omega (arith, small)) in
      let first = e.takes x ts s.mid s.left (omega (arith, small)) others.1 in
      let lt = shorter x ts s.mid s.left (omega (arith, small)) in
      (λ most room. step most x xs ts s.mid rest room lt (none_after ts (x, s.mid) first) first others.0, may_next ts (x, s.mid) first)

  all_taken : (xs : List A) (ts rest : List Symbol) → Front (Repeated P xs ⊗ quoted t) ts rest → tallest size xs ≤ limit → until t one (length ts) ts ≡ Some (xs, rest)
  all_taken xs ts rest f small =
      let s = split {P = Repeated P xs} {Q = quoted t} f in
      (until_takes xs ts s.mid rest s.left (one_is s.right) small).0 (length ts) (omega arith)

  pub until_exact : IsExact (λ xs. Repeated P xs ⊗ quoted t) (tallest size) limit (λ ts. until t one (length ts) ts) Anything
  until_exact = record { sound = λ ts x r. until_sound (length ts) ts x r; takes = λ xs ts rest f small may. all_taken xs ts rest f small }
