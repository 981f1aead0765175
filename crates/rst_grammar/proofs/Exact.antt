-- A reader is exact where it reads just what a production spells. Exact readers are joined to exact readers.
use Rattle.std.proofs.Common.{◌≡◌, ℕ, ◌≤◌, max, Bool, true, false, List, [], ◌∷◌, Option, Some, None, refl, sym, ap, subst, ◌∙◌, arith}
use Rattle.std.proofs.lemmas.Bool.{eq-eqb}
use Rattle.rst_tree.specs.Modules.{height_if}
use Rattle.rst_grammar.specs.declared.symbol.Terminal.{Terminal}
use Rattle.rst_grammar.specs.declared.symbol.Symbol.{Symbol}
use Rattle.rst_grammar.specs.declared.symbol.Symbol.TheVariants as symbol
use Rattle.rst_grammar.specs.Says.{Nothing, ◌⊗◌, quoted, named}
use Rattle.rst_grammar.specs.Productions.{Optional, Flag}
use Rattle.rst_grammar.specs.Reading.{◌>>=◌, cases, after, number_of}
use Rattle.rst_grammar.specs.ReadParts.{ReaderOf, name_in, mapped, both, behind, up_to, optional, flag}
use Rattle.rst_grammar.proofs.Fronts.{Front, split, joined, one_is, one_front, nothing_is, nothing_front}
use Rattle.rst_grammar.proofs.Tools.{bind_some}
use Rattle.rst_grammar.proofs.Terminals.{after_is}
use Rattle.rst_grammar.proofs.Sound.{some_is, after_front}

-- The reader reads what the production spells, of a size up to the limit, wherever May holds of what follows; and it reads
-- nothing else.
pub record IsExact {A : Type 0} (P : A → List Symbol → Type 0) (size : A → ℕ) (limit : ℕ) (one : ReaderOf A) (May : List Symbol → Type 0) : Type 0 where
  pub sound : (ts : List Symbol) (x : A × List Symbol) → one ts ≡ Some x → Front (P x.0) ts x.1 × (size x.0 ≤ limit)
  pub takes : (x : A) (ts rest : List Symbol) → Front (P x) ts rest → size x ≤ limit → May rest → one ts ≡ Some (x, rest)

-- anything may follow
abbrev pub Anything : List Symbol → Type 0
Anything ts = Unit {0}

-- this terminal doesn't follow
abbrev pub Without : Terminal → List Symbol → Type 0
Without t ts = after t ts ≡ None

-- ---- terminals

pub no_result : {A : Type 0} (x : A) → None ≡ Some x → ⊥
no_result x e = cc

pub is_after : (t : Terminal) (ts rest : List Symbol) → ts ≡ symbol.Terminal t ∷ rest → after t ts ≡ Some rest
is_after t ts rest e = rw (e, eq-eqb (number_of t) (number_of t) refl) refl

-- a reader that reads nothing behind a terminal reads from symbols without it
pub without : {A : Type 0} (t : Terminal) (one : ReaderOf A) → ((rest : List Symbol) → one (symbol.Terminal t ∷ rest) ≡ None) → (ts : List Symbol) (y : A × List Symbol) → one ts ≡ Some y → Without t ts
without t one refuses ts y reads = by_case (after t ts) refl
  where
    by_case : (o : Option (List Symbol)) → after t ts ≡ o → after t ts ≡ None
    by_case None e = e
    by_case (Some rest) e = absurd (no_result y (sym (refuses rest) ∙ sym (ap one (after_is t ts rest e)) ∙ reads))

-- what is read behind a terminal begins with it
pub behind_is : {A : Type 0} (t : Terminal) (one : ReaderOf A) (ts : List Symbol) (y : A × List Symbol) → behind t one ts ≡ Some y → (rest : List Symbol) × (ts ≡ symbol.Terminal t ∷ rest)
unfolding behind
behind_is t one ts y reads =
    let a = bind_some (after t ts) (λ rest. one rest) y reads in
    (a.0, after_is t ts a.0 a.1)

-- so what may stand before the terminal may stand before what is read
pub before_behind : {A : Type 0} (May : List Symbol → Type 0) (t : Terminal) (one : ReaderOf A) → ((rest : List Symbol) → May (symbol.Terminal t ∷ rest)) → (ts : List Symbol) (y : A × List Symbol) → behind t one ts ≡ Some y → May ts
before_behind May t one may ts y reads =
    let a = behind_is t one ts y reads in
    subst May (sym a.1) (may a.0)

-- ---- one part

name_sound : (limit : ℕ) (ts : List Symbol) (x : List ℕ × List Symbol) → name_in ts ≡ Some x → Front (named x.0) ts x.1 × (0 ≤ limit)
unfolding name_in
name_sound limit [] x e = absurd cc
name_sound limit (symbol.Name n ∷ rest) x e =
    let made : List ℕ × List Symbol = (n, rest) in
    subst (λ (y : List ℕ × List Symbol). Front (named y.0) (symbol.Name n ∷ rest) y.1 × (0 ≤ limit)) (some_is made x e) (one_front refl, omega arith)
name_sound limit (symbol.Number n ∷ rest) x e = absurd cc
name_sound limit (symbol.Terminal t ∷ rest) x e = absurd cc

name_takes : (limit : ℕ) (n : List ℕ) (ts rest : List Symbol) → Front (named n) ts rest → 0 ≤ limit → Anything rest → name_in ts ≡ Some (n, rest)
unfolding name_in
name_takes limit n ts rest f small may = rw (one_is f) refl

pub name_exact : (limit : ℕ) → IsExact named (λ n. 0) limit name_in Anything
name_exact limit = record { sound = name_sound limit; takes = name_takes limit }

pub name_is : (ts : List Symbol) (y : List ℕ × List Symbol) → name_in ts ≡ Some y → (n : List ℕ) × (rest : List Symbol) × (ts ≡ symbol.Name n ∷ rest)
unfolding name_in
name_is [] y e = absurd cc
name_is (symbol.Name n ∷ rest) y e = (n, rest, refl)
name_is (symbol.Number n ∷ rest) y e = absurd cc
name_is (symbol.Terminal t ∷ rest) y e = absurd cc

module _ (t : Terminal) (limit : ℕ) where
  flag_found : (ts : List Symbol) (x : Bool × List Symbol) (o : Option (List Symbol)) → after t ts ≡ o → cases o (Some (false, ts)) (λ rest. Some (true, rest)) ≡ Some x → Front (Flag t x.0) ts x.1 × (0 ≤ limit)
  flag_found ts x None is e =
      let made : Bool × List Symbol = (false, ts) in
      let f = nothing_front ts in
      subst (λ (y : Bool × List Symbol). Front (Flag t y.0) ts y.1 × (0 ≤ limit)) (some_is made x e) (record { text = f.text; parts = f.parts; says = f.says }, omega arith)
  flag_found ts x (Some rest) is e =
      let made : Bool × List Symbol = (true, rest) in
      let f = after_front t ts rest is in
      subst (λ (y : Bool × List Symbol). Front (Flag t y.0) ts y.1 × (0 ≤ limit)) (some_is made x e) (record { text = f.text; parts = f.parts; says = f.says }, omega arith)

  flag_sound : (ts : List Symbol) (x : Bool × List Symbol) → flag t ts ≡ Some x → Front (Flag t x.0) ts x.1 × (0 ≤ limit)
  unfolding flag
  flag_sound ts x e = flag_found ts x (after t ts) refl e

  flag_takes : (b : Bool) (ts rest : List Symbol) → Front (Flag t b) ts rest → 0 ≤ limit → Without t rest → flag t ts ≡ Some (b, rest)
  unfolding flag
  flag_takes true ts rest f small may =
      let is : Front (quoted t) ts rest = record { text = f.text; parts = f.parts; says = f.says } in
      rw (is_after t ts rest (one_is is)) refl
  flag_takes false ts rest f small may =
      let is : Front Nothing ts rest = record { text = f.text; parts = f.parts; says = f.says } in
      rw (nothing_is is, may) refl

  pub flag_exact : IsExact (Flag t) (λ b. 0) limit (flag t) (Without t)
  flag_exact = record { sound = flag_sound; takes = flag_takes }

-- ---- parts in a row

pub behind_exact : {A : Type 0} {P : A → List Symbol → Type 0} {size : A → ℕ} {limit : ℕ} {one : ReaderOf A} {May : List Symbol → Type 0} (t : Terminal) → IsExact P size limit one May
    → IsExact (λ x. quoted t ⊗ P x) size limit (behind t one) May
unfolding behind
behind_exact {P = P} {one = one} t e = record {
  sound = λ ts x r.
      let a = bind_some (after t ts) (λ rest. one rest) x r in
      let inner = e.sound a.0 x a.2 in
      (joined (after_front t ts a.0 a.1) inner.0, inner.1);
  takes = λ x ts rest f small may.
      let s = split {P = quoted t} {Q = P x} f in
      rw (is_after t ts s.mid (one_is s.left)) (e.takes x s.mid rest s.right small may);
}

pub up_to_exact : {A : Type 0} {P : A → List Symbol → Type 0} {size : A → ℕ} {limit : ℕ} {one : ReaderOf A} {May : List Symbol → Type 0} (t : Terminal) → ((rest : List Symbol) → May (symbol.Terminal t ∷ rest)) → IsExact P size limit one May
    → IsExact (λ x. P x ⊗ quoted t) size limit (up_to t one) Anything
unfolding up_to
up_to_exact {A = A} {P = P} {size = size} {limit = limit} {one = one} {May = May} t may e = record {
  sound = λ ts x r.
      let a = bind_some (one ts) (λ y. after t y.1 >>= λ rest. Some (y.0, rest)) x r in
      let b = bind_some (after t a.0.1) (λ rest. Some (a.0.0, rest)) x a.2 in
      let inner = e.sound ts a.0 a.1 in
      let made : A × List Symbol = (a.0.0, b.0) in
      subst (λ (y : A × List Symbol). Front (P y.0 ⊗ quoted t) ts y.1 × (size y.0 ≤ limit)) (some_is made x b.2) (joined inner.0 (after_front t a.0.1 b.0 b.1), inner.1);
  takes = λ x ts rest f small any.
      let s = split {P = P x} {Q = quoted t} f in
      let close = one_is s.right in
      rw (e.takes x ts s.mid s.left small (subst May (sym close) (may rest)), is_after t s.mid rest close) refl;
}

pub both_exact : {A B : Type 0} {P : A → List Symbol → Type 0} {Q : B → List Symbol → Type 0} {m : A → ℕ} {n : B → ℕ} {limit : ℕ} {one : ReaderOf A} {other : ReaderOf B} {MayP MayQ : List Symbol → Type 0} → IsExact P m limit one MayP
    → IsExact Q n limit other MayQ → ((ts : List Symbol) (y : B × List Symbol) → other ts ≡ Some y → MayP ts)
    → IsExact (λ (x : A × B). P x.0 ⊗ Q x.1) (λ (x : A × B). max (m x.0) (n x.1)) limit (both one other) MayQ
unfolding both
both_exact {A = A} {B = B} {P = P} {Q = Q} {m = m} {n = n} {limit = limit} {one = one} {other = other} e f meets = record {
  sound = λ ts x r.
      let a = bind_some (one ts) (λ y. other y.1 >>= λ z. Some ((y.0, z.0), z.1)) x r in
      let b = bind_some (other a.0.1) (λ z. Some ((a.0.0, z.0), z.1)) x a.2 in
      let first = e.sound ts a.0 a.1 in
      let second = f.sound a.0.1 b.0 b.1 in
      let made : (A × B) × List Symbol = ((a.0.0, b.0.0), b.0.1) in
      subst (λ (y : (A × B) × List Symbol). Front (P y.0.0 ⊗ Q y.0.1) ts y.1 × (max (m y.0.0) (n y.0.1) ≤ limit)) (some_is made x b.2) (joined first.0 second.0, omega (arith, first.1, second.1));
  takes = λ x ts rest g small may.
      let s = split {P = P x.0} {Q = Q x.1} g in
      let second = f.takes x.1 s.mid rest s.right (omega (arith, small)) may in
      rw (e.takes x.0 ts s.mid s.left (omega (arith, small)) (meets s.mid (x.1, rest) second), second) refl;
}

-- what is made of a part, where it is spelled by the same symbols
pub mapped_exact : {A B : Type 0} {P : A → List Symbol → Type 0} {Q : B → List Symbol → Type 0} {m : A → ℕ} {n : B → ℕ} {limit : ℕ} {one : ReaderOf A} {May : List Symbol → Type 0} (make : A → B) → IsExact P m limit one May
    → ((x : A) (ts : List Symbol) → P x ts → m x ≤ limit → Q (make x) ts × (n (make x) ≤ limit)) → ((y : B) (ts : List Symbol) → Q y ts → n y ≤ limit → (x : A) × (make x ≡ y) × P x ts × (m x ≤ limit))
    → IsExact Q n limit (mapped make one) May
unfolding mapped
mapped_exact {A = A} {B = B} {P = P} {Q = Q} {m = m} {n = n} {limit = limit} {one = one} make e says parts = record {
  sound = λ ts x r.
      let a = bind_some (one ts) (λ y. Some (make y.0, y.1)) x r in
      let inner = e.sound ts a.0 a.1 in
      let said = says a.0.0 inner.0.text inner.0.says inner.1 in
      let made : B × List Symbol = (make a.0.0, a.0.1) in
      subst (λ (y : B × List Symbol). Front (Q y.0) ts y.1 × (n y.0 ≤ limit)) (some_is made x a.2) (record { text = inner.0.text; parts = inner.0.parts; says = said.0 }, said.1);
  takes = λ y ts rest f small may.
      let p = parts y f.text f.says small in
      let inner : Front (P p.0) ts rest = record { text = f.text; parts = f.parts; says = p.2 } in
      rw (e.takes p.0 ts rest inner p.3 may) (ap (λ (z : B). Some (z, rest)) p.1);
}

-- the same part, spelled by an equal production
pub same_exact : {A : Type 0} {P Q : A → List Symbol → Type 0} {size : A → ℕ} {limit : ℕ} {one : ReaderOf A} {May : List Symbol → Type 0} → IsExact P size limit one May → ((x : A) (ts : List Symbol) → P x ts → Q x ts)
    → ((x : A) (ts : List Symbol) → Q x ts → P x ts) → IsExact Q size limit one May
same_exact e to from = record {
  sound = λ ts x r.
      let inner = e.sound ts x r in
      (record { text = inner.0.text; parts = inner.0.parts; says = to x.0 inner.0.text inner.0.says }, inner.1);
  takes = λ x ts rest f small may. e.takes x ts rest (record { text = f.text; parts = f.parts; says = from x f.text f.says }) small may;
}

-- what is made is made of a part that is read
pub mapped_reads : {A B : Type 0} (make : A → B) (one : ReaderOf A) (ts : List Symbol) (y : B × List Symbol) → mapped make one ts ≡ Some y → (x : A × List Symbol) × (one ts ≡ Some x)
unfolding mapped
mapped_reads make one ts y r =
    let a = bind_some (one ts) (λ x. Some (make x.0, x.1)) y r in
    (a.0, a.1)

-- two parts begin as the first does
pub both_reads : {A B : Type 0} (one : ReaderOf A) (other : ReaderOf B) (ts : List Symbol) (y : (A × B) × List Symbol) → both one other ts ≡ Some y → (x : A × List Symbol) × (one ts ≡ Some x)
unfolding both
both_reads one other ts y r =
    let a = bind_some (one ts) (λ x. other x.1 >>= λ z. Some ((x.0, z.0), z.1)) y r in
    (a.0, a.1)

-- ---- a part that may be left out

module _ {A : Type 0} {P : A → List Symbol → Type 0} {size : A → ℕ} {limit : ℕ} {one : ReaderOf A} {May : List Symbol → Type 0} (t : Terminal) (e : IsExact P size limit one May) where
  optional_found : (ts : List Symbol) (x : Option A × List Symbol) (o : Option (List Symbol)) → after t ts ≡ o → cases o (Some (None, ts)) (λ rest. one rest >>= λ y. Some (Some y.0, y.1)) ≡ Some x
      → Front (Optional (λ z. quoted t ⊗ P z) x.0) ts x.1 × (height_if size x.0 ≤ limit)
  optional_found ts x None is r =
      let made : Option A × List Symbol = (None, ts) in
      let f = nothing_front ts in
      subst (λ (y : Option A × List Symbol). Front (Optional (λ z. quoted t ⊗ P z) y.0) ts y.1 × (height_if size y.0 ≤ limit)) (some_is made x r) (record { text = f.text; parts = f.parts; says = f.says }, omega arith)
  optional_found ts x (Some rest) is r =
      let a = bind_some (one rest) (λ y. Some (Some y.0, y.1)) x r in
      let inner = e.sound rest a.0 a.1 in
      let made : Option A × List Symbol = (Some a.0.0, a.0.1) in
      let f : Front (quoted t ⊗ P a.0.0) ts a.0.1 = joined (after_front t ts rest is) inner.0 in
      subst (λ (y : Option A × List Symbol). Front (Optional (λ z. quoted t ⊗ P z) y.0) ts y.1 × (height_if size y.0 ≤ limit)) (some_is made x a.2) (record { text = f.text; parts = f.parts; says = f.says }, inner.1)

  optional_sound : (ts : List Symbol) (x : Option A × List Symbol) → optional t one ts ≡ Some x → Front (Optional (λ z. quoted t ⊗ P z) x.0) ts x.1 × (height_if size x.0 ≤ limit)
  unfolding optional
  optional_sound ts x r = optional_found ts x (after t ts) refl r

  optional_takes : (x : Option A) (ts rest : List Symbol) → Front (Optional (λ z. quoted t ⊗ P z) x) ts rest → height_if size x ≤ limit → May rest × Without t rest → optional t one ts ≡ Some (x, rest)
  unfolding optional
  optional_takes None ts rest f small may =
      let is : Front Nothing ts rest = record { text = f.text; parts = f.parts; says = f.says } in
      rw (nothing_is is, may.1) refl
  optional_takes (Some x) ts rest f small may =
      let g : Front (quoted t ⊗ P x) ts rest = record { text = f.text; parts = f.parts; says = f.says } in
      let s = split {P = quoted t} {Q = P x} g in
      rw (is_after t ts s.mid (one_is s.left), e.takes x s.mid rest s.right small may.0) refl

  pub optional_exact : IsExact (Optional (λ x. quoted t ⊗ P x)) (height_if size) limit (optional t one) (λ rest. May rest × Without t rest)
  optional_exact = record { sound = optional_sound; takes = optional_takes }
