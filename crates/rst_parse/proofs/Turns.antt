-- Reading a list one part after the other, as a loop does.
use Rattle.std.proofs.Common.{◌≡◌, ℕ, zero, suc, List, [], ◌∷◌, ◌++◌, length, map, Option, Some, None, refl, sym, ap, ◌∙◌, append_assoc}
use Rattle.std.proofs.lemmas.List.{append-nil, map-append}
use Rattle.rst_grammar.specs.declared.symbol.Symbol.{Symbol}
use Rattle.rst_grammar.specs.declared.symbol.Terminal.{Terminal}
use Rattle.rst_grammar.specs.Reading.{◌>>=◌, cases, after}
use Rattle.rst_grammar.specs.ReadParts.{ReaderOf, mapped, separated, more_separated, until}
use Rattle.rst_read.specs.declared.stop.Stop.{Stop}
use Rattle.rst_read.specs.declared.stop.Stop.TheVariants as stop
use Rattle.rst_read.specs.Gives.{Fails}

abbrev pub Found : Type 0 → Type 0
Found A = Option (List A × List Symbol)

abbrev pub SeparatorReader : Type 0
SeparatorReader = List Symbol → Option (List Symbol)

-- what was read before, and what is still read
abbrev pub with_front : {A : Type 0} → List A → Found A → Found A
with_front front read = read >>= λ o. Some (front ++ o.0, o.1)

regroup : {A : Type 0} (front : List A) (x : A) (read : Found A) → with_front front (read >>= λ o. Some (x ∷ o.0, o.1)) ≡ with_front (front ++ x ∷ []) read
regroup front x (Some o) = ap (λ xs. Some (xs, o.1)) (sym (append_assoc front (x ∷ []) o.0))
regroup front x None = refl

nothing_more : {A : Type 0} (front : List A) (ts : List Symbol) (read : Found A) → read ≡ Some ([], ts) → with_front front read ≡ Some (front, ts)
nothing_more front ts read e = rw e (ap (λ xs. Some (xs, ts)) (append-nil front))

nothing_before : {A : Type 0} (read : Found A) → with_front [] read ≡ read
nothing_before (Some o) = refl
nothing_before None = refl

-- a longer list in plain form
pub pushed : {X A : Type 0} (plain : X → A) (xs longer : List X) (x : X) → longer ≡ xs ++ x ∷ [] → map plain longer ≡ map plain xs ++ plain x ∷ []
pushed plain xs longer x l = ap (map plain) l ∙ map-append plain xs (x ∷ [])

-- the first part
pub begins : {A : Type 0} (next : SeparatorReader) (one : ReaderOf A) (x : A) (ts rest : List Symbol) → one ts ≡ Some (x, rest)
    → with_front (x ∷ []) (more_separated next one (length rest) rest) ≡ separated next one ts
unfolding separated
begins next one x ts rest r = rw r refl

-- no part at all
pub begins_not : {A : Type 0} (e : Stop) (next : SeparatorReader) (one : ReaderOf A) (ts : List Symbol) → Fails e (one ts) → Fails e (separated next one ts)
unfolding separated
begins_not stop.NoMemory next one ts r = tt
begins_not stop.NoTree next one ts r = rw r refl

-- one part more
pub goes_on : {A : Type 0} (next : SeparatorReader) (one : ReaderOf A) (k j : ℕ) (front longer : List A) (x : A) (rest after behind : List Symbol) (total : Found A) → k ≡ suc j → longer ≡ front ++ x ∷ [] → next rest ≡ Some after → one after ≡ Some (x, behind)
    → with_front front (more_separated next one k rest) ≡ total → with_front longer (more_separated next one j behind) ≡ total
unfolding more_separated
goes_on next one k j front longer x rest after behind total n l s r so_far =
    let again : with_front front (more_separated next one k rest) ≡ with_front (front ++ x ∷ []) (more_separated next one j behind) = rw (n, s, r) (regroup front x (more_separated next one j behind)) in
    ap (λ xs. with_front xs (more_separated next one j behind)) l ∙ sym again ∙ so_far

no_separator : {A : Type 0} (next : SeparatorReader) (one : ReaderOf A) (k : ℕ) (rest : List Symbol) → next rest ≡ None → more_separated next one k rest ≡ Some ([], rest)
unfolding more_separated
no_separator next one zero rest s = refl
no_separator next one (suc k) rest s = rw s refl

-- no separator
pub stops : {A : Type 0} (next : SeparatorReader) (one : ReaderOf A) (k : ℕ) (front : List A) (rest : List Symbol) (total : Found A) → next rest ≡ None
    → with_front front (more_separated next one k rest) ≡ total → total ≡ Some (front, rest)
stops next one k front rest total s so_far = sym so_far ∙ nothing_more front rest (more_separated next one k rest) (no_separator next one k rest s)

-- no more turns
pub is_done : {A : Type 0} (next : SeparatorReader) (one : ReaderOf A) (k : ℕ) (front : List A) (rest : List Symbol) (total : Found A) → k ≡ 0
    → with_front front (more_separated next one k rest) ≡ total → total ≡ Some (front, rest)
unfolding more_separated
is_done next one k front rest total z so_far = sym so_far ∙ nothing_more front rest (more_separated next one k rest) (ap (λ n. more_separated next one n rest) z)

-- no part behind a separator
pub fails : {A : Type 0} (e : Stop) (next : SeparatorReader) (one : ReaderOf A) (k j : ℕ) (front : List A) (rest after : List Symbol) (total : Found A) → k ≡ suc j → next rest ≡ Some after → Fails e (one after)
    → with_front front (more_separated next one k rest) ≡ total → Fails e total
unfolding more_separated
fails stop.NoMemory next one k j front rest after total n s r so_far = tt
fails stop.NoTree next one k j front rest after total n s r so_far =
    let none : with_front front (more_separated next one k rest) ≡ None = rw (n, s, r) refl in
    sym so_far ∙ none

-- ---- parts up to a terminal

-- before the first part
pub until_begins : {A : Type 0} (t : Terminal) (one : ReaderOf A) (ts : List Symbol) → with_front [] (until t one (length ts) ts) ≡ until t one (length ts) ts
until_begins t one ts = nothing_before (until t one (length ts) ts)

-- one part more
pub until_goes : {A : Type 0} (t : Terminal) (one : ReaderOf A) (k j : ℕ) (front longer : List A) (x : A) (rest behind : List Symbol) (total : Found A) → k ≡ suc j → longer ≡ front ++ x ∷ [] → after t rest ≡ None → one rest ≡ Some (x, behind)
    → with_front front (until t one k rest) ≡ total → with_front longer (until t one j behind) ≡ total
unfolding until
until_goes t one k j front longer x rest behind total n l s r so_far =
    let again : with_front front (until t one k rest) ≡ with_front (front ++ x ∷ []) (until t one j behind) = rw (n, s, r) (regroup front x (until t one j behind)) in
    ap (λ xs. with_front xs (until t one j behind)) l ∙ sym again ∙ so_far

-- the terminal
pub until_ends : {A : Type 0} (t : Terminal) (one : ReaderOf A) (k j : ℕ) (front : List A) (rest behind : List Symbol) (total : Found A) → k ≡ suc j → after t rest ≡ Some behind
    → with_front front (until t one k rest) ≡ total → total ≡ Some (front, behind)
unfolding until
until_ends t one k j front rest behind total n s so_far =
    let ended : until t one k rest ≡ Some ([], behind) = rw (n, s) refl in
    sym so_far ∙ nothing_more front behind (until t one k rest) ended

-- neither
pub until_fails : {A : Type 0} (e : Stop) (t : Terminal) (one : ReaderOf A) (k j : ℕ) (front : List A) (rest : List Symbol) (total : Found A) → k ≡ suc j → after t rest ≡ None → Fails e (one rest)
    → with_front front (until t one k rest) ≡ total → Fails e total
unfolding until
until_fails stop.NoMemory t one k j front rest total n s r so_far = tt
until_fails stop.NoTree t one k j front rest total n s r so_far =
    let none : with_front front (until t one k rest) ≡ None = rw (n, s, r) refl in
    sym so_far ∙ none

-- no more turns
pub until_out : {A : Type 0} (t : Terminal) (one : ReaderOf A) (k : ℕ) (front : List A) (rest : List Symbol) (total : Found A) → k ≡ 0
    → with_front front (until t one k rest) ≡ total → total ≡ None
unfolding until
until_out t one k front rest total z so_far =
    let none : with_front front (until t one k rest) ≡ None = rw z refl in
    sym so_far ∙ none
