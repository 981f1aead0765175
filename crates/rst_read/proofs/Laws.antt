-- A whole expression.
use Rattle.std.proofs.Common.{◌≡◌, ℕ, ◌≤◌, List, [], ◌++◌, Some, None, sym, ap, subst, ◌∙◌}
use Rattle.std.proofs.lemmas.List.{append-nil}
use Rattle.rst_tree.specs.Trees.{Tree, height}
use Rattle.rst_grammar.specs.declared.symbol.Symbol.{Symbol}
use Rattle.rst_grammar.specs.Expressions.{Spells}
use Rattle.rst_read.specs.declared.stop.Stop.{Stop}
use Rattle.rst_read.specs.declared.stop.Stop.TheVariants as stop
use Rattle.rst_read.specs.Gives.{Fails}
use Rattle.rst_grammar.specs.Reading.{readers}
use Rattle.rst_grammar.proofs.Takes.{full_takes}
use Rattle.rst_grammar.proofs.Fronts.{Front, whole}
use Rattle.rst_grammar.proofs.Sound.{readers_sound, Read}

-- nothing behind it
pub all_of : (e : Tree) (ts rest : List Symbol) → Front (Spells e) ts rest → rest ≡ [] → Spells e ts
all_of e ts rest f none =
    let text-is : ts ≡ f.text = f.parts ∙ ap (λ t. f.text ++ t) none ∙ append-nil f.text in
    subst (Spells e) (sym text-is) f.says

pub whole_sound : (h : ℕ) (ts rest : List Symbol) (e : Tree) → (readers h).full ts ≡ Some (e, rest) → rest ≡ [] → Spells e ts × (height e ≤ h)
whole_sound h ts rest e found none =
    let x : Read = (e, rest) in
    let reads = (readers_sound h).full ts x found in
    (all_of e ts rest reads.front none, reads.small)

pub whole_takes : (h : ℕ) (ts : List Symbol) (e : Tree) → Spells e ts → height e ≤ h → (readers h).full ts ≡ Some (e, [])
whole_takes h ts e spelled small = full_takes e ts [] h (whole ts spelled) small tt

some_pair : (x y : Read) → Some x ≡ Some y → x ≡ y
some_pair x y e = cc

-- no tree but the one that was read
pub whole_only : (ts rest : List Symbol) (e f : Tree) (h : ℕ) → (readers h).full ts ≡ Some (f, rest) → Spells e ts → height e ≤ h → (e ≡ f) × (rest ≡ [])
whole_only ts rest e f h found spelled small =
    let x : Read = (e, []) in
    let y : Read = (f, rest) in
    let same = some_pair x y (sym (whole_takes h ts e spelled small) ∙ found) in
    (ap (λ (p : Read). p.0) same, sym (ap (λ (p : Read). p.1) same))

none_some : {A : Type 0} (x : A) → None ≡ Some x → ⊥
none_some x e = cc

-- no expression where none was read
pub only_err : (err : Stop) (ts : List Symbol) (e : Tree) (h : ℕ) → Fails err ((readers h).full ts) → Spells e ts → height e ≤ h → Fails err (Some e)
only_err stop.NoMemory ts e h fails spelled small = tt
only_err stop.NoTree ts e h fails spelled small =
    let x : Read = (e, []) in
    absurd (none_some x (sym fails ∙ whole_takes h ts e spelled small))
