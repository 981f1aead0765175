-- What is read spells the target.
use Rattle.std.proofs.Common.{◌≡◌, ℕ, zero, suc, ◌≤◌, List, [], ◌∷◌, length, Some, None, refl, sym, ap, subst, ◌∙◌, arith}
use Rattle.rst_tree.specs.Trees.{Tree, height}
use Rattle.rst_tree.specs.Targets.{Place, Places, Whole, Bit, Part, Join, end, more, height_of_target, greatest_target}
use Rattle.rst_grammar.specs.declared.symbol.Terminal.TheVariants as terminal
use Rattle.rst_grammar.specs.declared.symbol.Symbol.{Symbol}
use Rattle.rst_grammar.specs.declared.symbol.Symbol.TheVariants as symbol
use Rattle.rst_grammar.specs.Expressions.{Spells}
use Rattle.rst_grammar.specs.Targets.{SpellsTarget, SpellsMoreTargets}
use Rattle.rst_grammar.specs.Reading.{◌>>=◌, after, Readers, readers}
use Rattle.rst_grammar.specs.ReadStatement.{TargetReader, target_part, target_select, target_named, more_targets, target_join, target_in, target_reader}
use Rattle.rst_grammar.proofs.Fronts.{Front, joined, one_front, nothing_front, whole, whole_of}
use Rattle.rst_grammar.proofs.Tools.{bind_some}
use Rattle.rst_grammar.proofs.Sound.{Sound, readers_sound, some_is, quoted_front, after_front}
use Rattle.rst_grammar.proofs.TakesTargets.{NoBracket, TargetEnds, target_ends, target_takes, target_front_takes}

abbrev pub TargetRead : Type 0
TargetRead = Place × List Symbol

-- the front of ts spells the target that was read, of height h at most, and it ends there
pub record ReadsTarget (h : ℕ) (ts : List Symbol) (x : TargetRead) : Type 0 where
  pub front : Front (SpellsTarget x.0) ts x.1
  pub small : height_of_target x.0 ≤ h
  pub ends : TargetEnds x.0 x.1

abbrev pub SoundTarget : TargetReader → ℕ → Type 0
SoundTarget target h = (ts : List Symbol) (x : TargetRead) → target ts ≡ Some x → ReadsTarget h ts x

-- commas and targets, of height h at most
record ReadsMoreTargets (h : ℕ) (ts : List Symbol) (x : Places × List Symbol) : Type 0 where
  front : Front (SpellsMoreTargets x.0) ts x.1
  small : greatest_target x.0 ≤ h

no_more : (h : ℕ) (ts : List Symbol) (x : Places × List Symbol) → Some (end, ts) ≡ Some x → ReadsMoreTargets h ts x
no_more h ts x e =
    let made : Places × List Symbol = (end, ts) in
    subst (ReadsMoreTargets h ts) (some_is made x e) (record { front = nothing_front ts; small = omega arith })

module _ (r : Readers) (target : TargetReader) (h : ℕ) (below : Sound r h) (inner : SoundTarget target h) where
  whole_sound : (n : List ℕ) (rest : List Symbol) (x : TargetRead) → NoBracket rest → Some (Whole n, rest) ≡ Some x → ReadsTarget (suc h) (symbol.Name n ∷ rest) x
  whole_sound n rest x none e =
      let made : TargetRead = (Whole n, rest) in
      subst (ReadsTarget (suc h) (symbol.Name n ∷ rest)) (some_is made x e) (record { front = one_front refl; small = omega arith; ends = none })

  part_sound : (n : List ℕ) (index : Tree) (m rest : List Symbol) (x : TargetRead) → Front (Spells index) m (symbol.Terminal terminal.Colon ∷ rest) → height index ≤ h → target_part r n index rest ≡ Some x
      → ReadsTarget (suc h) (symbol.Name n ∷ symbol.Terminal terminal.OpenBracket ∷ m) x
  unfolding target_part
  part_sound n index m rest x front small e =
      let a = bind_some (r.full rest) (λ low. after terminal.CloseBracket low.1 >>= λ behind. Some (Part n index low.0, behind)) x e in
      let b = bind_some (after terminal.CloseBracket a.0.1) (λ behind. Some (Part n index a.0.0, behind)) x a.2 in
      let low = below.full rest a.0 a.1 in
      let made : TargetRead = (Part n index a.0.0, b.0) in
      subst (ReadsTarget (suc h) (symbol.Name n ∷ symbol.Terminal terminal.OpenBracket ∷ m)) (some_is made x b.2) (record {
        front = joined (one_front refl) (joined (quoted_front terminal.OpenBracket m) (joined front (joined (quoted_front terminal.Colon rest) (joined low.front (after_front terminal.CloseBracket a.0.1 b.0 b.1)))));
        small = omega (arith, low.small);
        ends = tt;
      })

  select_sound : (n : List ℕ) (index : Tree) (m ts : List Symbol) (x : TargetRead) → Front (Spells index) m ts → height index ≤ h → target_select r n index ts ≡ Some x → ReadsTarget (suc h) (symbol.Name n ∷ symbol.Terminal terminal.OpenBracket ∷ m) x
  unfolding target_select
  select_sound n index m [] x front small e = absurd cc
  select_sound n index m (symbol.Terminal terminal.CloseBracket ∷ rest) x front small e =
      let made : TargetRead = (Bit n index, rest) in
      subst (ReadsTarget (suc h) (symbol.Name n ∷ symbol.Terminal terminal.OpenBracket ∷ m)) (some_is made x e) (record {
        front = joined (one_front refl) (joined (quoted_front terminal.OpenBracket m) (joined front (quoted_front terminal.CloseBracket rest)));
        small = omega arith;
        ends = tt;
      })
  select_sound n index m (symbol.Terminal terminal.Colon ∷ rest) x front small e = part_sound n index m rest x front small e
  select_sound n index m (s ∷ rest) x front small e = absurd cc

  named_sound : (n : List ℕ) (rest : List Symbol) (x : TargetRead) → target_named r n rest ≡ Some x → ReadsTarget (suc h) (symbol.Name n ∷ rest) x
  unfolding target_named
  named_sound n [] x e = whole_sound n [] x refl e
  named_sound n (symbol.Terminal terminal.OpenBracket ∷ rest) x e =
      let a = bind_some (r.full rest) (λ index. target_select r n index.0 index.1) x e in
      let index = below.full rest a.0 a.1 in
      select_sound n a.0.0 rest a.0.1 x index.front index.small a.2
  named_sound n (s ∷ rest) x e = whole_sound n (s ∷ rest) x refl e

  more_sound : (most : ℕ) (ts : List Symbol) (x : Places × List Symbol) → more_targets target most ts ≡ Some x → ReadsMoreTargets h ts x
  unfolding more_targets
  more_sound zero ts x e = no_more h ts x e
  more_sound (suc most) [] x e = no_more h [] x e
  more_sound (suc most) (symbol.Terminal terminal.Comma ∷ rest) x e =
      let a = bind_some (target rest) (λ first. more_targets target most first.1 >>= λ others. Some (more first.0 others.0, others.1)) x e in
      let b = bind_some (more_targets target most a.0.1) (λ others. Some (more a.0.0 others.0, others.1)) x a.2 in
      let first = inner rest a.0 a.1 in
      let others = more_sound most a.0.1 b.0 b.1 in
      let made : Places × List Symbol = (more a.0.0 b.0.0, b.0.1) in
      subst (ReadsMoreTargets h (symbol.Terminal terminal.Comma ∷ rest)) (some_is made x b.2) (record {
        front = joined (quoted_front terminal.Comma rest) (joined first.front others.front);
        small = omega (arith, first.small, others.small);
      })
  more_sound (suc most) (s ∷ rest) x e = no_more h (s ∷ rest) x e

  join_sound : (rest : List Symbol) (x : TargetRead) → target_join target rest ≡ Some x → ReadsTarget (suc h) (symbol.Terminal terminal.OpenBrace ∷ rest) x
  unfolding target_join
  join_sound rest x e =
      let a = bind_some (target rest) (λ first. more_targets target (length first.1) first.1 >>= λ others. after terminal.CloseBrace others.1 >>= λ behind. Some (Join (more first.0 others.0), behind)) x e in
      let b = bind_some (more_targets target (length a.0.1) a.0.1) (λ others. after terminal.CloseBrace others.1 >>= λ behind. Some (Join (more a.0.0 others.0), behind)) x a.2 in
      let c = bind_some (after terminal.CloseBrace b.0.1) (λ behind. Some (Join (more a.0.0 b.0.0), behind)) x b.2 in
      let first = inner rest a.0 a.1 in
      let others = more_sound (length a.0.1) a.0.1 b.0 b.1 in
      let made : TargetRead = (Join (more a.0.0 b.0.0), c.0) in
      subst (ReadsTarget (suc h) (symbol.Terminal terminal.OpenBrace ∷ rest)) (some_is made x c.2) (record {
        front = joined (quoted_front terminal.OpenBrace rest) (joined (joined first.front others.front) (after_front terminal.CloseBrace b.0.1 c.0 c.1));
        small = omega (arith, first.small, others.small);
        ends = tt;
      })

  in_sound : (ts : List Symbol) (x : TargetRead) → target_in r target ts ≡ Some x → ReadsTarget (suc h) ts x
  unfolding target_in
  in_sound [] x e = absurd cc
  in_sound (symbol.Name n ∷ rest) x e = named_sound n rest x e
  in_sound (symbol.Terminal terminal.OpenBrace ∷ rest) x e = join_sound rest x e
  in_sound (s ∷ rest) x e = absurd cc

-- What is read spells the target, which isn't too high.
pub target_sound : (h : ℕ) → SoundTarget (target_reader h) h
unfolding target_reader
target_sound zero ts x e = absurd cc
target_sound (suc h) ts x e = in_sound (readers h) (target_reader h) h (readers_sound h) (target_sound h) ts x e

-- ---- in front of other symbols

-- What was read stands in front, and ends there. With target_front_takes, exactly this is read.
pub target_front : (h : ℕ) (ts rest : List Symbol) (t : Place) → target_reader h ts ≡ Some (t, rest) → Front (SpellsTarget t) ts rest × (height_of_target t ≤ h) × TargetEnds t rest
target_front h ts rest t found =
    let x : TargetRead = (t, rest) in
    let reads = target_sound h ts x found in
    (reads.front, reads.small, reads.ends)

-- No target stands in front but the one that was read.
pub target_front_only : (h : ℕ) (ts rest behind : List Symbol) (s t : Place) → target_reader h ts ≡ Some (t, rest) → Front (SpellsTarget s) ts behind → height_of_target s ≤ h → TargetEnds s behind → (s ≡ t) × (behind ≡ rest)
target_front_only h ts rest behind s t found front small ends =
    let x : TargetRead = (s, behind) in
    let y : TargetRead = (t, rest) in
    let same = some_is x y (sym (target_front_takes h ts behind s front small ends) ∙ found) in
    (ap (λ (p : TargetRead). p.0) same, ap (λ (p : TargetRead). p.1) same)

-- Where none was read, none stands in front.
pub target_front_none : (h : ℕ) (ts rest : List Symbol) (t : Place) → target_reader h ts ≡ None → Front (SpellsTarget t) ts rest → height_of_target t ≤ h → TargetEnds t rest → ⊥
target_front_none h ts rest t none front small ends =
    let x : TargetRead = (t, rest) in
    some_none x (sym none ∙ target_front_takes h ts rest t front small ends)
  where
    some_none : (x : TargetRead) → None ≡ Some x → ⊥
    some_none x e = cc

-- ---- a whole list

pub whole_target_sound : (h : ℕ) (ts rest : List Symbol) (t : Place) → target_reader h ts ≡ Some (t, rest) → rest ≡ [] → SpellsTarget t ts × (height_of_target t ≤ h)
whole_target_sound h ts rest t found none =
    let read = target_front h ts rest t found in
    (whole_of ts rest read.0 none, read.1)

pub whole_target_takes : (h : ℕ) (ts : List Symbol) (t : Place) → SpellsTarget t ts → height_of_target t ≤ h → target_reader h ts ≡ Some (t, [])
whole_target_takes h ts t spelled small = target_takes t ts [] h (whole ts spelled) small refl

-- no target but the one that was read
pub whole_target_only : (ts rest : List Symbol) (s t : Place) (h : ℕ) → target_reader h ts ≡ Some (t, rest) → SpellsTarget s ts → height_of_target s ≤ h → (s ≡ t) × (rest ≡ [])
whole_target_only ts rest s t h found spelled small =
    let only = target_front_only h ts rest [] s t found (whole ts spelled) small (target_ends s [] refl) in
    (only.0, sym only.1)
