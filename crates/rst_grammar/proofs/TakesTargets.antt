-- What spells a target is read.
use Rattle.std.proofs.Common.{◌≡◌, ℕ, zero, suc, ◌+◌, ◌≤◌, List, [], ◌∷◌, length, Some, None, refl, sym, ap, ◌∙◌, arith}
use Rattle.rst_tree.specs.Trees.{Tree}
use Rattle.rst_tree.specs.Targets.{Place, Places, Whole, Bit, Part, Join, end, more, height_of_target, greatest_target}
use Rattle.rst_grammar.specs.declared.symbol.Terminal.TheVariants as terminal
use Rattle.rst_grammar.specs.declared.symbol.Symbol.{Symbol}
use Rattle.rst_grammar.specs.declared.symbol.Symbol.TheVariants as symbol
use Rattle.rst_grammar.specs.Says.{Nothing, One, ◌⊗◌, quoted, named}
use Rattle.rst_grammar.specs.Expressions.{Spells}
use Rattle.rst_grammar.specs.Targets.{SpellsTarget, SpellsTargets, SpellsMoreTargets}
use Rattle.rst_grammar.specs.Reading.{after, Readers, readers}
use Rattle.rst_grammar.specs.ReadStatement.{TargetReader, target_part, target_select, target_named, more_targets, target_join, target_in, target_reader}
use Rattle.rst_grammar.proofs.Fronts.{Front, split, one_is, nothing_is, whole, no_longer}
use Rattle.rst_grammar.proofs.Tools.{close_bracket_follows, colon_follows}
use Rattle.rst_grammar.proofs.Takes.{full_takes}

-- no select goes on behind a name
abbrev pub NoBracket : List Symbol → Type 0
NoBracket ts = after terminal.OpenBracket ts ≡ None

-- Where a target may end: behind a bare name no select goes on. Any other target has its closing mark, so anything may follow.
abbrev pub TargetEnds : Place → List Symbol → Type 0
TargetEnds (Whole n) rest = NoBracket rest
TargetEnds t rest = Unit {0}

pub target_ends : (t : Place) (rest : List Symbol) → NoBracket rest → TargetEnds t rest
target_ends (Whole n) rest next = next
target_ends t rest next = tt

abbrev TargetTakes : Place → Type 0
TargetTakes t = (ts rest : List Symbol) (h : ℕ) → Front (SpellsTarget t) ts rest → height_of_target t ≤ h → TargetEnds t rest → target_reader h ts ≡ Some (t, rest)

whole_step : (r : Readers) (target : TargetReader) (n : List ℕ) (rest : List Symbol) → NoBracket rest → target_in r target (symbol.Name n ∷ rest) ≡ Some (Whole n, rest)
unfolding target_in target_named
whole_step r target n [] f = refl
whole_step r target n (symbol.Terminal terminal.OpenBracket ∷ rest) f = absurd cc
whole_step r target n (s ∷ rest) f = refl

bit_step : (r : Readers) (target : TargetReader) (n : List ℕ) (i : Tree) (ts m1 m2 m3 rest : List Symbol) → ts ≡ symbol.Name n ∷ m1 → m1 ≡ symbol.Terminal terminal.OpenBracket ∷ m2 → r.full m2 ≡ Some (i, m3) → m3 ≡ symbol.Terminal terminal.CloseBracket ∷ rest
    → target_in r target ts ≡ Some (Bit n i, rest)
unfolding target_in target_named target_select
bit_step r target n i ts m1 m2 m3 rest e0 e1 e2 e3 = rw (e0, e1, e2, e3) refl

part_step : (r : Readers) (target : TargetReader) (n : List ℕ) (i j : Tree) (ts m1 m2 m3 m4 m5 rest : List Symbol) → ts ≡ symbol.Name n ∷ m1 → m1 ≡ symbol.Terminal terminal.OpenBracket ∷ m2 → r.full m2 ≡ Some (i, m3) → m3 ≡ symbol.Terminal terminal.Colon ∷ m4
    → r.full m4 ≡ Some (j, m5) → m5 ≡ symbol.Terminal terminal.CloseBracket ∷ rest → target_in r target ts ≡ Some (Part n i j, rest)
unfolding target_in target_named target_select target_part
part_step r target n i j ts m1 m2 m3 m4 m5 rest e0 e1 e2 e3 e4 e5 = rw (e0, e1, e2, e3, e4, e5) refl

whole_all : (n : List ℕ) → TargetTakes (Whole n)
unfolding target_reader
whole_all n ts rest zero f small next = absurd (omega arith)
whole_all n ts rest (suc h) f small next =
    let is : Front (One (symbol.Name n)) ts rest = record { text = f.text; parts = f.parts; says = f.says } in
    ap (target_in (readers h) (target_reader h)) (one_is is) ∙ whole_step (readers h) (target_reader h) n rest next

bit_all : (n : List ℕ) (i : Tree) → TargetTakes (Bit n i)
unfolding target_reader
bit_all n i ts rest zero f small next = absurd (omega arith)
bit_all n i ts rest (suc h) f small next =
    let a = split {P = named n} {Q = quoted terminal.OpenBracket ⊗ Spells i ⊗ quoted terminal.CloseBracket} f in
    let b = split a.right in
    let c = split b.right in
    let close = one_is c.right in
    bit_step (readers h) (target_reader h) n i ts a.mid b.mid c.mid rest (one_is a.left) (one_is b.left) (full_takes i b.mid c.mid h c.left (omega arith) (rw close (close_bracket_follows 0))) close

part_all : (n : List ℕ) (i j : Tree) → TargetTakes (Part n i j)
unfolding target_reader
part_all n i j ts rest zero f small next = absurd (omega arith)
part_all n i j ts rest (suc h) f small next =
    let a = split {P = named n} {Q = quoted terminal.OpenBracket ⊗ Spells i ⊗ quoted terminal.Colon ⊗ Spells j ⊗ quoted terminal.CloseBracket} f in
    let b = split a.right in
    let c = split b.right in
    let d = split c.right in
    let g = split d.right in
    let colon = one_is d.left in
    let close = one_is g.right in
    part_step (readers h) (target_reader h) n i j ts a.mid b.mid c.mid d.mid g.mid rest (one_is a.left) (one_is b.left) (full_takes i b.mid c.mid h c.left (omega arith) (rw colon (colon_follows 0))) colon
    (full_takes j d.mid g.mid h g.left (omega arith) (rw close (close_bracket_follows 0))) close

abbrev TargetsTake : Places → Type 0
TargetsTake es = (ts rest : List Symbol) (h most : ℕ) → Front (SpellsMoreTargets es) ts rest → greatest_target es ≤ h → length ts ≤ most → NoBracket rest → after terminal.Comma rest ≡ None → more_targets (target_reader h) most ts ≡ Some (es, rest)

end_step : (target : TargetReader) (most : ℕ) (rest : List Symbol) → after terminal.Comma rest ≡ None → more_targets target most rest ≡ Some (end, rest)
unfolding more_targets
end_step target zero rest n = refl
end_step target (suc most) [] n = refl
end_step target (suc most) (symbol.Terminal terminal.Comma ∷ rest) n = absurd cc
end_step target (suc most) (s ∷ rest) n = refl

more_step : (target : TargetReader) (most : ℕ) (e : Place) (es : Places) (ts m1 m2 rest : List Symbol) → ts ≡ symbol.Terminal terminal.Comma ∷ m1 → target m1 ≡ Some (e, m2) → more_targets target most m2 ≡ Some (es, rest) → more_targets target (suc most) ts ≡ Some (more e es, rest)
unfolding more_targets
more_step target most e es ts m1 m2 rest e0 e1 e2 = rw (e0, e1, e2) refl

more_follows : (es : Places) (ts rest : List Symbol) → Front (SpellsMoreTargets es) ts rest → NoBracket rest → NoBracket ts
more_follows end ts rest f next =
    let is : Front Nothing ts rest = record { text = f.text; parts = f.parts; says = f.says } in
    rw (nothing_is is) next
more_follows (more e es) ts rest f next =
    let a = split {P = quoted terminal.Comma} {Q = SpellsTarget e ⊗ SpellsMoreTargets es} f in
    rw (one_is a.left) refl

more_all : (e : Place) (es : Places) → TargetTakes e → TargetsTake es → TargetsTake (more e es)
more_all e es takes all ts rest h most f small room next n =
    let a = split {P = quoted terminal.Comma} {Q = SpellsTarget e ⊗ SpellsMoreTargets es} f in
    let b = split {P = SpellsTarget e} {Q = SpellsMoreTargets es} a.right in
    counted most a.mid b.mid room (one_is a.left) (no_longer b.left)
    (takes a.mid b.mid h b.left (omega arith) (target_ends e b.mid (more_follows es b.mid rest b.right next))) (λ k short. all b.mid rest h k b.right (omega arith) short next n)
  where
    counted : (most : ℕ) (m1 m2 : List Symbol) → length ts ≤ most → ts ≡ symbol.Terminal terminal.Comma ∷ m1 → length m2 ≤ length m1 → target_reader h m1 ≡ Some (e, m2) → ((k : ℕ) → length m2 ≤ k → more_targets (target_reader h) k m2 ≡ Some (es, rest))
        → more_targets (target_reader h) most ts ≡ Some (more e es, rest)
    counted zero m1 m2 room comma le first others = absurd (omega (arith, ap length comma))
    counted (suc most) m1 m2 room comma le first others = more_step (target_reader h) most e es ts m1 m2 rest comma first (others most (omega (arith, ap length comma)))

join_step : (r : Readers) (target : TargetReader) (e : Place) (es : Places) (ts m1 m2 m3 rest : List Symbol) → ts ≡ symbol.Terminal terminal.OpenBrace ∷ m1 → target m1 ≡ Some (e, m2) → more_targets target (length m2) m2 ≡ Some (es, m3) → m3 ≡ symbol.Terminal terminal.CloseBrace ∷ rest
    → target_in r target ts ≡ Some (Join (more e es), rest)
unfolding target_in target_join
join_step r target e es ts m1 m2 m3 rest e0 e1 e2 e3 = rw (e0, e1, e2, e3) refl

join_all : (e : Place) (es : Places) → TargetTakes e → TargetsTake es → TargetTakes (Join (more e es))
unfolding target_reader
join_all e es takes all ts rest zero f small next = absurd (omega arith)
join_all e es takes all ts rest (suc h) f small next =
    let a = split {P = quoted terminal.OpenBrace} {Q = SpellsTargets (more e es) ⊗ quoted terminal.CloseBrace} f in
    let b = split {P = SpellsTargets (more e es)} {Q = quoted terminal.CloseBrace} a.right in
    let c = split {P = SpellsTarget e} {Q = SpellsMoreTargets es} b.left in
    let close = one_is b.right in
    let plain_end : NoBracket b.mid = rw close refl in
    let last : after terminal.Comma b.mid ≡ None = rw close refl in
    join_step (readers h) (target_reader h) e es ts a.mid c.mid b.mid rest (one_is a.left) (takes a.mid c.mid h c.left (omega arith) (target_ends e c.mid (more_follows es c.mid b.mid c.right plain_end)))
    (all c.mid b.mid h (length c.mid) c.right (omega arith) (omega arith) plain_end last) close

empty_join : TargetTakes (Join end)
empty_join ts rest h f small next =
    let a = split {P = quoted terminal.OpenBrace} {Q = SpellsTargets end ⊗ quoted terminal.CloseBrace} f in
    let b = split {P = SpellsTargets end} {Q = quoted terminal.CloseBrace} a.right in
    absurd b.left.says

mutual
  target_all : (t : Place) → TargetTakes t
  target_all (Whole n) = whole_all n
  target_all (Bit n i) = bit_all n i
  target_all (Part n i j) = part_all n i j
  target_all (Join end) = empty_join
  target_all (Join (more e es)) = join_all e es (target_all e) (targets_take es)

  targets_take : (es : Places) → TargetsTake es
  targets_take end = λ ts rest h most f small room next n.
      let is : Front Nothing ts rest = record { text = f.text; parts = f.parts; says = f.says } in
      rw (nothing_is is) (end_step (target_reader h) most rest n)
  targets_take (more e es) = more_all e es (target_all e) (targets_take es)

-- What spells a target is read up to its end.
pub target_front_takes : (h : ℕ) (ts rest : List Symbol) (t : Place) → Front (SpellsTarget t) ts rest → height_of_target t ≤ h → TargetEnds t rest → target_reader h ts ≡ Some (t, rest)
target_front_takes h ts rest t = target_all t ts rest h

-- The same where no select goes on, whatever the target is.
pub target_takes : (t : Place) (ts rest : List Symbol) (h : ℕ) → Front (SpellsTarget t) ts rest → height_of_target t ≤ h → NoBracket rest → target_reader h ts ≡ Some (t, rest)
target_takes t ts rest h f small next = target_all t ts rest h f small (target_ends t rest next)

-- A list of symbols has at most one target.
pub one_target : (s t : Place) (ts : List Symbol) → SpellsTarget s ts → SpellsTarget t ts → s ≡ t
one_target s t ts p q =
    let h = height_of_target s + height_of_target t in
    let a = target_takes s ts [] h (whole ts p) (omega arith) refl in
    let b = target_takes t ts [] h (whole ts q) (omega arith) refl in
    ap (λ (x : Place × List Symbol). x.0) (same (s, []) (t, []) (sym a ∙ b))
  where
    same : (x y : Place × List Symbol) → Some x ≡ Some y → x ≡ y
    same x y h = cc
