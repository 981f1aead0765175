-- What is read spells the tree.
use Rattle.std.proofs.Common.{◌≡◌, ℕ, zero, suc, ◌+◌, ◌<◌, ◌≤◌, cond, leb, nat_eq, List, [], ◌∷◌, length, Option, Some, None, refl, sym, ap, subst, ◌∙◌, arith, inl, inr}
use Rattle.std.proofs.lemmas.Bool.{leb-true, eqb-true, cases_lt}
use Rattle.rst_lex.specs.declared.token.Literal.{Literal}
use Rattle.rst_word.specs.declared.ops.BinaryOp.{BinaryOp}
use Rattle.rst_tree.specs.Trees.{Tree, Trees, Number, Name, Bit, Part, Paren, Unary, Binary, Choose, Join, Repeat, Signed, Unsigned, end, more, height, greatest}
use Rattle.rst_grammar.specs.declared.symbol.Terminal.{Terminal}
use Rattle.rst_grammar.specs.declared.symbol.Terminal.TheVariants as terminal
use Rattle.rst_grammar.specs.declared.symbol.Symbol.{Symbol}
use Rattle.rst_grammar.specs.declared.symbol.Symbol.TheVariants as symbol
use Rattle.rst_grammar.specs.Says.{One, ◌⊗◌, quoted}
use Rattle.rst_grammar.specs.Expressions.{IsUnary, IsBinary, binary_of, unary_of, level, level_of, Spells, SpellsAll, SpellsMore}
use Rattle.rst_grammar.specs.Reading.{◌>>=◌, cases, after, Readers, readers, higher, operator_at, operand_in, terminal_in, number_in, named_in, select_end, part_end, paren_in, signed_in, unsigned_in, more_in, list_from, join_in, repeat_in, braces_in, braces_end, unary_in, with_right, tail_in, binary_in, choice_in, choice_end, full_in}
use Rattle.rst_grammar.proofs.Fronts.{Front, joined, one_front, nothing_front}
use Rattle.rst_grammar.proofs.Tools.{bind_some, guard_some, operator_at-some, level_positive}
use Rattle.rst_grammar.proofs.Terminals.{after_is}

abbrev pub Read : Type 0
Read = Tree × List Symbol

-- the front of ts spells the tree that was read, of level l at least and height h at most
pub record Reads (l h : ℕ) (ts : List Symbol) (x : Read) : Type 0 where
  pub front : Front (Spells x.0) ts x.1
  pub level : l ≤ level_of x.0
  pub small : height x.0 ≤ h

pub record Sound (r : Readers) (h : ℕ) : Type 0 where
  pub operand : (ts : List Symbol) (x : Read) → r.operand ts ≡ Some x → Reads 11 h ts x
  pub binary : (least : ℕ) (ts : List Symbol) (x : Read) → least ≤ 11 → r.binary least ts ≡ Some x → Reads least h ts x × (operator_at least x.1 ≡ None)
  pub full : (ts : List Symbol) (x : Read) → r.full ts ≡ Some x → Reads 0 h ts x

-- a made value is the one read
pub some_is : {A : Type 0} (x y : A) → Some x ≡ Some y → x ≡ y
some_is x y e = cc

-- one more symbol in front
pub quoted_front : (t : Terminal) (rest : List Symbol) → Front (quoted t) (symbol.Terminal t ∷ rest) rest
quoted_front t rest = one_front refl

pub after_front : (t : Terminal) (ts rest : List Symbol) → after t ts ≡ Some rest → Front (quoted t) ts rest
after_front t ts rest e = one_front (after_is t ts rest e)

-- commas and trees, of height h at most
record ReadsMore (h : ℕ) (ts : List Symbol) (x : Trees × List Symbol) : Type 0 where
  front : Front (SpellsMore x.0) ts x.1
  small : greatest x.0 ≤ h

record ReadsAll (h : ℕ) (ts : List Symbol) (x : Trees × List Symbol) : Type 0 where
  front : Front (SpellsAll x.0) ts x.1
  small : greatest x.0 ≤ h

no_more : (h : ℕ) (ts : List Symbol) (x : Trees × List Symbol) → Some (end, ts) ≡ Some x → ReadsMore h ts x
no_more h ts x e =
    let made : Trees × List Symbol = (end, ts) in
    subst (ReadsMore h ts) (some_is made x e) (record { front = nothing_front ts; small = omega arith })

-- an operator that stands in front
pub operator_is : (least : ℕ) (ts : List Symbol) (op : BinaryOp × List Symbol) → operator_at least ts ≡ Some op → (o : Terminal) × (binary_of o ≡ Some op.0) × (least ≤ level op.0) × (ts ≡ symbol.Terminal o ∷ op.1)
unfolding operator_at
operator_is least [] op e = absurd cc
operator_is least (symbol.Name n ∷ rest) op e = absurd cc
operator_is least (symbol.Number n ∷ rest) op e = absurd cc
operator_is least (symbol.Terminal o ∷ rest) op e =
    let a = bind_some (binary_of o) (λ op. cond (leb least (level op)) (Some (op, rest)) None) op e in
    let b = guard_some (leb least (level a.0)) (Some (a.0, rest)) op a.2 in
    let made : BinaryOp × List Symbol = (a.0, rest) in
    subst (λ (p : BinaryOp × List Symbol). (o' : Terminal) × (binary_of o' ≡ Some p.0) × (least ≤ level p.0) × (symbol.Terminal o ∷ rest ≡ symbol.Terminal o' ∷ p.1)) (some_is made op b.1) (o, a.1, leb-true _ _ b.0, refl)

-- no operator of level m or tighter
none_above : (l m : ℕ) (ts : List Symbol) (op : BinaryOp × List Symbol) → operator_at m ts ≡ None → operator_at l ts ≡ Some op → level op.0 < m
none_above l m ts op none some =
    let front = operator_is l ts op some in
    elim (cases_lt (level op.0) m) [
      | inl lt ↦ lt
      | inr le ↦ let found = sym none ∙ ap (operator_at m) front.3 ∙ operator_at-some m front.0 op.0 op.1 front.1 le in absurd (some_none op found)
    ]
  where
    some_none : (x : BinaryOp × List Symbol) → None ≡ Some x → ⊥
    some_none x e = cc

-- an operator in front of the rest doesn't bind tighter than what was read
abbrev Loose : ℕ → Read → Type 0
Loose least x = (op : BinaryOp × List Symbol) → operator_at least x.1 ≡ Some op → level op.0 ≤ level_of x.0

module _ (r : Readers) (h : ℕ) (below : Sound r h) where
  paren_sound : (rest : List Symbol) (x : Read) → paren_in r rest ≡ Some x → Reads 11 (suc h) (symbol.Terminal terminal.OpenParen ∷ rest) x
  unfolding paren_in
  paren_sound rest x e =
      let a = bind_some (r.full rest) (λ e. after terminal.CloseParen e.1 >>= λ behind. Some (Paren e.0, behind)) x e in
      let b = bind_some (after terminal.CloseParen a.0.1) (λ behind. Some (Paren a.0.0, behind)) x a.2 in
      let inner = below.full rest a.0 a.1 in
      let made : Read = (Paren a.0.0, b.0) in
      subst (Reads 11 (suc h) (symbol.Terminal terminal.OpenParen ∷ rest)) (some_is made x b.2) (record {
        front = joined (quoted_front terminal.OpenParen rest) (joined inner.front (after_front terminal.CloseParen a.0.1 b.0 b.1));
        level = omega arith;
        small = omega (arith, inner.small);
      })

  signed_sound : (rest : List Symbol) (x : Read) → signed_in r rest ≡ Some x → Reads 11 (suc h) (symbol.Terminal terminal.SystemSigned ∷ rest) x
  unfolding signed_in
  signed_sound rest x e =
      let o = bind_some (after terminal.OpenParen rest) (λ inner. r.full inner >>= λ e. after terminal.CloseParen e.1 >>= λ behind. Some (Signed e.0, behind)) x e in
      let a = bind_some (r.full o.0) (λ e. after terminal.CloseParen e.1 >>= λ behind. Some (Signed e.0, behind)) x o.2 in
      let b = bind_some (after terminal.CloseParen a.0.1) (λ behind. Some (Signed a.0.0, behind)) x a.2 in
      let inner = below.full o.0 a.0 a.1 in
      let made : Read = (Signed a.0.0, b.0) in
      subst (Reads 11 (suc h) (symbol.Terminal terminal.SystemSigned ∷ rest)) (some_is made x b.2) (record {
        front = joined (quoted_front terminal.SystemSigned rest) (joined (after_front terminal.OpenParen rest o.0 o.1) (joined inner.front (after_front terminal.CloseParen a.0.1 b.0 b.1)));
        level = omega arith;
        small = omega (arith, inner.small);
      })

  unsigned_sound : (rest : List Symbol) (x : Read) → unsigned_in r rest ≡ Some x → Reads 11 (suc h) (symbol.Terminal terminal.SystemUnsigned ∷ rest) x
  unfolding unsigned_in
  unsigned_sound rest x e =
      let o = bind_some (after terminal.OpenParen rest) (λ inner. r.full inner >>= λ e. after terminal.CloseParen e.1 >>= λ behind. Some (Unsigned e.0, behind)) x e in
      let a = bind_some (r.full o.0) (λ e. after terminal.CloseParen e.1 >>= λ behind. Some (Unsigned e.0, behind)) x o.2 in
      let b = bind_some (after terminal.CloseParen a.0.1) (λ behind. Some (Unsigned a.0.0, behind)) x a.2 in
      let inner = below.full o.0 a.0 a.1 in
      let made : Read = (Unsigned a.0.0, b.0) in
      subst (Reads 11 (suc h) (symbol.Terminal terminal.SystemUnsigned ∷ rest)) (some_is made x b.2) (record {
        front = joined (quoted_front terminal.SystemUnsigned rest) (joined (after_front terminal.OpenParen rest o.0 o.1) (joined inner.front (after_front terminal.CloseParen a.0.1 b.0 b.1)));
        level = omega arith;
        small = omega (arith, inner.small);
      })

  unary_sound : (first : Terminal) (rest : List Symbol) (x : Read) → unary_in r first rest ≡ Some x → Reads 11 (suc h) (symbol.Terminal first ∷ rest) x
  unfolding unary_in
  unary_sound first rest x e =
      let a = bind_some (unary_of first) (λ op. r.operand rest >>= λ e. Some (Unary op e.0, e.1)) x e in
      let b = bind_some (r.operand rest) (λ e. Some (Unary a.0 e.0, e.1)) x a.2 in
      let inner = below.operand rest b.0 b.1 in
      let made : Read = (Unary a.0 b.0.0, b.0.1) in
      let mark = quoted_front first rest in
      let operator : Front (IsUnary a.0) (symbol.Terminal first ∷ rest) rest = record { text = mark.text; parts = mark.parts; says = record { mark = first; operator = a.1; is = mark.says } } in
      let both : Front (IsUnary a.0 ⊗ Spells b.0.0) (symbol.Terminal first ∷ rest) b.0.1 = joined operator inner.front in
      subst (Reads 11 (suc h) (symbol.Terminal first ∷ rest)) (some_is made x b.2) (record {
        front = record { text = both.text; parts = both.parts; says = (inner.level, both.says) };
        level = omega arith;
        small = omega (arith, inner.small);
      })

  number_sound : (n : Literal) (rest : List Symbol) (x : Read) → number_in n rest ≡ Some x → Reads 11 (suc h) (symbol.Number n ∷ rest) x
  unfolding number_in
  number_sound n rest x e =
      let g = guard_some (nat_eq n.mask 0) (Some (Number n, rest)) x e in
      let made : Read = (Number n, rest) in
      let one : Front (One (symbol.Number n)) (symbol.Number n ∷ rest) rest = one_front refl in
      subst (Reads 11 (suc h) (symbol.Number n ∷ rest)) (some_is made x g.1) (record {
        front = record { text = one.text; parts = one.parts; says = (eqb-true n.mask 0 g.0, one.says) };
        level = omega arith;
        small = omega arith;
      })

  name_sound : (n : List ℕ) (rest : List Symbol) (x : Read) → Some (Name n, rest) ≡ Some x → Reads 11 (suc h) (symbol.Name n ∷ rest) x
  name_sound n rest x e =
      let made : Read = (Name n, rest) in
      subst (Reads 11 (suc h) (symbol.Name n ∷ rest)) (some_is made x e) (record { front = one_front refl; level = omega arith; small = omega arith })

  part_sound : (n : List ℕ) (index : Tree) (m rest : List Symbol) (x : Read) → Front (Spells index) m (symbol.Terminal terminal.Colon ∷ rest) → height index ≤ h → part_end r n index rest ≡ Some x
      → Reads 11 (suc h) (symbol.Name n ∷ symbol.Terminal terminal.OpenBracket ∷ m) x
  unfolding part_end
  part_sound n index m rest x front small e =
      let a = bind_some (r.full rest) (λ low. after terminal.CloseBracket low.1 >>= λ behind. Some (Part n index low.0, behind)) x e in
      let b = bind_some (after terminal.CloseBracket a.0.1) (λ behind. Some (Part n index a.0.0, behind)) x a.2 in
      let low = below.full rest a.0 a.1 in
      let made : Read = (Part n index a.0.0, b.0) in
      subst (Reads 11 (suc h) (symbol.Name n ∷ symbol.Terminal terminal.OpenBracket ∷ m)) (some_is made x b.2) (record {
        front = joined (one_front refl) (joined (quoted_front terminal.OpenBracket m) (joined front (joined (quoted_front terminal.Colon rest) (joined low.front (after_front terminal.CloseBracket a.0.1 b.0 b.1)))));
        level = omega arith;
        small = omega (arith, low.small);
      })

  select_sound : (n : List ℕ) (index : Tree) (m ts : List Symbol) (x : Read) → Front (Spells index) m ts → height index ≤ h → select_end r n index ts ≡ Some x → Reads 11 (suc h) (symbol.Name n ∷ symbol.Terminal terminal.OpenBracket ∷ m) x
  unfolding select_end
  select_sound n index m [] x front small e = absurd cc
  select_sound n index m (symbol.Terminal terminal.CloseBracket ∷ rest) x front small e =
      let made : Read = (Bit n index, rest) in
      subst (Reads 11 (suc h) (symbol.Name n ∷ symbol.Terminal terminal.OpenBracket ∷ m)) (some_is made x e) (record {
        front = joined (one_front refl) (joined (quoted_front terminal.OpenBracket m) (joined front (quoted_front terminal.CloseBracket rest)));
        level = omega arith;
        small = omega arith;
      })
  select_sound n index m (symbol.Terminal terminal.Colon ∷ rest) x front small e = part_sound n index m rest x front small e
  select_sound n index m (s ∷ rest) x front small e = absurd cc

  named_sound : (n : List ℕ) (rest : List Symbol) (x : Read) → named_in r n rest ≡ Some x → Reads 11 (suc h) (symbol.Name n ∷ rest) x
  unfolding named_in
  named_sound n [] x e = name_sound n [] x e
  named_sound n (symbol.Terminal terminal.OpenBracket ∷ rest) x e =
      let a = bind_some (r.full rest) (λ index. select_end r n index.0 index.1) x e in
      let index = below.full rest a.0 a.1 in
      select_sound n a.0.0 rest a.0.1 x index.front index.small a.2
  named_sound n (s ∷ rest) x e = name_sound n (s ∷ rest) x e

  more_sound : (most : ℕ) (ts : List Symbol) (x : Trees × List Symbol) → more_in r most ts ≡ Some x → ReadsMore h ts x
  unfolding more_in
  more_sound zero ts x e = no_more h ts x e
  more_sound (suc most) [] x e = no_more h [] x e
  more_sound (suc most) (symbol.Terminal terminal.Comma ∷ rest) x e =
      let a = bind_some (r.full rest) (λ first. more_in r most first.1 >>= λ others. Some (more first.0 others.0, others.1)) x e in
      let b = bind_some (more_in r most a.0.1) (λ others. Some (more a.0.0 others.0, others.1)) x a.2 in
      let first = below.full rest a.0 a.1 in
      let others = more_sound most a.0.1 b.0 b.1 in
      let made : Trees × List Symbol = (more a.0.0 b.0.0, b.0.1) in
      subst (ReadsMore h (symbol.Terminal terminal.Comma ∷ rest)) (some_is made x b.2) (record {
        front = joined (quoted_front terminal.Comma rest) (joined first.front others.front);
        small = omega (arith, first.small, others.small);
      })
  more_sound (suc most) (s ∷ rest) x e = no_more h (s ∷ rest) x e

  -- behind a first tree that was read
  list_sound : (first : Tree) (m ts : List Symbol) (x : Trees × List Symbol) → Front (Spells first) m ts → height first ≤ h → list_from r first ts ≡ Some x → ReadsAll h m x
  unfolding list_from
  list_sound first m ts x front small e =
      let a = bind_some (more_in r (length ts) ts) (λ others. Some (more first others.0, others.1)) x e in
      let others = more_sound (length ts) ts a.0 a.1 in
      let made : Trees × List Symbol = (more first a.0.0, a.0.1) in
      subst (ReadsAll h m) (some_is made x a.2) (record { front = joined front others.front; small = omega (arith, others.small) })

  join_sound : (first : Tree) (m ts : List Symbol) (x : Read) → Front (Spells first) m ts → height first ≤ h → join_in r first ts ≡ Some x → Reads 11 (suc h) (symbol.Terminal terminal.OpenBrace ∷ m) x
  unfolding join_in
  join_sound first m ts x front small e =
      let a = bind_some (list_from r first ts) (λ all. after terminal.CloseBrace all.1 >>= λ behind. Some (Join all.0, behind)) x e in
      let b = bind_some (after terminal.CloseBrace a.0.1) (λ behind. Some (Join a.0.0, behind)) x a.2 in
      let list = list_sound first m ts a.0 front small a.1 in
      let made : Read = (Join a.0.0, b.0) in
      subst (Reads 11 (suc h) (symbol.Terminal terminal.OpenBrace ∷ m)) (some_is made x b.2) (record {
        front = joined (quoted_front terminal.OpenBrace m) (joined list.front (after_front terminal.CloseBrace a.0.1 b.0 b.1));
        level = omega arith;
        small = omega (arith, list.small);
      })

  repeat_sound : (count : Tree) (m ts : List Symbol) (x : Read) → Front (Spells count) m (symbol.Terminal terminal.OpenBrace ∷ ts) → height count ≤ h → repeat_in r count ts ≡ Some x → Reads 11 (suc h) (symbol.Terminal terminal.OpenBrace ∷ m) x
  unfolding repeat_in
  repeat_sound count m ts x front small e =
      let f = bind_some (r.full ts) (λ first. list_from r first.0 first.1 >>= λ all. after terminal.CloseBrace all.1 >>= λ behind. after terminal.CloseBrace behind >>= λ outside. Some (Repeat count all.0, outside)) x e in
      let a = bind_some (list_from r f.0.0 f.0.1) (λ all. after terminal.CloseBrace all.1 >>= λ behind. after terminal.CloseBrace behind >>= λ outside. Some (Repeat count all.0, outside)) x f.2 in
      let b = bind_some (after terminal.CloseBrace a.0.1) (λ behind. after terminal.CloseBrace behind >>= λ outside. Some (Repeat count a.0.0, outside)) x a.2 in
      let c = bind_some (after terminal.CloseBrace b.0) (λ outside. Some (Repeat count a.0.0, outside)) x b.2 in
      let first = below.full ts f.0 f.1 in
      let list = list_sound f.0.0 ts f.0.1 a.0 first.front first.small a.1 in
      let made : Read = (Repeat count a.0.0, c.0) in
      subst (Reads 11 (suc h) (symbol.Terminal terminal.OpenBrace ∷ m)) (some_is made x c.2) (record {
        front = joined (quoted_front terminal.OpenBrace m) (joined front (joined (quoted_front terminal.OpenBrace ts) (joined list.front (joined (after_front terminal.CloseBrace a.0.1 b.0 b.1) (after_front terminal.CloseBrace b.0 c.0 c.1)))));
        level = omega arith;
        small = omega (arith, list.small);
      })

  braces_end_sound : (first : Tree) (m ts : List Symbol) (x : Read) → Front (Spells first) m ts → height first ≤ h → braces_end r first ts ≡ Some x → Reads 11 (suc h) (symbol.Terminal terminal.OpenBrace ∷ m) x
  unfolding braces_end
  braces_end_sound first m [] x front small e = join_sound first m [] x front small e
  braces_end_sound first m (symbol.Terminal terminal.OpenBrace ∷ ts) x front small e = repeat_sound first m ts x front small e
  braces_end_sound first m (s ∷ ts) x front small e = join_sound first m (s ∷ ts) x front small e

  braces_sound : (rest : List Symbol) (x : Read) → braces_in r rest ≡ Some x → Reads 11 (suc h) (symbol.Terminal terminal.OpenBrace ∷ rest) x
  unfolding braces_in
  braces_sound rest x e =
      let a = bind_some (r.full rest) (λ first. braces_end r first.0 first.1) x e in
      let first = below.full rest a.0 a.1 in
      braces_end_sound a.0.0 rest a.0.1 x first.front first.small a.2

  terminal_sound : (t : Terminal) (rest : List Symbol) (x : Read) → terminal_in r t rest ≡ Some x → Reads 11 (suc h) (symbol.Terminal t ∷ rest) x
  unfolding terminal_in
  terminal_sound terminal.OpenParen rest x e = paren_sound rest x e
  terminal_sound terminal.OpenBrace rest x e = braces_sound rest x e
  terminal_sound terminal.SystemSigned rest x e = signed_sound rest x e
  terminal_sound terminal.SystemUnsigned rest x e = unsigned_sound rest x e
  terminal_sound t rest x e = unary_sound t rest x e

  operand_sound : (ts : List Symbol) (x : Read) → operand_in r ts ≡ Some x → Reads 11 (suc h) ts x
  unfolding operand_in
  operand_sound [] x e = absurd cc
  operand_sound (symbol.Number n ∷ rest) x e = number_sound n rest x e
  operand_sound (symbol.Name n ∷ rest) x e = named_sound n rest x e
  operand_sound (symbol.Terminal t ∷ rest) x e = terminal_sound t rest x e

  -- a left operand in front of its operator and its right operand
  right_sound : (least : ℕ) (left : Tree) (m ts : List Symbol) (op : BinaryOp × List Symbol) (x : Read) → Front (Spells left) m ts → least ≤ level_of left → operator_at least ts ≡ Some op → level op.0 ≤ level_of left → with_right r h op.0 left op.1 ≡ Some x
      → Reads least (suc h) m x × Loose least x
  unfolding with_right
  right_sound least left m ts op x front tight o loose e =
      let mark = operator_is least ts op o in
      let g = guard_some (leb (height left) h) (r.binary (level op.0 + 1) op.1 >>= λ right. Some (Binary op.0 left right.0, right.1)) x e in
      let a = bind_some (r.binary (level op.0 + 1) op.1) (λ right. Some (Binary op.0 left right.0, right.1)) x g.1 in
      let levels = level_positive op.0 in
      let both = below.binary (level op.0 + 1) op.1 a.0 (omega arith) a.1 in
      let right = both.0 in
      let made : Read = (Binary op.0 left a.0.0, a.0.1) in
      let high : height left ≤ h = leb-true _ _ g.0 in
      let sign : Front (quoted mark.0) ts op.1 = one_front mark.3 in
      let operator : Front (IsBinary op.0) ts op.1 = record { text = sign.text; parts = sign.parts; says = record { mark = mark.0; operator = mark.1; is = sign.says } } in
      let all : Front (Spells left ⊗ IsBinary op.0 ⊗ Spells a.0.0) m a.0.1 = joined front (joined operator right.front) in
      subst (λ y. Reads least (suc h) m y × Loose least y) (some_is made x a.2) (
        record {
          front = record { text = all.text; parts = all.parts; says = (loose, omega (arith, right.level), all.says) };
          level = mark.2;
          small = omega (arith, right.small);
        },
        λ op' e'. omega (arith, none_above least (level op.0 + 1) a.0.1 op' both.1 e'),
      )

  -- what one turn gives, from what the turns after it give
  turn_sound : (least k : ℕ) (left : Tree) (m ts : List Symbol) (x : Read) (o : Option (BinaryOp × List Symbol)) → operator_at least ts ≡ o → Front (Spells left) m ts → least ≤ level_of left → height left ≤ suc h → Loose least (left, ts)
      → ((next : Tree) (rest : List Symbol) → Front (Spells next) m rest → least ≤ level_of next → height next ≤ suc h → Loose least (next, rest) → tail_in r h k least next rest ≡ Some x → Reads least (suc h) m x × (operator_at least x.1 ≡ None))
      → cases o (Some (left, ts)) (λ op. with_right r h op.0 left op.1 >>= λ next. tail_in r h k least next.0 next.1) ≡ Some x
      → Reads least (suc h) m x × (operator_at least x.1 ≡ None)
  turn_sound least k left m ts x None o front tight small loose go e =
      let made : Read = (left, ts) in
      subst (λ y. Reads least (suc h) m y × (operator_at least y.1 ≡ None)) (some_is made x e) (record { front = front; level = tight; small = small }, o)
  turn_sound least k left m ts x (Some op) o front tight small loose go e =
      let a = bind_some (with_right r h op.0 left op.1) (λ next. tail_in r h k least next.0 next.1) x e in
      let next = right_sound least left m ts op a.0 front tight o (loose op o) a.1 in
      go a.0.0 a.0.1 next.0.front next.0.level next.0.small next.1 a.2

  tail_sound : (least k : ℕ) (left : Tree) (m ts : List Symbol) (x : Read) → Front (Spells left) m ts → least ≤ level_of left → height left ≤ suc h → Loose least (left, ts) → tail_in r h k least left ts ≡ Some x
      → Reads least (suc h) m x × (operator_at least x.1 ≡ None)
  unfolding tail_in
  tail_sound least zero left m ts x front tight small loose e = absurd cc
  tail_sound least (suc k) left m ts x front tight small loose e =
      turn_sound least k left m ts x (operator_at least ts) refl front tight small loose (λ next rest s l n f g. tail_sound least k next m rest x s l n f g) e

  binary_sound : (least : ℕ) (ts : List Symbol) (x : Read) → least ≤ 11 → binary_in r h least ts ≡ Some x → Reads least (suc h) ts x × (operator_at least x.1 ≡ None)
  unfolding binary_in
  binary_sound least ts x le e =
      let a = bind_some (operand_in r ts) (λ left. tail_in r h (suc h) least left.0 left.1) x e in
      let left = operand_sound ts a.0 a.1 in
      tail_sound least (suc h) a.0.0 ts a.0.1 x left.front (omega (arith, left.level)) left.small (λ op o. omega (arith, left.level, level_positive op.0)) a.2

  choice_sound : (test : Tree) (m rest : List Symbol) (x : Read) → Front (Spells test) m (symbol.Terminal terminal.Question ∷ rest) → 0 < level_of test → height test ≤ h → choice_in r test rest ≡ Some x → Reads 0 (suc h) m x
  unfolding choice_in
  choice_sound test m rest x front tight small e =
      let a = bind_some (r.full rest) (λ first. after terminal.Colon first.1 >>= λ behind. r.full behind >>= λ second. Some (Choose test first.0 second.0, second.1)) x e in
      let b = bind_some (after terminal.Colon a.0.1) (λ behind. r.full behind >>= λ second. Some (Choose test a.0.0 second.0, second.1)) x a.2 in
      let c = bind_some (r.full b.0) (λ second. Some (Choose test a.0.0 second.0, second.1)) x b.2 in
      let first = below.full rest a.0 a.1 in
      let second = below.full b.0 c.0 c.1 in
      let made : Read = (Choose test a.0.0 c.0.0, c.0.1) in
      let all : Front (Spells test ⊗ quoted terminal.Question ⊗ Spells a.0.0 ⊗ quoted terminal.Colon ⊗ Spells c.0.0) m c.0.1 =
      joined front (joined (quoted_front terminal.Question rest) (joined first.front (joined (after_front terminal.Colon a.0.1 b.0 b.1) second.front))) in
      subst (Reads 0 (suc h) m) (some_is made x c.2) (record {
        front = record { text = all.text; parts = all.parts; says = (tight, all.says) };
        level = omega arith;
        small = omega (arith, first.small, second.small);
      })

  test_sound : (test : Tree) (m rest : List Symbol) (x : Read) → Front (Spells test) m rest → height test ≤ suc h → Some (test, rest) ≡ Some x → Reads 0 (suc h) m x
  test_sound test m rest x front small e =
      let made : Read = (test, rest) in
      subst (Reads 0 (suc h) m) (some_is made x e) (record { front = front; level = omega arith; small = small })

  choice_end_sound : (test : Tree) (m rest : List Symbol) (x : Read) → Front (Spells test) m rest → 0 < level_of test → height test ≤ suc h → choice_end r h test rest ≡ Some x → Reads 0 (suc h) m x
  unfolding choice_end
  choice_end_sound test m [] x front tight small e = test_sound test m [] x front small e
  choice_end_sound test m (symbol.Terminal terminal.Question ∷ rest) x front tight small e =
      let g = guard_some (leb (height test) h) (choice_in r test rest) x e in
      choice_sound test m rest x front tight (leb-true _ _ g.0) g.1
  choice_end_sound test m (s ∷ rest) x front tight small e = test_sound test m (s ∷ rest) x front small e

  full_sound : (ts : List Symbol) (x : Read) → full_in r h ts ≡ Some x → Reads 0 (suc h) ts x
  unfolding full_in
  full_sound ts x e =
      let a = bind_some (binary_in r h 1 ts) (λ test. choice_end r h test.0 test.1) x e in
      let test = (binary_sound 1 ts a.0 (omega arith) a.1).0 in
      choice_end_sound a.0.0 ts a.0.1 x test.front test.level test.small a.2

-- What is read spells the tree, which isn't too high.
pub readers_sound : (h : ℕ) → Sound (readers h) h
unfolding readers higher
readers_sound zero = record { operand = λ ts x e. absurd cc; binary = λ least ts x le e. absurd cc; full = λ ts x e. absurd cc }
readers_sound (suc h) =
    let below = readers_sound h in
    record { operand = operand_sound (readers h) h below; binary = binary_sound (readers h) h below; full = full_sound (readers h) h below }
