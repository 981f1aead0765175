-- What is read spells the statement.
use Rattle.std.proofs.Common.{◌≡◌, ℕ, zero, suc, ◌<◌, ◌≤◌, Bool, true, false, cond, nat_eq, List, [], ◌∷◌, length, Option, Some, None, refl, sym, ap, subst, ◌∙◌, arith}
use Rattle.rst_lex.specs.declared.token.Literal.{Literal}
use Rattle.rst_tree.specs.Trees.{Tree, Trees, Number, Name, Bit, Part, Paren, Unary, Binary, Choose, Join, Repeat, Signed, Unsigned, height, greatest}
use Rattle.rst_tree.specs.Trees as trees
use Rattle.rst_tree.specs.Statements.{Statement, Statements, Arms, Block, If, IfElse, Case, Set, Empty, end, more, no_arm, labels, otherwise, height_of, greatest_of, greatest_of_arms}
use Rattle.rst_grammar.specs.declared.symbol.Terminal.{Terminal}
use Rattle.rst_grammar.specs.declared.symbol.Terminal.TheVariants as terminal
use Rattle.rst_grammar.specs.declared.symbol.Symbol.{Symbol}
use Rattle.rst_grammar.specs.declared.symbol.Symbol.TheVariants as symbol
use Rattle.rst_grammar.specs.Says.{◌⊗◌, quoted}
use Rattle.rst_grammar.specs.Expressions.{Spells}
use Rattle.rst_tree.specs.WellFormed.{HasArm, defaults}
use Rattle.rst_grammar.specs.Statements.{ends_open, assignment, case_word, MayBeNamed, unnamed, with_name, MayBeColon, no_colon, colon, SpellsLabel, SpellsLabels, SpellsMoreLabels, SpellsStmt, SpellsStmts, SpellsArms}
use Rattle.rst_grammar.specs.Reading.{◌>>=◌, cases, after, Readers, readers}
use Rattle.rst_grammar.specs.ReadStatement.{TargetReader, StmtReader, target_reader, assignment_at, set_in, else_in, if_in, behind_name, block_name, until_end, block_in, masked_at, label_in, more_labels, labels_in, default_colon, arms_in, some_arms, case_in, word_in, stmt_in, stmt_reader}
use Rattle.rst_grammar.proofs.Fronts.{Front, joined, one_front, nothing_is, nothing_front, whole, whole_of}
use Rattle.rst_grammar.proofs.Tools.{bind_some}
use Rattle.rst_grammar.proofs.Sound.{Sound, readers_sound, some_is, quoted_front, after_front}
use Rattle.rst_grammar.proofs.SoundTargets.{SoundTarget, target_sound}
use Rattle.rst_grammar.proofs.TakesStatements.{NoElse, stmt_front_takes}

abbrev pub StmtRead : Type 0
StmtRead = Statement × List Symbol

-- The front of ts spells the statement that was read, of height h at most. Where it ends in an `if` without an `else`, none follows.
pub record ReadsStmt (h : ℕ) (ts : List Symbol) (x : StmtRead) : Type 0 where
  pub front : Front (SpellsStmt x.0) ts x.1
  pub small : height_of x.0 ≤ h
  pub closed : ends_open x.0 ≡ true → NoElse x.1

abbrev pub SoundStmt : StmtReader → ℕ → Type 0
SoundStmt stmt h = (ts : List Symbol) (x : StmtRead) → stmt ts ≡ Some x → ReadsStmt h ts x

-- a statement that doesn't end open
abbrev Closed : Statement → Type 0
Closed s = ends_open s ≡ false

closed_follows : (s : Statement) (rest : List Symbol) → ends_open s ≡ false → ends_open s ≡ true → NoElse rest
closed_follows s rest is o = absurd (never (sym is ∙ o))
  where
    never : false ≡ true → ⊥
    never e = cc

-- statements up to `end`
record ReadsStmts (h : ℕ) (ts : List Symbol) (x : Statements × List Symbol) : Type 0 where
  mid : List Symbol
  front : Front (SpellsStmts x.0) ts mid
  ends : mid ≡ symbol.Terminal terminal.End ∷ x.1
  small : greatest_of x.0 ≤ h

-- a label, and lists of them: only a literal can be read where h is 0
record ReadsLabel (wild : Bool) (h : ℕ) (ts : List Symbol) (x : Tree × List Symbol) : Type 0 where
  front : Front (SpellsLabel wild x.0) ts x.1
  small : 0 < h → height x.0 ≤ h

record ReadsMoreLabels (wild : Bool) (h : ℕ) (ts : List Symbol) (x : Trees × List Symbol) : Type 0 where
  front : Front (SpellsMoreLabels wild x.0) ts x.1
  small : 0 < h → greatest x.0 ≤ h

record ReadsLabels (wild : Bool) (h : ℕ) (ts : List Symbol) (x : Trees × List Symbol) : Type 0 where
  front : Front (SpellsLabels wild x.0) ts x.1
  small : 0 < h → greatest x.0 ≤ h

-- arms up to `endcase`, with room for so many defaults
record ReadsArms (wild : Bool) (h room : ℕ) (ts : List Symbol) (x : Arms × List Symbol) : Type 0 where
  mid : List Symbol
  front : Front (SpellsArms x.0 wild) ts mid
  ends : mid ≡ symbol.Terminal terminal.Endcase ∷ x.1
  small : greatest_of_arms x.0 ≤ h
  few : defaults x.0 ≤ room

-- each statement has a height above 0
pub stmt_height_positive : (s : Statement) → 0 < height_of s
stmt_height_positive (Block ss) = omega arith
stmt_height_positive (If c s) = omega arith
stmt_height_positive (IfElse c s t) = omega arith
stmt_height_positive (Case wild e arms) = omega arith
stmt_height_positive (Set t e blocking) = omega arith
stmt_height_positive Empty = omega arith

-- ---- what may be left out

assignment_is : (ts : List Symbol) (x : Bool × List Symbol) → assignment_at ts ≡ Some x → Front (quoted (assignment x.0)) ts x.1
assignment_is [] x e = absurd cc
assignment_is (symbol.Name n ∷ rest) x e = absurd cc
assignment_is (symbol.Number n ∷ rest) x e = absurd cc
assignment_is (symbol.Terminal terminal.Equal ∷ rest) x e =
    let made : Bool × List Symbol = (true, rest) in
    subst (λ (p : Bool × List Symbol). Front (quoted (assignment p.0)) (symbol.Terminal terminal.Equal ∷ rest) p.1) (some_is made x e) (quoted_front terminal.Equal rest)
assignment_is (symbol.Terminal terminal.LessEqual ∷ rest) x e =
    let made : Bool × List Symbol = (false, rest) in
    subst (λ (p : Bool × List Symbol). Front (quoted (assignment p.0)) (symbol.Terminal terminal.LessEqual ∷ rest) p.1) (some_is made x e) (quoted_front terminal.LessEqual rest)
assignment_is (symbol.Terminal t ∷ rest) x e = absurd cc

unnamed_front : (ts m : List Symbol) → Some ts ≡ Some m → Front MayBeNamed ts m
unnamed_front ts m e =
    let none = nothing_front ts in
    subst (Front MayBeNamed ts) (some_is ts m e) (record { text = none.text; parts = none.parts; says = unnamed none.says })

behind_name_front : (rest m : List Symbol) → behind_name rest ≡ Some m → Front MayBeNamed (symbol.Terminal terminal.Colon ∷ rest) m
behind_name_front [] m e = absurd cc
behind_name_front (symbol.Name n ∷ rest) m e =
    let both = joined (quoted_front terminal.Colon (symbol.Name n ∷ rest)) (one_front {s = symbol.Name n} refl) in
    subst (Front MayBeNamed (symbol.Terminal terminal.Colon ∷ symbol.Name n ∷ rest)) (some_is rest m e) (record { text = both.text; parts = both.parts; says = with_name n both.says })
behind_name_front (s ∷ rest) m e = absurd cc

block_name_front : (ts m : List Symbol) → block_name ts ≡ Some m → Front MayBeNamed ts m
block_name_front [] m e = unnamed_front [] m e
block_name_front (symbol.Terminal terminal.Colon ∷ rest) m e = behind_name_front rest m e
block_name_front (s ∷ rest) m e = unnamed_front (s ∷ rest) m e

no_colon_front : (ts : List Symbol) → Front MayBeColon ts ts
no_colon_front ts =
    let none = nothing_front ts in
    record { text = none.text; parts = none.parts; says = no_colon none.says }

default_colon_front : (ts : List Symbol) → Front MayBeColon ts (default_colon ts)
default_colon_front [] = no_colon_front []
default_colon_front (symbol.Terminal terminal.Colon ∷ rest) =
    let one = quoted_front terminal.Colon rest in
    record { text = one.text; parts = one.parts; says = colon one.says }
default_colon_front (s ∷ rest) = no_colon_front (s ∷ rest)

-- an expression is a label
expression_label : (wild : Bool) (e : Tree) (ts : List Symbol) → Spells e ts → SpellsLabel wild e ts
expression_label false e ts p = p
expression_label true (Number n) ts p = p.1
expression_label true e ts p = p

masked_label : (wild : Bool) (h : ℕ) (ts : List Symbol) (m : Literal × List Symbol) (x : Tree × List Symbol) → masked_at wild ts ≡ Some m → Some (Number m.0, m.1) ≡ Some x → ReadsLabel wild h ts x
masked_label false h ts m x e f = absurd cc
masked_label true h [] m x e f = absurd cc
masked_label true h (symbol.Name n ∷ rest) m x e f = absurd cc
masked_label true h (symbol.Terminal t ∷ rest) m x e f = absurd cc
masked_label true h (symbol.Number n ∷ rest) m x e f = by_mask (nat_eq n.mask 0) e
  where
    by_mask : (b : Bool) → cond b None (Some (n, rest)) ≡ Some m → ReadsLabel true h (symbol.Number n ∷ rest) x
    by_mask true g = absurd cc
    by_mask false g =
        let made : Literal × List Symbol = (n, rest) in
        let read : Tree × List Symbol = (Number n, rest) in
        let same : Some read ≡ Some x = ap (λ (p : Literal × List Symbol). let y : Tree × List Symbol = (Number p.0, p.1) in Some y) (some_is made m g) ∙ f in
        subst (ReadsLabel true h (symbol.Number n ∷ rest)) (some_is read x same) (record { front = one_front refl; small = λ lt. lt })

-- an arm stands where no `endcase` does
has_arm : (wild : Bool) (arms : Arms) (ts mid rest : List Symbol) → Front (SpellsArms arms wild) ts mid → mid ≡ symbol.Terminal terminal.Endcase ∷ rest → after terminal.Endcase ts ≡ None → HasArm arms
has_arm wild no_arm ts mid rest f ends none =
    let is : ts ≡ symbol.Terminal terminal.Endcase ∷ rest = nothing_is (record { text = f.text; parts = f.parts; says = f.says }) ∙ ends in
    absurd (some_none rest (sym none ∙ ap (after terminal.Endcase) is))
  where
    some_none : (x : List Symbol) → None ≡ Some x → ⊥
    some_none x e = cc
has_arm wild (labels es s others) ts mid rest f ends none = tt
has_arm wild (otherwise s others) ts mid rest f ends none = tt

module _ (r : Readers) (target : TargetReader) (stmt : StmtReader) (h : ℕ) (below : Sound r h) (targets : SoundTarget target h) (inner : SoundStmt stmt h) where
  set_sound : (ts : List Symbol) (x : StmtRead) → set_in r target ts ≡ Some x → ReadsStmt (suc h) ts x
  unfolding set_in
  set_sound ts x e =
      let a = bind_some (target ts) (λ t. assignment_at t.1 >>= λ sign. r.full sign.1 >>= λ value. after terminal.Semicolon value.1 >>= λ behind. Some (Set t.0 value.0 sign.0, behind)) x e in
      let b = bind_some (assignment_at a.0.1) (λ sign. r.full sign.1 >>= λ value. after terminal.Semicolon value.1 >>= λ behind. Some (Set a.0.0 value.0 sign.0, behind)) x a.2 in
      let c = bind_some (r.full b.0.1) (λ value. after terminal.Semicolon value.1 >>= λ behind. Some (Set a.0.0 value.0 b.0.0, behind)) x b.2 in
      let d = bind_some (after terminal.Semicolon c.0.1) (λ behind. Some (Set a.0.0 c.0.0 b.0.0, behind)) x c.2 in
      let place = targets ts a.0 a.1 in
      let value = below.full b.0.1 c.0 c.1 in
      let made : StmtRead = (Set a.0.0 c.0.0 b.0.0, d.0) in
      subst (ReadsStmt (suc h) ts) (some_is made x d.2) (record {
        front = joined place.front (joined (assignment_is a.0.1 b.0 b.1) (joined value.front (after_front terminal.Semicolon c.0.1 d.0 d.1)));
        small = omega (arith, place.small, value.small);
        closed = closed_follows (Set a.0.0 c.0.0 b.0.0) d.0 refl;
      })

  -- ---- `if`

  -- behind the test and the first statement
  no_else_sound : (c : Tree) (s : Statement) (rest opened tested behind ts : List Symbol) (x : StmtRead) → Front (quoted terminal.OpenParen) rest opened → Front (Spells c) opened tested → height c ≤ h → Front (quoted terminal.CloseParen) tested behind
      → ReadsStmt h behind (s, ts) → NoElse ts → Some (If c s, ts) ≡ Some x → ReadsStmt (suc h) (symbol.Terminal terminal.If ∷ rest) x
  no_else_sound c s rest opened tested behind ts x left test small right first none e =
      let made : StmtRead = (If c s, ts) in
      subst (ReadsStmt (suc h) (symbol.Terminal terminal.If ∷ rest)) (some_is made x e) (record {
        front = joined (quoted_front terminal.If rest) (joined left (joined test (joined right first.front)));
        small = omega (arith, first.small);
        closed = λ o. none;
      })

  else_sound : (c : Tree) (s : Statement) (rest opened tested behind ts : List Symbol) (x : StmtRead) → Front (quoted terminal.OpenParen) rest opened → Front (Spells c) opened tested → height c ≤ h → Front (quoted terminal.CloseParen) tested behind
      → ReadsStmt h behind (s, symbol.Terminal terminal.Else ∷ ts) → stmt ts >>= (λ t. Some (IfElse c s t.0, t.1)) ≡ Some x → ReadsStmt (suc h) (symbol.Terminal terminal.If ∷ rest) x
  else_sound c s rest opened tested behind ts x left test small right first e =
      let a = bind_some (stmt ts) (λ t. Some (IfElse c s t.0, t.1)) x e in
      let second = inner ts a.0 a.1 in
      let made : StmtRead = (IfElse c s a.0.0, a.0.1) in
      let all : Front (quoted terminal.If ⊗ quoted terminal.OpenParen ⊗ Spells c ⊗ quoted terminal.CloseParen ⊗ SpellsStmt s ⊗ quoted terminal.Else ⊗ SpellsStmt a.0.0) (symbol.Terminal terminal.If ∷ rest) a.0.1 =
      joined (quoted_front terminal.If rest) (joined left (joined test (joined right (joined first.front (joined (quoted_front terminal.Else ts) second.front))))) in
      subst (ReadsStmt (suc h) (symbol.Terminal terminal.If ∷ rest)) (some_is made x a.2) (record {
        front = record { text = all.text; parts = all.parts; says = (is_closed (ends_open s) first.closed, all.says) };
        small = omega (arith, first.small, second.small);
        closed = second.closed;
      })
    where
      is_closed : (b : Bool) → (b ≡ true → NoElse (symbol.Terminal terminal.Else ∷ ts)) → b ≡ false
      is_closed true n = absurd (some_none (n refl))
        where
          some_none : after terminal.Else (symbol.Terminal terminal.Else ∷ ts) ≡ None → ⊥
          some_none e = cc
      is_closed false n = refl

  else_in_sound : (c : Tree) (s : Statement) (rest opened tested behind ts : List Symbol) (x : StmtRead) → Front (quoted terminal.OpenParen) rest opened → Front (Spells c) opened tested → height c ≤ h → Front (quoted terminal.CloseParen) tested behind
      → ReadsStmt h behind (s, ts) → else_in stmt c s ts ≡ Some x → ReadsStmt (suc h) (symbol.Terminal terminal.If ∷ rest) x
  unfolding else_in
  else_in_sound c s rest opened tested behind [] x left test small right first e = no_else_sound c s rest opened tested behind [] x left test small right first refl e
  else_in_sound c s rest opened tested behind (symbol.Terminal terminal.Else ∷ ts) x left test small right first e = else_sound c s rest opened tested behind ts x left test small right first e
  else_in_sound c s rest opened tested behind (t ∷ ts) x left test small right first e = no_else_sound c s rest opened tested behind (t ∷ ts) x left test small right first refl e

  if_sound : (rest : List Symbol) (x : StmtRead) → if_in r stmt rest ≡ Some x → ReadsStmt (suc h) (symbol.Terminal terminal.If ∷ rest) x
  unfolding if_in
  if_sound rest x e =
      let a = bind_some (after terminal.OpenParen rest) (λ opened. r.full opened >>= λ c. after terminal.CloseParen c.1 >>= λ behind. stmt behind >>= λ s. else_in stmt c.0 s.0 s.1) x e in
      let b = bind_some (r.full a.0) (λ c. after terminal.CloseParen c.1 >>= λ behind. stmt behind >>= λ s. else_in stmt c.0 s.0 s.1) x a.2 in
      let c = bind_some (after terminal.CloseParen b.0.1) (λ behind. stmt behind >>= λ s. else_in stmt b.0.0 s.0 s.1) x b.2 in
      let d = bind_some (stmt c.0) (λ s. else_in stmt b.0.0 s.0 s.1) x c.2 in
      let test = below.full a.0 b.0 b.1 in
      else_in_sound b.0.0 d.0.0 rest a.0 b.0.1 c.0 d.0.1 x (after_front terminal.OpenParen rest a.0 a.1) test.front test.small (after_front terminal.CloseParen b.0.1 c.0 c.1) (inner c.0 d.0 d.1) d.2

  -- ---- blocks

  one_more : (most : ℕ) (ts : List Symbol) (x : Statements × List Symbol) → ((m : List Symbol) (y : Statements × List Symbol) → until_end stmt most m ≡ Some y → ReadsStmts h m y)
      → (stmt ts >>= λ s. until_end stmt most s.1 >>= λ others. Some (more s.0 others.0, others.1)) ≡ Some x → ReadsStmts h ts x
  one_more most ts x go e =
      let a = bind_some (stmt ts) (λ s. until_end stmt most s.1 >>= λ others. Some (more s.0 others.0, others.1)) x e in
      let b = bind_some (until_end stmt most a.0.1) (λ others. Some (more a.0.0 others.0, others.1)) x a.2 in
      let first = inner ts a.0 a.1 in
      let others = go a.0.1 b.0 b.1 in
      let made : Statements × List Symbol = (more a.0.0 b.0.0, b.0.1) in
      subst (ReadsStmts h ts) (some_is made x b.2) (record { mid = others.mid; front = joined first.front others.front; ends = others.ends; small = omega (arith, first.small, others.small) })

  until_sound : (most : ℕ) (ts : List Symbol) (x : Statements × List Symbol) → until_end stmt most ts ≡ Some x → ReadsStmts h ts x
  unfolding until_end
  until_sound zero ts x e = absurd cc
  until_sound (suc most) [] x e = one_more most [] x (until_sound most) e
  until_sound (suc most) (symbol.Terminal terminal.End ∷ rest) x e =
      let made : Statements × List Symbol = (end, rest) in
      subst (ReadsStmts h (symbol.Terminal terminal.End ∷ rest)) (some_is made x e) (record { mid = symbol.Terminal terminal.End ∷ rest; front = nothing_front (symbol.Terminal terminal.End ∷ rest); ends = refl; small = omega arith })
  until_sound (suc most) (s ∷ rest) x e = one_more most (s ∷ rest) x (until_sound most) e

  block_sound : (rest : List Symbol) (x : StmtRead) → block_in stmt rest ≡ Some x → ReadsStmt (suc h) (symbol.Terminal terminal.Begin ∷ rest) x
  unfolding block_in
  block_sound rest x e =
      let a = bind_some (block_name rest) (λ m. until_end stmt (length m) m >>= λ ss. Some (Block ss.0, ss.1)) x e in
      let b = bind_some (until_end stmt (length a.0) a.0) (λ ss. Some (Block ss.0, ss.1)) x a.2 in
      let all = until_sound (length a.0) a.0 b.0 b.1 in
      let made : StmtRead = (Block b.0.0, b.0.1) in
      subst (ReadsStmt (suc h) (symbol.Terminal terminal.Begin ∷ rest)) (some_is made x b.2) (record {
        front = joined (quoted_front terminal.Begin rest) (joined (block_name_front rest a.0 a.1) (joined all.front (one_front all.ends)));
        small = omega (arith, all.small);
        closed = closed_follows (Block b.0.0) b.0.1 refl;
      })

  -- ---- labels

  label_sound : (wild : Bool) (ts : List Symbol) (x : Tree × List Symbol) → label_in r wild ts ≡ Some x → ReadsLabel wild h ts x
  unfolding label_in
  label_sound wild ts x e = by_mask (masked_at wild ts) refl e
    where
      by_mask : (m : Option (Literal × List Symbol)) → masked_at wild ts ≡ m → cases m (r.full ts) (λ m. Some (Number m.0, m.1)) ≡ Some x → ReadsLabel wild h ts x
      by_mask (Some m) is f = masked_label wild h ts m x is f
      by_mask None is f =
          let read = below.full ts x f in
          record { front = record { text = read.front.text; parts = read.front.parts; says = expression_label wild x.0 read.front.text read.front.says }; small = λ lt. read.small }

  no_more_labels : (wild : Bool) (ts : List Symbol) (x : Trees × List Symbol) → Some (trees.end, ts) ≡ Some x → ReadsMoreLabels wild h ts x
  no_more_labels wild ts x e =
      let made : Trees × List Symbol = (trees.end, ts) in
      subst (ReadsMoreLabels wild h ts) (some_is made x e) (record { front = nothing_front ts; small = λ lt. omega arith })

  more_labels_sound : (wild : Bool) (most : ℕ) (ts : List Symbol) (x : Trees × List Symbol) → more_labels r wild most ts ≡ Some x → ReadsMoreLabels wild h ts x
  unfolding more_labels
  more_labels_sound wild zero ts x e = no_more_labels wild ts x e
  more_labels_sound wild (suc most) [] x e = no_more_labels wild [] x e
  more_labels_sound wild (suc most) (symbol.Terminal terminal.Comma ∷ rest) x e =
      let a = bind_some (label_in r wild rest) (λ first. more_labels r wild most first.1 >>= λ others. Some (trees.more first.0 others.0, others.1)) x e in
      let b = bind_some (more_labels r wild most a.0.1) (λ others. Some (trees.more a.0.0 others.0, others.1)) x a.2 in
      let first = label_sound wild rest a.0 a.1 in
      let others = more_labels_sound wild most a.0.1 b.0 b.1 in
      let made : Trees × List Symbol = (trees.more a.0.0 b.0.0, b.0.1) in
      subst (ReadsMoreLabels wild h (symbol.Terminal terminal.Comma ∷ rest)) (some_is made x b.2) (record {
        front = joined (quoted_front terminal.Comma rest) (joined first.front others.front);
        small = λ lt. omega (arith, first.small lt, others.small lt);
      })
  more_labels_sound wild (suc most) (s ∷ rest) x e = no_more_labels wild (s ∷ rest) x e

  labels_sound : (wild : Bool) (ts : List Symbol) (x : Trees × List Symbol) → labels_in r wild ts ≡ Some x → ReadsLabels wild h ts x
  unfolding labels_in
  labels_sound wild ts x e =
      let a = bind_some (label_in r wild ts) (λ first. more_labels r wild (length first.1) first.1 >>= λ others. Some (trees.more first.0 others.0, others.1)) x e in
      let b = bind_some (more_labels r wild (length a.0.1) a.0.1) (λ others. Some (trees.more a.0.0 others.0, others.1)) x a.2 in
      let first = label_sound wild ts a.0 a.1 in
      let others = more_labels_sound wild (length a.0.1) a.0.1 b.0 b.1 in
      let made : Trees × List Symbol = (trees.more a.0.0 b.0.0, b.0.1) in
      subst (ReadsLabels wild h ts) (some_is made x b.2) (record { front = joined first.front others.front; small = λ lt. omega (arith, first.small lt, others.small lt) })

  -- ---- arms

  stop_sound : (wild : Bool) (room : ℕ) (rest : List Symbol) (x : Arms × List Symbol) → Some (no_arm, rest) ≡ Some x → ReadsArms wild h room (symbol.Terminal terminal.Endcase ∷ rest) x
  stop_sound wild room rest x e =
      let made : Arms × List Symbol = (no_arm, rest) in
      subst (ReadsArms wild h room (symbol.Terminal terminal.Endcase ∷ rest)) (some_is made x e) (record {
        mid = symbol.Terminal terminal.Endcase ∷ rest;
        front = nothing_front (symbol.Terminal terminal.Endcase ∷ rest);
        ends = refl;
        small = omega arith;
        few = omega arith;
      })

  abbrev ArmsSound : Bool → ℕ → ℕ → Type 0
  ArmsSound wild most room = (ts : List Symbol) (x : Arms × List Symbol) → arms_in r stmt wild most room ts ≡ Some x → ReadsArms wild h room ts x

  default_sound : (wild : Bool) (most room : ℕ) (rest : List Symbol) (x : Arms × List Symbol) → ArmsSound wild most room
      → (stmt (default_colon rest) >>= λ s. arms_in r stmt wild most room s.1 >>= λ others. Some (otherwise s.0 others.0, others.1)) ≡ Some x → ReadsArms wild h (suc room) (symbol.Terminal terminal.Default ∷ rest) x
  default_sound wild most room rest x go e =
      let a = bind_some (stmt (default_colon rest)) (λ s. arms_in r stmt wild most room s.1 >>= λ others. Some (otherwise s.0 others.0, others.1)) x e in
      let b = bind_some (arms_in r stmt wild most room a.0.1) (λ others. Some (otherwise a.0.0 others.0, others.1)) x a.2 in
      let first = inner (default_colon rest) a.0 a.1 in
      let others = go a.0.1 b.0 b.1 in
      let made : Arms × List Symbol = (otherwise a.0.0 b.0.0, b.0.1) in
      subst (ReadsArms wild h (suc room) (symbol.Terminal terminal.Default ∷ rest)) (some_is made x b.2) (record {
        mid = others.mid;
        front = joined (quoted_front terminal.Default rest) (joined (default_colon_front rest) (joined first.front others.front));
        ends = others.ends;
        small = omega (arith, first.small, others.small);
        few = omega (arith, others.few);
      })

  arm_sound : (wild : Bool) (most room : ℕ) (ts : List Symbol) (x : Arms × List Symbol) → ArmsSound wild most room
      → (labels_in r wild ts >>= λ es. after terminal.Colon es.1 >>= λ behind. stmt behind >>= λ s. arms_in r stmt wild most room s.1 >>= λ others. Some (labels es.0 s.0 others.0, others.1)) ≡ Some x → ReadsArms wild h room ts x
  arm_sound wild most room ts x go e =
      let a = bind_some (labels_in r wild ts) (λ es. after terminal.Colon es.1 >>= λ behind. stmt behind >>= λ s. arms_in r stmt wild most room s.1 >>= λ others. Some (labels es.0 s.0 others.0, others.1)) x e in
      let b = bind_some (after terminal.Colon a.0.1) (λ behind. stmt behind >>= λ s. arms_in r stmt wild most room s.1 >>= λ others. Some (labels a.0.0 s.0 others.0, others.1)) x a.2 in
      let c = bind_some (stmt b.0) (λ s. arms_in r stmt wild most room s.1 >>= λ others. Some (labels a.0.0 s.0 others.0, others.1)) x b.2 in
      let d = bind_some (arms_in r stmt wild most room c.0.1) (λ others. Some (labels a.0.0 c.0.0 others.0, others.1)) x c.2 in
      let es = labels_sound wild ts a.0 a.1 in
      let first = inner b.0 c.0 c.1 in
      let others = go c.0.1 d.0 d.1 in
      let positive : 0 < h = omega (arith, stmt_height_positive c.0.0, first.small) in
      let made : Arms × List Symbol = (labels a.0.0 c.0.0 d.0.0, d.0.1) in
      subst (ReadsArms wild h room ts) (some_is made x d.2) (record {
        mid = others.mid;
        front = joined es.front (joined (after_front terminal.Colon a.0.1 b.0 b.1) (joined first.front others.front));
        ends = others.ends;
        small = omega (arith, es.small positive, first.small, others.small);
        few = omega (arith, others.few);
      })

  arms_sound : (wild : Bool) (most room : ℕ) → ArmsSound wild most room
  unfolding arms_in
  arms_sound wild zero room ts x e = absurd cc
  arms_sound wild (suc most) zero [] x e = arm_sound wild most zero [] x (arms_sound wild most zero) e
  arms_sound wild (suc most) (suc room) [] x e = arm_sound wild most (suc room) [] x (arms_sound wild most (suc room)) e
  arms_sound wild (suc most) zero (symbol.Terminal terminal.Endcase ∷ rest) x e = stop_sound wild zero rest x e
  arms_sound wild (suc most) (suc room) (symbol.Terminal terminal.Endcase ∷ rest) x e = stop_sound wild (suc room) rest x e
  arms_sound wild (suc most) zero (symbol.Terminal terminal.Default ∷ rest) x e = absurd cc
  arms_sound wild (suc most) (suc room) (symbol.Terminal terminal.Default ∷ rest) x e = default_sound wild most room rest x (arms_sound wild most room) e
  arms_sound wild (suc most) zero (s ∷ rest) x e = arm_sound wild most zero (s ∷ rest) x (arms_sound wild most zero) e
  arms_sound wild (suc most) (suc room) (s ∷ rest) x e = arm_sound wild most (suc room) (s ∷ rest) x (arms_sound wild most (suc room)) e

  -- one arm at least, and one default at most
  first_arm_sound : (wild : Bool) (ts : List Symbol) (x : Arms × List Symbol) → after terminal.Endcase ts ≡ None → arms_in r stmt wild (length ts) 1 ts ≡ Some x → HasArm x.0 × ReadsArms wild h 1 ts x
  first_arm_sound wild ts x none e =
      let arms = arms_sound wild (length ts) 1 ts x e in
      (has_arm wild x.0 ts arms.mid x.1 arms.front arms.ends none, arms)

  some_arms_sound : (wild : Bool) (ts : List Symbol) (x : Arms × List Symbol) → some_arms r stmt wild ts ≡ Some x → HasArm x.0 × ReadsArms wild h 1 ts x
  unfolding some_arms
  some_arms_sound wild [] x e = first_arm_sound wild [] x refl e
  some_arms_sound wild (symbol.Terminal terminal.Endcase ∷ rest) x e = absurd cc
  some_arms_sound wild (s ∷ rest) x e = first_arm_sound wild (s ∷ rest) x refl e

  case_sound : (wild : Bool) (rest : List Symbol) (x : StmtRead) → case_in r stmt wild rest ≡ Some x → ReadsStmt (suc h) (symbol.Terminal (case_word wild) ∷ rest) x
  unfolding case_in
  case_sound wild rest x e =
      let a = bind_some (after terminal.OpenParen rest) (λ opened. r.full opened >>= λ e. after terminal.CloseParen e.1 >>= λ behind. some_arms r stmt wild behind >>= λ arms. Some (Case wild e.0 arms.0, arms.1)) x e in
      let b = bind_some (r.full a.0) (λ e. after terminal.CloseParen e.1 >>= λ behind. some_arms r stmt wild behind >>= λ arms. Some (Case wild e.0 arms.0, arms.1)) x a.2 in
      let c = bind_some (after terminal.CloseParen b.0.1) (λ behind. some_arms r stmt wild behind >>= λ arms. Some (Case wild b.0.0 arms.0, arms.1)) x b.2 in
      let d = bind_some (some_arms r stmt wild c.0) (λ arms. Some (Case wild b.0.0 arms.0, arms.1)) x c.2 in
      let selector = below.full a.0 b.0 b.1 in
      let both = some_arms_sound wild c.0 d.0 d.1 in
      let arms = both.1 in
      let made : StmtRead = (Case wild b.0.0 d.0.0, d.0.1) in
      let all : Front (quoted (case_word wild) ⊗ quoted terminal.OpenParen ⊗ Spells b.0.0 ⊗ quoted terminal.CloseParen ⊗ SpellsArms d.0.0 wild ⊗ quoted terminal.Endcase) (symbol.Terminal (case_word wild) ∷ rest) d.0.1 =
      joined (quoted_front (case_word wild) rest) (joined (after_front terminal.OpenParen rest a.0 a.1) (joined selector.front (joined (after_front terminal.CloseParen b.0.1 c.0 c.1) (joined arms.front (one_front arms.ends))))) in
      subst (ReadsStmt (suc h) (symbol.Terminal (case_word wild) ∷ rest)) (some_is made x d.2) (record {
        front = record { text = all.text; parts = all.parts; says = (both.0, arms.few, all.says) };
        small = omega (arith, selector.small, arms.small);
        closed = closed_follows (Case wild b.0.0 d.0.0) d.0.1 refl;
      })

  -- ---- what begins with a terminal

  empty_sound : (rest : List Symbol) (x : StmtRead) → Some (Empty, rest) ≡ Some x → ReadsStmt (suc h) (symbol.Terminal terminal.Semicolon ∷ rest) x
  empty_sound rest x e =
      let made : StmtRead = (Empty, rest) in
      subst (ReadsStmt (suc h) (symbol.Terminal terminal.Semicolon ∷ rest)) (some_is made x e) (record { front = quoted_front terminal.Semicolon rest; small = omega arith; closed = closed_follows Empty rest refl })

  word_sound : (t : Terminal) (rest : List Symbol) (x : StmtRead) → word_in r target stmt t rest ≡ Some x → ReadsStmt (suc h) (symbol.Terminal t ∷ rest) x
  unfolding word_in
  word_sound terminal.Begin rest x e = block_sound rest x e
  word_sound terminal.Semicolon rest x e = empty_sound rest x e
  word_sound terminal.If rest x e = if_sound rest x e
  word_sound terminal.Case rest x e = case_sound false rest x e
  word_sound terminal.Casez rest x e = case_sound true rest x e
  word_sound t rest x e = set_sound (symbol.Terminal t ∷ rest) x e

  in_sound : (ts : List Symbol) (x : StmtRead) → stmt_in r target stmt ts ≡ Some x → ReadsStmt (suc h) ts x
  unfolding stmt_in
  in_sound [] x e = set_sound [] x e
  in_sound (symbol.Terminal t ∷ rest) x e = word_sound t rest x e
  in_sound (s ∷ rest) x e = set_sound (s ∷ rest) x e

-- What is read spells the statement, which isn't too high.
pub stmt_sound : (h : ℕ) → SoundStmt (stmt_reader h) h
unfolding stmt_reader
stmt_sound zero ts x e = absurd cc
stmt_sound (suc h) ts x e = in_sound (readers h) (target_reader h) (stmt_reader h) h (readers_sound h) (target_sound h) (stmt_sound h) ts x e

-- ---- in front of other symbols

-- What was read stands in front, and ends there. With stmt_front_takes, exactly this is read.
pub stmt_front : (h : ℕ) (ts rest : List Symbol) (s : Statement) → stmt_reader h ts ≡ Some (s, rest) → Front (SpellsStmt s) ts rest × (height_of s ≤ h) × (ends_open s ≡ true → NoElse rest)
stmt_front h ts rest s found =
    let x : StmtRead = (s, rest) in
    let reads = stmt_sound h ts x found in
    (reads.front, reads.small, reads.closed)

-- No statement stands in front but the one that was read.
pub stmt_front_only : (h : ℕ) (ts rest behind : List Symbol) (s t : Statement) → stmt_reader h ts ≡ Some (t, rest) → Front (SpellsStmt s) ts behind → height_of s ≤ h → (ends_open s ≡ true → NoElse behind) → (s ≡ t) × (behind ≡ rest)
stmt_front_only h ts rest behind s t found front small next =
    let x : StmtRead = (s, behind) in
    let y : StmtRead = (t, rest) in
    let same = some_is x y (sym (stmt_front_takes h ts behind s front small next) ∙ found) in
    (ap (λ (p : StmtRead). p.0) same, ap (λ (p : StmtRead). p.1) same)

-- Where none was read, none stands in front.
pub stmt_front_none : (h : ℕ) (ts rest : List Symbol) (s : Statement) → stmt_reader h ts ≡ None → Front (SpellsStmt s) ts rest → height_of s ≤ h → (ends_open s ≡ true → NoElse rest) → ⊥
stmt_front_none h ts rest s none front small next =
    let x : StmtRead = (s, rest) in
    some_none x (sym none ∙ stmt_front_takes h ts rest s front small next)
  where
    some_none : (x : StmtRead) → None ≡ Some x → ⊥
    some_none x e = cc

-- ---- a whole list

pub whole_statement_sound : (h : ℕ) (ts rest : List Symbol) (s : Statement) → stmt_reader h ts ≡ Some (s, rest) → rest ≡ [] → SpellsStmt s ts × (height_of s ≤ h)
whole_statement_sound h ts rest s found none =
    let read = stmt_front h ts rest s found in
    (whole_of ts rest read.0 none, read.1)

pub whole_statement_takes : (h : ℕ) (ts : List Symbol) (s : Statement) → SpellsStmt s ts → height_of s ≤ h → stmt_reader h ts ≡ Some (s, [])
whole_statement_takes h ts s spelled small = stmt_front_takes h ts [] s (whole ts spelled) small (λ o. refl)

-- no statement but the one that was read
pub whole_statement_only : (ts rest : List Symbol) (s t : Statement) (h : ℕ) → stmt_reader h ts ≡ Some (t, rest) → SpellsStmt s ts → height_of s ≤ h → (s ≡ t) × (rest ≡ [])
whole_statement_only ts rest s t h found spelled small =
    let only = stmt_front_only h ts rest [] s t found (whole ts spelled) small (λ o. refl) in
    (only.0, sym only.1)
