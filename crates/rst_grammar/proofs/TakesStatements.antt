-- What spells a statement is read.
use Rattle.std.proofs.Common.{◌≡◌, ℕ, zero, suc, ◌+◌, ◌<◌, ◌≤◌, Bool, true, false, nat_eq, List, [], ◌∷◌, ◌++◌, length, Some, None, refl, sym, ap, ◌∙◌, arith}
use Rattle.std.proofs.lemmas.Bool.{eqb-true}
use Rattle.rst_lex.specs.declared.token.Literal.{Literal}
use Rattle.rst_word.specs.declared.ops.UnaryOp.{UnaryOp}
use Rattle.rst_tree.specs.Trees.{Tree, Trees, Number, Name, Bit, Part, Paren, Unary, Binary, Choose, Join, Repeat, Signed, Unsigned, height, greatest}
use Rattle.rst_tree.specs.Trees as trees
use Rattle.rst_tree.specs.Targets.{Place, height_of_target}
use Rattle.rst_tree.specs.Targets as targets
use Rattle.rst_tree.specs.Statements.{Statement, Statements, Arms, Block, If, IfElse, Case, Set, Empty, end, more, no_arm, labels, otherwise, height_of, greatest_of, greatest_of_arms}
use Rattle.rst_grammar.specs.declared.symbol.Terminal.{Terminal}
use Rattle.rst_grammar.specs.declared.symbol.Terminal.TheVariants as terminal
use Rattle.rst_grammar.specs.declared.symbol.Symbol.{Symbol}
use Rattle.rst_grammar.specs.declared.symbol.Symbol.TheVariants as symbol
use Rattle.rst_grammar.specs.Says.{Nothing, One, ◌⊗◌, quoted, named}
use Rattle.rst_grammar.specs.Expressions.{IsUnary, IsBinary, unary_of, Spells, SpellsAll}
use Rattle.rst_grammar.specs.Targets.{SpellsTarget, SpellsTargets}
use Rattle.rst_tree.specs.WellFormed.{HasArm, defaults}
use Rattle.rst_grammar.specs.Statements.{ends_open, assignment, case_word, MayBeNamed, unnamed, with_name, MayBeColon, no_colon, colon, SpellsLabel, SpellsLabels, SpellsMoreLabels, SpellsStmt, SpellsStmts, SpellsArms}
use Rattle.rst_grammar.specs.Reading.{◌>>=◌, after, Readers, readers, higher, full_in, binary_in, operand_in, number_in}
use Rattle.rst_grammar.specs.ReadStatement.{TargetReader, StmtReader, target_reader, set_in, else_in, if_in, block_name, until_end, block_in, masked_at, label_in, more_labels, labels_in, default_colon, arms_in, some_arms, case_in, word_in, stmt_in, stmt_reader}
use Rattle.rst_grammar.proofs.Fronts.{Front, split, one_is, nothing_is, whole, no_longer}
use Rattle.rst_grammar.proofs.Tools.{Follows, close_follows, colon_follows, comma_follows, semicolon_follows}
use Rattle.rst_grammar.proofs.Takes.{full_takes, unary_is}
use Rattle.rst_grammar.proofs.TakesTargets.{NoBracket, target_takes}

-- no `else` stands in front
abbrev pub NoElse : List Symbol → Type 0
NoElse ts = after terminal.Else ts ≡ None

-- what begins a statement or a label is none of these
pub record Opens (ts : List Symbol) : Type 0 where
  pub no_else : NoElse ts
  pub no_end : after terminal.End ts ≡ None
  pub no_endcase : after terminal.Endcase ts ≡ None
  pub no_default : after terminal.Default ts ≡ None
  pub no_colon : after terminal.Colon ts ≡ None

opens_name : (n : List ℕ) (ts rest : List Symbol) → ts ≡ symbol.Name n ∷ rest → Opens ts
opens_name n ts rest e = record { no_else = rw e refl; no_end = rw e refl; no_endcase = rw e refl; no_default = rw e refl; no_colon = rw e refl }

opens_number : (n : Literal) (ts rest : List Symbol) → ts ≡ symbol.Number n ∷ rest → Opens ts
opens_number n ts rest e = record { no_else = rw e refl; no_end = rw e refl; no_endcase = rw e refl; no_default = rw e refl; no_colon = rw e refl }

-- a terminal that begins a statement or an expression
abbrev pub begins : Terminal → Bool
begins terminal.Else = false
begins terminal.End = false
begins terminal.Endcase = false
begins terminal.Default = false
begins terminal.Colon = false
begins _ = true

abbrev Opener : Terminal → Type 0
Opener t = (rest : List Symbol) → Opens (symbol.Terminal t ∷ rest)

opener : (t : Terminal) → begins t ≡ true → Opener t
opener terminal.Else e = absurd cc
opener terminal.End e = absurd cc
opener terminal.Endcase e = absurd cc
opener terminal.Default e = absurd cc
opener terminal.Colon e = absurd cc
opener t e = λ rest. record { no_else = refl; no_end = refl; no_endcase = refl; no_default = refl; no_colon = refl }

opens_terminal : (t : Terminal) (ts rest : List Symbol) → begins t ≡ true → ts ≡ symbol.Terminal t ∷ rest → Opens ts
opens_terminal t ts rest b e = rw e (opener t b rest)

unary_begins : (o : Terminal) (op : UnaryOp) → unary_of o ≡ Some op → begins o ≡ true
unary_begins terminal.Else op e = absurd cc
unary_begins terminal.End op e = absurd cc
unary_begins terminal.Endcase op e = absurd cc
unary_begins terminal.Default op e = absurd cc
unary_begins terminal.Colon op e = absurd cc
unary_begins o op e = refl

pub opens_expr : (e : Tree) (ts rest : List Symbol) → Front (Spells e) ts rest → Opens ts
opens_expr (Number n) ts rest f =
    let is : Front (One (symbol.Number n)) ts rest = record { text = f.text; parts = f.parts; says = f.says.1 } in
    opens_number n ts rest (one_is is)
opens_expr (Name n) ts rest f =
    let is : Front (One (symbol.Name n)) ts rest = record { text = f.text; parts = f.parts; says = f.says } in
    opens_name n ts rest (one_is is)
opens_expr (Bit n i) ts rest f =
    let a = split {P = named n} {Q = quoted terminal.OpenBracket ⊗ Spells i ⊗ quoted terminal.CloseBracket} f in
    opens_name n ts a.mid (one_is a.left)
opens_expr (Part n i j) ts rest f =
    let a = split {P = named n} {Q = quoted terminal.OpenBracket ⊗ Spells i ⊗ quoted terminal.Colon ⊗ Spells j ⊗ quoted terminal.CloseBracket} f in
    opens_name n ts a.mid (one_is a.left)
opens_expr (Paren e) ts rest f =
    let a = split {P = quoted terminal.OpenParen} {Q = Spells e ⊗ quoted terminal.CloseParen} f in
    opens_terminal terminal.OpenParen ts a.mid refl (one_is a.left)
opens_expr (Unary op e) ts rest f =
    let g : Front (IsUnary op ⊗ Spells e) ts rest = record { text = f.text; parts = f.parts; says = f.says.1 } in
    let a = split {P = IsUnary op} {Q = Spells e} g in
    let o = unary_is op ts a.mid a.left in
    opens_terminal o.0 ts a.mid (unary_begins o.0 op o.1) o.2
opens_expr (Binary op a b) ts rest f =
    let g : Front (Spells a ⊗ IsBinary op ⊗ Spells b) ts rest = record { text = f.text; parts = f.parts; says = f.says.2 } in
    let s = split {P = Spells a} {Q = IsBinary op ⊗ Spells b} g in
    opens_expr a ts s.mid s.left
opens_expr (Choose c a b) ts rest f =
    let g : Front (Spells c ⊗ quoted terminal.Question ⊗ Spells a ⊗ quoted terminal.Colon ⊗ Spells b) ts rest = record { text = f.text; parts = f.parts; says = f.says.1 } in
    let s = split {P = Spells c} {Q = quoted terminal.Question ⊗ Spells a ⊗ quoted terminal.Colon ⊗ Spells b} g in
    opens_expr c ts s.mid s.left
opens_expr (Join es) ts rest f =
    let a = split {P = quoted terminal.OpenBrace} {Q = SpellsAll es ⊗ quoted terminal.CloseBrace} f in
    opens_terminal terminal.OpenBrace ts a.mid refl (one_is a.left)
opens_expr (Repeat n es) ts rest f =
    let a = split {P = quoted terminal.OpenBrace} {Q = Spells n ⊗ quoted terminal.OpenBrace ⊗ SpellsAll es ⊗ quoted terminal.CloseBrace ⊗ quoted terminal.CloseBrace} f in
    opens_terminal terminal.OpenBrace ts a.mid refl (one_is a.left)
opens_expr (Signed e) ts rest f =
    let a = split {P = quoted terminal.SystemSigned} {Q = quoted terminal.OpenParen ⊗ Spells e ⊗ quoted terminal.CloseParen} f in
    opens_terminal terminal.SystemSigned ts a.mid refl (one_is a.left)
opens_expr (Unsigned e) ts rest f =
    let a = split {P = quoted terminal.SystemUnsigned} {Q = quoted terminal.OpenParen ⊗ Spells e ⊗ quoted terminal.CloseParen} f in
    opens_terminal terminal.SystemUnsigned ts a.mid refl (one_is a.left)

-- how a target begins, and where a statement that begins so is read
record OpensTarget (ts rest : List Symbol) : Type 0 where
  opens : Opens ts
  shorter : length rest < length ts
  is_set : (r : Readers) (target : TargetReader) (stmt : StmtReader) → stmt_in r target stmt ts ≡ set_in r target ts

named_set : (n : List ℕ) (m : List Symbol) (r : Readers) (target : TargetReader) (stmt : StmtReader) → stmt_in r target stmt (symbol.Name n ∷ m) ≡ set_in r target (symbol.Name n ∷ m)
unfolding stmt_in
named_set n m r target stmt = refl

brace_set : (m : List Symbol) (r : Readers) (target : TargetReader) (stmt : StmtReader) → stmt_in r target stmt (symbol.Terminal terminal.OpenBrace ∷ m) ≡ set_in r target (symbol.Terminal terminal.OpenBrace ∷ m)
unfolding stmt_in word_in
brace_set m r target stmt = refl

target_named : (n : List ℕ) (ts m rest : List Symbol) → ts ≡ symbol.Name n ∷ m → length rest ≤ length m → OpensTarget ts rest
target_named n ts m rest e le = record { opens = opens_name n ts m e; shorter = omega (arith, ap length e); is_set = λ r target stmt. rw e (named_set n m r target stmt) }

opens_target : (t : Place) (ts rest : List Symbol) → Front (SpellsTarget t) ts rest → OpensTarget ts rest
opens_target (targets.Whole n) ts rest f =
    let is : Front (One (symbol.Name n)) ts rest = record { text = f.text; parts = f.parts; says = f.says } in
    target_named n ts rest rest (one_is is) (omega arith)
opens_target (targets.Bit n i) ts rest f =
    let a = split {P = named n} {Q = quoted terminal.OpenBracket ⊗ Spells i ⊗ quoted terminal.CloseBracket} f in
    target_named n ts a.mid rest (one_is a.left) (no_longer a.right)
opens_target (targets.Part n i j) ts rest f =
    let a = split {P = named n} {Q = quoted terminal.OpenBracket ⊗ Spells i ⊗ quoted terminal.Colon ⊗ Spells j ⊗ quoted terminal.CloseBracket} f in
    target_named n ts a.mid rest (one_is a.left) (no_longer a.right)
opens_target (targets.Join es) ts rest f =
    let a = split {P = quoted terminal.OpenBrace} {Q = SpellsTargets es ⊗ quoted terminal.CloseBrace} f in
    let e = one_is a.left in
    record { opens = opens_terminal terminal.OpenBrace ts a.mid refl e; shorter = omega (arith, ap length e, no_longer a.right); is_set = λ r target stmt. rw e (brace_set a.mid r target stmt) }

-- a statement begins so, and has a symbol at least
record OpensStmt (ts rest : List Symbol) : Type 0 where
  opens : Opens ts
  shorter : length rest < length ts

stmt_word : (t : Terminal) (ts m rest : List Symbol) → begins t ≡ true → ts ≡ symbol.Terminal t ∷ m → length rest ≤ length m → OpensStmt ts rest
stmt_word t ts m rest b e le = record { opens = opens_terminal t ts m b e; shorter = omega (arith, ap length e) }

case_begins : (wild : Bool) → begins (case_word wild) ≡ true
case_begins true = refl
case_begins false = refl

opens_stmt : (s : Statement) (ts rest : List Symbol) → Front (SpellsStmt s) ts rest → OpensStmt ts rest
opens_stmt (Block ss) ts rest f =
    let a = split {P = quoted terminal.Begin} {Q = MayBeNamed ⊗ SpellsStmts ss ⊗ quoted terminal.End} f in
    stmt_word terminal.Begin ts a.mid rest refl (one_is a.left) (no_longer a.right)
opens_stmt (If c s) ts rest f =
    let a = split {P = quoted terminal.If} {Q = quoted terminal.OpenParen ⊗ Spells c ⊗ quoted terminal.CloseParen ⊗ SpellsStmt s} f in
    stmt_word terminal.If ts a.mid rest refl (one_is a.left) (no_longer a.right)
opens_stmt (IfElse c s t) ts rest f =
    let g : Front (quoted terminal.If ⊗ quoted terminal.OpenParen ⊗ Spells c ⊗ quoted terminal.CloseParen ⊗ SpellsStmt s ⊗ quoted terminal.Else ⊗ SpellsStmt t) ts rest = record { text = f.text; parts = f.parts; says = f.says.1 } in
    let a = split {P = quoted terminal.If} {Q = quoted terminal.OpenParen ⊗ Spells c ⊗ quoted terminal.CloseParen ⊗ SpellsStmt s ⊗ quoted terminal.Else ⊗ SpellsStmt t} g in
    stmt_word terminal.If ts a.mid rest refl (one_is a.left) (no_longer a.right)
opens_stmt (Case wild e arms) ts rest f =
    let g : Front (quoted (case_word wild) ⊗ quoted terminal.OpenParen ⊗ Spells e ⊗ quoted terminal.CloseParen ⊗ SpellsArms arms wild ⊗ quoted terminal.Endcase) ts rest = record { text = f.text; parts = f.parts; says = f.says.2 } in
    let a = split {P = quoted (case_word wild)} {Q = quoted terminal.OpenParen ⊗ Spells e ⊗ quoted terminal.CloseParen ⊗ SpellsArms arms wild ⊗ quoted terminal.Endcase} g in
    stmt_word (case_word wild) ts a.mid rest (case_begins wild) (one_is a.left) (no_longer a.right)
opens_stmt (Set t e blocking) ts rest f =
    let a = split {P = SpellsTarget t} {Q = quoted (assignment blocking) ⊗ Spells e ⊗ quoted terminal.Semicolon} f in
    let o = opens_target t ts a.mid a.left in
    record { opens = o.opens; shorter = omega (arith, o.shorter, no_longer a.right) }
opens_stmt Empty ts rest f =
    let is : Front (quoted terminal.Semicolon) ts rest = record { text = f.text; parts = f.parts; says = f.says } in
    stmt_word terminal.Semicolon ts rest rest refl (one_is is) (omega arith)

-- ---- one statement, over what its parts give

abbrev StmtTakes : Statement → Type 0
StmtTakes s = (ts rest : List Symbol) (h : ℕ) → Front (SpellsStmt s) ts rest → height_of s ≤ h → (ends_open s ≡ true → NoElse rest) → stmt_reader h ts ≡ Some (s, rest)

else_none : (stmt : StmtReader) (c : Tree) (s : Statement) (rest : List Symbol) → NoElse rest → else_in stmt c s rest ≡ Some (If c s, rest)
unfolding else_in
else_none stmt c s [] n = refl
else_none stmt c s (symbol.Terminal terminal.Else ∷ rest) n = absurd cc
else_none stmt c s (t ∷ rest) n = refl

else_step : (stmt : StmtReader) (c : Tree) (s t : Statement) (ts m rest : List Symbol) → ts ≡ symbol.Terminal terminal.Else ∷ m → stmt m ≡ Some (t, rest) → else_in stmt c s ts ≡ Some (IfElse c s t, rest)
unfolding else_in
else_step stmt c s t ts m rest e f = rw (e, f) refl

if_step : (r : Readers) (target : TargetReader) (stmt : StmtReader) (c : Tree) (s : Statement) (ts m1 m2 m3 m4 rest : List Symbol) → ts ≡ symbol.Terminal terminal.If ∷ m1 → m1 ≡ symbol.Terminal terminal.OpenParen ∷ m2 → r.full m2 ≡ Some (c, m3)
    → m3 ≡ symbol.Terminal terminal.CloseParen ∷ m4 → stmt m4 ≡ Some (s, rest) → stmt_in r target stmt ts ≡ else_in stmt c s rest
unfolding stmt_in word_in if_in
if_step r target stmt c s ts m1 m2 m3 m4 rest e0 e1 e2 e3 e4 = rw (e0, e1, e2, e3, e4) refl

if_all : (c : Tree) (s : Statement) → StmtTakes s → StmtTakes (If c s)
unfolding stmt_reader
if_all c s takes ts rest zero f small next = absurd (omega arith)
if_all c s takes ts rest (suc h) f small next =
    let a = split {P = quoted terminal.If} {Q = quoted terminal.OpenParen ⊗ Spells c ⊗ quoted terminal.CloseParen ⊗ SpellsStmt s} f in
    let b = split a.right in
    let d = split b.right in
    let g = split {P = quoted terminal.CloseParen} {Q = SpellsStmt s} d.right in
    let close = one_is g.left in
    if_step (readers h) (target_reader h) (stmt_reader h) c s ts a.mid b.mid d.mid g.mid rest (one_is a.left) (one_is b.left) (full_takes c b.mid d.mid h d.left (omega arith) (rw close (close_follows 0))) close
    (takes g.mid rest h g.right (omega arith) (λ o. next refl))
    ∙ else_none (stmt_reader h) c s rest (next refl)

never : true ≡ false → ⊥
never e = cc

if_else_all : (c : Tree) (s t : Statement) → StmtTakes s → StmtTakes t → StmtTakes (IfElse c s t)
unfolding stmt_reader
if_else_all c s t takes_s takes_t ts rest zero f small next = absurd (omega arith)
if_else_all c s t takes_s takes_t ts rest (suc h) f small next =
    let g : Front (quoted terminal.If ⊗ quoted terminal.OpenParen ⊗ Spells c ⊗ quoted terminal.CloseParen ⊗ SpellsStmt s ⊗ quoted terminal.Else ⊗ SpellsStmt t) ts rest = record { text = f.text; parts = f.parts; says = f.says.1 } in
    let a = split {P = quoted terminal.If} {Q = quoted terminal.OpenParen ⊗ Spells c ⊗ quoted terminal.CloseParen ⊗ SpellsStmt s ⊗ quoted terminal.Else ⊗ SpellsStmt t} g in
    let b = split a.right in
    let d = split b.right in
    let i = split {P = quoted terminal.CloseParen} {Q = SpellsStmt s ⊗ quoted terminal.Else ⊗ SpellsStmt t} d.right in
    let j = split {P = SpellsStmt s} {Q = quoted terminal.Else ⊗ SpellsStmt t} i.right in
    let k = split {P = quoted terminal.Else} {Q = SpellsStmt t} j.right in
    let close = one_is i.left in
    let closed : ends_open s ≡ false = f.says.0 in
    if_step (readers h) (target_reader h) (stmt_reader h) c s ts a.mid b.mid d.mid i.mid j.mid (one_is a.left) (one_is b.left) (full_takes c b.mid d.mid h d.left (omega arith) (rw close (close_follows 0))) close
    (takes_s i.mid j.mid h j.left (omega arith) (λ o. absurd (never (sym o ∙ closed))))
    ∙ else_step (stmt_reader h) c s t j.mid k.mid rest (one_is k.left) (takes_t k.mid rest h k.right (omega arith) next)

set_step : (r : Readers) (target : TargetReader) (t : Place) (e : Tree) (b : Bool) (ts m1 m2 m3 rest : List Symbol) → target ts ≡ Some (t, m1) → m1 ≡ symbol.Terminal (assignment b) ∷ m2 → r.full m2 ≡ Some (e, m3) → m3 ≡ symbol.Terminal terminal.Semicolon ∷ rest
    → set_in r target ts ≡ Some (Set t e b, rest)
unfolding set_in
set_step r target t e true ts m1 m2 m3 rest e0 e1 e2 e3 = rw (e0, e1, e2, e3) refl
set_step r target t e false ts m1 m2 m3 rest e0 e1 e2 e3 = rw (e0, e1, e2, e3) refl

no_bracket : (b : Bool) (ts m : List Symbol) → ts ≡ symbol.Terminal (assignment b) ∷ m → NoBracket ts
no_bracket true ts m e = rw e refl
no_bracket false ts m e = rw e refl

set_all : (t : Place) (e : Tree) (b : Bool) → StmtTakes (Set t e b)
unfolding stmt_reader
set_all t e b ts rest zero f small next = absurd (omega arith)
set_all t e b ts rest (suc h) f small next =
    let a = split {P = SpellsTarget t} {Q = quoted (assignment b) ⊗ Spells e ⊗ quoted terminal.Semicolon} f in
    let c = split a.right in
    let d = split c.right in
    let sign = one_is c.left in
    let semicolon = one_is d.right in
    let o = opens_target t ts a.mid a.left in
    o.is_set (readers h) (target_reader h) (stmt_reader h)
    ∙ set_step (readers h) (target_reader h) t e b ts a.mid c.mid d.mid rest (target_takes t ts a.mid h a.left (omega arith) (no_bracket b a.mid c.mid sign)) sign
    (full_takes e c.mid d.mid h d.left (omega arith) (rw semicolon (semicolon_follows 0))) semicolon

empty_step : (r : Readers) (target : TargetReader) (stmt : StmtReader) (ts rest : List Symbol) → ts ≡ symbol.Terminal terminal.Semicolon ∷ rest → stmt_in r target stmt ts ≡ Some (Empty, rest)
unfolding stmt_in word_in
empty_step r target stmt ts rest e = rw e refl

empty_all : StmtTakes Empty
unfolding stmt_reader
empty_all ts rest zero f small next = absurd (omega arith)
empty_all ts rest (suc h) f small next =
    let is : Front (quoted terminal.Semicolon) ts rest = record { text = f.text; parts = f.parts; says = f.says } in
    empty_step (readers h) (target_reader h) (stmt_reader h) ts rest (one_is is)

-- ---- blocks

abbrev StmtsTake : Statements → Type 0
StmtsTake ss = (ts m rest : List Symbol) (h most : ℕ) → Front (SpellsStmts ss) ts m → m ≡ symbol.Terminal terminal.End ∷ rest → greatest_of ss ≤ h → length ts ≤ most → until_end (stmt_reader h) most ts ≡ Some (ss, rest)

until_next : (stmt : StmtReader) (most : ℕ) (ts : List Symbol) → after terminal.End ts ≡ None → until_end stmt (suc most) ts ≡ (stmt ts >>= λ s. until_end stmt most s.1 >>= λ others. Some (more s.0 others.0, others.1))
unfolding until_end
until_next stmt most [] e = refl
until_next stmt most (symbol.Terminal terminal.End ∷ ts) e = absurd cc
until_next stmt most (s ∷ ts) e = refl

until_step : (stmt : StmtReader) (most : ℕ) (ts m rest : List Symbol) (s : Statement) (ss : Statements) → after terminal.End ts ≡ None → stmt ts ≡ Some (s, m) → until_end stmt most m ≡ Some (ss, rest) → until_end stmt (suc most) ts ≡ Some (more s ss, rest)
until_step stmt most ts m rest s ss n e f = until_next stmt most ts n ∙ rw (e, f) refl

until_stop : (stmt : StmtReader) (most : ℕ) (ts rest : List Symbol) → ts ≡ symbol.Terminal terminal.End ∷ rest → length ts ≤ most → until_end stmt most ts ≡ Some (end, rest)
unfolding until_end
until_stop stmt zero ts rest e room = absurd (omega (arith, ap length e))
until_stop stmt (suc most) ts rest e room = rw e refl

stmts_follow : (ss : Statements) (ts m rest : List Symbol) → Front (SpellsStmts ss) ts m → m ≡ symbol.Terminal terminal.End ∷ rest → NoElse ts
stmts_follow end ts m rest f e =
    let is : Front Nothing ts m = record { text = f.text; parts = f.parts; says = f.says } in
    rw (nothing_is is, e) refl
stmts_follow (more s ss) ts m rest f e =
    let a = split {P = SpellsStmt s} {Q = SpellsStmts ss} f in
    (opens_stmt s ts a.mid a.left).opens.no_else

-- a block's statements don't begin with a colon
stmts_colon : (ss : Statements) (ts m rest : List Symbol) → Front (SpellsStmts ss) ts m → m ≡ symbol.Terminal terminal.End ∷ rest → after terminal.Colon ts ≡ None
stmts_colon end ts m rest f e =
    let is : Front Nothing ts m = record { text = f.text; parts = f.parts; says = f.says } in
    rw (nothing_is is, e) refl
stmts_colon (more s ss) ts m rest f e =
    let a = split {P = SpellsStmt s} {Q = SpellsStmts ss} f in
    (opens_stmt s ts a.mid a.left).opens.no_colon

more_all : (s : Statement) (ss : Statements) → StmtTakes s → StmtsTake ss → StmtsTake (more s ss)
more_all s ss takes all ts m rest h most f e small room =
    let a = split {P = SpellsStmt s} {Q = SpellsStmts ss} f in
    let o = opens_stmt s ts a.mid a.left in
    counted most a.mid room o.shorter o.opens.no_end (takes ts a.mid h a.left (omega arith) (λ x. stmts_follow ss a.mid m rest a.right e)) (λ k short. all a.mid m rest h k a.right e (omega arith) short)
  where
    counted : (most : ℕ) (mid : List Symbol) → length ts ≤ most → length mid < length ts → after terminal.End ts ≡ None → stmt_reader h ts ≡ Some (s, mid) → ((k : ℕ) → length mid ≤ k → until_end (stmt_reader h) k mid ≡ Some (ss, rest))
        → until_end (stmt_reader h) most ts ≡ Some (more s ss, rest)
    counted zero mid room lt n first others = absurd (omega arith)
    counted (suc most) mid room lt n first others = until_step (stmt_reader h) most ts mid rest s ss n first (others most (omega arith))

block_step : (r : Readers) (target : TargetReader) (stmt : StmtReader) (ss : Statements) (ts m1 m2 rest : List Symbol) → ts ≡ symbol.Terminal terminal.Begin ∷ m1 → block_name m1 ≡ Some m2 → until_end stmt (length m2) m2 ≡ Some (ss, rest) → stmt_in r target stmt ts ≡ Some (Block ss, rest)
unfolding stmt_in word_in block_in
block_step r target stmt ss ts m1 m2 rest e0 e1 e2 = rw (e0, e1, e2) refl

no_name : (ts : List Symbol) → after terminal.Colon ts ≡ None → block_name ts ≡ Some ts
no_name [] n = refl
no_name (symbol.Terminal terminal.Colon ∷ ts) n = absurd cc
no_name (s ∷ ts) n = refl

some_name : (n : List ℕ) (ts m rest : List Symbol) → ts ≡ symbol.Terminal terminal.Colon ∷ m → m ≡ symbol.Name n ∷ rest → block_name ts ≡ Some rest
some_name n ts m rest e f = rw (e, f) refl

named_block : (text ts m : List Symbol) → MayBeNamed text → ts ≡ text ++ m → after terminal.Colon m ≡ None → block_name ts ≡ Some m
named_block text ts m (unnamed p) e n =
    let is : Front Nothing ts m = record { text = text; parts = e; says = p } in
    rw (nothing_is is) (no_name m n)
named_block text ts m (with_name name p) e n =
    let g : Front (quoted terminal.Colon ⊗ named name) ts m = record { text = text; parts = e; says = p } in
    let a = split g in
    some_name name ts a.mid m (one_is a.left) (one_is a.right)

block_all : (ss : Statements) → StmtsTake ss → StmtTakes (Block ss)
unfolding stmt_reader
block_all ss all ts rest zero f small next = absurd (omega arith)
block_all ss all ts rest (suc h) f small next =
    let a = split {P = quoted terminal.Begin} {Q = MayBeNamed ⊗ SpellsStmts ss ⊗ quoted terminal.End} f in
    let b = split {P = MayBeNamed} {Q = SpellsStmts ss ⊗ quoted terminal.End} a.right in
    let c = split {P = SpellsStmts ss} {Q = quoted terminal.End} b.right in
    let ends = one_is c.right in
    block_step (readers h) (target_reader h) (stmt_reader h) ss ts a.mid b.mid rest (one_is a.left)
    (named_block b.left.text a.mid b.mid b.left.says b.left.parts (stmts_colon ss b.mid c.mid rest c.left ends))
    (all b.mid c.mid rest h (length b.mid) c.left ends (omega arith) (omega arith))

-- ---- labels

masked_none : (h : ℕ) (n : Literal) (rest : List Symbol) → nat_eq n.mask 0 ≡ false → (readers h).full (symbol.Number n ∷ rest) ≡ None
unfolding readers higher full_in binary_in operand_in number_in
masked_none zero n rest e = refl
masked_none (suc h) n rest e = rw e refl

some_none : (x : Tree × List Symbol) → None ≡ Some x → ⊥
some_none x e = cc

-- what an expression spells doesn't begin with a masked literal
unmasked : (h : ℕ) (ts : List Symbol) (x : Tree × List Symbol) → (readers h).full ts ≡ Some x → masked_at true ts ≡ None
unmasked h [] x e = refl
unmasked h (symbol.Name n ∷ rest) x e = refl
unmasked h (symbol.Terminal t ∷ rest) x e = refl
unmasked h (symbol.Number n ∷ rest) x e = by_mask (nat_eq n.mask 0) refl
  where
    by_mask : (b : Bool) → nat_eq n.mask 0 ≡ b → masked_at true (symbol.Number n ∷ rest) ≡ None
    by_mask true m = rw m refl
    by_mask false m = absurd (some_none x (sym (masked_none h n rest m) ∙ e))

label_made : (r : Readers) (wild : Bool) (ts : List Symbol) (x : Tree × List Symbol) → masked_at wild ts ≡ None → r.full ts ≡ Some x → label_in r wild ts ≡ Some x
unfolding label_in
label_made r wild ts x m e = rw (m, e) refl

label_masked : (r : Readers) (n : Literal) (ts rest : List Symbol) → ts ≡ symbol.Number n ∷ rest → nat_eq n.mask 0 ≡ false → label_in r true ts ≡ Some (Number n, rest)
unfolding label_in
label_masked r n ts rest e m = rw (e, m) refl

abbrev LabelTakes : Bool → Tree → Type 0
LabelTakes wild e = (ts rest : List Symbol) (h : ℕ) → Front (SpellsLabel wild e) ts rest → height e ≤ h → Follows 0 rest → label_in (readers h) wild ts ≡ Some (e, rest)

spelled_label : (wild : Bool) (e : Tree) (ts rest : List Symbol) (h : ℕ) → masked_at false ts ≡ None → Front (Spells e) ts rest → height e ≤ h → Follows 0 rest → label_in (readers h) wild ts ≡ Some (e, rest)
spelled_label true e ts rest h n f small next =
    let full = full_takes e ts rest h f small next in
    label_made (readers h) true ts (e, rest) (unmasked h ts (e, rest) full) full
spelled_label false e ts rest h n f small next = label_made (readers h) false ts (e, rest) n (full_takes e ts rest h f small next)

never_masked : (ts : List Symbol) → masked_at false ts ≡ None
never_masked ts = refl

number_label : (n : Literal) (ts rest : List Symbol) (h : ℕ) (b : Bool) → nat_eq n.mask 0 ≡ b → Front (One (symbol.Number n)) ts rest → 1 ≤ h → Follows 0 rest → label_in (readers h) true ts ≡ Some (Number n, rest)
number_label n ts rest h true m f small next =
    let g : Front (Spells (Number n)) ts rest = record { text = f.text; parts = f.parts; says = (eqb-true n.mask 0 m, f.says) } in
    spelled_label true (Number n) ts rest h (never_masked ts) g small next
number_label n ts rest h false m f small next = label_masked (readers h) n ts rest (one_is f) m

label_takes : (wild : Bool) (e : Tree) → LabelTakes wild e
label_takes false e ts rest h f small next =
    let g : Front (Spells e) ts rest = record { text = f.text; parts = f.parts; says = f.says } in
    spelled_label false e ts rest h (never_masked ts) g small next
label_takes true (Number n) ts rest h f small next =
    let g : Front (One (symbol.Number n)) ts rest = record { text = f.text; parts = f.parts; says = f.says } in
    number_label n ts rest h (nat_eq n.mask 0) refl g small next
label_takes true e ts rest h f small next =
    let g : Front (Spells e) ts rest = record { text = f.text; parts = f.parts; says = f.says } in
    spelled_label true e ts rest h (never_masked ts) g small next

opens_label : (wild : Bool) (e : Tree) (ts rest : List Symbol) → Front (SpellsLabel wild e) ts rest → Opens ts
opens_label false e ts rest f =
    let g : Front (Spells e) ts rest = record { text = f.text; parts = f.parts; says = f.says } in
    opens_expr e ts rest g
opens_label true (Number n) ts rest f =
    let g : Front (One (symbol.Number n)) ts rest = record { text = f.text; parts = f.parts; says = f.says } in
    opens_number n ts rest (one_is g)
opens_label true e ts rest f =
    let g : Front (Spells e) ts rest = record { text = f.text; parts = f.parts; says = f.says } in
    opens_expr e ts rest g

labels_follow : (wild : Bool) (es : Trees) (ts rest : List Symbol) → Front (SpellsMoreLabels wild es) ts rest → Follows 0 rest → Follows 0 ts
labels_follow wild trees.end ts rest f next =
    let is : Front Nothing ts rest = record { text = f.text; parts = f.parts; says = f.says } in
    rw (nothing_is is) next
labels_follow wild (trees.more e es) ts rest f next =
    let a = split {P = quoted terminal.Comma} {Q = SpellsLabel wild e ⊗ SpellsMoreLabels wild es} f in
    rw (one_is a.left) (comma_follows 0)

end_labels : (r : Readers) (wild : Bool) (most : ℕ) (rest : List Symbol) → after terminal.Comma rest ≡ None → more_labels r wild most rest ≡ Some (trees.end, rest)
unfolding more_labels
end_labels r wild zero rest n = refl
end_labels r wild (suc most) [] n = refl
end_labels r wild (suc most) (symbol.Terminal terminal.Comma ∷ rest) n = absurd cc
end_labels r wild (suc most) (s ∷ rest) n = refl

labels_step : (r : Readers) (wild : Bool) (most : ℕ) (e : Tree) (es : Trees) (ts m1 m2 rest : List Symbol) → ts ≡ symbol.Terminal terminal.Comma ∷ m1 → label_in r wild m1 ≡ Some (e, m2) → more_labels r wild most m2 ≡ Some (es, rest)
    → more_labels r wild (suc most) ts ≡ Some (trees.more e es, rest)
unfolding more_labels
labels_step r wild most e es ts m1 m2 rest e0 e1 e2 = rw (e0, e1, e2) refl

more_labels_take : (wild : Bool) (es : Trees) (ts rest : List Symbol) (h most : ℕ) → Front (SpellsMoreLabels wild es) ts rest → greatest es ≤ h → length ts ≤ most → Follows 0 rest → after terminal.Comma rest ≡ None
    → more_labels (readers h) wild most ts ≡ Some (es, rest)
more_labels_take wild trees.end ts rest h most f small room next n =
    let is : Front Nothing ts rest = record { text = f.text; parts = f.parts; says = f.says } in
    rw (nothing_is is) (end_labels (readers h) wild most rest n)
more_labels_take wild (trees.more e es) ts rest h zero f small room next n =
    let a = split {P = quoted terminal.Comma} {Q = SpellsLabel wild e ⊗ SpellsMoreLabels wild es} f in
    absurd (omega (arith, ap length (one_is a.left)))
more_labels_take wild (trees.more e es) ts rest h (suc most) f small room next n =
    let a = split {P = quoted terminal.Comma} {Q = SpellsLabel wild e ⊗ SpellsMoreLabels wild es} f in
    let b = split {P = SpellsLabel wild e} {Q = SpellsMoreLabels wild es} a.right in
    let comma = one_is a.left in
    labels_step (readers h) wild most e es ts a.mid b.mid rest comma (label_takes wild e a.mid b.mid h b.left (omega arith) (labels_follow wild es b.mid rest b.right next))
    (more_labels_take wild es b.mid rest h most b.right (omega arith) (omega (arith, ap length comma, no_longer b.left)) next n)

labels_made : (r : Readers) (wild : Bool) (e : Tree) (es : Trees) (ts m rest : List Symbol) → label_in r wild ts ≡ Some (e, m) → more_labels r wild (length m) m ≡ Some (es, rest) → labels_in r wild ts ≡ Some (trees.more e es, rest)
unfolding labels_in
labels_made r wild e es ts m rest e0 e1 = rw (e0, e1) refl

labels_take : (wild : Bool) (es : Trees) (ts rest : List Symbol) (h : ℕ) → Front (SpellsLabels wild es) ts rest → greatest es ≤ h → Follows 0 rest → after terminal.Comma rest ≡ None → labels_in (readers h) wild ts ≡ Some (es, rest)
labels_take wild trees.end ts rest h f small next n = absurd f.says
labels_take wild (trees.more e es) ts rest h f small next n =
    let a = split {P = SpellsLabel wild e} {Q = SpellsMoreLabels wild es} f in
    labels_made (readers h) wild e es ts a.mid rest (label_takes wild e ts a.mid h a.left (omega arith) (labels_follow wild es a.mid rest a.right next))
    (more_labels_take wild es a.mid rest h (length a.mid) a.right (omega arith) (omega arith) next n)

opens_labels : (wild : Bool) (es : Trees) (ts rest : List Symbol) → Front (SpellsLabels wild es) ts rest → Opens ts
opens_labels wild trees.end ts rest f = absurd f.says
opens_labels wild (trees.more e es) ts rest f =
    let a = split {P = SpellsLabel wild e} {Q = SpellsMoreLabels wild es} f in
    opens_label wild e ts a.mid a.left

-- ---- arms

abbrev ArmsTake : Arms → Type 0
ArmsTake arms = (wild : Bool) (ts m rest : List Symbol) (h most room : ℕ) → Front (SpellsArms arms wild) ts m → m ≡ symbol.Terminal terminal.Endcase ∷ rest → greatest_of_arms arms ≤ h → defaults arms ≤ room → length ts ≤ most
    → arms_in (readers h) (stmt_reader h) wild most room ts ≡ Some (arms, rest)

arms_follow : (arms : Arms) (wild : Bool) (ts m rest : List Symbol) → Front (SpellsArms arms wild) ts m → m ≡ symbol.Terminal terminal.Endcase ∷ rest → NoElse ts
arms_follow no_arm wild ts m rest f e =
    let is : Front Nothing ts m = record { text = f.text; parts = f.parts; says = f.says } in
    rw (nothing_is is, e) refl
arms_follow (labels es s others) wild ts m rest f e =
    let a = split {P = SpellsLabels wild es} {Q = quoted terminal.Colon ⊗ SpellsStmt s ⊗ SpellsArms others wild} f in
    (opens_labels wild es ts a.mid a.left).no_else
arms_follow (otherwise s others) wild ts m rest f e =
    let a = split {P = quoted terminal.Default} {Q = MayBeColon ⊗ SpellsStmt s ⊗ SpellsArms others wild} f in
    rw (one_is a.left) refl

arms_stop : (r : Readers) (stmt : StmtReader) (wild : Bool) (most room : ℕ) (ts rest : List Symbol) → ts ≡ symbol.Terminal terminal.Endcase ∷ rest → length ts ≤ most → arms_in r stmt wild most room ts ≡ Some (no_arm, rest)
unfolding arms_in
arms_stop r stmt wild zero room ts rest e le = absurd (omega (arith, ap length e))
arms_stop r stmt wild (suc most) zero ts rest e le = rw e refl
arms_stop r stmt wild (suc most) (suc room) ts rest e le = rw e refl

labels_next : (r : Readers) (stmt : StmtReader) (wild : Bool) (most room : ℕ) (ts : List Symbol) → after terminal.Endcase ts ≡ None → after terminal.Default ts ≡ None
    → arms_in r stmt wild (suc most) room ts ≡ (labels_in r wild ts >>= λ es. after terminal.Colon es.1 >>= λ behind. stmt behind >>= λ s. arms_in r stmt wild most room s.1 >>= λ others. Some (labels es.0 s.0 others.0, others.1))
unfolding arms_in
labels_next r stmt wild most zero [] n d = refl
labels_next r stmt wild most (suc room) [] n d = refl
labels_next r stmt wild most zero (symbol.Terminal terminal.Endcase ∷ ts) n d = absurd cc
labels_next r stmt wild most (suc room) (symbol.Terminal terminal.Endcase ∷ ts) n d = absurd cc
labels_next r stmt wild most zero (symbol.Terminal terminal.Default ∷ ts) n d = absurd cc
labels_next r stmt wild most (suc room) (symbol.Terminal terminal.Default ∷ ts) n d = absurd cc
labels_next r stmt wild most zero (s ∷ ts) n d = refl
labels_next r stmt wild most (suc room) (s ∷ ts) n d = refl

arm_step : (r : Readers) (stmt : StmtReader) (wild : Bool) (most room : ℕ) (es : Trees) (s : Statement) (others : Arms) (ts m1 m2 m3 rest : List Symbol) → after terminal.Endcase ts ≡ None → after terminal.Default ts ≡ None → labels_in r wild ts ≡ Some (es, m1)
    → m1 ≡ symbol.Terminal terminal.Colon ∷ m2 → stmt m2 ≡ Some (s, m3) → arms_in r stmt wild most room m3 ≡ Some (others, rest) → arms_in r stmt wild (suc most) room ts ≡ Some (labels es s others, rest)
arm_step r stmt wild most room es s others ts m1 m2 m3 rest n d e0 e1 e2 e3 = labels_next r stmt wild most room ts n d ∙ rw (e0, e1, e2, e3) refl

default_step : (r : Readers) (stmt : StmtReader) (wild : Bool) (most room : ℕ) (s : Statement) (others : Arms) (ts m1 m2 m3 rest : List Symbol) → ts ≡ symbol.Terminal terminal.Default ∷ m1 → default_colon m1 ≡ m2 → stmt m2 ≡ Some (s, m3)
    → arms_in r stmt wild most room m3 ≡ Some (others, rest) → arms_in r stmt wild (suc most) (suc room) ts ≡ Some (otherwise s others, rest)
unfolding arms_in
default_step r stmt wild most room s others ts m1 m2 m3 rest e0 e1 e2 e3 = rw (e0, e1, e2, e3) refl

default_none : (ts : List Symbol) → after terminal.Colon ts ≡ None → default_colon ts ≡ ts
default_none [] n = refl
default_none (symbol.Terminal terminal.Colon ∷ ts) n = absurd cc
default_none (s ∷ ts) n = refl

behind_default : (text ts m : List Symbol) → MayBeColon text → ts ≡ text ++ m → after terminal.Colon m ≡ None → (default_colon ts ≡ m) × (length m ≤ length ts)
behind_default text ts m (no_colon p) e n =
    let is : Front Nothing ts m = record { text = text; parts = e; says = p } in
    (ap default_colon (nothing_is is) ∙ default_none m n, no_longer is)
behind_default text ts m (colon p) e n =
    let is : Front (quoted terminal.Colon) ts m = record { text = text; parts = e; says = p } in
    (ap default_colon (one_is is), no_longer is)

labels_all : (es : Trees) (s : Statement) (others : Arms) → StmtTakes s → ArmsTake others → ArmsTake (labels es s others)
labels_all es s others takes all wild ts m rest h most room f e small few short =
    let a = split {P = SpellsLabels wild es} {Q = quoted terminal.Colon ⊗ SpellsStmt s ⊗ SpellsArms others wild} f in
    let b = split {P = quoted terminal.Colon} {Q = SpellsStmt s ⊗ SpellsArms others wild} a.right in
    let c = split {P = SpellsStmt s} {Q = SpellsArms others wild} b.right in
    let sign = one_is b.left in
    let o = opens_labels wild es ts a.mid a.left in
    let shorter : length c.mid < length ts = omega (arith, no_longer a.left, ap length sign, no_longer c.left) in
    counted most a.mid b.mid c.mid short shorter o (labels_take wild es ts a.mid h a.left (omega arith) (rw sign (colon_follows 0)) (rw sign refl)) sign
    (takes b.mid c.mid h c.left (omega arith) (λ x. arms_follow others wild c.mid m rest c.right e)) (λ k le. all wild c.mid m rest h k room c.right e (omega arith) (omega arith) le)
  where
    counted : (most : ℕ) (m1 m2 m3 : List Symbol) → length ts ≤ most → length m3 < length ts → Opens ts → labels_in (readers h) wild ts ≡ Some (es, m1) → m1 ≡ symbol.Terminal terminal.Colon ∷ m2 → stmt_reader h m2 ≡ Some (s, m3)
        → ((k : ℕ) → length m3 ≤ k → arms_in (readers h) (stmt_reader h) wild k room m3 ≡ Some (others, rest)) → arms_in (readers h) (stmt_reader h) wild most room ts ≡ Some (labels es s others, rest)
    counted zero m1 m2 m3 short lt o e0 e1 e2 e3 = absurd (omega arith)
    counted (suc most) m1 m2 m3 short lt o e0 e1 e2 e3 = arm_step (readers h) (stmt_reader h) wild most room es s others ts m1 m2 m3 rest o.no_endcase o.no_default e0 e1 e2 (e3 most (omega arith))

default_all : (s : Statement) (others : Arms) → StmtTakes s → ArmsTake others → ArmsTake (otherwise s others)
default_all s others takes all wild ts m rest h most zero f e small few short = absurd (omega arith)
default_all s others takes all wild ts m rest h most (suc room) f e small few short =
    let a = split {P = quoted terminal.Default} {Q = MayBeColon ⊗ SpellsStmt s ⊗ SpellsArms others wild} f in
    let b = split {P = MayBeColon} {Q = SpellsStmt s ⊗ SpellsArms others wild} a.right in
    let c = split {P = SpellsStmt s} {Q = SpellsArms others wild} b.right in
    let word = one_is a.left in
    let behind = behind_default b.left.text a.mid b.mid b.left.says b.left.parts (opens_stmt s b.mid c.mid c.left).opens.no_colon in
    let shorter : length c.mid < length ts = omega (arith, ap length word, behind.1, no_longer c.left) in
    counted most a.mid b.mid c.mid short shorter word behind.0 (takes b.mid c.mid h c.left (omega arith) (λ x. arms_follow others wild c.mid m rest c.right e)) (λ k le. all wild c.mid m rest h k room c.right e (omega arith) (omega arith) le)
  where
    counted : (most : ℕ) (m1 m2 m3 : List Symbol) → length ts ≤ most → length m3 < length ts → ts ≡ symbol.Terminal terminal.Default ∷ m1 → default_colon m1 ≡ m2 → stmt_reader h m2 ≡ Some (s, m3)
        → ((k : ℕ) → length m3 ≤ k → arms_in (readers h) (stmt_reader h) wild k room m3 ≡ Some (others, rest)) → arms_in (readers h) (stmt_reader h) wild most (suc room) ts ≡ Some (otherwise s others, rest)
    counted zero m1 m2 m3 short lt e0 e1 e2 e3 = absurd (omega arith)
    counted (suc most) m1 m2 m3 short lt e0 e1 e2 e3 = default_step (readers h) (stmt_reader h) wild most room s others ts m1 m2 m3 rest e0 e1 e2 (e3 most (omega arith))

some_arms_next : (r : Readers) (stmt : StmtReader) (wild : Bool) (ts : List Symbol) → after terminal.Endcase ts ≡ None → some_arms r stmt wild ts ≡ arms_in r stmt wild (length ts) 1 ts
unfolding some_arms
some_arms_next r stmt wild [] n = refl
some_arms_next r stmt wild (symbol.Terminal terminal.Endcase ∷ ts) n = absurd cc
some_arms_next r stmt wild (s ∷ ts) n = refl

arms_begin : (arms : Arms) (wild : Bool) (ts m : List Symbol) → HasArm arms → Front (SpellsArms arms wild) ts m → after terminal.Endcase ts ≡ None
arms_begin no_arm wild ts m some f = absurd some
arms_begin (labels es s others) wild ts m some f =
    let a = split {P = SpellsLabels wild es} {Q = quoted terminal.Colon ⊗ SpellsStmt s ⊗ SpellsArms others wild} f in
    (opens_labels wild es ts a.mid a.left).no_endcase
arms_begin (otherwise s others) wild ts m some f =
    let a = split {P = quoted terminal.Default} {Q = MayBeColon ⊗ SpellsStmt s ⊗ SpellsArms others wild} f in
    rw (one_is a.left) refl

case_step : (r : Readers) (target : TargetReader) (stmt : StmtReader) (wild : Bool) (e : Tree) (arms : Arms) (ts m1 m2 m3 m4 rest : List Symbol) → ts ≡ symbol.Terminal (case_word wild) ∷ m1 → m1 ≡ symbol.Terminal terminal.OpenParen ∷ m2 → r.full m2 ≡ Some (e, m3)
    → m3 ≡ symbol.Terminal terminal.CloseParen ∷ m4 → some_arms r stmt wild m4 ≡ Some (arms, rest) → stmt_in r target stmt ts ≡ Some (Case wild e arms, rest)
unfolding stmt_in word_in case_in
case_step r target stmt true e arms ts m1 m2 m3 m4 rest e0 e1 e2 e3 e4 = rw (e0, e1, e2, e3, e4) refl
case_step r target stmt false e arms ts m1 m2 m3 m4 rest e0 e1 e2 e3 e4 = rw (e0, e1, e2, e3, e4) refl

case_all : (wild : Bool) (e : Tree) (arms : Arms) → ArmsTake arms → StmtTakes (Case wild e arms)
unfolding stmt_reader
case_all wild e arms all ts rest zero f small next = absurd (omega arith)
case_all wild e arms all ts rest (suc h) f small next =
    let g : Front (quoted (case_word wild) ⊗ quoted terminal.OpenParen ⊗ Spells e ⊗ quoted terminal.CloseParen ⊗ SpellsArms arms wild ⊗ quoted terminal.Endcase) ts rest = record { text = f.text; parts = f.parts; says = f.says.2 } in
    let few : defaults arms ≤ 1 = f.says.1 in
    let a = split {P = quoted (case_word wild)} {Q = quoted terminal.OpenParen ⊗ Spells e ⊗ quoted terminal.CloseParen ⊗ SpellsArms arms wild ⊗ quoted terminal.Endcase} g in
    let b = split a.right in
    let c = split b.right in
    let d = split {P = quoted terminal.CloseParen} {Q = SpellsArms arms wild ⊗ quoted terminal.Endcase} c.right in
    let i = split {P = SpellsArms arms wild} {Q = quoted terminal.Endcase} d.right in
    let close = one_is d.left in
    case_step (readers h) (target_reader h) (stmt_reader h) wild e arms ts a.mid b.mid c.mid d.mid rest (one_is a.left) (one_is b.left) (full_takes e b.mid c.mid h c.left (omega arith) (rw close (close_follows 0))) close
    (some_arms_next (readers h) (stmt_reader h) wild d.mid (arms_begin arms wild d.mid i.mid f.says.0 i.left) ∙ all wild d.mid i.mid rest h (length d.mid) 1 i.left (one_is i.right) (omega arith) few (omega arith))

mutual
  pub stmt_takes : (s : Statement) → StmtTakes s
  stmt_takes (Block ss) = block_all ss (stmts_take ss)
  stmt_takes (If c s) = if_all c s (stmt_takes s)
  stmt_takes (IfElse c s t) = if_else_all c s t (stmt_takes s) (stmt_takes t)
  stmt_takes (Case wild e arms) = case_all wild e arms (arms_take arms)
  stmt_takes (Set t e b) = set_all t e b
  stmt_takes Empty = empty_all

  stmts_take : (ss : Statements) → StmtsTake ss
  stmts_take end = λ ts m rest h most f e small room.
      let is : Front Nothing ts m = record { text = f.text; parts = f.parts; says = f.says } in
      until_stop (stmt_reader h) most ts rest (nothing_is is ∙ e) room
  stmts_take (more s ss) = more_all s ss (stmt_takes s) (stmts_take ss)

  arms_take : (arms : Arms) → ArmsTake arms
  arms_take no_arm = λ wild ts m rest h most room f e small few short.
      let is : Front Nothing ts m = record { text = f.text; parts = f.parts; says = f.says } in
      arms_stop (readers h) (stmt_reader h) wild most room ts rest (nothing_is is ∙ e) short
  arms_take (labels es s others) = labels_all es s others (stmt_takes s) (arms_take others)
  arms_take (otherwise s others) = default_all s others (stmt_takes s) (arms_take others)

-- What spells a statement is read up to its end, where no `else` follows one that ends in an `if` without an `else`.
pub stmt_front_takes : (h : ℕ) (ts rest : List Symbol) (s : Statement) → Front (SpellsStmt s) ts rest → height_of s ≤ h → (ends_open s ≡ true → NoElse rest) → stmt_reader h ts ≡ Some (s, rest)
stmt_front_takes h ts rest s = stmt_takes s ts rest h

-- A list of symbols has at most one statement.
pub one_statement : (s t : Statement) (ts : List Symbol) → SpellsStmt s ts → SpellsStmt t ts → s ≡ t
one_statement s t ts p q =
    let h = height_of s + height_of t in
    let a = stmt_takes s ts [] h (whole ts p) (omega arith) (λ o. refl) in
    let b = stmt_takes t ts [] h (whole ts q) (omega arith) (λ o. refl) in
    ap (λ (x : Statement × List Symbol). x.0) (same (s, []) (t, []) (sym a ∙ b))
  where
    same : (x y : Statement × List Symbol) → Some x ≡ Some y → x ≡ y
    same x y h = cc
