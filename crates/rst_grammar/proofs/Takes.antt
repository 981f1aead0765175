-- What spells a tree is read.
use Rattle.std.proofs.Common.{◌≡◌, ℕ, zero, suc, ◌+◌, ◌<◌, ◌≤◌, List, [], ◌∷◌, ◌++◌, length, Option, Some, None, refl, sym, ap, ◌∙◌, arith}
use Rattle.std.proofs.lemmas.Bool.{le-leb, eq-eqb}
use Rattle.rst_lex.specs.declared.token.Literal.{Literal}
use Rattle.rst_word.specs.declared.ops.UnaryOp.{UnaryOp}
use Rattle.rst_word.specs.declared.ops.BinaryOp.{BinaryOp}
use Rattle.rst_tree.specs.Trees.{Tree, Trees, Number, Name, Bit, Part, Paren, Unary, Binary, Choose, Join, Repeat, Signed, Unsigned, end, more, height, greatest}
use Rattle.rst_grammar.specs.declared.symbol.Terminal.{Terminal}
use Rattle.rst_grammar.specs.declared.symbol.Terminal.TheVariants as terminal
use Rattle.rst_grammar.specs.declared.symbol.Symbol.{Symbol}
use Rattle.rst_grammar.specs.declared.symbol.Symbol.TheVariants as symbol
use Rattle.rst_grammar.specs.Says.{Nothing, One, ◌⊗◌, quoted, named}
use Rattle.rst_grammar.specs.Expressions.{IsUnary, IsBinary, binary_of, unary_of, level, level_of, Spells, SpellsAll, SpellsMore}
use Rattle.rst_grammar.specs.Reading.{after, Readers, readers, higher, operand_in, terminal_in, number_in, named_in, select_end, part_end, paren_in, signed_in, unsigned_in, more_in, list_from, join_in, repeat_in, braces_in, braces_end, unary_in, with_right, tail_in, binary_in, choice_in, choice_end, full_in}
use Rattle.rst_grammar.proofs.Fronts.{Front, split, one_is, nothing_is, whole, no_longer}
use Rattle.rst_grammar.proofs.Tools.{Follows, Follows-weaker, close_follows, close_bracket_follows, colon_follows, close_brace_follows, open_brace_follows, comma_follows, question_follows, operator_follows, operator_at-none, operator_at-some, height_positive, level_positive}

-- ---- one node, over what its parts give

number_step : (r : Readers) (n : Literal) (ts rest : List Symbol) → n.mask ≡ 0 → ts ≡ symbol.Number n ∷ rest → operand_in r ts ≡ Some (Number n, rest)
unfolding operand_in number_in
number_step r n ts rest m e = rw (e, eq-eqb n.mask 0 m) refl

name_takes : (r : Readers) (n : List ℕ) (l : ℕ) (rest : List Symbol) → Follows l rest → operand_in r (symbol.Name n ∷ rest) ≡ Some (Name n, rest)
unfolding operand_in named_in
name_takes r n l [] f = refl
name_takes r n l (symbol.Terminal terminal.OpenBracket ∷ rest) f = absurd (f.bracket refl)
name_takes r n l (s ∷ rest) f = refl

bit_step : (r : Readers) (n : List ℕ) (i : Tree) (ts m1 m2 m3 rest : List Symbol) → ts ≡ symbol.Name n ∷ m1 → m1 ≡ symbol.Terminal terminal.OpenBracket ∷ m2 → r.full m2 ≡ Some (i, m3) → m3 ≡ symbol.Terminal terminal.CloseBracket ∷ rest
    → operand_in r ts ≡ Some (Bit n i, rest)
unfolding operand_in named_in select_end
bit_step r n i ts m1 m2 m3 rest e0 e1 e2 e3 = rw (e0, e1, e2, e3) refl

part_step : (r : Readers) (n : List ℕ) (h l : Tree) (ts m1 m2 m3 m4 m5 rest : List Symbol) → ts ≡ symbol.Name n ∷ m1 → m1 ≡ symbol.Terminal terminal.OpenBracket ∷ m2 → r.full m2 ≡ Some (h, m3) → m3 ≡ symbol.Terminal terminal.Colon ∷ m4
    → r.full m4 ≡ Some (l, m5) → m5 ≡ symbol.Terminal terminal.CloseBracket ∷ rest → operand_in r ts ≡ Some (Part n h l, rest)
unfolding operand_in named_in select_end part_end
part_step r n h l ts m1 m2 m3 m4 m5 rest e0 e1 e2 e3 e4 e5 = rw (e0, e1, e2, e3, e4, e5) refl

paren_step : (r : Readers) (e : Tree) (ts m1 m2 rest : List Symbol) → ts ≡ symbol.Terminal terminal.OpenParen ∷ m1 → r.full m1 ≡ Some (e, m2) → m2 ≡ symbol.Terminal terminal.CloseParen ∷ rest → operand_in r ts ≡ Some (Paren e, rest)
unfolding operand_in terminal_in paren_in
paren_step r e ts m1 m2 rest e0 e1 e2 = rw (e0, e1, e2) refl

signed_step : (r : Readers) (e : Tree) (ts m1 m2 m3 rest : List Symbol) → ts ≡ symbol.Terminal terminal.SystemSigned ∷ m1 → m1 ≡ symbol.Terminal terminal.OpenParen ∷ m2 → r.full m2 ≡ Some (e, m3) → m3 ≡ symbol.Terminal terminal.CloseParen ∷ rest
    → operand_in r ts ≡ Some (Signed e, rest)
unfolding operand_in terminal_in signed_in
signed_step r e ts m1 m2 m3 rest e0 e1 e2 e3 = rw (e0, e1, e2, e3) refl

unsigned_step : (r : Readers) (e : Tree) (ts m1 m2 m3 rest : List Symbol) → ts ≡ symbol.Terminal terminal.SystemUnsigned ∷ m1 → m1 ≡ symbol.Terminal terminal.OpenParen ∷ m2 → r.full m2 ≡ Some (e, m3) → m3 ≡ symbol.Terminal terminal.CloseParen ∷ rest
    → operand_in r ts ≡ Some (Unsigned e, rest)
unfolding operand_in terminal_in unsigned_in
unsigned_step r e ts m1 m2 m3 rest e0 e1 e2 e3 = rw (e0, e1, e2, e3) refl

operator_first : (r : Readers) (o : Terminal) (op : UnaryOp) (rest : List Symbol) → unary_of o ≡ Some op → terminal_in r o rest ≡ unary_in r o rest
unfolding terminal_in
operator_first r terminal.OpenParen op rest is = absurd cc
operator_first r terminal.OpenBrace op rest is = absurd cc
operator_first r terminal.SystemSigned op rest is = absurd cc
operator_first r terminal.SystemUnsigned op rest is = absurd cc
operator_first r o op rest is = refl

unary_made : (r : Readers) (o : Terminal) (op : UnaryOp) (e : Tree) (m rest : List Symbol) → unary_of o ≡ Some op → r.operand m ≡ Some (e, rest) → unary_in r o m ≡ Some (Unary op e, rest)
unfolding unary_in
unary_made r o op e m rest is h = rw (is, h) refl

unary_step : (r : Readers) (o : Terminal) (op : UnaryOp) (e : Tree) (ts m rest : List Symbol) → unary_of o ≡ Some op → ts ≡ symbol.Terminal o ∷ m → r.operand m ≡ Some (e, rest) → operand_in r ts ≡ Some (Unary op e, rest)
unfolding operand_in
unary_step r o op e ts m rest is e0 h = rw e0 (operator_first r o op m is ∙ unary_made r o op e m rest is h)

-- the terminal of an operator
pub unary_is : (op : UnaryOp) (ts rest : List Symbol) → Front (IsUnary op) ts rest → (o : Terminal) × (unary_of o ≡ Some op) × (ts ≡ symbol.Terminal o ∷ rest)
unary_is op ts rest f =
    let is : Front (quoted f.says.mark) ts rest = record { text = f.text; parts = f.parts; says = f.says.is } in
    (f.says.mark, f.says.operator, one_is is)

binary_is : (op : BinaryOp) (ts rest : List Symbol) → Front (IsBinary op) ts rest → (o : Terminal) × (binary_of o ≡ Some op) × (ts ≡ symbol.Terminal o ∷ rest)
binary_is op ts rest f =
    let is : Front (quoted f.says.mark) ts rest = record { text = f.text; parts = f.parts; says = f.says.is } in
    (f.says.mark, f.says.operator, one_is is)

-- ---- what is shown of each tree

abbrev OperandTakes : Tree → Type 0
OperandTakes e = (ts rest : List Symbol) (h l : ℕ) → Front (Spells e) ts rest → 11 ≤ level_of e → height e ≤ suc h → Follows l rest → operand_in (readers h) ts ≡ Some (e, rest)

-- with the left operand read, the rest of the loop is to run
abbrev BinaryTakes : Tree → Type 0
BinaryTakes e = (ts rest : List Symbol) (h least : ℕ) → Front (Spells e) ts rest → least ≤ level_of e → 0 < level_of e → height e ≤ suc h → Follows (suc (level_of e)) rest
    → (k : ℕ) × (suc (suc h) ≤ k + height e) × (binary_in (readers h) h least ts ≡ tail_in (readers h) h k least e rest)

abbrev FullTakes : Tree → Type 0
FullTakes e = (ts rest : List Symbol) (h : ℕ) → Front (Spells e) ts rest → height e ≤ h → Follows 0 rest → (readers h).full ts ≡ Some (e, rest)

record Takes (e : Tree) : Type 0 where
  operand : OperandTakes e
  binary : BinaryTakes e
  full : FullTakes e

-- the loop ends where no operator follows
tail_done : (r : Readers) (h k least : ℕ) (e : Tree) (rest : List Symbol) → 0 < k → Follows least rest → tail_in r h k least e rest ≡ Some (e, rest)
unfolding tail_in
tail_done r h zero least e rest lt f = absurd (omega arith)
tail_done r h (suc k) least e rest lt f = rw (operator_at-none least rest f) refl

binary_done : (e : Tree) → BinaryTakes e → (ts rest : List Symbol) (h least : ℕ) → Front (Spells e) ts rest → least ≤ level_of e → 0 < level_of e → height e ≤ suc h → Follows least rest
    → binary_in (readers h) h least ts ≡ Some (e, rest)
binary_done e takes ts rest h least spelled le positive small f =
    let b = takes ts rest h least spelled le positive small (Follows-weaker least (suc (level_of e)) rest (omega arith) f) in
    b.2 ∙ tail_done (readers h) h b.0 least e rest (omega (arith, b.1)) f

choice_end-none : (r : Readers) (h : ℕ) (e : Tree) (rest : List Symbol) → Follows 0 rest → choice_end r h e rest ≡ Some (e, rest)
unfolding choice_end
choice_end-none r h e [] f = refl
choice_end-none r h e (symbol.Terminal terminal.Question ∷ rest) f = absurd (omega (arith, f.question refl))
choice_end-none r h e (s ∷ rest) f = refl

full_from_binary : (e : Tree) → BinaryTakes e → 0 < level_of e → FullTakes e
unfolding readers higher full_in
full_from_binary e takes positive ts rest zero spelled small f = absurd (omega (arith, height_positive e))
full_from_binary e takes positive ts rest (suc h) spelled small f =
    rw (binary_done e takes ts rest h 1 spelled (omega arith) positive small (Follows-weaker 0 1 rest (omega arith) f)) (choice_end-none (readers h) h e rest f)

binary_from_operand : (e : Tree) → OperandTakes e → 11 ≤ level_of e → BinaryTakes e
unfolding binary_in
binary_from_operand e takes tight ts rest h least spelled le positive small f =
    (suc h, omega (arith, height_positive e), rw (takes ts rest h (suc (level_of e)) spelled tight small f) refl)

takes_operand : (e : Tree) → OperandTakes e → 11 ≤ level_of e → Takes e
takes_operand e takes tight =
    let b = binary_from_operand e takes tight in
    record { operand = takes; binary = b; full = full_from_binary e b (omega arith) }

-- ---- each tree

number_all : (n : Literal) → Takes (Number n)
number_all n = takes_operand (Number n) (λ ts rest h l f tight small next.
    let is : Front (One (symbol.Number n)) ts rest = record { text = f.text; parts = f.parts; says = f.says.1 } in
    number_step (readers h) n ts rest f.says.0 (one_is is)) (omega arith)

name_all : (n : List ℕ) → Takes (Name n)
name_all n = takes_operand (Name n) (λ ts rest h l f tight small next.
    let is : Front (One (symbol.Name n)) ts rest = record { text = f.text; parts = f.parts; says = f.says } in
    ap (operand_in (readers h)) (one_is is) ∙ name_takes (readers h) n l rest next) (omega arith)

bit_all : (n : List ℕ) (i : Tree) → FullTakes i → Takes (Bit n i)
bit_all n i full = takes_operand (Bit n i) (λ ts rest h l f tight small next.
    let a = split {P = named n} {Q = quoted terminal.OpenBracket ⊗ Spells i ⊗ quoted terminal.CloseBracket} f in
    let b = split a.right in
    let c = split b.right in
    let close = one_is c.right in
    bit_step (readers h) n i ts a.mid b.mid c.mid rest (one_is a.left) (one_is b.left) (full b.mid c.mid h c.left (omega arith) (rw close (close_bracket_follows 0))) close) (omega arith)

part_all : (n : List ℕ) (i j : Tree) → FullTakes i → FullTakes j → Takes (Part n i j)
part_all n i j full_i full_j = takes_operand (Part n i j) (λ ts rest h l f tight small next.
    let a = split {P = named n} {Q = quoted terminal.OpenBracket ⊗ Spells i ⊗ quoted terminal.Colon ⊗ Spells j ⊗ quoted terminal.CloseBracket} f in
    let b = split a.right in
    let c = split b.right in
    let d = split c.right in
    let g = split d.right in
    let colon = one_is d.left in
    let close = one_is g.right in
    part_step (readers h) n i j ts a.mid b.mid c.mid d.mid g.mid rest (one_is a.left) (one_is b.left) (full_i b.mid c.mid h c.left (omega arith) (rw colon (colon_follows 0))) colon
    (full_j d.mid g.mid h g.left (omega arith) (rw close (close_bracket_follows 0))) close) (omega arith)

paren_all : (e : Tree) → FullTakes e → Takes (Paren e)
paren_all e full = takes_operand (Paren e) (λ ts rest h l f tight small next.
    let a = split {P = quoted terminal.OpenParen} {Q = Spells e ⊗ quoted terminal.CloseParen} f in
    let b = split a.right in
    let close = one_is b.right in
    paren_step (readers h) e ts a.mid b.mid rest (one_is a.left) (full a.mid b.mid h b.left (omega arith) (rw close (close_follows 0))) close) (omega arith)

signed_all : (e : Tree) → FullTakes e → Takes (Signed e)
signed_all e full = takes_operand (Signed e) (λ ts rest h l f tight small next.
    let a = split {P = quoted terminal.SystemSigned} {Q = quoted terminal.OpenParen ⊗ Spells e ⊗ quoted terminal.CloseParen} f in
    let b = split a.right in
    let c = split b.right in
    let close = one_is c.right in
    signed_step (readers h) e ts a.mid b.mid c.mid rest (one_is a.left) (one_is b.left) (full b.mid c.mid h c.left (omega arith) (rw close (close_follows 0))) close) (omega arith)

unsigned_all : (e : Tree) → FullTakes e → Takes (Unsigned e)
unsigned_all e full = takes_operand (Unsigned e) (λ ts rest h l f tight small next.
    let a = split {P = quoted terminal.SystemUnsigned} {Q = quoted terminal.OpenParen ⊗ Spells e ⊗ quoted terminal.CloseParen} f in
    let b = split a.right in
    let c = split b.right in
    let close = one_is c.right in
    unsigned_step (readers h) e ts a.mid b.mid c.mid rest (one_is a.left) (one_is b.left) (full b.mid c.mid h c.left (omega arith) (rw close (close_follows 0))) close) (omega arith)

operand_below : (e : Tree) → OperandTakes e → (ts rest : List Symbol) (h l : ℕ) → Front (Spells e) ts rest → 11 ≤ level_of e → height e ≤ h → Follows l rest → (readers h).operand ts ≡ Some (e, rest)
unfolding readers higher
operand_below e takes ts rest zero l spelled tight small f = absurd (omega (arith, height_positive e))
operand_below e takes ts rest (suc h) l spelled tight small f = takes ts rest h l spelled tight small f

unary_all : (op : UnaryOp) (e : Tree) → OperandTakes e → Takes (Unary op e)
unary_all op e takes = takes_operand (Unary op e) (λ ts rest h l f tight small next.
    let g : Front (IsUnary op ⊗ Spells e) ts rest = record { text = f.text; parts = f.parts; says = f.says.1 } in
    let a = split {P = IsUnary op} {Q = Spells e} g in
    let o = unary_is op ts a.mid a.left in
    unary_step (readers h) o.0 op e ts a.mid rest o.1 o.2 (operand_below e takes a.mid rest h l a.right f.says.0 (omega arith) next)) (omega arith)

binary_below : (e : Tree) → BinaryTakes e → (ts rest : List Symbol) (h least : ℕ) → Front (Spells e) ts rest → least ≤ level_of e → 0 < level_of e → height e ≤ h → Follows least rest
    → (readers h).binary least ts ≡ Some (e, rest)
unfolding readers higher
binary_below e takes ts rest zero least spelled le positive small f = absurd (omega (arith, height_positive e))
binary_below e takes ts rest (suc h) least spelled le positive small f = binary_done e takes ts rest h least spelled le positive small f

-- one turn of the loop
tail_step : (r : Readers) (h k least : ℕ) (o : Terminal) (op : BinaryOp) (a b : Tree) (m rest : List Symbol) → binary_of o ≡ Some op → least ≤ level op → height a ≤ h → r.binary (level op + 1) m ≡ Some (b, rest)
    → tail_in r h (suc k) least a (symbol.Terminal o ∷ m) ≡ tail_in r h k least (Binary op a b) rest
unfolding tail_in with_right
tail_step r h k least o op a b m rest is le small e = rw (operator_at-some least o op m is le, le-leb (height a) h small, e) refl

last_turn : (h k least : ℕ) (o : Terminal) (op : BinaryOp) (a b : Tree) (m rest : List Symbol) (all : Option (Tree × List Symbol)) → suc (suc h) ≤ k + height a → height a ≤ h → binary_of o ≡ Some op → least ≤ level op
    → (readers h).binary (level op + 1) m ≡ Some (b, rest) → all ≡ tail_in (readers h) h k least a (symbol.Terminal o ∷ m)
    → (j : ℕ) × (suc (suc h) ≤ j + height (Binary op a b)) × (all ≡ tail_in (readers h) h j least (Binary op a b) rest)
last_turn h zero least o op a b m rest all room small is le again first = absurd (omega arith)
last_turn h (suc j) least o op a b m rest all room small is le again first = (j, omega arith, first ∙ tail_step (readers h) h j least o op a b m rest is le small again)

binary_takes : (op : BinaryOp) (a b : Tree) → BinaryTakes a → BinaryTakes b → BinaryTakes (Binary op a b)
binary_takes op a b takes_a takes_b ts rest h least f le positive small next =
    let g : Front (Spells a ⊗ IsBinary op ⊗ Spells b) ts rest = record { text = f.text; parts = f.parts; says = f.says.2 } in
    let s = split {P = Spells a} {Q = IsBinary op ⊗ Spells b} g in
    let t = split {P = IsBinary op} {Q = Spells b} s.right in
    let o = binary_is op s.mid t.mid t.left in
    let loose : level op ≤ level_of a = f.says.0 in
    let tight : level op < level_of b = f.says.1 in
    let first = takes_a ts s.mid h least s.left (omega arith) (omega arith) (omega arith) (rw o.2 (operator_follows o.0 op (level_of a) o.1 loose)) in
    let again = binary_below b takes_b t.mid rest h (level op + 1) t.right (omega arith) (omega arith) (omega arith) (Follows-weaker (suc (level op)) (level op + 1) rest (omega arith) next) in
    last_turn h first.0 least o.0 op a b t.mid rest _ first.1 (omega arith) o.1 le again (first.2 ∙ ap (tail_in (readers h) h first.0 least a) o.2)

binary_all : (op : BinaryOp) (a b : Tree) → BinaryTakes a → BinaryTakes b → Takes (Binary op a b)
binary_all op a b takes_a takes_b =
    let takes = binary_takes op a b takes_a takes_b in
    let levels = level_positive op in
    record { operand = λ ts rest h l spelled tight small f. absurd (omega arith); binary = takes; full = full_from_binary (Binary op a b) takes (omega arith) }

choice_step : (r : Readers) (h : ℕ) (c a b : Tree) (ts m1 m2 m3 m4 rest : List Symbol) → height c ≤ h → binary_in r h 1 ts ≡ Some (c, m1) → m1 ≡ symbol.Terminal terminal.Question ∷ m2
    → r.full m2 ≡ Some (a, m3) → m3 ≡ symbol.Terminal terminal.Colon ∷ m4 → r.full m4 ≡ Some (b, rest) → full_in r h ts ≡ Some (Choose c a b, rest)
unfolding full_in choice_end choice_in
choice_step r h c a b ts m1 m2 m3 m4 rest small e0 e1 e2 e3 e4 = rw (e0, e1, le-leb (height c) h small, e2, e3, e4) refl

choice_full : (c a b : Tree) → BinaryTakes c → FullTakes a → FullTakes b → FullTakes (Choose c a b)
unfolding readers higher
choice_full c a b takes_c full_a full_b ts rest zero spelled small next = absurd (omega arith)
choice_full c a b takes_c full_a full_b ts rest (suc h) f small next =
    let g : Front (Spells c ⊗ quoted terminal.Question ⊗ Spells a ⊗ quoted terminal.Colon ⊗ Spells b) ts rest = record { text = f.text; parts = f.parts; says = f.says.1 } in
    let s = split {P = Spells c} {Q = quoted terminal.Question ⊗ Spells a ⊗ quoted terminal.Colon ⊗ Spells b} g in
    let t = split s.right in
    let u = split t.right in
    let v = split u.right in
    let question = one_is t.left in
    let colon = one_is v.left in
    let positive : 0 < level_of c = f.says.0 in
    choice_step (readers h) h c a b ts s.mid t.mid u.mid v.mid rest (omega arith)
    (binary_done c takes_c ts s.mid h 1 s.left (omega arith) positive (omega arith) (rw question (question_follows 0))) question
    (full_a t.mid u.mid h u.left (omega arith) (rw colon (colon_follows 0))) colon (full_b v.mid rest h v.right (omega arith) next)

choice_all : (c a b : Tree) → BinaryTakes c → FullTakes a → FullTakes b → Takes (Choose c a b)
choice_all c a b takes_c full_a full_b =
    record { operand = λ ts rest h l spelled tight small f. absurd (omega arith); binary = λ ts rest h least spelled le positive small f. absurd (omega arith); full = choice_full c a b takes_c full_a full_b }

-- ---- lists

abbrev AllTake : Trees → Type 0
AllTake es = (ts rest : List Symbol) (h most : ℕ) → Front (SpellsMore es) ts rest → greatest es ≤ h → length ts ≤ most → Follows 0 rest → after terminal.Comma rest ≡ None → more_in (readers h) most ts ≡ Some (es, rest)

end_take : (r : Readers) (most : ℕ) (rest : List Symbol) → after terminal.Comma rest ≡ None → more_in r most rest ≡ Some (end, rest)
unfolding more_in
end_take r zero rest n = refl
end_take r (suc most) [] n = refl
end_take r (suc most) (symbol.Terminal terminal.Comma ∷ rest) n = absurd cc
end_take r (suc most) (s ∷ rest) n = refl

more_step : (r : Readers) (most : ℕ) (e : Tree) (es : Trees) (ts m1 m2 rest : List Symbol) → ts ≡ symbol.Terminal terminal.Comma ∷ m1 → r.full m1 ≡ Some (e, m2) → more_in r most m2 ≡ Some (es, rest) → more_in r (suc most) ts ≡ Some (more e es, rest)
unfolding more_in
more_step r most e es ts m1 m2 rest e0 e1 e2 = rw (e0, e1, e2) refl

-- behind a tree of a list a comma or the end follows
more_follows : (es : Trees) (ts rest : List Symbol) → Front (SpellsMore es) ts rest → Follows 0 rest → Follows 0 ts
more_follows end ts rest f next =
    let is : Front Nothing ts rest = record { text = f.text; parts = f.parts; says = f.says } in
    rw (nothing_is is) next
more_follows (more e es) ts rest f next =
    let a = split {P = quoted terminal.Comma} {Q = Spells e ⊗ SpellsMore es} f in
    rw (one_is a.left) (comma_follows 0)

more_all : (e : Tree) (es : Trees) → FullTakes e → AllTake es → AllTake (more e es)
more_all e es full all ts rest h most f small room next n =
    let a = split {P = quoted terminal.Comma} {Q = Spells e ⊗ SpellsMore es} f in
    let b = split {P = Spells e} {Q = SpellsMore es} a.right in
    let comma = one_is a.left in
    counted most a.mid b.mid room comma (no_longer b.left)
    (full a.mid b.mid h b.left (omega arith) (more_follows es b.mid rest b.right next)) (λ k short. all b.mid rest h k b.right (omega arith) short next n)
  where
    counted : (most : ℕ) (m1 m2 : List Symbol) → length ts ≤ most → ts ≡ symbol.Terminal terminal.Comma ∷ m1 → length m2 ≤ length m1 → (readers h).full m1 ≡ Some (e, m2) → ((k : ℕ) → length m2 ≤ k → more_in (readers h) k m2 ≡ Some (es, rest))
        → more_in (readers h) most ts ≡ Some (more e es, rest)
    counted zero m1 m2 room comma le first others = absurd (omega (arith, ap length comma))
    counted (suc most) m1 m2 room comma le first others = more_step (readers h) most e es ts m1 m2 rest comma first (others most (omega (arith, ap length comma)))

list_step : (r : Readers) (e : Tree) (es : Trees) (ts rest : List Symbol) → more_in r (length ts) ts ≡ Some (es, rest) → list_from r e ts ≡ Some (more e es, rest)
unfolding list_from
list_step r e es ts rest h = rw h refl

-- behind the first tree of a join no opening brace follows
braces_end-join : (r : Readers) (e : Tree) (es : Trees) (ts rest : List Symbol) → Front (SpellsMore es) ts (symbol.Terminal terminal.CloseBrace ∷ rest) → braces_end r e ts ≡ join_in r e ts
unfolding braces_end
braces_end-join r e end ts rest f =
    let is : Front Nothing ts (symbol.Terminal terminal.CloseBrace ∷ rest) = record { text = f.text; parts = f.parts; says = f.says } in
    rw (nothing_is is) refl
braces_end-join r e (more x es) ts rest f =
    let a = split {P = quoted terminal.Comma} {Q = Spells x ⊗ SpellsMore es} f in
    rw (one_is a.left) refl

join_step : (r : Readers) (e : Tree) (es : Trees) (ts m rest : List Symbol) → list_from r e ts ≡ Some (more e es, m) → m ≡ symbol.Terminal terminal.CloseBrace ∷ rest → join_in r e ts ≡ Some (Join (more e es), rest)
unfolding join_in
join_step r e es ts m rest h c = rw (h, c) refl

braces_first : (r : Readers) (e : Tree) (ts m1 rest : List Symbol) → ts ≡ symbol.Terminal terminal.OpenBrace ∷ m1 → r.full m1 ≡ Some (e, rest) → operand_in r ts ≡ braces_end r e rest
unfolding operand_in terminal_in braces_in
braces_first r e ts m1 rest e0 h = rw (e0, h) refl

join_all : (es : Trees) (e : Tree) → FullTakes e → AllTake es → Takes (Join (more e es))
join_all es e full all = takes_operand (Join (more e es)) (λ ts rest h l f tight small next.
    let a = split {P = quoted terminal.OpenBrace} {Q = SpellsAll (more e es) ⊗ quoted terminal.CloseBrace} f in
    let b = split {P = SpellsAll (more e es)} {Q = quoted terminal.CloseBrace} a.right in
    let c = split {P = Spells e} {Q = SpellsMore es} b.left in
    let close = one_is b.right in
    let ends : Follows 0 b.mid = rw close (close_brace_follows 0) in
    let last : after terminal.Comma b.mid ≡ None = rw close refl in
    let others : Front (SpellsMore es) c.mid (symbol.Terminal terminal.CloseBrace ∷ rest) = record { text = c.right.text; parts = c.right.parts ∙ ap (λ t. c.right.text ++ t) close; says = c.right.says } in
    let first = full a.mid c.mid h c.left (omega arith) (more_follows es c.mid b.mid c.right ends) in
    let list = list_step (readers h) e es c.mid b.mid (all c.mid b.mid h (length c.mid) c.right (omega arith) (omega arith) ends last) in
    braces_first (readers h) e ts a.mid c.mid (one_is a.left) first ∙ braces_end-join (readers h) e es c.mid rest others ∙ join_step (readers h) e es c.mid b.mid rest list close) (omega arith)

repeat_step : (r : Readers) (n e : Tree) (es : Trees) (ts m1 m2 m3 m4 rest : List Symbol) → ts ≡ symbol.Terminal terminal.OpenBrace ∷ m1 → r.full m1 ≡ Some (e, m2) → list_from r e m2 ≡ Some (more e es, m3) → m3 ≡ symbol.Terminal terminal.CloseBrace ∷ m4
    → m4 ≡ symbol.Terminal terminal.CloseBrace ∷ rest → braces_end r n ts ≡ Some (Repeat n (more e es), rest)
unfolding braces_end repeat_in
repeat_step r n e es ts m1 m2 m3 m4 rest e0 e1 e2 e3 e4 = rw (e0, e1, e2, e3, e4) refl

repeat_all : (n e : Tree) (es : Trees) → FullTakes n → FullTakes e → AllTake es → Takes (Repeat n (more e es))
repeat_all n e es full_n full all = takes_operand (Repeat n (more e es)) (λ ts rest h l f tight small next.
    let a = split {P = quoted terminal.OpenBrace} {Q = Spells n ⊗ quoted terminal.OpenBrace ⊗ SpellsAll (more e es) ⊗ quoted terminal.CloseBrace ⊗ quoted terminal.CloseBrace} f in
    let b = split {P = Spells n} {Q = quoted terminal.OpenBrace ⊗ SpellsAll (more e es) ⊗ quoted terminal.CloseBrace ⊗ quoted terminal.CloseBrace} a.right in
    let c = split b.right in
    let d = split {P = SpellsAll (more e es)} {Q = quoted terminal.CloseBrace ⊗ quoted terminal.CloseBrace} c.right in
    let g = split {P = Spells e} {Q = SpellsMore es} d.left in
    let i = split d.right in
    let inner = one_is c.left in
    let close = one_is i.left in
    let ends : Follows 0 d.mid = rw close (close_brace_follows 0) in
    let last : after terminal.Comma d.mid ≡ None = rw close refl in
    let count = full_n a.mid b.mid h b.left (omega arith) (rw inner (open_brace_follows 0)) in
    let first = full c.mid g.mid h g.left (omega arith) (more_follows es g.mid d.mid g.right ends) in
    let list = list_step (readers h) e es g.mid d.mid (all g.mid d.mid h (length g.mid) g.right (omega arith) (omega arith) ends last) in
    braces_first (readers h) n ts a.mid b.mid (one_is a.left) count ∙ repeat_step (readers h) n e es b.mid c.mid g.mid d.mid i.mid rest inner first list close (one_is i.right)) (omega arith)

empty_join : Takes (Join end)
empty_join = takes_operand (Join end) (λ ts rest h l f tight small next.
    let a = split {P = quoted terminal.OpenBrace} {Q = SpellsAll end ⊗ quoted terminal.CloseBrace} f in
    let b = split {P = SpellsAll end} {Q = quoted terminal.CloseBrace} a.right in
    absurd b.left.says) (omega arith)

empty_repeat : (n : Tree) → Takes (Repeat n end)
empty_repeat n = takes_operand (Repeat n end) (λ ts rest h l f tight small next.
    let a = split {P = quoted terminal.OpenBrace} {Q = Spells n ⊗ quoted terminal.OpenBrace ⊗ SpellsAll end ⊗ quoted terminal.CloseBrace ⊗ quoted terminal.CloseBrace} f in
    let b = split {P = Spells n} {Q = quoted terminal.OpenBrace ⊗ SpellsAll end ⊗ quoted terminal.CloseBrace ⊗ quoted terminal.CloseBrace} a.right in
    let c = split b.right in
    let d = split {P = SpellsAll end} {Q = quoted terminal.CloseBrace ⊗ quoted terminal.CloseBrace} c.right in
    absurd d.left.says) (omega arith)

mutual
  takes_all : (e : Tree) → Takes e
  takes_all (Number n) = number_all n
  takes_all (Name n) = name_all n
  takes_all (Bit n i) = bit_all n i (takes_all i).full
  takes_all (Part n h l) = part_all n h l (takes_all h).full (takes_all l).full
  takes_all (Paren e) = paren_all e (takes_all e).full
  takes_all (Unary op e) = unary_all op e (takes_all e).operand
  takes_all (Binary op a b) = binary_all op a b (takes_all a).binary (takes_all b).binary
  takes_all (Choose c a b) = choice_all c a b (takes_all c).binary (takes_all a).full (takes_all b).full
  takes_all (Join end) = empty_join
  takes_all (Join (more e es)) = join_all es e (takes_all e).full (lists_take es)
  takes_all (Repeat n end) = empty_repeat n
  takes_all (Repeat n (more e es)) = repeat_all n e es (takes_all n).full (takes_all e).full (lists_take es)
  takes_all (Signed e) = signed_all e (takes_all e).full
  takes_all (Unsigned e) = unsigned_all e (takes_all e).full

  lists_take : (es : Trees) → AllTake es
  lists_take end = λ ts rest h most f small room next n.
      let is : Front Nothing ts rest = record { text = f.text; parts = f.parts; says = f.says } in
      rw (nothing_is is) (end_take (readers h) most rest n)
  lists_take (more e es) = more_all e es (takes_all e).full (lists_take es)

-- What spells a tree is read up to its end, where no operator follows.
pub full_takes : (e : Tree) (ts rest : List Symbol) (h : ℕ) → Front (Spells e) ts rest → height e ≤ h → Follows 0 rest → (readers h).full ts ≡ Some (e, rest)
full_takes e = (takes_all e).full

-- A list of symbols has at most one tree.
pub one_tree : (e f : Tree) (ts : List Symbol) → Spells e ts → Spells f ts → e ≡ f
one_tree e f ts p q =
    let h = height e + height f in
    let a = full_takes e ts [] h (whole ts p) (omega arith) tt in
    let b = full_takes f ts [] h (whole ts q) (omega arith) tt in
    ap (λ (x : Tree × List Symbol). x.0) (same (e, []) (f, []) (sym a ∙ b))
  where
    same : (x y : Tree × List Symbol) → Some x ≡ Some y → x ≡ y
    same x y h = cc
