-- Steps of a reader, and what may follow a tree.
use Rattle.std.proofs.Common.{◌≡◌, ℕ, suc, ◌<◌, ◌≤◌, Bool, true, false, cond, leb, List, [], ◌∷◌, Option, Some, None, refl, sym, ap, ◌∙◌, arith}
use Rattle.std.proofs.lemmas.Bool.{le-leb, lt-leb}
use Rattle.rst_word.specs.declared.ops.BinaryOp.{BinaryOp}
use Rattle.rst_word.specs.declared.ops.BinaryOp.TheVariants as binary
use Rattle.rst_tree.specs.Trees.{Tree, Number, Name, Bit, Part, Paren, Unary, Binary, Choose, Join, Repeat, Signed, Unsigned, height}
use Rattle.rst_grammar.specs.declared.symbol.Terminal.{Terminal}
use Rattle.rst_grammar.specs.declared.symbol.Terminal.TheVariants as terminal
use Rattle.rst_grammar.specs.declared.symbol.Symbol.{Symbol}
use Rattle.rst_grammar.specs.declared.symbol.Symbol.TheVariants as symbol
use Rattle.rst_grammar.specs.Expressions.{binary_of, level}
use Rattle.rst_grammar.specs.Reading.{◌>>=◌, operator_at}

pub bind_some : {A B : Type 0} (r : Option A) (f : A → Option B) (y : B) → (r >>= f) ≡ Some y → (x : A) × (r ≡ Some x) × (f x ≡ Some y)
bind_some (Some x) f y e = (x, refl, e)
bind_some None f y e = absurd cc

-- a test that passed
pub guard_some : {A : Type 0} (b : Bool) (r : Option A) (y : A) → cond b r None ≡ Some y → (b ≡ true) × (r ≡ Some y)
guard_some true r y e = (refl, e)
guard_some false r y e = absurd cc

-- The terminal doesn't go on from a tree of a level below l. A number or a name never does.
pub record MayFollow (l : ℕ) (t : Terminal) : Type 0 where
  pub bracket : t ≡ terminal.OpenBracket → ⊥
  pub question : t ≡ terminal.Question → 0 < l
  pub binary : (op : BinaryOp) → binary_of t ≡ Some op → level op < l

abbrev pub Follows : ℕ → List Symbol → Type 0
Follows l [] = Unit {0}
Follows l (symbol.Terminal t ∷ ss) = MayFollow l t
Follows l (s ∷ ss) = Unit {0}

pub Follows-weaker : (l m : ℕ) (ts : List Symbol) → l ≤ m → Follows l ts → Follows m ts
Follows-weaker l m [] le f = tt
Follows-weaker l m (symbol.Terminal t ∷ ss) le f = record { bracket = f.bracket; question = λ e. omega (arith, f.question e); binary = λ op e. omega (arith, f.binary op e) }
Follows-weaker l m (symbol.Name n ∷ ss) le f = tt
Follows-weaker l m (symbol.Number n ∷ ss) le f = tt

pub close_follows : (l : ℕ) → MayFollow l terminal.CloseParen
close_follows l = record { bracket = λ e. cc; question = λ e. absurd cc; binary = λ op e. absurd cc }

pub close_bracket_follows : (l : ℕ) → MayFollow l terminal.CloseBracket
close_bracket_follows l = record { bracket = λ e. cc; question = λ e. absurd cc; binary = λ op e. absurd cc }

pub colon_follows : (l : ℕ) → MayFollow l terminal.Colon
colon_follows l = record { bracket = λ e. cc; question = λ e. absurd cc; binary = λ op e. absurd cc }

pub close_brace_follows : (l : ℕ) → MayFollow l terminal.CloseBrace
close_brace_follows l = record { bracket = λ e. cc; question = λ e. absurd cc; binary = λ op e. absurd cc }

pub open_brace_follows : (l : ℕ) → MayFollow l terminal.OpenBrace
open_brace_follows l = record { bracket = λ e. cc; question = λ e. absurd cc; binary = λ op e. absurd cc }

pub comma_follows : (l : ℕ) → MayFollow l terminal.Comma
comma_follows l = record { bracket = λ e. cc; question = λ e. absurd cc; binary = λ op e. absurd cc }

pub question_follows : (l : ℕ) → MayFollow (suc l) terminal.Question
question_follows l = record { bracket = λ e. cc; question = λ e. omega arith; binary = λ op e. absurd cc }

pub semicolon_follows : (l : ℕ) → MayFollow l terminal.Semicolon
semicolon_follows l = record { bracket = λ e. cc; question = λ e. absurd cc; binary = λ op e. absurd cc }

-- a binary operator follows a left operand
pub operator_follows : (o : Terminal) (op : BinaryOp) (l : ℕ) → binary_of o ≡ Some op → level op ≤ l → MayFollow (suc l) o
operator_follows o op l is le = record {
  bracket = λ e. let f = sym (ap binary_of e) ∙ is in cc;
  question = λ e. omega arith;
  binary = λ other e. let same : op ≡ other = cc in let f = ap level same in omega arith;
}

refused : (l : ℕ) (ss : List Symbol) (o : Option BinaryOp) → ((op : BinaryOp) → o ≡ Some op → level op < l) → ◌>>=◌ {B = BinaryOp × List Symbol} o (λ op. cond (leb l (level op)) (Some (op, ss)) None) ≡ None
refused l ss None h = refl
refused l ss (Some op) h = rw (lt-leb l (level op) (h op refl)) refl

-- no operator of level l or tighter stands where none may follow
pub operator_at-none : (l : ℕ) (ts : List Symbol) → Follows l ts → operator_at l ts ≡ None
unfolding operator_at
operator_at-none l [] f = refl
operator_at-none l (symbol.Terminal t ∷ ss) f = refused l ss (binary_of t) f.binary
operator_at-none l (symbol.Name n ∷ ss) f = refl
operator_at-none l (symbol.Number n ∷ ss) f = refl

pub operator_at-some : (l : ℕ) (o : Terminal) (op : BinaryOp) (ss : List Symbol) → binary_of o ≡ Some op → l ≤ level op → operator_at l (symbol.Terminal o ∷ ss) ≡ Some (op, ss)
unfolding operator_at
operator_at-some l o op ss is le = rw (is, le-leb l (level op) le) refl

-- each tree has a height above 0
pub height_positive : (e : Tree) → 0 < height e
height_positive (Number n) = omega arith
height_positive (Name n) = omega arith
height_positive (Bit n i) = omega arith
height_positive (Part n h l) = omega arith
height_positive (Paren e) = omega arith
height_positive (Unary op e) = omega arith
height_positive (Binary op a b) = omega arith
height_positive (Choose c a b) = omega arith
height_positive (Join es) = omega arith
height_positive (Repeat n es) = omega arith
height_positive (Signed e) = omega arith
height_positive (Unsigned e) = omega arith

pub level_positive : (op : BinaryOp) → (0 < level op) × (level op < 11)
level_positive binary.Mul = (omega arith, omega arith)
level_positive binary.Div = (omega arith, omega arith)
level_positive binary.Rem = (omega arith, omega arith)
level_positive binary.Add = (omega arith, omega arith)
level_positive binary.Sub = (omega arith, omega arith)
level_positive binary.Shl = (omega arith, omega arith)
level_positive binary.Shr = (omega arith, omega arith)
level_positive binary.ArithShl = (omega arith, omega arith)
level_positive binary.ArithShr = (omega arith, omega arith)
level_positive binary.Lt = (omega arith, omega arith)
level_positive binary.Le = (omega arith, omega arith)
level_positive binary.Gt = (omega arith, omega arith)
level_positive binary.Ge = (omega arith, omega arith)
level_positive binary.Eq = (omega arith, omega arith)
level_positive binary.Ne = (omega arith, omega arith)
level_positive binary.And = (omega arith, omega arith)
level_positive binary.Xor = (omega arith, omega arith)
level_positive binary.Xnor = (omega arith, omega arith)
level_positive binary.Or = (omega arith, omega arith)
level_positive binary.LogicAnd = (omega arith, omega arith)
level_positive binary.LogicOr = (omega arith, omega arith)
