-- The value of a typed expression.
use Rattle.std.specs.Prelude.{ℕ, zero, suc, ◌-◌, ◌/◌, ◌%◌, ◌^◌, false, cond, ℤ}
use Rattle.rst_word.specs.Words.{PlainWord, extended, joined, number_of}
use Rattle.rst_word.specs.Unary.{unary_word, is_true}
use Rattle.rst_word.specs.Binary.{binary_word}
use Rattle.rst_width.specs.declared.typed_expr.Shape.{Shape}
use Rattle.rst_width.specs.Typed.{Typed, Node, TypedList, typed, Word, Signal, Slice, Pick, Unary, Binary, Choose, Join, Repeat, Extend, Sign, end, more}

-- A valuation says which number the bits of each signal spell.
abbrev pub Valuation : Type 0
Valuation = ℕ → ℕ

-- the word of this width and sign with this number
abbrev pub word_at : Shape → ℕ → PlainWord
word_at shape value = record { width = shape.width; signed = shape.signed; value = value }

-- the word that stands `times` times, the first of them being `front`
abbrev pub repeated : ℕ → PlainWord → PlainWord → PlainWord
repeated zero front w = front
repeated (suc times) front w = repeated times (joined front w) w

abbrev mutual
  -- The word of a typed expression under a valuation, by the operators in two values. Its width and sign are the final ones.
  pub value : Valuation → Typed → PlainWord
  value signals (typed shape node) = word_at shape (number_at signals shape node)

  pub number_at : Valuation → Shape → Node → ℕ
  number_at signals shape (Word w) = w.value
  number_at signals shape (Signal i) = signals i
  number_at signals shape (Slice i low width) = signals i / 2 ^ low % 2 ^ width
  number_at signals shape (Pick i e) = signals i / 2 ^ (value signals e).value % 2
  number_at signals shape (Unary op e) = (unary_word op (value signals e)).value
  number_at signals shape (Binary op a b) = (binary_word op (value signals a) (value signals b)).value
  number_at signals shape (Choose c a b) = cond (is_true (value signals c)) (value signals a).value (value signals b).value
  number_at signals shape (Join es) = (joined_parts signals es).value
  number_at signals shape (Repeat count es) = (repeated (count - 1) (joined_parts signals es) (joined_parts signals es)).value
  number_at signals shape (Extend e) = (extended shape.width shape.signed (value signals e)).value
  number_at signals shape (Sign e) = (value signals e).value

  -- the parts of a join, the bits of the first above those of the others
  pub joined_parts : Valuation → TypedList → PlainWord
  joined_parts signals end = word_at (record { width = 0; signed = false }) 0
  joined_parts signals (more x xs) = joined_behind signals (value signals x) xs

  -- the parts behind a word
  pub joined_behind : Valuation → PlainWord → TypedList → PlainWord
  joined_behind signals front end = front
  joined_behind signals front (more x xs) = joined_behind signals (joined front (value signals x)) xs

-- The word of an expression that names no signal.
abbrev pub constant_word : Typed → PlainWord
constant_word e = value (λ _. 0) e

-- Its number, read by its sign.
abbrev pub constant_number : Typed → ℤ
constant_number e = number_of (constant_word e)
