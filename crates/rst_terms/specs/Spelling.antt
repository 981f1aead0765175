-- Bits that spell a word.
use Rattle.std.specs.Prelude.{◌≡◌, Bool, List, length}
use Rattle.rst_word.specs.declared.ops.BinaryOp.{BinaryOp}
use Rattle.rst_word.specs.declared.ops.BinaryOp.TheVariants.{ArithShr, Lt, Le, Gt, Ge}
use Rattle.rst_word.specs.Words.{PlainWord}
use Rattle.rst_word.specs.Binary.{both_signed}
use Rattle.rst_terms.specs.Numbers.{number}

pub record Spells (xs : List Bool) (w : PlainWord) : Type 0 where
  pub width : length xs ≡ w.width
  pub value : number xs ≡ w.value

-- the word of this sign that bits spell
abbrev pub spelled : Bool → List Bool → PlainWord
spelled signed xs = record { width = length xs; signed = signed; value = number xs }

-- the sign by which an operator goes: of both operands for the order of numbers, of the first for `>>>`
abbrev pub HasSign : BinaryOp → Bool → PlainWord → PlainWord → Type 0
HasSign ArithShr signed a b = signed ≡ a.signed
HasSign Lt signed a b = signed ≡ both_signed a b
HasSign Le signed a b = signed ≡ both_signed a b
HasSign Gt signed a b = signed ≡ both_signed a b
HasSign Ge signed a b = signed ≡ both_signed a b
HasSign _ signed a b = Unit {0}
