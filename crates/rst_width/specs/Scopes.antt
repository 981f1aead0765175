-- What names stand for.
use Rattle.std.specs.Prelude.{◌≡◌, ℕ, ◌+◌, ◌<◌, ◌≤◌, Bool, Option, Some, None, nat_eq}
use Rattle.std.specs.Cmp.Lexicographic.{pointwise}
use Rattle.indexmap.specs.IndexMap.{get}
use Rattle.rst_tree.specs.Trees.{Text}
use Rattle.rst_word.specs.Words.{PlainWord, IsWord}
use Rattle.rst_word.specs.Plain.{plain_word}
use Rattle.rst_width.specs.declared.scope.Entry.{Entry}
use Rattle.rst_width.specs.declared.scope.Entry.TheVariants as entry
use Rattle.rst_width.specs.declared.scope.Scope.{Scope}
use Rattle.rst_width.specs.declared.scope.SignalShape.{SignalShape}
use Rattle.rst_width.specs.declared.names.Unshaped.{Unshaped}
use Rattle.rst_width.specs.declared.names.UnshapedNames.{UnshapedNames}

-- How a signal is declared: its bits, the number of the lowest one, its sign, and whether it has a range. One without is a scalar.
pub record Extent : Type 0 where
  pub width : ℕ
  pub low : ℕ
  pub signed : Bool
  pub ranged : Bool

pub data Meaning : Type 0 where
  -- the signal of this number
  Signal : ℕ → Extent → Meaning
  -- a parameter with this value
  Param : PlainWord → Meaning
  -- a name that has no width and sign yet, with whether it is declared with a range
  Later : Bool → Meaning

-- What each name stands for, if it is declared.
abbrev pub Names : Type 0
Names = Text → Option Meaning

-- A signal has 1 to 64 bits with numbers below 65,536, and the value of a parameter is a word.
pub record IsExtent (extent : Extent) : Type 0 where
  pub some_bits : 0 < extent.width
  pub at_most_64 : extent.width ≤ 64
  pub in_reach : extent.low + extent.width ≤ 65536

abbrev pub IsMeaning : Meaning → Type 0
IsMeaning (Signal i extent) = IsExtent extent
IsMeaning (Param w) = IsWord w
IsMeaning (Later ranged) = Unit {0}

abbrev pub AreMeanings : Names → Type 0
AreMeanings names = (name : Text) (m : Meaning) → names name ≡ Some m → IsMeaning m

-- A table of the code as such names.
abbrev pub extent_of : SignalShape → Extent
extent_of shape = record { width = shape.width; low = shape.low; signed = shape.signed; ranged = shape.ranged }

abbrev pub meaning_of : Option Entry → Option Meaning
meaning_of None = None
meaning_of (Some (entry.Signal i shape)) = Some (Signal i (extent_of shape))
meaning_of (Some (entry.Param w)) = Some (Param (plain_word w))

abbrev pub entry_of : Scope → Text → Option Entry
entry_of scope name = get (pointwise nat_eq) scope.entries name

abbrev pub names_of : Scope → Names
names_of scope name = meaning_of (entry_of scope name)

-- A scope, and behind it the names that have no width and sign yet.
abbrev pub later_of : Option Unshaped → Option Meaning
later_of None = None
later_of (Some u) = Some (Later u.ranged)

abbrev pub either_of : Option Meaning → Option Meaning → Option Meaning
either_of None other = other
either_of (Some m) other = Some m

abbrev pub unshaped_of : UnshapedNames → Text → Option Unshaped
unshaped_of unshaped name = get (pointwise nat_eq) unshaped.entries name

abbrev pub names_with : Scope → UnshapedNames → Names
names_with scope unshaped name = either_of (names_of scope name) (later_of (unshaped_of unshaped name))
