-- The parts of a line as the writer keeps them. Words of the writer's own contracts, which no public clause cites.
use Rattle.std.specs.Prelude.{◌≡◌, ℕ, ◌+◌, ◌≤◌, List, [], ◌++◌, map, length, Option, None, Some}
use Rattle.std.specs.List.{flat_map}
use Rattle.std.specs.Fmt.{decimal}
use Rattle.rst_certificate.specs.declared.atom.Atom.{Atom}
use Rattle.rst_certificate.specs.declared.atom.Atom.TheVariants.{Word, Number, Digits, Places, Literals}
use Rattle.rst_certificate.specs.Words.{digit, place_digit, literal_text}

abbrev pub atom_text : Atom → List ℕ
atom_text (Word bytes) = bytes.now
atom_text (Number number) = decimal number
atom_text (Digits bits) = map digit bits.now
atom_text (Places places) = map place_digit places.now
atom_text (Literals literals) = flat_map literal_text literals.now

-- what is left of an atom
abbrev pub rest_text : Option Atom → List ℕ
rest_text None = []
rest_text (Some atom) = atom_text atom

-- bounds the work of giving an atom
abbrev pub atom_work : Atom → ℕ
atom_work atom = length (atom_text atom) + 1

abbrev pub rest_work : Option Atom → ℕ
rest_work None = 0
rest_work (Some atom) = atom_work atom

-- the bytes that a line has still to give, and of how many atoms they are
pub record LineState : Type 0 where
  pub text : List ℕ
  pub count : ℕ

abbrev pub line_state : List Atom → LineState
line_state atoms = record { text = flat_map atom_text atoms; count = length atoms }

-- the line has more at its end, in at most so many atoms
pub record Adds (old new : LineState) (text : List ℕ) (count : ℕ) : Type 0 where
  pub appended : new.text ≡ old.text ++ text
  pub counted : new.count ≤ old.count + count

-- bounds the work of giving a line
abbrev pub line_work : LineState → ℕ
line_work state = length state.text + state.count
