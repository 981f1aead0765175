-- How far a file was read. Words of the contracts inside this crate, which no public clause cites.
use Rattle.std.specs.Prelude.{◌≡◌, ◌≤◌, ℕ, Option, Some, IfSome, List, length, take}
use Rattle.rst_outside.specs.declared.desk.DeskFile.{DeskFile}
use Rattle.rst_outside.specs.Files.{bytes_under, IsHeldUnder}
use Rattle.rst_cert_reader.specs.Kept.{Kept, StandsFor}

-- the file under the name, if there is one, begins with these bytes
abbrev pub IsFrontUnder : List ℕ → List ℕ → List DeskFile → Type 0
IsFrontUnder name front files = (bytes : List ℕ) → bytes_under name files ≡ Some bytes → front ≡ take (length front) bytes

-- a reader has read so many first bytes of the file under the name
pub record HasRead (name : List ℕ) (files : Option (List DeskFile)) (from : ℕ) (reader : Option Kept) : Type 0 where
  pub front : List ℕ
  pub count : length front ≡ from
  pub stands : StandsFor reader front
  pub held : IfSome files (IsFrontUnder name front)

-- a reader has read a text whole, of at most so many bytes: where files are told, that of the file under the name
pub record HasReadAll (name : List ℕ) (limit : ℕ) (files : Option (List DeskFile)) (reader : Option Kept) : Type 0 where
  pub text : List ℕ
  pub short : length text ≤ limit
  pub stands : StandsFor reader text
  pub held : IfSome files (IsHeldUnder name text)
