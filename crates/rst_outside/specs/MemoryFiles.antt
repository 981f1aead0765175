-- The files of a desk in memory behind a piece.
use Rattle.std.specs.Prelude.{◌++◌, ℕ, List, [], ◌∷◌, bytes_eq, Bool, if◌then◌else◌, Option}
use Rattle.rst_outside.specs.declared.desk.DeskFile.{DeskFile}
use Rattle.rst_outside.specs.Files.{bytes_under, bytes_before}
use Rattle.rst_outside.specs.SureRoom.{SureRoom}

-- the files and the room of a desk in memory
pub record StoreState : Type 0 where
  pub files : List DeskFile
  pub room : Option SureRoom

-- the files without that of a name
abbrev pub without : List ℕ → List DeskFile → List DeskFile
without name [] = []
without name (file ∷ files) = if bytes_eq file.name name then without name files else file ∷ without name files

-- the files with a piece saved under the name
abbrev pub with_piece : List ℕ → Bool → List ℕ → List DeskFile → List DeskFile
with_piece name first piece files = record { name = name; bytes = bytes_before first (bytes_under name files) ++ piece } ∷ without name files
