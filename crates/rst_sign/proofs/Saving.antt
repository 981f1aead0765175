-- A certificate that is saved whole stands under its name.
use Rattle.std.proofs.Common.{List, ℕ, Option, Some, None, true}
use Rattle.std.specs.Prelude.{IfSome}
use Rattle.rst_outside.specs.declared.desk.DeskFile.{DeskFile}
use Rattle.rst_outside.specs.Files.{IsHeldUnder, SavesPiece, ChangesOnly}

pub stands : (name text : List ℕ) (old new : Option (List DeskFile)) → SavesPiece name true text old new → ChangesOnly name old new → IfSome new (IsHeldUnder name text)
stands name text None None saves others = tt
stands name text None (Some new) saves others = absurd others
stands name text (Some old) None saves others = tt
stands name text (Some old) (Some new) saves others = saves
