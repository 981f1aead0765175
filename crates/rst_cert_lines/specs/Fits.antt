-- What lines may say.
use Rattle.std.specs.Prelude.{◌≡◌, ◌<◌, ◌+◌, ◌^◌, ℕ, ℤ, pos, negsuc, true, Option, None, Some, List, [], ◌∷◌, length}
use Rattle.rst_pair.specs.declared.hop.Hop.{Hop}
use Rattle.rst_pair.specs.declared.journal.Entry.{Entry}
use Rattle.rst_pair.specs.declared.journal.Entry.TheVariants.{Candidate, Conflict, Blocked, Freed, Built}
use Rattle.rst_cert_lines.specs.declared.lines.Shape.{Shape}
use Rattle.rst_cert_lines.specs.declared.lines.Place.{Place}
use Rattle.rst_cert_lines.specs.Readers.{fits_query}

-- a number ends at a space or at the end
abbrev pub Ends : List ℕ → Type 0
Ends [] = Unit {0}
Ends (b ∷ text) = b ≡ 32

-- a literal is a number of 32 bits other than 0
abbrev pub IsLiteral : ℤ → Type 0
IsLiteral (pos n) = (0 < n) × (n < 2 ^ 31)
IsLiteral (negsuc n) = n < 2 ^ 31

-- a next hop is one of those before
abbrev pub IsEarlier : ℕ → Option ℕ → Type 0
IsEarlier before None = Unit {0}
IsEarlier before (Some next) = next < before

-- a hop whose cube, input and next hop fit
pub record HopFits (shape : Shape) (before : ℕ) (hop : Hop) : Type 0 where
  pub cube : length hop.cube ≡ shape.registers + shape.registers
  pub input : length hop.input ≡ shape.inputs
  pub next : IsEarlier before hop.next

-- a unit of work that fits at its place
abbrev pub EntryFits : Place → Entry → Type 0
EntryFits place (Candidate input level) = input < 2 ^ 32
EntryFits place (Conflict kind cube) = fits_query place.shape place.marked place.free kind (length cube) ≡ true
EntryFits place (Blocked hop pair) = HopFits place.shape place.blocked hop × (length pair ≡ place.shape.registers + place.shape.registers)
EntryFits place (Freed hop pair) = HopFits place.shape place.freed hop × (length pair ≡ place.shape.registers + place.shape.registers)
EntryFits place (Built a b) = (length a ≡ place.shape.registers) × (length b ≡ place.shape.registers)
