-- Refusals, and the lists of faults that they are the first of.
--
-- A row of the table of refusals is a function from what it looks at to the list of its faults, in the order in which the row
-- goes. The faults of a design are those of all rows, one after the other; the design is refused by the first of them, and
-- accepted where there is none.
use Rattle.std.specs.Prelude.{◌≡◌, ℕ, Bool, cond, List, [], ◌∷◌, Option, Some, None}
use Rattle.rst_tree.specs.Trees.{Text}
use Rattle.rst_names.specs.declared.faults.ElabCode.{ElabCode}
use Rattle.rst_names.specs.declared.faults.ElabFault.{ElabFault}
use Rattle.rst_names.specs.declared.faults.ElabError.{ElabError}
use Rattle.rst_names.specs.declared.faults.ElabError.TheVariants as error

-- why, where, and at which item, if the row says so
pub record Fault : Type 0 where
  pub code : ElabCode
  pub name : Text
  pub number : ℕ

abbrev pub fault_at : ElabCode → Text → ℕ → Fault
fault_at code name number = record { code = code; name = name; number = number }

-- the first of a list, if there is one
abbrev pub first : {X : Type 0} → List X → Option X
first [] = None
first (x ∷ xs) = Some x

-- a fault where the test is true
abbrev pub fault_if : Bool → ElabCode → Text → ℕ → List Fault
fault_if test code name number = cond test (fault_at code name number ∷ []) []

abbrev pub plain_fault : ElabFault → Fault
plain_fault f = fault_at f.code f.name f.number

-- an error that is this fault, unless memory ran out
pub record Tells (e : ElabError) (fault : Fault) : Type 0 where
  pub same : (f : ElabFault) → e ≡ error.Fault f → plain_fault f ≡ fault

-- an error that is the first of these faults, unless memory ran out
pub record Refuses (e : ElabError) (faults : List Fault) : Type 0 where
  pub is_first : (f : ElabFault) → e ≡ error.Fault f → first faults ≡ Some (plain_fault f)
