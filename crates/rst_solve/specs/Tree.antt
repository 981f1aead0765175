-- Where a search stands in the tree of decisions. The deepest decision comes first.
use Rattle.std.specs.Prelude.{◌≡◌, ℕ, ◌<◌, ◌≤◌, ℤ, false, List, [], ◌∷◌, ◌++◌, length, take, map, replicate, slice_set}
use Rattle.std.specs.List.{Contains}
use Rattle.rst_value.specs.declared.tern.Tern.{Tern}
use Rattle.rst_value.specs.declared.tern.Tern.TheVariants.{Unknown}
use Rattle.rst_value.specs.Terns.{known}
use Rattle.rst_clause.specs.Literals.{opposite}
use Rattle.rst_clause.specs.Propagation.{AllDerived, units}
use Rattle.rst_clause.specs.Operations.{IsDefined}
use Rattle.rst_clause.specs.Extension.{literal_of}
use Rattle.rst_clause.specs.Trails.{IsComplete, AllFalse}
use Rattle.rst_solve.specs.Choices.{AllKnownTo, IsOpen}
use Rattle.rst_solve.specs.declared.levels.Level.{Level}
use Rattle.rst_solve.specs.declared.tree.Tree.{Tree}

-- the clauses define the variables up to vars over the free bits, and ask more
pub record ArePosed (free vars : ℕ) (clauses : List (List ℤ)) : Type 0 where
  pub fixed : List (List ℤ)
  pub required : List (List ℤ)
  pub parts : clauses ≡ fixed ++ required
  pub defined : ∥ IsDefined free vars fixed ∥₁

-- the literal that was decided, and that of the value 0
abbrev pub decided : Level → ℤ
decided l = literal_of l.value l.bit

abbrev pub low : Level → ℤ
low l = literal_of false l.bit

abbrev pub decisions : List Level → List ℤ
decisions levels = map decided levels

-- the clause that says that one of the literals is false
abbrev pub denied : List ℤ → List ℤ
denied lits = map opposite lits

-- the path of the decisions
abbrev pub path_of : ℕ → List Level → List Tern
path_of free [] = replicate free Unknown
path_of free (l ∷ levels) = slice_set (path_of free levels) l.bit (known l.value)

-- the decisions stand, and all that stands follows from them by unit propagation
pub record Stands (clauses : List (List ℤ)) (decided lits : List ℤ) : Type 0 where
  pub has : (k : ℤ) → Contains decided k → Contains lits k
  pub derived : AllDerived (units decided ++ clauses) lits

-- before the decision propagation was complete, the bits below it were known, and it was open
pub record IsLevel (free : ℕ) (clauses : List (List ℤ)) (l : Level) (lits : List ℤ) : Type 0 where
  pub bit : l.bit < free
  pub floor : l.floor ≤ length lits
  pub complete : IsComplete (take l.floor lits) clauses
  pub known : AllKnownTo (take l.floor lits) l.bit
  pub was_open : IsOpen (take l.floor lits) l.bit

-- what stands, decision by decision
abbrev pub IsPlace : ℕ → List (List ℤ) → List Level → List ℤ → Type 0
IsPlace free clauses [] lits = Stands clauses [] lits
IsPlace free clauses (l ∷ levels) lits =
    Stands clauses (decisions (l ∷ levels)) lits × IsLevel free clauses l lits × IsPlace free clauses levels (take l.floor lits)

-- the parts of a search that say where it stands
pub record IsAt (free vars : ℕ) (clauses : List (List ℤ)) (t : Tree) : Type 0 where
  pub range : t.trail.vars ≡ vars
  pub path : t.path.items ≡ path_of free t.levels
  pub place : IsPlace free clauses t.levels t.trail.lits

-- a clause is false
abbrev pub HasFalse : List (List ℤ) → List ℤ → Type 0
HasFalse clauses lits = (c : List ℤ) × Contains clauses c × AllFalse lits c
