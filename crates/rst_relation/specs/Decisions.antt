-- What `check` decides of a pattern where three values leave a register unknown behind it.
use Rattle.std.specs.Prelude.{◌≡◌, ℕ, Bool, true, false, List, length, map}
use Rattle.rst_value.specs.declared.tern.Tern.{Tern}
use Rattle.rst_value.specs.declared.tern.Tern.TheVariants.{Zero, One, Unknown}
use Rattle.rst_gate.specs.Circuits.{Circuit}
use Rattle.rst_gate.specs.ClosedSets.{IsWithin, IsClosedSet}
use Rattle.rst_gate.specs.GateMachines.{terns_of}
use Rattle.rst_clause.specs.Propagation.{IsRefutation}
use Rattle.rst_pair.specs.declared.query.Query.TheVariants.{Split}
use Rattle.rst_pair.specs.declared.journal.Entry.{Entry}
use Rattle.rst_pair.specs.Sides.{Sides}
use Rattle.rst_pose.specs.Works.{AreWork}
use Rattle.rst_pairinv.specs.Blocking.{AreBlocked}
use Rattle.rst_pairinv.specs.Refining.{Refutes, front_with}
use Rattle.rst_landing.specs.Landings.{known_behind, land_clauses, land_variables}
use Rattle.rst_landing.specs.Work.{checking}
use Rattle.rst_replay.specs.Refutations.{IsRefutedBy}
use Rattle.rst_relation.specs.declared.decision.Decision.{Decision}
use Rattle.rst_relation.specs.declared.decision.Decision.TheVariants.{Signed, Refuted, Unknown as Undecided}

-- both sides are the same gates
abbrev pub one_design : Circuit → Sides
one_design c = record { left = c; right = c }

-- whether a place is a bit
abbrev pub is_bit : Tern → Bool
is_bit Zero = true
is_bit One = true
is_bit Unknown = false

-- of each register, whether it is known behind the pattern, from the state of all X, with X at each free bit
abbrev pub known_registers : Circuit → List (List Tern) → List Bool
known_registers c pattern = map is_bit (known_behind (terns_of c) pattern)

-- The marked registers: the largest set of registers that are known behind the pattern whose next values depend on inputs
-- and on registers of the set alone.
pub record AreMarkedBehind (c : Circuit) (pattern : List (List Tern)) (equal : List Bool) : Type 0 where
  pub known : IsWithin equal (known_registers c pattern)
  pub closed : IsClosedSet c equal
  pub largest : (other : List Bool) → IsWithin other (known_registers c pattern) → IsClosedSet c other → IsWithin other equal

-- the entries are work of a search that checks the pattern, with these registers marked
abbrev pub IsCheckWork : Circuit → List (List Tern) → List Bool → List Entry → Type 0
IsCheckWork c pattern equal entries = (bound : ℕ) → AreWork (checking (one_design c) equal pattern bound) entries

-- the work of the decision
abbrev pub journal_in : Decision → List Entry
journal_in (Signed equal blocked split land journal) = journal
journal_in (Refuted seq a b word journal) = journal
journal_in (Undecided equal journal) = journal

abbrev pub IsSigned : Decision → Type 0
IsSigned (Signed equal blocked split land journal) = Unit {0}
IsSigned (Refuted seq a b word journal) = ⊥
IsSigned (Undecided equal journal) = ⊥

abbrev pub IsRefuted : Decision → Type 0
IsRefuted (Signed equal blocked split land journal) = ⊥
IsRefuted (Refuted seq a b word journal) = Unit {0}
IsRefuted (Undecided equal journal) = ⊥

abbrev pub IsUnknown : Decision → Type 0
IsUnknown (Signed equal blocked split land journal) = ⊥
IsUnknown (Refuted seq a b word journal) = ⊥
IsUnknown (Undecided equal journal) = Unit {0}

-- the journal is work with the marked registers, which are those that Signed and Unknown name
abbrev pub HasWork : Circuit → List (List Tern) → Decision → Type 0
HasWork c pattern (Signed equal blocked split land journal) = AreMarkedBehind c pattern equal × IsCheckWork c pattern equal journal
HasWork c pattern (Refuted seq a b word journal) = (equal : List Bool) × AreMarkedBehind c pattern equal × IsCheckWork c pattern equal journal
HasWork c pattern (Undecided equal journal) = AreMarkedBehind c pattern equal × IsCheckWork c pattern equal journal

-- each blocked hop of Signed is right, passes and is widest behind those before it
abbrev pub HasHops : Circuit → Decision → Type 0
HasHops c (Signed equal blocked split land journal) = AreBlocked (one_design c) blocked.items
HasHops c (Refuted seq a b word journal) = Unit {0}
HasHops c (Undecided equal journal) = Unit {0}

-- the first log of Signed refutes that a related pair splits
abbrev pub HasSplitLog : Circuit → Decision → Type 0
HasSplitLog c (Signed equal blocked split land journal) = Refutes (one_design c) (front_with equal blocked.items) Split split
HasSplitLog c (Refuted seq a b word journal) = Unit {0}
HasSplitLog c (Undecided equal journal) = Unit {0}

-- the second log of Signed refutes that a pair of power-up states lies in a blocked cube behind a filling
abbrev pub HasLandLog : Circuit → List (List Tern) → Decision → Type 0
HasLandLog c pattern (Signed equal blocked split land journal) =
    let p = one_design c in
    let f = front_with equal blocked.items in
    IsRefutation (land_variables p f pattern) (land_clauses p f pattern) land
HasLandLog c pattern (Refuted seq a b word journal) = Unit {0}
HasLandLog c pattern (Undecided equal journal) = Unit {0}

-- behind the filling of Refuted the word tells its two power-up states apart by their outputs
abbrev pub HasRefutation : Circuit → List (List Tern) → Decision → Type 0
HasRefutation c pattern (Signed equal blocked split land journal) = Unit {0}
HasRefutation c pattern (Refuted seq a b word journal) = IsRefutedBy (one_design c) pattern seq a b word
HasRefutation c pattern (Undecided equal journal) = Unit {0}
