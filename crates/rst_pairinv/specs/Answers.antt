-- The parts of what refining answers.
use Rattle.std.specs.Prelude.{ℤ, List}
use Rattle.rst_pair.specs.declared.hop.Hop.{Hop}
use Rattle.rst_pair.specs.declared.journal.Entry.{Entry}
use Rattle.rst_pairinv.specs.declared.refining.Refined.{Refined}
use Rattle.rst_pairinv.specs.declared.refining.Refined.TheVariants.{Done, Spent}

abbrev pub blocked_in : Refined → List Hop
blocked_in (Done blocked log journal) = blocked.items
blocked_in (Spent blocked journal) = blocked.items

abbrev pub journal_in : Refined → List Entry
journal_in (Done blocked log journal) = journal
journal_in (Spent blocked journal) = journal

abbrev pub IsDone : Refined → Type 0
IsDone (Done blocked log journal) = Unit {0}
IsDone (Spent blocked journal) = ⊥

abbrev pub IsSpent : Refined → Type 0
IsSpent (Done blocked log journal) = ⊥
IsSpent (Spent blocked journal) = Unit {0}

-- where it is done, this holds of its log
abbrev pub WithLog : Refined → (List (List ℤ) → Type 0) → Type 0
WithLog (Done blocked log journal) P = P log
WithLog (Spent blocked journal) P = Unit {0}
