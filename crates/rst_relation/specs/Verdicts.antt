-- What `check` answers of a pattern, verdict by verdict, and on what evidence.
use Rattle.std.specs.Prelude.{◌≡◌, ℕ, ◌<◌, ℤ, Bool, List, length}
use Rattle.rst_value.specs.declared.tern.Tern.{Tern}
use Rattle.rst_gate.specs.Circuits.{Circuit}
use Rattle.rst_gate.specs.GateMachines.{machine_of}
use Rattle.rst_gate.specs.Patterns.{PatternSigns}
use Rattle.rst_clause.specs.Propagation.{IsRefutation}
use Rattle.rst_pair.specs.declared.hop.Hop.{Hop}
use Rattle.rst_pair.specs.declared.query.Query.TheVariants.{Split}
use Rattle.rst_pair.specs.declared.journal.Entry.{Entry}
use Rattle.rst_pairinv.specs.Blocking.{AreBlocked}
use Rattle.rst_pairinv.specs.Refining.{Refutes, front_with}
use Rattle.rst_landing.specs.Landings.{land_clauses, land_variables}
use Rattle.rst_replay.specs.Refutations.{IsRefutedBy}
use Rattle.rst_verdict.specs.declared.verdict.Verdict.{Verdict}
use Rattle.rst_verdict.specs.declared.verdict.Verdict.TheVariants.{SignedKnown, SignedRelation, Refuted, Never, Alignable, Unknown}
use Rattle.rst_relation.specs.declared.decision.Decision.{Decision}
use Rattle.rst_relation.specs.declared.decision.Decision.TheVariants.{Signed, Refuted as Told, Unknown as Undecided}
use Rattle.rst_relation.specs.Decisions.{one_design, AreMarkedBehind, IsCheckWork}

-- A relation that signs the pattern: the marked registers, hops that are right, pass and are widest, a log which refutes that
-- a related pair splits, and one which refutes that a pair of power-up states lies in a blocked cube behind a filling.
pub record IsRelation (c : Circuit) (pattern : List (List Tern)) (equal : List Bool) (blocked : List Hop) (split land : List (List ℤ)) : Type 0 where
  pub marked : AreMarkedBehind c pattern equal
  pub hops : AreBlocked (one_design c) blocked
  pub keeps : Refutes (one_design c) (front_with equal blocked) Split split
  pub lands : let p = one_design c in
      let f = front_with equal blocked in
      IsRefutation (land_variables p f pattern) (land_clauses p f pattern) land
  -- every filling of the pattern aligns every two power-up states
  pub signs : PatternSigns (machine_of c) pattern

-- all of the budget is spent: the entries are work with the marked registers, and exactly as many as the budget allows
pub record IsAllWork (c : Circuit) (pattern : List (List Tern)) (budget : ℕ) (equal : List Bool) (journal : List Entry) : Type 0 where
  pub marked : AreMarkedBehind c pattern equal
  pub work : IsCheckWork c pattern equal journal
  pub spent : length journal ≡ budget

-- What `check` may answer of a pattern of gates within a budget, where K says whether three-valued simulation knows every
-- register behind the pattern.
abbrev pub Decides : Type 0 → Circuit → List (List Tern) → ℕ → Verdict → Type 0
Decides K c pattern budget (SignedKnown seq) = K × (seq ≡ pattern)
Decides K c pattern budget (SignedRelation seq equal blocked split land) =
    (K → ⊥) × (0 < budget) × (seq ≡ pattern) × IsRelation c pattern equal blocked split land
Decides K c pattern budget (Refuted seq a b word) = (K → ⊥) × (0 < budget) × IsRefutedBy (one_design c) pattern seq a b word
Decides K c pattern budget (Never a b blocked freed escape) = ⊥
Decides K c pattern budget (Alignable seq a b word blocked freed split stuck) = ⊥
Decides K c pattern budget (Unknown equal journal) = (K → ⊥) × IsAllWork c pattern budget equal journal

-- the verdict that a decision is: its evidence, and of the work that of an undecided pattern alone
abbrev pub verdict_of : List (List Tern) → Decision → Verdict
verdict_of pattern (Signed equal blocked split land journal) = SignedRelation pattern equal blocked.items split land
verdict_of pattern (Told seq a b word journal) = Refuted seq a b word
verdict_of pattern (Undecided equal journal) = Unknown equal journal
