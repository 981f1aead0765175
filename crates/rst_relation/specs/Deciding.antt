-- What is known once the relation is refined.
use Rattle.std.specs.Prelude.{◌≡◌, ℕ, ◌≤◌, ℤ, [], List, length}
use Rattle.rst_value.specs.declared.tern.Tern.{Tern}
use Rattle.rst_gate.specs.Circuits.{Circuit}
use Rattle.rst_gate.specs.GateMachines.{machine_of}
use Rattle.rst_gate.specs.Patterns.{IsPattern}
use Rattle.rst_pair.specs.declared.query.Query.TheVariants.{Split}
use Rattle.rst_pair.specs.declared.journal.Entry.{Entry}
use Rattle.rst_pair.specs.Fronts.{Front'}
use Rattle.rst_pose.specs.Posing.{IsSmall}
use Rattle.rst_pose.specs.Works.{blocked_of}
use Rattle.rst_pairinv.specs.Blocking.{AreBlocked}
use Rattle.rst_pairinv.specs.Refining.{Refutes, IsExact, KeepsWork}
use Rattle.rst_early.specs.declared.apart.Apart.{Apart}
use Rattle.rst_relation.specs.declared.decision.Decision.{Decision}
use Rattle.rst_relation.specs.declared.decision.Decision.TheVariants.{Refuted}
use Rattle.rst_relation.specs.Decisions.{one_design, AreMarkedBehind}

-- gates and a pattern of their inputs within the limits
pub record IsAsked (c : Circuit) (pattern : List (List Tern)) : Type 0 where
  pub small : IsSmall c
  pub inputs : IsPattern (machine_of c) pattern
  pub cycles : length pattern ≤ 128

-- the relation is refined, with at most so many entries
pub record IsRefined (c : Circuit) (pattern : List (List Tern)) (budget : ℕ) (f : Front') (split : List (List ℤ)) (journal : List Entry) : Type 0 where
  pub marked : AreMarkedBehind c pattern f.equal
  pub none_freed : f.freed ≡ []
  pub hops : AreBlocked (one_design c) f.blocked
  pub work : KeepsWork (one_design c) f.equal journal
  pub blocked : blocked_of journal ≡ f.blocked
  pub few : length journal ≤ budget
  pub refutes : Refutes (one_design c) f Split split
  pub exact : IsExact (one_design c) f

-- what simulation found is the decision, without work
abbrev pub IsFound : Apart → Decision → Type 0
IsFound it d = d ≡ Refuted it.seq it.a it.b it.word []
