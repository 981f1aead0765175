-- What a decision says is what its verdict rests on.
use Rattle.std.proofs.Common.{◌≡◌, ◌<◌, ℕ, List, length, refl}
use Rattle.rst_value.specs.declared.tern.Tern.{Tern}
use Rattle.rst_gate.specs.Circuits.{Circuit}
use Rattle.rst_gate.specs.GateMachines.{machine_of}
use Rattle.rst_gate.specs.Patterns.{PatternSigns}
use Rattle.rst_relation.specs.declared.decision.Decision.{Decision}
use Rattle.rst_relation.specs.declared.decision.Decision.TheVariants.{Signed, Refuted, Unknown}
use Rattle.rst_relation.specs.Decisions.{journal_in, IsSigned, IsUnknown, HasWork, HasHops, HasSplitLog, HasLandLog, HasRefutation}
use Rattle.rst_relation.specs.Verdicts.{Decides, verdict_of}

pub decision_decides :
    (K : Type 0) (c : Circuit) (pattern : List (List Tern)) (budget : ℕ) (d : Decision) → (K → ⊥) → HasWork c pattern d → (IsSigned d → PatternSigns (machine_of c) pattern)
    → HasHops c d → HasSplitLog c d → HasLandLog c pattern d → HasRefutation c pattern d → (IsUnknown d → length (journal_in d) ≡ budget) → ((IsUnknown d → ⊥) → 0 < budget)
    → Decides K c pattern budget (verdict_of pattern d)
decision_decides K c pattern budget (Signed equal blocked split land journal) never work signs hops keeps lands refuted spent some =
    (never, some (λ no. no), refl, record { marked = work.0; hops = hops; keeps = keeps; lands = lands; signs = signs tt })
decision_decides K c pattern budget (Refuted seq a b word journal) never work signs hops keeps lands refuted spent some = (never, some (λ no. no), refuted)
decision_decides K c pattern budget (Unknown equal journal) never work signs hops keeps lands refuted spent some =
    (never, record { marked = work.0; work = work.1; spent = spent tt })
