-- What landing decides of a refined relation.
use Rattle.std.proofs.Common.{◌≡◌, ◌∙◌, ℕ, ◌≤◌, ℤ, Bool, List, [], ◌++◌, length, refl, ap, sym, subst, arith}
use Rattle.rst_value.specs.declared.tern.Tern.{Tern}
use Rattle.rst_gate.specs.Circuits.{Circuit}
use Rattle.rst_gate.specs.GateMachines.{machine_of}
use Rattle.rst_gate.specs.Patterns.{PatternSigns}
use Rattle.rst_clause.specs.Propagation.{IsRefutation}
use Rattle.rst_pair.specs.declared.hop.Hop.{Hop}
use Rattle.rst_pair.specs.declared.query.Query.TheVariants.{Split}
use Rattle.rst_pair.specs.declared.journal.Entry.{Entry}
use Rattle.rst_pair.specs.Sides.{AreSides}
use Rattle.rst_pair.specs.Fronts.{Front'}
use Rattle.rst_pair.specs.Hops.{word_of}
use Rattle.rst_pose.specs.Works.{blocked_of}
use Rattle.rst_pairinv.specs.Blocking.{AreBlocked}
use Rattle.rst_pairinv.specs.Refining.{Refutes, IsExact, KeepsWork, front_with}
use Rattle.rst_pairinv.proofs.Blocked.{are_hops}
use Rattle.rst_landing.specs.Work.{IsLandWork}
use Rattle.rst_landing.specs.Landings.{EndsInside, IsLanding, land_clauses, land_variables}
use Rattle.rst_replay.specs.Refutations.{IsRefutedBy}
use Rattle.rst_replay.proofs.Apart.{inside_aligns, landed_refutes}
use Rattle.rst_relation.specs.Decisions.{one_design, AreMarkedBehind, IsCheckWork}
use Rattle.rst_relation.proofs.Working.{joined_works}
use Rattle.rst_relation.specs.Deciding.{IsRefined}
use Rattle.rst_relation.proofs.Marked.{are_right}

-- the front has no freed hop
pub plain_front : (f : Front') → f.freed ≡ [] → f ≡ front_with f.equal f.blocked
plain_front f none = ap (λ (hops : List Hop). record { equal = f.equal; blocked = f.blocked; freed = hops }) none

module _ (c : Circuit) (pattern : List (List Tern)) (budget : ℕ) (f : Front') (split : List (List ℤ)) (journal : List Entry)
    (sides : AreSides (one_design c)) (refined : IsRefined c pattern budget f split journal) where
  pub signs : EndsInside (one_design c) f pattern → PatternSigns (machine_of c) pattern
  signs inside = inside_aligns (one_design c) f pattern sides (λ s t pair related. ((refined.exact s t pair).0 related).0) inside

  pub refutes_by :
      (a b : List Bool) (fill : List (List Bool)) (cube : ℕ) → IsLanding (one_design c) f pattern a b fill cube
      → IsRefutedBy (one_design c) pattern fill a b (word_of f.blocked cube)
  refutes_by a b fill cube lands =
      landed_refutes (one_design c) f pattern a b fill cube sides (are_hops (one_design c) f.blocked refined.hops) (are_right c f.blocked refined.hops) lands

  pub split_log : Refutes (one_design c) (front_with f.equal f.blocked) Split split
  split_log = subst (λ (g : Front'). Refutes (one_design c) g Split split) (plain_front f refined.none_freed) refined.refutes

  pub land_log :
      (log : List (List ℤ)) → IsRefutation (land_variables (one_design c) f pattern) (land_clauses (one_design c) f pattern) log
      → IsRefutation (land_variables (one_design c) (front_with f.equal f.blocked) pattern) (land_clauses (one_design c) (front_with f.equal f.blocked) pattern) log
  land_log log h =
      subst (λ (g : Front'). IsRefutation (land_variables (one_design c) g pattern) (land_clauses (one_design c) g pattern) log)
      (plain_front f refined.none_freed) h

-- the work of refining and that of landing behind it, with the marked registers
pub joined_work :
    (c : Circuit) (pattern : List (List Tern)) (budget : ℕ) (f : Front') (equal : List Bool) (split : List (List ℤ)) (journal more all : List Entry) (left : ℕ)
    → IsRefined c pattern budget f split journal → equal ≡ f.equal → IsLandWork (one_design c) f pattern left more → all ≡ journal ++ more
    → AreMarkedBehind c pattern equal × IsCheckWork c pattern equal all
joined_work c pattern budget f equal split journal more all left refined same work is = (
  subst (λ (marks : List Bool). AreMarkedBehind c pattern marks) (sym same) refined.marked,
  subst (λ (marks : List Bool). IsCheckWork c pattern marks all) (sym same) (joined_works c f pattern left journal more all refined.work refined.blocked work is),
)

-- what refining answers is a refined relation
pub is_refined :
    (c : Circuit) (pattern : List (List Tern)) (budget : ℕ) (equal : List Bool) (blocked : List Hop) (f : Front') (split : List (List ℤ))
    (journal : List Entry) → f ≡ front_with equal blocked → AreMarkedBehind c pattern equal → AreBlocked (one_design c) blocked
    → KeepsWork (one_design c) equal journal → blocked_of journal ≡ blocked → length journal ≤ budget
    → Refutes (one_design c) (front_with equal blocked) Split split → IsExact (one_design c) (front_with equal blocked)
    → IsRefined c pattern budget f split journal
is_refined c pattern budget equal blocked f split journal same marked hops work is few refutes exact =
    subst (λ (g : Front'). IsRefined c pattern budget g split journal) (sym same) (record {
      marked = marked;
      none_freed = refl;
      hops = hops;
      work = work;
      blocked = is;
      few = few;
      refutes = refutes;
      exact = exact;
    })
