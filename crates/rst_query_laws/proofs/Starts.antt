-- The clauses before the gates, and what a query is asked to mean.
use Rattle.std.proofs.Common.{◌≡◌, ◌↔◌, ℕ, suc, ◌+◌, Bool, false, not, List, length, sym, ap, subst, arith}
use Rattle.rst_clause.specs.Literals.{opposite, Solves, AreClauses}
use Rattle.rst_clause.specs.Standing.{BeginsWith}
use Rattle.rst_clause.specs.Operations.{IsDefined}
use Rattle.rst_clause.specs.Results.{largest}
use Rattle.rst_clause.proofs.Ranges.{largest_is, defined_start}
use Rattle.rst_clause.proofs.Extending.{false_value}
use Rattle.rst_pair.specs.declared.query.Query.{Query}
use Rattle.rst_pair.specs.Sides.{Sides}
use Rattle.rst_pair.specs.Fronts.{Front'}
use Rattle.rst_pair.specs.Queries.{IsQueryCase}
use Rattle.rst_pose.specs.Posed.{first_clauses, true_literal, posed}
use Rattle.rst_query_laws.proofs.Meaning.{Ready}
use Rattle.rst_query_laws.proofs.Cubes.{IsHigh}
use Rattle.rst_query_laws.proofs.Runs.{IsLow}

pub start_top : (free : ℕ) → largest (first_clauses free) ≡ free + 1
start_top free = largest_is free (free + 1) (first_clauses free) (defined_start free)

pub start_ready : (free : ℕ) → Ready free (first_clauses free)
start_ready free = subst (λ (k : ℕ). IsDefined free k (first_clauses free)) (sym (start_top free)) (defined_start free)

start_false : (free : ℕ) (v : ℕ → Bool) → Solves v (first_clauses free) → v (suc free) ≡ false
start_false free v s = false_value free (largest (first_clauses free)) (first_clauses free) ∣ start_ready free ∣₁ v s

pub start_high : (free : ℕ) → IsHigh free (first_clauses free) (true_literal free)
start_high free = record {
  ready = start_ready free;
  held = (omega arith, omega (arith, start_top free));
  holds = λ v s. ap not (start_false free v s);
}

pub start_low : (free : ℕ) → IsLow free (first_clauses free) (opposite (true_literal free))
start_low free = record {
  ready = start_ready free;
  held = (omega arith, omega (arith, start_top free));
  fails = λ v s. start_false free v s;
}

-- the posed clauses are those of gates and requirements on them, and exact
pub record IsExact (p : Sides) (f : Front') (query : Query) : Type 0 where
  pub ready : Ready (posed p f query).free (posed p f query).fixed
  pub held : AreClauses (largest (posed p f query).fixed) (posed p f query).required
  pub exact : (bits : List Bool) (v : ℕ → Bool) → length bits ≡ (posed p f query).free → BeginsWith (posed p f query).free bits v
      → Solves v (posed p f query).fixed → Solves v (posed p f query).required ↔ IsQueryCase p f query bits
