-- What may be posed, and what the code leaves of the domain that it poses in.
use Rattle.std.specs.Prelude.{◌≡◌, ℕ, ◌+◌, ◌≤◌, ℤ, List, ◌++◌, length}
use Rattle.rst_value.specs.Domains.{Content}
use Rattle.rst_gate.specs.Machine.{IsWord}
use Rattle.rst_gate.specs.Patterns.{IsPattern}
use Rattle.rst_gate.specs.Circuits.{Circuit}
use Rattle.rst_clause.specs.Literals.{AreLiterals}
use Rattle.rst_clause.specs.declared.clauses.Clauses.{Clauses}
use Rattle.rst_clause.specs.declared.clause_domain.ClauseDomain.{ClauseDomain}
use Rattle.rst_pair.specs.declared.query.Query.{Query}
use Rattle.rst_pair.specs.declared.query.Query.TheVariants.{Split, Land, LandFree, Escape, Stuck}
use Rattle.rst_pair.specs.Sides.{Sides, left_machine}
use Rattle.rst_pair.specs.Fronts.{Front', IsFront}
use Rattle.rst_pose.specs.declared.gate.Cycle.{Cycle}
use Rattle.rst_pose.specs.Posed.{Framed, Asked, Posed}

-- the inputs of the query's word or pattern are those of the pair
abbrev pub IsQueryOf : Sides → Query → Type 0
IsQueryOf p Split = Unit {0}
IsQueryOf p (Land word) = IsWord (left_machine p) word
IsQueryOf p (LandFree pattern) = IsPattern (left_machine p) pattern
IsQueryOf p Escape = Unit {0}
IsQueryOf p Stuck = Unit {0}

-- how many cycles the query speaks of by a word or a pattern
abbrev pub cycles_of : Query → ℕ
cycles_of Split = 0
cycles_of (Land word) = length word
cycles_of (LandFree pattern) = length pattern
cycles_of Escape = 0
cycles_of Stuck = 0

-- gates within the limits; gates have a next edge for each of their states
pub record IsSmall (c : Circuit) : Type 0 where
  pub gates : length c.gates ≤ 16384
  pub states : c.states ≤ 512
  pub nexts : length c.nexts ≤ 512
  pub inputs : c.inputs ≤ 256
  pub outs : length c.outs ≤ 256

-- a pair and a front within the limits
pub record IsWithin (p : Sides) (f : Front') : Type 0 where
  pub left : IsSmall p.left
  pub right : IsSmall p.right
  pub front : IsFront p f
  pub blocked : length f.blocked ≤ 100000
  pub freed : length f.freed ≤ 100000

-- a query within the limits, so that it takes fewer than 2 ^ 29 variables
pub record IsPosable (p : Sides) (f : Front') (query : Query) : Type 0 where
  pub within : IsWithin p f
  pub speaks : IsQueryOf p query
  pub cycles : cycles_of query ≤ 128

-- what is asked: how many bits are free, the fixed clauses, and the required ones
abbrev pub posed_of : Clauses → Posed
posed_of clauses = record { free = clauses.free; fixed = clauses.fixed; required = clauses.required }

-- at most so many further variables; what is free and what is required is as before
pub record Grows (n : ℕ) (old new : ClauseDomain) : Type 0 where
  pub least : old.clauses.vars ≤ new.clauses.vars
  pub most : new.clauses.vars ≤ old.clauses.vars + n
  pub free : new.clauses.free ≡ old.clauses.free
  pub required : new.clauses.required ≡ old.clauses.required

-- the domain has what is asked, with at most so many further variables
pub record Asks (n : ℕ) (asked : Asked) (old new : ClauseDomain) : Type 0 where
  pub fixed : new.clauses.fixed ≡ asked.fixed
  pub required : new.clauses.required ≡ old.clauses.required ++ asked.required
  pub free : new.clauses.free ≡ old.clauses.free
  pub least : old.clauses.vars ≤ new.clauses.vars
  pub most : new.clauses.vars ≤ old.clauses.vars + n

-- these clauses are required too; all else is as before
pub record Requires (clauses : List (List ℤ)) (old new : ClauseDomain) : Type 0 where
  pub required : new.clauses.required ≡ old.clauses.required ++ clauses
  pub fixed : new.clauses.fixed ≡ old.clauses.fixed
  pub free : new.clauses.free ≡ old.clauses.free
  pub vars : new.clauses.vars ≡ old.clauses.vars

-- what a cycle of both sides gives, and the content behind it
abbrev pub framed_by : Cycle → Content → Framed
framed_by cycle content = record {
  left_outs = cycle.left.outs;
  left_nexts = cycle.left.nexts;
  right_outs = cycle.right.outs;
  right_nexts = cycle.right.nexts;
  behind = content;
}

-- a cycle of the pair, all of whose literals are of the variables 1 to vars
pub record IsCycleOf (p : Sides) (vars : ℕ) (cycle : Cycle) : Type 0 where
  pub left_outs : AreLiterals vars cycle.left.outs
  pub left_nexts : AreLiterals vars cycle.left.nexts
  pub right_outs : AreLiterals vars cycle.right.outs
  pub right_nexts : AreLiterals vars cycle.right.nexts
  pub each_left_out : length cycle.left.outs ≡ length p.left.outs
  pub each_left_next : length cycle.left.nexts ≡ p.left.states
  pub each_right_out : length cycle.right.outs ≡ length p.right.outs
  pub each_right_next : length cycle.right.nexts ≡ p.right.states
  pub same_outs : length cycle.left.outs ≡ length cycle.right.outs
