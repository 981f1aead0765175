-- What is known of the hops and the work so far, while the relation is refined.
use Rattle.std.specs.Prelude.{◌≡◌, ℕ, ◌<◌, ◌≤◌, ◌+◌, ℤ, Bool, true, false, List, [], ◌∷◌, ◌++◌, length, take, slice_index_or, ◌⊎◌}
use Rattle.rst_value.specs.declared.tern.Tern.{Tern}
use Rattle.rst_clause.specs.Results.{largest}
use Rattle.rst_solve.specs.declared.solver.Answer.{Answer}
use Rattle.rst_solve.specs.Answers.{AnswersTo}
use Rattle.rst_pair.specs.declared.hop.Hop.{Hop}
use Rattle.rst_pair.specs.declared.query.Query.TheVariants.{Split}
use Rattle.rst_pair.specs.declared.query.Kind.TheVariants as kind
use Rattle.rst_pair.specs.declared.journal.Entry.{Entry}
use Rattle.rst_pair.specs.declared.journal.Entry.TheVariants.{Conflict, Blocked}
use Rattle.rst_pair.specs.Sides.{Sides, left_machine, right_machine, IsPair}
use Rattle.rst_pair.specs.Aims.{LiesInSome}
use Rattle.rst_pair.specs.Hops.{cubes_of}
use Rattle.rst_pair.specs.Fronts.{Front', IsRelated}
use Rattle.rst_pose.specs.Posed.{posed}
use Rattle.rst_pose.specs.Works.{Search, blocked_of, freed_of, paths_of, phase, IsTrueEntry}
use Rattle.rst_pairinv.specs.declared.block.Refining.{Refining}
use Rattle.rst_pairinv.specs.declared.hops.Cycle.{Cycle}
use Rattle.rst_pairinv.specs.Blocking.{AreBlocked}

-- the outputs differ, or the successors lie in a blocked cube
abbrev pub Leaves : Sides → List Hop → List Bool → List Bool → List Bool → Type 0
Leaves p blocked input s t = ((left_machine p).out s input ≡ (right_machine p).out t input → ⊥)
    ⊎ LiesInSome (cubes_of blocked) ((left_machine p).step s input) ((right_machine p).step t input)

-- a related pair that the input leads out of the relation
pub record IsCasePart (p : Sides) (f : Front') (x s t : List Bool) : Type 0 where
  pub width : length x ≡ p.left.inputs
  pub states : IsPair p s t
  pub related : IsRelated f s t
  pub leaves : Leaves p f.blocked x s t

-- whether the outputs of the pair differ under the input, and its successors
pub record IsCycle (p : Sides) (input s t : List Bool) (it : Cycle) : Type 0 where
  pub apart : it.differ ≡ true → (left_machine p).out s input ≡ (right_machine p).out t input → ⊥
  pub alike : it.differ ≡ false → (left_machine p).out s input ≡ (right_machine p).out t input
  pub successors : it.successors ≡ (left_machine p).step s input ++ (right_machine p).step t input
  pub count : length it.successors ≡ p.left.states + p.right.states

-- a search that reads no more than the pair and the marked registers
abbrev pub plain_search : Sides → List Bool → Search
plain_search p equal = record { sides = p; finds = false; equal = equal; pattern = []; bound = 0 }

-- each entry is one of splitting, and is true and new behind those before it
pub record IsSplitEntry (p : Sides) (equal : List Bool) (before : List Entry) (entry : Entry) : Type 0 where
  pub phase : phase entry ≡ 1
  pub true_one : IsTrueEntry (plain_search p equal) before entry

abbrev pub AreSplitting : Sides → List Bool → List Entry → Type 0
AreSplitting p equal entries =
    (i : ℕ) (d : Entry) → i < length entries → IsSplitEntry p equal (take i entries) (slice_index_or entries i d)

-- the hops and the work so far belong together
pub record IsRefining (p : Sides) (it : Refining) : Type 0 where
  pub count : length it.front.equal ≡ p.left.states
  pub none_freed : it.front.freed ≡ []
  pub hops : AreBlocked p it.front.blocked
  pub blocked : blocked_of it.journal ≡ it.front.blocked
  pub freed : freed_of it.journal ≡ []
  pub work : AreSplitting p it.front.equal it.journal

-- no path of the next question is noted yet
abbrev pub IsFresh : List Entry → Type 0
IsFresh entries = paths_of kind.Split [] entries ≡ []

-- hops and work stay together, and none of them goes
pub record GoesOn (p : Sides) (before now : Refining) : Type 0 where
  pub at : IsRefining p now
  pub fresh : IsFresh now.journal
  pub equal : now.front.equal ≡ before.front.equal
  pub least : length before.journal ≤ length now.journal

-- the hop joins the blocked ones, and its entry the work
pub record Notes (hop : Hop) (pair : List Bool) (before now : Refining) : Type 0 where
  pub front : now.front ≡ record { equal = before.front.equal; blocked = before.front.blocked ++ hop ∷ []; freed = before.front.freed }
  pub journal : now.journal ≡ before.journal ++ Blocked hop pair ∷ []

abbrev pub conflict_of : List Tern → Entry
conflict_of path = Conflict kind.Split path

-- the clauses that are posed for splitting
abbrev pub clauses_posed : Sides → Front' → List (List ℤ)
clauses_posed p f = (posed p f Split).fixed ++ (posed p f Split).required

-- what a search of these clauses answers
abbrev pub AnswersSplit : Sides → Front' → ℕ → Answer → Type 0
AnswersSplit p f left answer = AnswersTo (posed p f Split).free (largest (posed p f Split).fixed) (clauses_posed p f) left answer
