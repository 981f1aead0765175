-- The work of refining, and that of landing behind it.
use Rattle.std.proofs.Common.{◌≡◌, ◌∙◌, ℕ, zero, suc, ◌<◌, ◌≤◌, ◌+◌, ◌-◌, Bool, true, false, List, [], ◌∷◌, ◌++◌, length, take, refl, ap, sym, subst, arith, length-append}
use Rattle.std.specs.Prelude.{slice_index_or}
use Rattle.std.proofs.lemmas.Bool.{false≢true}
use Rattle.rst_value.specs.declared.tern.Tern.{Tern}
use Rattle.rst_value.specs.declared.tern.Tern.TheVariants.{Unknown}
use Rattle.rst_gate.specs.Circuits.{Circuit}
use Rattle.rst_pair.specs.declared.query.Kind.TheVariants as kind
use Rattle.rst_pair.specs.declared.journal.Entry.{Entry}
use Rattle.rst_pair.specs.declared.journal.Entry.TheVariants.{Candidate, Conflict, Blocked, Freed, Built}
use Rattle.rst_pair.specs.Sides.{Sides}
use Rattle.rst_pair.specs.Fronts.{Front'}
use Rattle.rst_pose.specs.Works.{Search, AreWork, IsTrueEntry, phase, blocked_of}
use Rattle.rst_pairinv.specs.Refining.{KeepsWork}
use Rattle.rst_landing.specs.Work.{checking, HasNotLanded, IsLandWork}
use Rattle.rst_relation.specs.Decisions.{one_design, IsCheckWork}

pub no_work : (r : Search) → AreWork r []
no_work r = record {
  each = λ i d below. absurd (omega (arith, below));
  phases = λ i j d lt below. absurd (omega (arith, below));
  split = λ i d below past. absurd (omega (arith, below));
  stuck = λ i d below past finds. absurd (omega (arith, below));
}

-- what refining keeps is work
pub refining_works :
    (p : Sides) (equal : List Bool) (pattern : List (List Tern)) (bound : ℕ) (journal : List Entry) → KeepsWork p equal journal
    → AreWork (checking p equal pattern bound) journal
refining_works p equal pattern bound journal keeps =
    let r : Search = checking p equal pattern bound in keeps r [] refl refl (λ i d below. absurd (omega (arith, below))) (no_work r)

-- a conflict of landing is one of a pattern, and its path has as many places as the query has free bits
has_not_landed :
    (p : Sides) (equal : List Bool) (earlier : List Entry) (entry : Entry) → IsTrueEntry (checking p equal [] 0) earlier entry
    → IsTrueEntry (checking p equal ((Unknown ∷ []) ∷ []) 0) earlier entry → phase entry < 3
has_not_landed p equal earlier (Candidate i level) a b = omega arith
has_not_landed p equal earlier (Conflict kind.Split path) a b = omega arith
has_not_landed p equal earlier (Conflict kind.Escape path) a b = omega arith
has_not_landed p equal earlier (Conflict kind.Stuck path) a b = omega arith
has_not_landed p equal earlier (Conflict kind.Land path) a b =
    let none : length path ≡ p.left.states + p.right.states + 0 = a.is_path.width in
    let one : length path ≡ p.left.states + p.right.states + 1 = b.is_path.width in
    absurd (omega (arith, none, one))
has_not_landed p equal earlier (Blocked hop pair) a b = omega arith
has_not_landed p equal earlier (Freed hop pair) a b = omega arith
has_not_landed p equal earlier (Built x y) a b = absurd (false≢true a.0)

-- so what is work whatever the pattern has no entry of landing
pub not_landed : (p : Sides) (equal : List Bool) (journal : List Entry) → KeepsWork p equal journal → HasNotLanded journal
not_landed p equal journal keeps i d below =
    has_not_landed p equal (take i journal) (slice_index_or journal i d) ((refining_works p equal [] 0 journal keeps).each i d below)
    ((refining_works p equal ((Unknown ∷ []) ∷ []) 0 journal keeps).each i d below)

-- the two parts are work
pub joined_works :
    (c : Circuit) (f : Front') (pattern : List (List Tern)) (left : ℕ) (journal more all : List Entry) → KeepsWork (one_design c) f.equal journal
    → blocked_of journal ≡ f.blocked → IsLandWork (one_design c) f pattern left more → all ≡ journal ++ more → IsCheckWork c pattern f.equal all
joined_works c f pattern left journal more all keeps blocked work is bound =
    subst (λ (entries : List Entry). AreWork (checking (one_design c) f.equal pattern bound) entries) (sym is)
    (work.work journal bound (refining_works (one_design c) f.equal pattern bound journal keeps) blocked (not_landed (one_design c) f.equal journal keeps))

pub joined_few :
    (budget left : ℕ) (journal more all : List Entry) → length journal ≤ budget → left ≡ budget - length journal → length more ≤ left
    → all ≡ journal ++ more → length all ≤ budget
joined_few budget left journal more all few is least joined = omega (arith, few, is, least, ap length joined, length-append journal more)

pub joined_all :
    (budget left : ℕ) (journal more all : List Entry) → length journal ≤ budget → left ≡ budget - length journal → length more ≡ left
    → all ≡ journal ++ more → length all ≡ budget
joined_all budget left journal more all few is exact joined = omega (arith, few, is, exact, ap length joined, length-append journal more)
