use Rattle.std.proofs.Common.{◌≡◌, ◌∙◌, ◌<◌, ◌∷◌, ◌++◌, [], get_or, set, length, subst, ℕ, ℤ, List}
use Rattle.std.specs.Global.{Vec}
use Rattle.std.specs.List.{Contains}
use Rattle.std.proofs.lemmas.List.Elements.{All-contains}
use Rattle.rst_clause.specs.Literals.{IsLiteral, AreLiterals}
use Rattle.rst_clause.specs.Trails.{place_of}
use Rattle.rst_watch.specs.declared.state.State.{State}
use Rattle.rst_watch.specs.Choices.{AreTwo}
use Rattle.rst_watch.specs.Watching.{IsWatching, IsGuarded, IsPoint}
use Rattle.rst_watch.proofs.States.{watching_noted, watching_added, watching_put_back, two_guarded, place_in}
use Rattle.rst_watch.proofs.learn.add_watched.Goals as goal

place_for : (s : State) (clause : List ℤ) (l : ℤ) → IsWatching s → AreLiterals s.trail.vars clause → Contains clause l → place_of l < length s.lists.items
place_for s clause l w in' h = place_in s l w (All-contains (IsLiteral s.trail.vars) clause l in' h).1

-- the number was noted in both lists
module _ (s : State) (l1 l2 : Vec (List ℕ)) (clause : List ℤ) (first second : ℤ) (number : ℕ) (w : IsWatching s) (in' : AreLiterals s.trail.vars clause)
    (two : AreTwo s.trail.lits clause first second) (e1 : l1.items ≡ set s.lists.items (place_of first) (get_or s.lists.items (place_of first) [] ++ number ∷ []))
    (e2 : l2.items ≡ set l1.items (place_of second) (get_or l1.items (place_of second) [] ++ number ∷ [])) where
  noted_once : IsWatching (record s { lists = l1 })
  noted_once = watching_noted s l1 first number w (place_for s clause first w in' two.has_first) e1

  noted_place : place_of second < length l1.items
  noted_place = place_for (record s { lists = l1 }) clause second noted_once in' two.has_second

  noted_twice : IsWatching (record s { lists = l2 })
  noted_twice = watching_noted (record s { lists = l1 }) l2 second number noted_once noted_place e2

  noted_guarded : number ≡ length s.store → IsGuarded (IsPoint s.trail.lits s.done s.floors) l2.items clause (length s.store) (record { first = first; second = second })
  noted_guarded e = subst (λ n. IsGuarded (IsPoint s.trail.lits s.done s.floors) l2.items clause n (record { first = first; second = second })) e
      (two_guarded s l1.items l2.items clause first second number two (place_for s clause first w in' two.has_first) noted_place e1 e2)

pub returns-in_err-note-2-clause-watching : goal.returns-in_err-note-2-clause-watching
returns-in_err-note-2-clause-watching c =
    watching_noted c.args.s.now c.note-2.new.lists c.args.first c.len-number.result c.requires.watching
    (place_for c.args.s.now c.args.clause.now c.args.first c.requires.watching c.requires.in_range c.requires.two.has_first)
    (c.in_err-note-2.ensures.err ∙ c.in_ok-note.ensures.ok)

pub returns-in_err-add-clause-watching : goal.returns-in_err-add-clause-watching
returns-in_err-add-clause-watching c =
    watching_put_back (record c.args.s.now { lists = c.note-2.new.lists }) c.add.new.store c.add.new.pairs
    (noted_twice c.args.s.now c.note.new.lists c.note-2.new.lists c.args.clause.now c.args.first c.args.second c.len-number.result c.requires.watching c.requires.in_range c.requires.two
    c.in_ok-note.ensures.ok c.in_ok-note-2.ensures.ok) c.in_err-add.ensures.store_err c.in_err-add.ensures.pairs_err

pub returns-clause-watching : goal.returns-clause-watching
returns-clause-watching c =
    watching_added (record c.args.s.now { lists = c.note-2.new.lists }) c.add.new.store c.add.new.pairs c.args.clause.now (record { first = c.args.first; second = c.args.second })
    (noted_twice c.args.s.now c.note.new.lists c.note-2.new.lists c.args.clause.now c.args.first c.args.second c.len-number.result c.requires.watching c.requires.in_range c.requires.two
    c.in_ok-note.ensures.ok c.in_ok-note-2.ensures.ok) c.requires.root c.requires.in_range c.in_ok-add.ensures.store c.in_ok-add.ensures.pairs
    (noted_guarded c.args.s.now c.note.new.lists c.note-2.new.lists c.args.clause.now c.args.first c.args.second c.len-number.result c.requires.watching c.requires.in_range c.requires.two
    c.in_ok-note.ensures.ok c.in_ok-note-2.ensures.ok c.len-number.ensures)
