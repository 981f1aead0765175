-- Steps of a search over its parts.
use Rattle.std.proofs.Common.{◌≡◌, ℕ, ◌+◌, ◌<◌, ◌≤◌, ◌⊎◌, inl, inr, ℤ, true, false, List, [], ◌∷◌, ◌++◌, length, take, set, get_or, sym, ◌∙◌, subst, ap, arith, length-append}
use Rattle.std.specs.Prelude.{Option, Some, MatchOption}
use Rattle.std.specs.List.{Contains}
use Rattle.std.proofs.Math.ListN.{get_or-append}
use Rattle.std.proofs.Math.Nat.{eq-or-lt_of_le}
use Rattle.std.proofs.Math.Seq.{get_or-append_seam}
use Rattle.std.proofs.lemmas.List.Elements.{Contains-push, Contains-append_left, Contains-get_or}
use Rattle.rst_value.specs.declared.tern.Tern.TheVariants.{Unknown}
use Rattle.rst_value.specs.Terns.{known}
use Rattle.rst_clause.specs.Literals.{opposite}
use Rattle.rst_clause.specs.Propagation.{Closes, units}
use Rattle.rst_clause.specs.Extension.{literal_of}
use Rattle.rst_clause.specs.Paths.{IsPath, ArePaths}
use Rattle.rst_clause.specs.Queue.{Propagates, IsFalseAt}
use Rattle.rst_clause.specs.Trails.{Trail', Grows, IsComplete, IsConsistent}
use Rattle.rst_solve.specs.Choices.{AreSome, AllKnownTo, IsOpen}
use Rattle.rst_solve.specs.Tree.{decided, decisions, denied, low, path_of, IsPlace, IsAt, HasFalse}
use Rattle.rst_solve.specs.Records.{IsLog, HasLines, HasAll, Leaves, IsOpenBelow, IsClosedBelow, IsLifted}
use Rattle.rst_solve.specs.declared.levels.Level.{Level}
use Rattle.rst_solve.specs.declared.tree.Tree.{Tree}
use Rattle.rst_solve.proofs.Paths.{path_width, path_back, path_has, path_is}
use Rattle.rst_solve.proofs.Descents.{decided_place, grown_place, place_closes}
use Rattle.rst_solve.proofs.Lines.{leaf_follows, both_follow, denied_in_range, log_push, some_push, lines_more, both_values, first_value, leaves_apart, leaves_back, leaves_turn, paths_push}

module _ (free vars : ℕ) (cs : List (List ℤ)) where
  pub path_long : (t : Tree) → IsAt free vars cs t → length t.path.items ≡ free
  path_long t at = ap length at.path ∙ path_width free t.levels

  pub at_decided : (t t1 : Tree) (l : Level) → l.floor ≡ length t.trail.lits → IsAt free vars cs t → IsComplete t.trail.lits cs → l.bit < free
      → AllKnownTo t.trail.lits l.bit → IsOpen t.trail.lits l.bit → t1.trail.vars ≡ t.trail.vars → t1.trail.lits ≡ t.trail.lits ++ decided l ∷ []
      → t1.levels ≡ l ∷ t.levels → t1.path.items ≡ set t.path.items l.bit (known l.value) → IsAt free vars cs t1
  at_decided t t1 l floor at q lt k o v lits levels path = record {
    range = v ∙ at.range;
    path = path ∙ ap (λ z. set z l.bit (known l.value)) at.path ∙ ap (λ z. path_of free z) (sym levels);
    place = subst (λ z. IsPlace free cs z t1.trail.lits) (sym levels) (subst (λ z. IsPlace free cs (l ∷ t.levels) z) (sym lits)
        (decided_place free cs t.levels t.trail.lits l floor at.place q lt k o));
  }

  pub at_grown : (t t1 : Tree) → IsAt free vars cs t → Grows cs t.trail t1.trail → t1.trail.vars ≡ t.trail.vars → t1.levels ≡ t.levels → t1.path ≡ t.path → IsAt free vars cs t1
  at_grown t t1 at g v levels path = record {
    range = v ∙ at.range;
    path = ap (λ z. z.items) path ∙ at.path ∙ ap (λ z. path_of free z) (sym levels);
    place = subst (λ z. IsPlace free cs z t1.trail.lits) (sym levels) (grown_place free cs t.levels t.trail t1.trail g at.place);
  }

  -- a first value, and what follows from it
  pub below_decided : (t t1 : Tree) (l : Level) → l.value ≡ false → IsOpenBelow free vars cs t → IsAt free vars cs t1 → t1.levels ≡ l ∷ t.levels → t1.log ≡ t.log → t1.paths ≡ t.paths
      → IsOpenBelow free vars cs t1
  below_decided t t1 l first o at levels log paths =
      let items : t1.paths.items ≡ t.paths.items = ap (λ z. z.items) paths in
      record {
        at = at;
        log = subst (λ z. IsLog vars cs z) (sym log) o.log;
        some = subst (λ z. AreSome z) (sym log) o.some;
        lines = subst (λ z. HasLines t1.log z) (sym levels) (subst (λ z. HasLines z (l ∷ t.levels)) (sym log) (λ e. absurd (let bad : true ≡ false = sym e ∙ first in cc), o.lines));
        paths = subst (λ z. ArePaths free cs z) (sym items) o.paths;
        apart = λ i lt. subst (λ z. Leaves z (get_or t1.paths.items i [])) (sym levels)
            (inr (subst (λ z. Leaves t.levels (get_or z i [])) (sym items) (o.apart i (subst (λ z. i < length z) items lt))));
      }

  -- a conflict's path and line
  pub below_closed : (t t1 : Tree) → free < vars → IsConsistent t.trail.lits → IsOpenBelow free vars cs t → HasFalse cs t.trail.lits → t1.trail ≡ t.trail → t1.levels ≡ t.levels → t1.path ≡ t.path
      → t1.log ≡ t.log ++ denied (decisions t.levels) ∷ [] → t1.paths.items ≡ t.paths.items ++ t.path.items ∷ [] → IsClosedBelow free vars cs t1
  below_closed t t1 below con o f trail levels path log paths =
      let closes : Closes (units (decisions t.levels) ++ cs) = place_closes free cs t.levels t.trail.lits o.at.place f in
      let own : IsPath free cs t.path.items = subst (λ z. IsPath free cs z) (sym o.at.path) (path_is free cs t.levels t.trail.lits con o.at.place closes) in
      let has : HasAll t.path.items (decisions t.levels) = subst (λ z. HasAll z (decisions t.levels)) (sym o.at.path) (path_has free cs t.levels t.trail.lits o.at.place) in
      record {
        at = record {
          range = ap (λ z. z.vars) trail ∙ o.at.range;
          path = ap (λ z. z.items) path ∙ o.at.path ∙ ap (λ z. path_of free z) (sym levels);
          place = subst (λ z. IsPlace free cs z t1.trail.lits) (sym levels) (subst (λ z. IsPlace free cs t.levels z.lits) (sym trail) o.at.place);
        };
        log = subst (λ z. IsLog vars cs z) (sym log) (log_push vars cs t.log (denied (decisions t.levels)) o.log
            (denied_in_range free vars cs t.levels t.trail.lits below o.at.place) (leaf_follows cs t.log (decisions t.levels) closes));
        earlier = t.log;
        last = log ∙ ap (λ z. t.log ++ denied (decisions z) ∷ []) (sym levels);
        some = o.some;
        lines = subst (λ z. HasLines t1.log z) (sym levels) (lines_more t.log t1.log t.levels
            (λ c h. subst (λ z. Contains z c) (sym log) (Contains-append_left t.log (denied (decisions t.levels) ∷ []) c h)) o.lines);
        paths = subst (λ z. ArePaths free cs z) (sym paths) (paths_push free cs t.paths.items t.path.items o.paths own
            (λ i lt. leaves_apart t.levels (get_or t.paths.items i []) t.path.items (o.apart i lt) has));
        apart = λ i lt. subst (λ z. Leaves z (get_or t1.paths.items i []) ⊎ HasAll (get_or t1.paths.items i []) (decisions z)) (sym levels)
            (subst (λ z. Leaves t.levels (get_or z i []) ⊎ HasAll (get_or z i []) (decisions t.levels)) (sym paths) (one_more i (subst (λ z. i < length z) paths lt) has));
      }
    where
      one_more : (i : ℕ) → i < length (t.paths.items ++ t.path.items ∷ []) → HasAll t.path.items (decisions t.levels)
          → Leaves t.levels (get_or (t.paths.items ++ t.path.items ∷ []) i []) ⊎ HasAll (get_or (t.paths.items ++ t.path.items ∷ []) i []) (decisions t.levels)
      one_more i lt has =
          let len : length (t.paths.items ++ t.path.items ∷ []) ≡ length t.paths.items + 1 = length-append t.paths.items (t.path.items ∷ []) in
          let le : i ≤ length t.paths.items = omega arith in
          elim (eq-or-lt_of_le le) [
            | inl e ↦ inr (subst (λ z. HasAll z (decisions t.levels)) (sym (ap (λ n. get_or (t.paths.items ++ t.path.items ∷ []) n []) e ∙ get_or-append_seam t.paths.items t.path.items [] [])) has)
            | inr b ↦ inl (subst (λ z. Leaves t.levels z) (sym (get_or-append t.paths.items (t.path.items ∷ []) [] i b)) (o.apart i b))
          ]

  -- a decision taken back
  pub closed_lifted : (t t1 : Tree) (l : Level) (ls : List Level) → IsClosedBelow free vars cs t → t.levels ≡ l ∷ ls → t1.trail.vars ≡ t.trail.vars → t1.trail.lits ≡ take l.floor t.trail.lits
      → t1.levels ≡ ls → t1.path.items ≡ set t.path.items l.bit Unknown → t1.log ≡ t.log → t1.paths ≡ t.paths → IsLifted free vars cs t1 l
  closed_lifted t t1 l ls c levels v lits levels1 path log paths =
      let items : t1.paths.items ≡ t.paths.items = ap (λ z. z.items) paths in
      let p : IsPlace free cs (l ∷ ls) t.trail.lits = subst (λ z. IsPlace free cs z t.trail.lits) levels c.at.place in
      record {
        at = record {
          range = v ∙ c.at.range;
          path = path ∙ ap (λ z. set z l.bit Unknown) (c.at.path ∙ ap (λ z. path_of free z) levels) ∙ path_back free cs l ls t.trail.lits p ∙ ap (λ z. path_of free z) (sym levels1);
          place = subst (λ z. IsPlace free cs z t1.trail.lits) (sym levels1) (subst (λ z. IsPlace free cs ls z) (sym lits) p.2);
        };
        bit = p.1.bit;
        complete = subst (λ z. IsComplete z cs) (sym lits) p.1.complete;
        known = subst (λ z. AllKnownTo z l.bit) (sym lits) p.1.known;
        is_open = subst (λ z. IsOpen z l.bit) (sym lits) p.1.was_open;
        log = subst (λ z. IsLog vars cs z) (sym log) c.log;
        some = subst (λ z. AreSome z) (sym (log ∙ c.last ∙ ap (λ z. c.earlier ++ denied (decisions z) ∷ []) levels)) (some_push c.earlier (decided l) (decisions ls) c.some);
        line = subst (λ z. Contains t1.log (denied (decisions (l ∷ z)))) (sym levels1) (subst (λ z. Contains z (denied (decisions (l ∷ ls)))) (sym (log ∙ c.last ∙ ap (λ z. c.earlier ++ denied (decisions z) ∷ []) levels))
            (Contains-push c.earlier (denied (decisions (l ∷ ls)))));
        lines = subst (λ z. HasLines t1.log (l ∷ z)) (sym levels1) (subst (λ z. HasLines z (l ∷ ls)) (sym log) (subst (λ z. HasLines t.log z) levels c.lines));
        paths = subst (λ z. ArePaths free cs z) (sym items) c.paths;
        apart = λ i lt. subst (λ z. Leaves (l ∷ z) (get_or t1.paths.items i []) ⊎ HasAll (get_or t1.paths.items i []) (decisions (l ∷ z))) (sym levels1)
            (subst (λ z. Leaves (l ∷ ls) (get_or z i []) ⊎ HasAll (get_or z i []) (decisions (l ∷ ls))) (sym items)
            (subst (λ z. Leaves z (get_or t.paths.items i []) ⊎ HasAll (get_or t.paths.items i []) (decisions z)) levels (c.apart i (subst (λ z. i < length z) items lt))));
      }

  -- both values of a bit are closed
  pub lifted_closed : (t t1 : Tree) (l : Level) → free < vars → IsLifted free vars cs t l → l.value ≡ true → t1.trail ≡ t.trail → t1.levels ≡ t.levels → t1.path ≡ t.path
      → t1.log ≡ t.log ++ denied (decisions t.levels) ∷ [] → t1.paths ≡ t.paths → IsClosedBelow free vars cs t1
  lifted_closed t t1 l below c second trail levels path log paths =
      let items : t1.paths.items ≡ t.paths.items = ap (λ z. z.items) paths in
      let first : Contains t.log (denied (opposite (decided l) ∷ decisions t.levels)) =
      subst (λ z. Contains t.log (denied (z ∷ decisions t.levels))) (both_values l second) (c.lines.0 second) in
      record {
        at = record {
          range = ap (λ z. z.vars) trail ∙ c.at.range;
          path = ap (λ z. z.items) path ∙ c.at.path ∙ ap (λ z. path_of free z) (sym levels);
          place = subst (λ z. IsPlace free cs z t1.trail.lits) (sym levels) (subst (λ z. IsPlace free cs t.levels z.lits) (sym trail) c.at.place);
        };
        log = subst (λ z. IsLog vars cs z) (sym log) (log_push vars cs t.log (denied (decisions t.levels)) c.log
            (denied_in_range free vars cs t.levels t.trail.lits below c.at.place) (both_follow cs t.log (decided l) (decisions t.levels) first c.line));
        earlier = t.log;
        last = log ∙ ap (λ z. t.log ++ denied (decisions z) ∷ []) (sym levels);
        some = c.some;
        lines = subst (λ z. HasLines t1.log z) (sym levels) (lines_more t.log t1.log t.levels
            (λ d h. subst (λ z. Contains z d) (sym log) (Contains-append_left t.log (denied (decisions t.levels) ∷ []) d h)) c.lines.1);
        paths = subst (λ z. ArePaths free cs z) (sym items) c.paths;
        apart = λ i lt. subst (λ z. Leaves z (get_or t1.paths.items i []) ⊎ HasAll (get_or t1.paths.items i []) (decisions z)) (sym levels)
            (subst (λ z. Leaves t.levels (get_or z i []) ⊎ HasAll (get_or z i []) (decisions t.levels)) (sym items)
            (leaves_back l t.levels (get_or t.paths.items i []) (c.apart i (subst (λ z. i < length z) items lt))));
      }

  -- the second value of a bit
  pub lifted_turned : (t t1 : Tree) (l l' : Level) → IsLifted free vars cs t l → l.value ≡ false → l'.value ≡ true → l'.bit ≡ l.bit → IsAt free vars cs t1 → t1.levels ≡ l' ∷ t.levels
      → t1.log ≡ t.log → t1.paths ≡ t.paths → IsOpenBelow free vars cs t1
  lifted_turned t t1 l l' c first second same at levels log paths =
      let items : t1.paths.items ≡ t.paths.items = ap (λ z. z.items) paths in
      let line : Contains t.log (denied (low l' ∷ decisions t.levels)) =
      subst (λ z. Contains t.log (denied (z ∷ decisions t.levels))) (sym (first_value l first) ∙ low_same) c.line in
      record {
        at = at;
        log = subst (λ z. IsLog vars cs z) (sym log) c.log;
        some = subst (λ z. AreSome z) (sym log) c.some;
        lines = subst (λ z. HasLines t1.log z) (sym levels) (subst (λ z. HasLines z (l' ∷ t.levels)) (sym log) ((λ e. line), c.lines.1));
        paths = subst (λ z. ArePaths free cs z) (sym items) c.paths;
        apart = λ i lt. subst (λ z. Leaves z (get_or t1.paths.items i [])) (sym levels)
            (subst (λ z. Leaves (l' ∷ t.levels) (get_or z i [])) (sym items)
            (leaves_turn l l' t.levels (get_or t.paths.items i []) first second same (c.apart i (subst (λ z. i < length z) items lt))));
      }
    where
      low_same : low l ≡ low l'
      low_same = ap (λ n. literal_of false n) (sym same)

-- the clause that propagation found is false
pub false_at : (cs : List (List ℤ)) (s t : Trail') (found : Option ℕ) (i : ℕ) → found ≡ Some i → Propagates cs s t found → HasFalse cs t.lits
false_at cs s t found i e p =
    let at : IsFalseAt cs t.lits i = subst (λ z. MatchOption z (IsComplete t.lits cs) (IsFalseAt cs t.lits)) e p.outcome in
    (get_or cs i [], Contains-get_or cs i [] at.0, at.1)
