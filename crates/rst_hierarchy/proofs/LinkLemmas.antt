-- What links may name, module by module, and the first name that stands twice among links.
use Rattle.std.proofs.Common.{◌≡◌, ℕ, ◌+◌, zero, suc, Bool, true, false, not, ◌||◌, cond, List, [], ◌∷◌, ◌++◌, take, drop, Some, None, slice_get, refl, sym, ap, subst, ◌∙◌}
use Rattle.std.proofs.lemmas.List.Folds.{list_any-append}
use Rattle.rst_tree.specs.Trees.{Text}
use Rattle.rst_tree.specs.Modules.{PlainModule}
use Rattle.rst_names.specs.Faults.{first}
use Rattle.rst_names.specs.Names.{same_text, is_among, repeats}
use Rattle.rst_names.proofs.Turns.{at}
use Rattle.rst_hierarchy.specs.declared.connects.Linked.{Linked}
use Rattle.rst_hierarchy.specs.Hierarchy.{module_named}
use Rattle.rst_hierarchy.specs.Tables.{place_named, IsLinked, AreLinked, LinksOf}
use Rattle.rst_hierarchy.proofs.PlaceLemmas.{Naming, known, unknown, naming}

pub linked_push : (ms : List PlainModule) (ls : List Linked) (m : PlainModule) (l : Linked) → AreLinked ms ls → IsLinked m l → AreLinked (ms ++ m ∷ []) (ls ++ l ∷ [])
linked_push [] [] m l all h = (h, tt)
linked_push [] (y ∷ ls) m l all h = absurd all
linked_push (x ∷ ms) [] m l all h = absurd all
linked_push (x ∷ ms) (y ∷ ls) m l all h = (all.0, linked_push ms ls m l all.1 h)

linked_at : (ms : List PlainModule) (ls : List Linked) (k : ℕ) → AreLinked ms ls → LinksOf (slice_get ms k) (slice_get ls k)
linked_at [] [] k all = tt
linked_at [] (y ∷ ls) k all = absurd all
linked_at (x ∷ ms) [] k all = absurd all
linked_at (x ∷ ms) (y ∷ ls) zero all = all.0
linked_at (x ∷ ms) (y ∷ ls) (suc k) all = linked_at ms ls k all.1

-- the links of the module of a name, found at its place
pub linked_named : (ms : List PlainModule) (ls : List Linked) (name : Text) (k : ℕ) → AreLinked ms ls → place_named ms name ≡ Some k → LinksOf (module_named ms name) (slice_get ls k)
linked_named ms ls name k all is = by (naming ms name)
  where
    by : Naming ms name → LinksOf (module_named ms name) (slice_get ls k)
    by (known j x h) =
        let same : j ≡ k = cc (h.place, is) in
        subst (λ o. LinksOf o (slice_get ls k)) (ap (slice_get ms) (sym same) ∙ h.at ∙ sym h.of) (linked_at ms ls k all)
    by (unknown h) = absurd (cc (h.place, is))

pub none_linked : (ms : List PlainModule) (name : Text) → place_named ms name ≡ None → module_named ms name ≡ None
none_linked ms name is = by (naming ms name)
  where
    by : Naming ms name → module_named ms name ≡ None
    by (known j x h) = absurd (cc (h.place, is))
    by (unknown h) = h.of

pub from_not : (b : Bool) → not b ≡ false → b ≡ true
from_not true e = refl
from_not false e = cc

pub from_not_true : (b : Bool) → not b ≡ true → b ≡ false
from_not_true true e = cc
from_not_true false e = refl

-- one name more of those that were seen
module _ (names : List Text) (i : ℕ) (x : Text) (is : slice_get names i ≡ Some x) where
  abbrev left : ℕ → List Text
  left n = repeats (take n names) (drop n names)

  opened : left i ≡ cond (is_among (take i names) x) (x ∷ []) [] ++ left (i + 1)
  opened = ap (repeats (take i names)) (at names i x is).back ∙ ap (λ l. cond (is_among (take i names) x) (x ∷ []) [] ++ repeats l (drop (i + 1) names)) (sym (at names i x is).front)

  pub stands_twice : is_among (take i names) x ≡ true → first (repeats (take i names) (drop i names)) ≡ Some x
  stands_twice h = ap first opened ∙ ap (λ b. first (cond b (x ∷ []) [] ++ left (i + 1))) h

  pub stands_first : is_among (take i names) x ≡ false → repeats (take i names) (drop i names) ≡ repeats (take (i + 1) names) (drop (i + 1) names)
  stands_first h = opened ∙ ap (λ b. cond b (x ∷ []) [] ++ left (i + 1)) h

  pub among_more : (q : Text) → is_among (take (i + 1) names) q ≡ (is_among (take i names) q || same_text x q)
  among_more q =
      ap (λ l. is_among l q) (at names i x is).front ∙ (list_any-append (λ n. same_text n q) (take i names) (x ∷ [])
      ∙ ap (λ b. is_among (take i names) q || b) (alone (same_text x q)))
    where
      alone : (b : Bool) → (b || false) ≡ b
      alone true = refl
      alone false = refl
