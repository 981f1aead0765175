-- The first of joined lists of faults.
use Rattle.std.proofs.Common.{◌≡◌, ℕ, ◌+◌, List, [], ◌∷◌, ◌++◌, drop, Some, None, slice_get, map, refl, sym, ap, subst, ◌∙◌}
use Rattle.std.specs.List.{flat_map, enumerate_from}
use Rattle.rst_names.specs.declared.faults.ElabError.{ElabError}
use Rattle.rst_names.specs.declared.faults.ElabError.TheVariants as error
use Rattle.rst_names.specs.declared.faults.ElabFault.{ElabFault}
use Rattle.rst_tree.specs.Trees.{Text}
use Rattle.rst_names.proofs.Turns.{at}
use Rattle.rst_names.specs.Faults.{Fault, first, Refuses, Tells}

first-front : {X : Type 0} (a b : List X) (x : X) → first a ≡ Some x → first (a ++ b) ≡ Some x
first-front [] b x h = cc
first-front (y ∷ a) b x h = h

-- the fault at the head
pub refuses_head : (e : ElabError) (fault : Fault) (rest : List Fault) → Tells e fault → Refuses e (fault ∷ rest)
refuses_head e fault rest h = record { is_first = λ f is. ap Some (sym (h.same f is)) }

-- the first of the front is the first of the whole
pub refuses_front : (e : ElabError) (a b : List Fault) → Refuses e a → Refuses e (a ++ b)
refuses_front e a b h = record { is_first = λ f is. first-front a b _ (h.is_first f is) }

-- the rest counts where the front has no fault
pub first-none_append : {X : Type 0} (a b : List X) → first a ≡ None → first (a ++ b) ≡ first b
first-none_append [] b h = refl
first-none_append (x ∷ a) b h = cc

pub none_append : {X : Type 0} (a b : List X) → first a ≡ None → first b ≡ None → first (a ++ b) ≡ None
none_append a b none h = first-none_append a b none ∙ h

-- behind nothing
pub refuses_behind : (e : ElabError) (a b : List Fault) → first a ≡ None → Refuses e b → Refuses e (a ++ b)
refuses_behind e a b none h = record { is_first = λ f is. first-none_append a b none ∙ h.is_first f is }

-- a list with the same first fault
pub refuses_same : (e : ElabError) (a b : List Fault) → first a ≡ first b → Refuses e a → Refuses e b
refuses_same e a b same h = record { is_first = λ f is. sym same ∙ h.is_first f is }

-- memory that ran out refuses nothing
pub refuses_memory : (e : ElabError) (faults : List Fault) → e ≡ error.NoMemory → Refuses e faults
refuses_memory e faults ran = record { is_first = λ f is. absurd (impossible f (sym ran ∙ is)) }
  where
    impossible : (f : ElabFault) → error.NoMemory ≡ error.Fault f → ⊥
    impossible f is = cc

-- one turn of a row over a list: what is left has the first fault of all
module _ {X : Type 0} (row : X → List Fault) (xs : List X) (i : ℕ) (x : X) where
  pub row_refuses : (e : ElabError) → slice_get xs i ≡ Some x → first (flat_map row (drop i xs)) ≡ first (flat_map row xs) → Refuses e (row x) → Refuses e (flat_map row xs)
  row_refuses e is left h =
      refuses_same e (row x ++ flat_map row (drop (i + 1) xs)) (flat_map row xs)
      (ap (λ l. first (flat_map row l)) (sym (at xs i x is).back) ∙ left)
      (refuses_front e (row x) (flat_map row (drop (i + 1) xs)) h)

  pub row_goes_on : slice_get xs i ≡ Some x → first (flat_map row (drop i xs)) ≡ first (flat_map row xs) → first (row x) ≡ None → first (flat_map row (drop (i + 1) xs)) ≡ first (flat_map row xs)
  row_goes_on is left none =
      sym (ap (λ l. first (flat_map row l)) (at xs i x is).back ∙ first-none_append (row x) (flat_map row (drop (i + 1) xs)) none) ∙ left

-- the same over items that are counted
module _ {X : Type 0} (row : ℕ × X → List Fault) (xs : List X) (i : ℕ) (x : X) where
  abbrev pub left : ℕ → List Fault
  left i = flat_map row (enumerate_from (i + 1) (drop i xs))

  opened : slice_get xs i ≡ Some x → left i ≡ row (i + 1, x) ++ left (i + 1)
  opened is = ap (λ l. flat_map row (enumerate_from (i + 1) l)) (at xs i x is).back

  pub item_refuses : (e : ElabError) → slice_get xs i ≡ Some x → first (left i) ≡ first (flat_map row (enumerate_from 1 xs)) → Refuses e (row (i + 1, x)) → Refuses e (flat_map row (enumerate_from 1 xs))
  item_refuses e is same h = refuses_same e (row (i + 1, x) ++ left (i + 1)) _ (ap first (sym (opened is)) ∙ same) (refuses_front e (row (i + 1, x)) (left (i + 1)) h)

  pub items_go_on : slice_get xs i ≡ Some x → first (left i) ≡ first (flat_map row (enumerate_from 1 xs)) → first (row (i + 1, x)) ≡ None → first (left (i + 1)) ≡ first (flat_map row (enumerate_from 1 xs))
  items_go_on is same none = sym (ap first (opened is) ∙ first-none_append (row (i + 1, x)) (left (i + 1)) none) ∙ same

pub first-map : {X Y : Type 0} (f : X → Y) (xs : List X) → first xs ≡ None → first (map f xs) ≡ None
first-map f [] h = refl
first-map f (x ∷ xs) h = cc

pub refuses_name : (e : ElabError) (f : Text → Fault) (names : List Text) (name : Text) → first names ≡ Some name → Tells e (f name) → Refuses e (map f names)
refuses_name e f [] name is h = cc
refuses_name e f (x ∷ xs) name is h =
    let same : x ≡ name = cc in
    refuses_head e (f x) (map f xs) (subst (λ n. Tells e (f n)) (sym same) h)

pub ruleset rows = (refuses_head, refuses_front, refuses_behind, refuses_memory, first-map, refuses_name)
