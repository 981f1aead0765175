-- Instances: what ports lead to, and the tables of their modules.
use Rattle.std.proofs.Common.{◌≡◌, ℕ, zero, suc, ◌+◌, ◌-◌, ◌<◌, ◌≤◌, nat_lt, Bool, true, false, not, cond, List, [], ◌∷◌, map, find, length, position, Option, Some, None, slice_get, refl, sym, ap, subst, ◌∙◌, arith}
use Rattle.std.proofs.lemmas.Bool.Decides.{nat_tests}
use Rattle.std.proofs.lemmas.Option.{slice_get-map, get_or_from_slice_get, slice_get_within, slice_get_past, none-some, same_Some}
use Rattle.std.proofs.lemmas.List.Folds.{find_at}
use Rattle.std.proofs.lemmas.List.Quantifiers.{position-Some}
use Rattle.std.proofs.Math.Path.{fun_ext}
use Rattle.std.specs.List.{flat_map, enumerate_from, position_or_len}
use Rattle.std.specs.Option.{option_and_then, option_map}
use Rattle.rst_tree.specs.Trees.{Text}
use Rattle.rst_tree.specs.Modules.{PlainModule}
use Rattle.rst_width.specs.declared.names.UnshapedNames.{UnshapedNames}
use Rattle.rst_width.specs.Scopes.{Names}
use Rattle.rst_names.specs.Names.{same_text}
use Rattle.rst_names.specs.Declarations.{ports, signal_named}
use Rattle.rst_names.specs.declared.facts.Facts.{Facts}
use Rattle.rst_names.specs.Tables.{Total, IsFacts}
use Rattle.rst_hierarchy.specs.Hierarchy.{module_named}
use Rattle.rst_hierarchy.specs.Tables.{AreFacts, AreRight, module_of, place_named}
use Rattle.rst_instances.specs.declared.places as code
use Rattle.rst_instances.specs.Parameters.{Linked, link_to, names_from, unshaped}
use Rattle.rst_instances.specs.Places.{Joined, Apart, Place, joined_of, joined_by, linked_name, port_join, below, children}
use Rattle.rst_instances.specs.Tables.{plain_joined, joined_or_apart, leads_to, led_by, joined_in, plain_ports, plain_place, module_at, no_module, later_names}

-- ---- first places in lists

module _ {X : Type 0} (p : X → Bool) where
  -- the element at the first place is the first that passes
  pub first_read : (xs : List X) → option_and_then (slice_get xs) (position p xs) ≡ find p xs
  first_read xs = by (nat_lt (position_or_len p xs) (length xs)) refl
    where
      by : (b : Bool) → nat_lt (position_or_len p xs) (length xs) ≡ b
          → option_and_then (slice_get xs) (cond b (Some (position_or_len p xs)) None) ≡ find p xs
      by true e = sym (find_at p xs)
      by false e =
          let past : length xs ≤ position_or_len p xs = grind (arith, nat_tests) in
          sym (find_at p xs ∙ slice_get_past xs (position_or_len p xs) past)

  pub position-cons : (x : X) (xs : List X) → position p (x ∷ xs) ≡ cond (p x) (Some 0) (option_map suc (position p xs))
  position-cons x xs = by (p x) (nat_lt (position_or_len p xs) (length xs)) refl
    where
      by : (b less : Bool) → nat_lt (position_or_len p xs) (length xs) ≡ less
          → cond (nat_lt (cond (not b) (1 + position_or_len p xs) 0) (length (x ∷ xs))) (Some (cond (not b) (1 + position_or_len p xs) 0)) None
          ≡ cond b (Some 0) (option_map suc (cond less (Some (position_or_len p xs)) None))
      by true less e =
          let some : nat_lt 0 (length (x ∷ xs)) ≡ true = grind (arith, nat_tests) in
          rw some refl
      by false true e =
          let less : nat_lt (1 + position_or_len p xs) (length (x ∷ xs)) ≡ true = grind (arith, nat_tests) in
          let next : 1 + position_or_len p xs ≡ suc (position_or_len p xs) = omega arith in
          rw (less, next) refl
      by false false e =
          let past : nat_lt (1 + position_or_len p xs) (length (x ∷ xs)) ≡ false = grind (arith, nat_tests) in
          rw past refl

-- ---- the tables of a module

pub not_there : false ≡ true → ⊥
not_there e = cc

-- the module at a place
pub module_there : (modules : List PlainModule) (i : ℕ) (m : PlainModule) → slice_get modules i ≡ Some m → module_at modules i ≡ m
module_there modules i m is = get_or_from_slice_get modules i m no_module is

-- the facts at a place are those of the module there
pub facts_at : (modules : List PlainModule) (fs : List Facts) (i : ℕ) (f : Facts) → AreFacts modules fs → slice_get fs i ≡ Some f → IsFacts (module_at modules i) f
facts_at modules fs i f h is =
    let within : i < length fs = slice_get_within fs i f is in
    let read = get_or_from_slice_get fs i f f is in
    let right : AreRight f = subst AreRight read (h.all i f within) in
    let there : slice_get modules i ≡ Some (module_of f) = ap (λ ms. slice_get ms i) (sym h.of) ∙ slice_get-map module_of fs i ∙ ap (option_map module_of) is in
    subst (λ m. IsFacts m f) (sym (module_there modules i (module_of f) there)) right

-- and so are its names
pub later_at : (modules : List PlainModule) (us : List UnshapedNames) (i : ℕ) (u : UnshapedNames) → map later_names us ≡ map (λ m. names_from (unshaped m)) modules
    → slice_get us i ≡ Some u → later_names u ≡ names_from (unshaped (module_at modules i))
later_at modules us i u h is = by (slice_get modules i) refl
  where
    all : option_map (λ m. names_from (unshaped m)) (slice_get modules i) ≡ Some (later_names u)
    all = sym (slice_get-map (λ m. names_from (unshaped m)) modules i) ∙ ap (λ (xs : List Names). slice_get xs i) (sym h) ∙ slice_get-map later_names us i ∙ ap (option_map later_names) is

    by : (o : Option PlainModule) → slice_get modules i ≡ o → later_names u ≡ names_from (unshaped (module_at modules i))
    by None e = absurd (none-some (later_names u) (sym (ap (option_map (λ m. names_from (unshaped m))) e) ∙ all))
    by (Some m) e =
        same_Some (later_names u) (names_from (unshaped m)) (sym all ∙ ap (option_map (λ m. names_from (unshaped m))) e)
        ∙ ap (λ k. names_from (unshaped k)) (sym (module_there modules i m e))

-- a module's place is inside the list, and has the module of the name
pub place_within : (modules : List PlainModule) (name : Text) (i : ℕ) → place_named modules name ≡ Some i → i < length modules
place_within modules name i h = (position-Some (λ m. same_text m.name name) modules i no_module h).0

pub named_at : (modules : List PlainModule) (name : Text) (i : ℕ) (m : PlainModule) → place_named modules name ≡ Some i → slice_get modules i ≡ Some m → module_named modules name ≡ Some m
named_at modules name i m place is = sym (first_read (λ k. same_text k.name name) modules) ∙ ap (option_and_then (slice_get modules)) place ∙ is

pub none_named : (modules : List PlainModule) (name : Text) → place_named modules name ≡ None → module_named modules name ≡ None
none_named modules name place = sym (first_read (λ k. same_text k.name name) modules) ∙ ap (option_and_then (slice_get modules)) place

-- ---- where a name leads to

read-suc : {X : Type 0} (x : X) (xs : List X) (o : Option ℕ) → option_and_then (slice_get (x ∷ xs)) (option_map suc o) ≡ option_and_then (slice_get xs) o
read-suc x xs None = refl
read-suc x xs (Some i) = refl

read-nil : {X : Type 0} (o : Option ℕ) → option_and_then (slice_get {X = X} []) o ≡ None
read-nil None = refl
read-nil (Some i) = refl

-- the place of a port among the ports is that of what it leads to
pub ports_read : (ns : List Text) (js : List code.Joined.Joined) (name : Text)
    → joined_or_apart (option_and_then (slice_get js) (position (λ n. same_text n name) ns)) ≡ joined_of (plain_ports ns js) name
ports_read [] js name = refl
ports_read (n ∷ ns) [] name = ap joined_or_apart (read-nil (position (λ m. same_text m name) (n ∷ ns)))
ports_read (n ∷ ns) (j ∷ js) name = ap (λ o. joined_or_apart (option_and_then (slice_get (j ∷ js)) o)) (position-cons (λ m. same_text m name) n ns) ∙ by (ports_read ns js name) (same_text n name) refl
  where
    by : joined_or_apart (option_and_then (slice_get js) (position (λ m. same_text m name) ns)) ≡ joined_of (plain_ports ns js) name → (b : Bool) → same_text n name ≡ b
        → joined_or_apart (option_and_then (slice_get (j ∷ js)) (cond b (Some 0) (option_map suc (position (λ m. same_text m name) ns)))) ≡ joined_of (plain_ports (n ∷ ns) (j ∷ js)) name
    by h true e = rw e refl
    by h false e = rw e (ap joined_or_apart (read-suc j js (position (λ m. same_text m name) ns)) ∙ h)

-- An instance around, with the tables of its module.
module _ (modules : List PlainModule) (p : code.Place.Place) (around : Facts) (is : IsFacts (module_at modules p.of) around) where
  pub leads_is : (name : Text) → leads_to p around name ≡ joined_of (plain_place modules p).joins name
  leads_is name =
      ap (λ o. joined_or_apart (option_and_then (slice_get p.joins.items) o)) (is.port_places name)
      ∙ ports_read (ports (module_at modules p.of)) p.joins.items name

  led_is : (o : Option Text) → led_by p around o ≡ joined_by (plain_place modules p).joins o
  led_is None = refl
  led_is (Some name) = leads_is name

  join_is : (m : PlainModule) (f : Facts) (links : Text → Option Linked) (ls : List Linked) → IsFacts m f → ((name : Text) → links name ≡ link_to ls name)
      → (port : Text) → joined_in p around links f port ≡ (port_join (plain_place modules p).joins ls m port).joined
  join_is m f links ls right same port =
      ap (λ (t : Total). cond t.input (led_by p around (linked_name (links port))) Apart) (right.summaries port)
      ∙ ap (λ (j : Joined). cond (signal_named m port).input j Apart) (led_is (linked_name (links port)) ∙ ap (λ (l : Option Linked). joined_by (plain_place modules p).joins (linked_name l)) (same port))

  -- what the ports of a copy lead to
  pub joins_are : (m : PlainModule) (f : Facts) (links : Text → Option Linked) (ls : List Linked) (names : List Text) (js : List code.Joined.Joined) → IsFacts m f → names ≡ ports m
      → ((name : Text) → links name ≡ link_to ls name) → map plain_joined js ≡ map (joined_in p around links f) names
      → plain_ports (ports m) js ≡ map (port_join (plain_place modules p).joins ls m) (ports m)
  joins_are m f links ls names js right listed same h =
      ports_lead (ports m) js (λ n. (port_join (plain_place modules p).joins ls m n).joined)
      (h ∙ ap (map (joined_in p around links f)) listed ∙ ap (λ (g : Text → Joined). map g (ports m)) (fun_ext (join_is m f links ls right same)))
    where
      ports_lead : (ns : List Text) (js : List code.Joined.Joined) (g : Text → Joined) → map plain_joined js ≡ map g ns → plain_ports ns js ≡ map (λ n. record { name = n; joined = g n }) ns
      ports_lead [] js g h = refl
      ports_lead (n ∷ ns) [] g h = cc
      ports_lead (n ∷ ns) (j ∷ js) g h =
          let here : plain_joined j ≡ g n = cc in
          let rest : map plain_joined js ≡ map g ns = cc in
          ap (λ k. record { name = n; joined = k } ∷ plain_ports ns js) here ∙ ap (λ ps. record { name = n; joined = g n } ∷ ps) (ports_lead ns js g rest)

-- the same over ports with their places
pub numbered_ports : (ns : List Text) (js : List code.Joined.Joined) (i : ℕ) (g : ℕ × Text → Joined) → map plain_joined js ≡ map g (enumerate_from i ns)
    → plain_ports ns js ≡ map (λ p. record { name = p.1; joined = g p }) (enumerate_from i ns)
numbered_ports [] js i g h = refl
numbered_ports (n ∷ ns) [] i g h = cc
numbered_ports (n ∷ ns) (j ∷ js) i g h =
    let here : plain_joined j ≡ g (i, n) = cc in
    let rest : map plain_joined js ≡ map g (enumerate_from (i + 1) ns) = cc in
    ap (λ k. record { name = n; joined = k } ∷ plain_ports ns js) here ∙ ap (λ ps. record { name = n; joined = g (i, n) } ∷ ps) (numbered_ports ns js (i + 1) g rest)

-- ---- the walk in pre-order

pub below-none : (modules : List PlainModule) (p : Place) → below 0 modules p ≡ p ∷ []
unfolding below
below-none modules p = refl

pub below-more : (n : ℕ) (modules : List PlainModule) (p : Place) → 0 < n → below n modules p ≡ p ∷ flat_map (below (n - 1) modules) (children modules p)
unfolding below
below-more zero modules p h = absurd (omega arith)
below-more (suc n) modules p h =
    let one : suc n - 1 ≡ n = omega arith in
    rw one refl

-- instances with the same parts
pub same_place : (a b : Place) → a.path ≡ b.path → a.prefix ≡ b.prefix → a.of ≡ b.of → a.values ≡ b.values → a.joins ≡ b.joins → a ≡ b
same_place a b p q r s t = λ i. record { path = p i; prefix = q i; of = r i; values = s i; joins = t i }
