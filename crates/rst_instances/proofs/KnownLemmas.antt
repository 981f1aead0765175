-- Names of lists, of which the first entry counts, and tables that such a list is put into one by one.
use Rattle.std.proofs.Common.{◌≡◌, ℕ, ◌+◌, Bool, true, false, cond, List, [], ◌∷◌, ◌++◌, map, filter, Option, Some, None, refl, sym, ap, ◌∙◌}
use Rattle.std.proofs.Math.Path.{fun_ext}
use Rattle.std.specs.List.{find, enumerate_from}
use Rattle.std.proofs.lemmas.List.Elements.{filter_map-append}
use Rattle.std.specs.Option.{option_map}
use Rattle.rst_tree.specs.Trees.{Text}
use Rattle.rst_width.specs.declared.scope.Scope.{Scope}
use Rattle.rst_width.specs.Scopes.{Names, Meaning, names_of, either_of}
use Rattle.rst_names.specs.Names.{same_text}
use Rattle.rst_names.specs.Declarations.{Declaration, Declared, is_value}
use Rattle.rst_instances.specs.Parameters.{Known, Valued, names_from, known_value, known_values, later, laters}
use Rattle.rst_instances.specs.Places.{Place, extent_in, known_signal}
use Rattle.rst_instances.specs.Locations.{shown_signals}

pub names_from-append : (xs ys : List Known) (name : Text) → names_from (xs ++ ys) name ≡ either_of (names_from xs name) (names_from ys name)
names_from-append [] ys name = refl
names_from-append (x ∷ xs) ys name = by (same_text x.name name) (names_from-append xs ys name)
  where
    by : (here : Bool) → names_from (xs ++ ys) name ≡ either_of (names_from xs name) (names_from ys name)
        → option_map (λ (k : Known). k.meaning) (cond here (Some x) (find (λ (k : Known). same_text k.name name) (xs ++ ys)))
        ≡ either_of (option_map (λ (k : Known). k.meaning) (cond here (Some x) (find (λ (k : Known). same_text k.name name) xs))) (names_from ys name)
    by true h = refl
    by false h = h

either_of-assoc : (a b c : Option Meaning) → either_of (either_of a b) c ≡ either_of a (either_of b c)
either_of-assoc None b c = refl
either_of-assoc (Some a) b c = refl

-- a scope without entries
pub no_names : (s : Scope) → s.entries.entries ≡ [] → names_of s ≡ names_from (known_values [])
no_names s h = fun_ext (λ name. rw h)

-- One turn of a loop that puts a list into a table: what the row adds comes behind the table, and before the rest.
pub names_step : (before after all : Option Meaning) (row rest front : List Known) (name : Text) → front ≡ row ++ rest → after ≡ either_of before (names_from row name)
    → either_of before (names_from front name) ≡ all → either_of after (names_from rest name) ≡ all
names_step before after all row rest front name is next h =
    ap (λ o. either_of o (names_from rest name)) next ∙ either_of-assoc before (names_from row name) (names_from rest name)
    ∙ ap (either_of before) (sym (names_from-append row rest name)) ∙ ap (λ ks. either_of before (names_from ks name)) (sym is) ∙ h

-- What is behind nothing.
pub either_of-none : (a : Option Meaning) → either_of a None ≡ a
either_of-none None = refl
either_of-none (Some a) = refl

-- Values in two parts.
pub known_values-append : (xs ys : List Valued) → known_values (xs ++ ys) ≡ known_values xs ++ known_values ys
known_values-append xs ys = filter_map-append known_value xs ys

-- One value more, where the names have those of the values before it.
pub known_more : (before after : Names) (vs : List Valued) (v : Valued) → before ≡ names_from (known_values vs)
    → ((name : Text) → after name ≡ either_of (before name) (names_from (known_values (v ∷ [])) name)) → after ≡ names_from (known_values (vs ++ v ∷ []))
known_more before after vs v is h = fun_ext (λ name.
    h name ∙ ap (λ (f : Names). either_of (f name) (names_from (known_values (v ∷ [])) name)) is
    ∙ sym (names_from-append (known_values vs) (known_values (v ∷ [])) name) ∙ ap (λ ks. names_from ks name) (sym (known_values-append vs (v ∷ []))))

-- Declared names, the first apart.
pub laters-more : (d : Declaration) (ds : List Declaration) → laters (d ∷ ds) ≡ laters (d ∷ []) ++ laters ds
laters-more d ds = by (is_value d.form)
  where
    by : (b : Bool) → map later (cond b (d ∷ filter (λ (e : Declaration). is_value e.form) ds) (filter (λ (e : Declaration). is_value e.form) ds)) ≡ map later (cond b (d ∷ []) []) ++ laters ds
    by true = refl
    by false = refl

-- Signals that are shown with the extents that they have are the known ones.
pub shown-are-known : (p : Place) (base : ℕ) (ds : List Declared) → shown_signals base ds (map (extent_in p) ds) ≡ map (known_signal p) (enumerate_from base ds)
shown-are-known p base [] = refl
shown-are-known p base (d ∷ ds) = ap (λ ks. known_signal p (base, d) ∷ ks) (shown-are-known p (base + 1) ds)
