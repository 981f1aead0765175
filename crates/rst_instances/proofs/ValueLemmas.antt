-- The names behind values, and values of lists of declarations.
use Rattle.std.proofs.Common.{◌≡◌, ℕ, List, [], ◌∷◌, ◌++◌, Option, Result, Ok, Err, refl, sym, ap, ◌∙◌}
use Rattle.std.proofs.Math.Path.{fun_ext}
use Rattle.rst_tree.specs.Trees.{Text}
use Rattle.rst_tree.specs.Modules.{PlainModule, PlainParamDecl, PlainParamName}
use Rattle.rst_width.specs.declared.scope.Scope.{Scope}
use Rattle.rst_width.specs.declared.names.UnshapedNames.{UnshapedNames}
use Rattle.rst_width.specs.Scopes.{Names, names_of, names_with, either_of}
use Rattle.rst_names.specs.declared.faults.ElabCode.{ElabCode}
use Rattle.rst_instances.specs.Parameters.{Linked, Valued, ◌then◌, param_width, linked_in_order, link_to, names_from, known_values, unshaped, names_behind, value_of, valued, values_of_names, values_of_decls}
use Rattle.rst_instances.specs.Tables.{later_names}
use Rattle.rst_instances.proofs.KnownLemmas.{names_from-append}

-- a scope of values, and behind it the names of the module that have no width and sign yet
pub behind : (scope : Scope) (u : UnshapedNames) (m : PlainModule) (before : List Valued) → names_of scope ≡ names_from (known_values before) → later_names u ≡ names_from (unshaped m)
    → names_with scope u ≡ names_behind m before
behind scope u m before a b = fun_ext
    (λ name. ap (λ (f : Names). either_of (f name) (later_names u name)) a ∙ ap (λ (f : Names). either_of (names_from (known_values before) name) (f name)) b ∙ sym (names_from-append (known_values before) (unshaped m) name))

-- the value of a parameter among equal names, by an equal link
pub value_behind : (m : PlainModule) (own out outside : Names) (links : List Linked) (found : Option Linked) (d : PlainParamDecl) (width : Result (Option ℕ) ElabCode) (before : List Valued) (p : PlainParamName)
    → own ≡ names_behind m before → out ≡ outside → found ≡ link_to links p.name
    → (width then λ range. value_of own out d.signed range p.value found) ≡ (valued m outside links d width before p).value
value_behind m own out outside links found d (Err e) before p a b h = refl
value_behind m own out outside links found d (Ok range) before p a b h =
    ap (λ (n : Names). value_of n out d.signed range p.value found) a
    ∙ ap (λ (n : Names). value_of (names_behind m before) n d.signed range p.value found) b
    ∙ ap (λ (l : Option Linked). value_of (names_behind m before) outside d.signed range p.value l) h

-- declarations in two parts
pub values_of_decls-append : (m : PlainModule) (outside : Names) (links : List Linked) (before : List Valued) (xs ys : List PlainParamDecl)
    → values_of_decls m outside links before (xs ++ ys) ≡ values_of_decls m outside links (values_of_decls m outside links before xs) ys
values_of_decls-append m outside links before [] ys = refl
values_of_decls-append m outside links before (x ∷ xs) ys = values_of_decls-append m outside links (values_of_names m outside links x (param_width (names_behind m before) x.range) before x.names) xs ys

-- no links, to names in order
pub ordered_none : (ns : List Text) → linked_in_order ns [] ≡ []
ordered_none [] = refl
ordered_none (n ∷ ns) = refl
