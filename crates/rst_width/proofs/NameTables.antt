-- What the code's tables of names say.
use Rattle.std.proofs.Common.{◌≡◌, Option, Some, None, refl, subst}
use Rattle.std.proofs.Math.Path.{fun_ext}
use Rattle.rst_tree.specs.Trees.{Text}
use Rattle.rst_word.specs.Plain.{plain_word}
use Rattle.rst_width.specs.declared.scope.Entry.{Entry}
use Rattle.rst_width.specs.declared.scope.Entry.TheVariants as entry
use Rattle.rst_width.specs.declared.scope.Scope.{Scope}
use Rattle.rst_width.specs.declared.names.Unshaped.{Unshaped}
use Rattle.rst_width.specs.declared.names.UnshapedNames.{UnshapedNames}
use Rattle.rst_width.specs.Scopes.{Meaning, Signal, Param, Later, IsMeaning, AreMeanings, extent_of, meaning_of, entry_of, names_of, later_of, either_of, unshaped_of, names_with}

either_of-none : (m : Option Meaning) → either_of m None ≡ m
either_of-none None = refl
either_of-none (Some m) = refl

-- a scope, and behind it no names
pub names_alone : (scope : Scope) (none : UnshapedNames) → ((name : Text) → unshaped_of none name ≡ None) → names_with scope none ≡ names_of scope
names_alone scope none h = fun_ext (λ name. rw (h name) (either_of-none (names_of scope name)))

signal_meant : (i : _) (shape : _) (m : Meaning) → Some (Signal i (extent_of shape)) ≡ Some m → IsMeaning m
signal_meant i shape m h =
    let is : Signal i (extent_of shape) ≡ m = cc in
    subst IsMeaning is (record { some_bits = shape.some_bits; at_most_64 = shape.at_most_64; in_reach = shape.in_reach })

param_meant : (w : _) (m : Meaning) → Some (Param (plain_word w)) ≡ Some m → IsMeaning m
param_meant w m h =
    let is : Param (plain_word w) ≡ m = cc in
    subst IsMeaning is (record { some_bits = w.some_bits; at_most_64 = w.at_most_64; fits = w.fits })

meant : (e : Option Entry) (u : Option Unshaped) (m : Meaning) → either_of (meaning_of e) (later_of u) ≡ Some m → IsMeaning m
meant None None m h = cc
meant None (Some u) m h = let is : Later u.ranged ≡ m = cc in subst IsMeaning is tt
meant (Some (entry.Signal i shape)) u m h = signal_meant i shape m h
meant (Some (entry.Param w)) u m h = param_meant w m h

-- the names of the code's tables stand for what they can
pub names_with-meant : (scope : Scope) (unshaped : UnshapedNames) → AreMeanings (names_with scope unshaped)
names_with-meant scope unshaped name m h = meant (entry_of scope name) (unshaped_of unshaped name) m h

scope_meant : (e : Option Entry) (m : Meaning) → meaning_of e ≡ Some m → IsMeaning m
scope_meant None m h = cc
scope_meant (Some (entry.Signal i shape)) m h = signal_meant i shape m h
scope_meant (Some (entry.Param w)) m h = param_meant w m h

pub names_of-meant : (scope : Scope) → AreMeanings (names_of scope)
names_of-meant scope name m h = scope_meant (entry_of scope name) m h
