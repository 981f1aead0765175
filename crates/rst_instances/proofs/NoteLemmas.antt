-- Tables in which the first entry of a name counts.
use Rattle.std.proofs.Common.{◌≡◌, Bool, true, false, cond, Option, Some, None, is_some, refl, ap, subst, ◌∙◌}
use Rattle.std.specs.Option.{option_or, option_map}
use Rattle.rst_tree.specs.Trees.{Text}
use Rattle.rst_names.specs.Names.{same_text}
use Rattle.rst_names.proofs.TableLemmas.{one_text}

module _ {V : Type 0} (table : Text → Option V) (name : Text) (v : V) where
  -- the name has an entry already
  pub noted_before : is_some (table name) ≡ true → (key : Text) → table key ≡ option_or (table key) (cond (same_text name key) (Some v) None)
  noted_before there key = by (table key) refl (same_text name key) refl
    where
      by : (o : Option V) → table key ≡ o → (b : Bool) → same_text name key ≡ b → o ≡ option_or o (cond b (Some v) None)
      by (Some w) e b k = refl
      by None e false k = refl
      by None e true k =
          let some : is_some (table key) ≡ true = subst (λ n. is_some (table n) ≡ true) (one_text name key k) there in
          let none : is_some (table key) ≡ false = ap is_some e in
          cc

  -- it has none yet
  pub noted_now : (next : Text → Option V) → is_some (table name) ≡ false → ((key : Text) → next key ≡ cond (same_text name key) (Some v) (table key))
      → (key : Text) → next key ≡ option_or (table key) (cond (same_text name key) (Some v) None)
  noted_now next absent gives key = by (table key) refl (same_text name key) refl (gives key)
    where
      by : (o : Option V) → table key ≡ o → (b : Bool) → same_text name key ≡ b → next key ≡ cond b (Some v) (table key) → next key ≡ option_or o (cond b (Some v) None)
      by None e false k g = g ∙ e
      by None e true k g = g
      by (Some w) e false k g = g ∙ e
      by (Some w) e true k g =
          let none : is_some (table key) ≡ false = subst (λ n. is_some (table n) ≡ false) (one_text name key k) absent in
          let some : is_some (table key) ≡ true = ap is_some e in
          cc

-- One entry noted, the first of those that were left: what the table has, and else the rest, stays.
pub noted_turn : {W : Type 0} (before after : Option W) (w : W) (here : Bool) (rest all : Option W) → after ≡ option_or before (cond here (Some w) None)
    → option_or before (cond here (Some w) rest) ≡ all → option_or after rest ≡ all
noted_turn (Some v) after w here rest all is h = rw is h
noted_turn None after w true rest all is h = rw is h
noted_turn None after w false rest all is h = rw is h

pub option_or-map : {V W : Type 0} (view : V → W) (a : Option V) (here : Bool) (v : V) → option_map view (option_or a (cond here (Some v) None)) ≡ option_or (option_map view a) (cond here (Some (view v)) None)
option_or-map view (Some a) here v = refl
option_or-map view None true v = refl
option_or-map view None false v = refl

pub option_or-none : {V : Type 0} (a : Option V) → option_or a None ≡ a
option_or-none None = refl
option_or-none (Some a) = refl
