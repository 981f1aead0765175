-- All declarations of a name together, with one more.
use Rattle.std.proofs.Common.{◌≡◌, ℕ, ◌+◌, Bool, true, false, not, ◌&&◌, ◌||◌, cond, List, [], ◌∷◌, ◌++◌, take, slice_get, Option, Some, None, refl, ap, ◌∙◌, append-nil}
use Rattle.std.specs.List.{list_any}
use Rattle.std.proofs.lemmas.List.Elements.{filter-append}
use Rattle.std.proofs.lemmas.List.Folds.{list_any-append}
use Rattle.rst_tree.specs.Trees.{Text}
use Rattle.rst_tree.specs.Modules.{PlainRange}
use Rattle.rst_names.specs.Names.{same_text}
use Rattle.rst_names.specs.Declarations.{Declaration, of_name, declares, is_input, is_output, is_signal, is_reg, is_parameter, signal_declarations, first_range}
use Rattle.rst_names.specs.Tables.{Total, total_in, total_or, with_declaration}
use Rattle.rst_names.proofs.Turns.{at}

-- a declaration where the test is true
abbrev kept_if : Bool → Declaration → List Declaration
kept_if test d = cond test (d ∷ []) []

abbrev nothing : List Declaration → Bool
nothing [] = true
nothing (d ∷ ds) = false

or_none : (a : Bool) → (a || false) ≡ a
or_none true = refl
or_none false = refl

first_of : (ds : List Declaration) (d : Declaration) → first_range (ds ++ d ∷ []) ≡ cond (nothing ds) d.range (first_range ds)
first_of [] d = refl
first_of (e ∷ es) d = refl

abbrev made : Bool → Bool → Bool → Bool → Bool → Bool → Option PlainRange → Total
made input output signal reg parameter signed range = record {
  input = input;
  output = output;
  signal = signal;
  reg = reg;
  parameter = parameter;
  signed = signed;
  range = range;
}

seven : {B R T : Type 0} (f : B → B → B → B → B → B → R → T) {a b c d e g a' b' c' d' e' g' : B} {r r' : R}
    → a ≡ a' → b ≡ b' → c ≡ c' → d ≡ d' → e ≡ e' → g ≡ g' → r ≡ r' → f a b c d e g r ≡ f a' b' c' d' e' g' r'
seven f {a} {b} {c} {d} {e} {g} {a'} {b'} {c'} {d'} {e'} {g'} {r} {r'} p q s t u v w =
    ap (λ x. f x b c d e g r) p
    ∙ ap (λ x. f a' x c d e g r) q
    ∙ ap (λ x. f a' b' x d e g r) s
    ∙ ap (λ x. f a' b' c' x e g r) t
    ∙ ap (λ x. f a' b' c' d' x g r) u
    ∙ ap (λ x. f a' b' c' d' e' x r) v
    ∙ ap (λ x. f a' b' c' d' e' g' x) w

module _ (name : Text) where
  -- a name has a declaration as a signal exactly where one of its declarations is such
  no_signals : (ds : List Declaration) → nothing (of_name name (signal_declarations ds)) ≡ not (declares is_signal ds name)
  no_signals [] = refl
  no_signals (e ∷ es) = by (is_signal e.form) refl (same_text e.name name) refl (no_signals es)
    where
      by : (s : Bool) → is_signal e.form ≡ s → (t : Bool) → same_text e.name name ≡ t → nothing (of_name name (signal_declarations es)) ≡ not (declares is_signal es name)
          → nothing (of_name name (cond s (e ∷ signal_declarations es) (signal_declarations es))) ≡ not (list_any (λ (d : Declaration). is_signal d.form) (cond t (e ∷ of_name name es) (of_name name es)))
      by true p true q h = rw (p, q) refl
      by true p false q h = rw q h
      by false p true q h = rw p h
      by false p false q h = h

  module _ (ds : List Declaration) (d : Declaration) where
    of_name-more : of_name name (ds ++ d ∷ []) ≡ of_name name ds ++ kept_if (same_text d.name name) d
    of_name-more = filter-append (λ (d : Declaration). same_text d.name name) ds (d ∷ [])

    signals-more : of_name name (signal_declarations (ds ++ d ∷ [])) ≡ of_name name (signal_declarations ds) ++ of_name name (kept_if (is_signal d.form) d)
    signals-more =
        ap (of_name name) (filter-append (λ (d : Declaration). is_signal d.form) ds (d ∷ []))
        ∙ filter-append (λ (d : Declaration). same_text d.name name) (signal_declarations ds) (kept_if (is_signal d.form) d)

    module _ (same : same_text d.name name ≡ true) where
      any_more : (test : Declaration → Bool) → list_any test (of_name name (ds ++ d ∷ [])) ≡ (list_any test (of_name name ds) || test d)
      any_more test =
          ap (list_any test) (of_name-more ∙ ap (λ b. of_name name ds ++ kept_if b d) same)
          ∙ list_any-append test (of_name name ds) (d ∷ [])
          ∙ ap (λ b. list_any test (of_name name ds) || b) (or_none (test d))

      signed_last : (s : Bool) → list_any (λ (d : Declaration). d.signed) (of_name name (kept_if s d)) ≡ (s && d.signed)
      signed_last true = ap (λ b. list_any (λ (d : Declaration). d.signed) (kept_if b d)) same ∙ or_none d.signed
      signed_last false = refl

      signed_more : list_any (λ (d : Declaration). d.signed) (of_name name (signal_declarations (ds ++ d ∷ [])))
          ≡ (list_any (λ (d : Declaration). d.signed) (of_name name (signal_declarations ds)) || (is_signal d.form && d.signed))
      signed_more =
          ap (list_any (λ (d : Declaration). d.signed)) signals-more
          ∙ list_any-append (λ (d : Declaration). d.signed) (of_name name (signal_declarations ds)) (of_name name (kept_if (is_signal d.form) d))
          ∙ ap (λ b. list_any (λ (d : Declaration). d.signed) (of_name name (signal_declarations ds)) || b) (signed_last (is_signal d.form))

      range_last : (s : Bool) → first_range (of_name name (signal_declarations ds) ++ of_name name (kept_if s d))
          ≡ cond (s && not (declares is_signal ds name)) d.range (first_range (of_name name (signal_declarations ds)))
      range_last true =
          ap (λ b. first_range (of_name name (signal_declarations ds) ++ kept_if b d)) same
          ∙ first_of (of_name name (signal_declarations ds)) d
          ∙ ap (λ b. cond b d.range (first_range (of_name name (signal_declarations ds)))) (no_signals ds)
      range_last false = ap first_range (append-nil (of_name name (signal_declarations ds)))

      -- one more declaration of the name
      pub total_same : total_in (ds ++ d ∷ []) name ≡ with_declaration (total_in ds name) d
      total_same =
          seven made
          (any_more (λ d. is_input d.form))
          (any_more (λ d. is_output d.form))
          (any_more (λ d. is_signal d.form))
          (any_more (λ d. is_reg d.form))
          (any_more (λ d. is_parameter d.form))
          signed_more
          (ap first_range signals-more ∙ range_last (is_signal d.form))

    abbrev total_from : List Declaration → List Declaration → Total
    total_from named signals =
        made (list_any (λ d. is_input d.form) named) (list_any (λ d. is_output d.form) named) (list_any (λ d. is_signal d.form) named) (list_any (λ d. is_reg d.form) named)
        (list_any (λ d. is_parameter d.form) named) (list_any (λ d. d.signed) signals) (first_range signals)

    -- one of another name
    pub total_other : same_text d.name name ≡ false → total_in (ds ++ d ∷ []) name ≡ total_in ds name
    total_other other =
        let named : of_name name (ds ++ d ∷ []) ≡ of_name name ds = of_name-more ∙ ap (λ b. of_name name ds ++ kept_if b d) other ∙ append-nil (of_name name ds) in
        let signals : of_name name (signal_declarations (ds ++ d ∷ [])) ≡ of_name name (signal_declarations ds) = signals-more ∙ by (is_signal d.form) in
        ap (λ l. total_from l (of_name name (signal_declarations (ds ++ d ∷ [])))) named ∙ ap (total_from (of_name name ds)) signals
      where
        by : (s : Bool) → of_name name (signal_declarations ds) ++ of_name name (kept_if s d) ≡ of_name name (signal_declarations ds)
        by true = ap (λ b. of_name name (signal_declarations ds) ++ kept_if b d) other ∙ append-nil (of_name name (signal_declarations ds))
        by false = append-nil (of_name name (signal_declarations ds))

-- a name that no declaration has
pub total_none : (name : Text) → total_in [] name ≡ total_or None
total_none name = refl

-- the same of the declarations before a place
pub total_more : (ds : List Declaration) (i : ℕ) (d : Declaration) (name : Text) → slice_get ds i ≡ Some d
    → total_in (take (i + 1) ds) name ≡ cond (same_text d.name name) (with_declaration (total_in (take i ds) name) d) (total_in (take i ds) name)
total_more ds i d name is = ap (λ l. total_in l name) (at ds i d is).front ∙ by (same_text d.name name) refl
  where
    by : (t : Bool) → same_text d.name name ≡ t → total_in (take i ds ++ d ∷ []) name ≡ cond t (with_declaration (total_in (take i ds) name) d) (total_in (take i ds) name)
    by true same = total_same name (take i ds) d same
    by false other = total_other name (take i ds) d other
