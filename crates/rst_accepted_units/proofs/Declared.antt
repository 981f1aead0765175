-- No input of a module is a parameter, where no name is declared twice; which names its signals have.
use Rattle.std.proofs.Common.{◌≡◌, ◌∙◌, Bool, true, false, not, ◌||◌, ◌&&◌, cond, List, [], ◌∷◌, ◌++◌, None, map, append_assoc, append-nil, refl, sym, ap}
use Rattle.std.specs.List.{list_any}
use Rattle.std.proofs.lemmas.Bool.{and_parts}
use Rattle.std.proofs.lemmas.List.Elements.{filter-append}
use Rattle.rst_tree.specs.Trees.{Text}
use Rattle.rst_tree.specs.Modules.{PlainModule}
use Rattle.rst_names.specs.declared.forms.Form.{Form}
use Rattle.rst_names.specs.declared.forms.Form.TheVariants.{Listed, Directed, Net, Parameter, Instance}
use Rattle.rst_names.specs.declared.faults.ElabCode.TheVariants as code
use Rattle.rst_names.specs.Faults.{first, fault_if}
use Rattle.rst_names.specs.Names.{same_text, is_among}
use Rattle.rst_names.specs.SameTrees.{same_range}
use Rattle.rst_names.specs.Declarations.{Declaration, declarations, of_name, declares, is_signal, is_input, is_parameter, signal_declarations, signal_names}
use Rattle.rst_names.proofs.TableLemmas.{one_text}
use Rattle.rst_name_faults.specs.NameRows.{is_listed, goes_with, may_follow, twice_behind, twice}
use Rattle.rst_accepted.proofs.Rows.{left_none, right_none}
use Rattle.rst_accepted_units.proofs.Lists.{or_first, or_second}

-- the declarations of a name, none of which is one too many
abbrev are_right : List Declaration → Bool
are_right [] = true
are_right (a ∷ []) = true
are_right (a ∷ b ∷ []) = is_listed a.form && is_signal b.form
are_right (a ∷ b ∷ c ∷ []) = is_listed a.form && goes_with b.form c.form
are_right (a ∷ b ∷ c ∷ d ∷ ds) = false

and_both : (a b : Bool) → a ≡ true → b ≡ true → (a && b) ≡ true
and_both true b h k = k
and_both false b h k = absurd cc

one_more : (ds : List Declaration) (d : Declaration) → are_right ds ≡ true → may_follow ds d ≡ true → are_right (ds ++ d ∷ []) ≡ true
one_more [] d h k = refl
one_more (a ∷ []) d h k = k
one_more (a ∷ b ∷ []) d h k =
    and_both (is_listed a.form) (goes_with b.form d.form) (and_parts (is_listed a.form) (is_signal b.form) h).0
    (and_parts (goes_with b.form d.form) (same_range b.range d.range) k).0
one_more (a ∷ b ∷ c ∷ ds) d h k = absurd cc

passes : (b : Bool) (name : Text) → first (fault_if (not b) code.Twice name 0) ≡ None → b ≡ true
passes true name h = refl
passes false name h = absurd cc

module _ (name : Text) where
  -- one declaration more
  next : (earlier : List Declaration) (d : Declaration) → are_right (of_name name earlier) ≡ true → may_follow (of_name d.name earlier) d ≡ true → are_right (of_name name (earlier ++ d ∷ [])) ≡ true
  next earlier d h k =
      ap are_right (filter-append (λ e. same_text e.name name) earlier (d ∷ [])) ∙ by (same_text d.name name) refl
    where
      by : (b : Bool) → same_text d.name name ≡ b → are_right (of_name name earlier ++ cond b (d ∷ []) []) ≡ true
      by true e = one_more (of_name name earlier) d h (ap (λ n. may_follow (of_name n earlier) d) (sym (one_text d.name name e)) ∙ k)
      by false e = ap are_right (append-nil (of_name name earlier)) ∙ h

  all_right : (earlier ds : List Declaration) → are_right (of_name name earlier) ≡ true → first (twice_behind earlier ds) ≡ None → are_right (of_name name (earlier ++ ds)) ≡ true
  all_right earlier [] h none = ap (λ l. are_right (of_name name l)) (append-nil earlier) ∙ h
  all_right earlier (d ∷ ds) h none =
      let test = may_follow (of_name d.name earlier) d in
      let front = passes test d.name (left_none (fault_if (not test) code.Twice d.name 0) (twice_behind (earlier ++ d ∷ []) ds) none) in
      ap (λ l. are_right (of_name name l)) (sym (append_assoc earlier (d ∷ []) ds))
      ∙ all_right (earlier ++ d ∷ []) ds (next earlier d h front) (right_none (fault_if (not test) code.Twice d.name 0) (twice_behind (earlier ++ d ∷ []) ds) none)

-- ---- no declaration is that of an input where another is that of a parameter

one_form : (f : Form) → (is_parameter f || false) ≡ true → (is_input f || false) ≡ true → ⊥
one_form Listed p i = absurd cc
one_form (Directed input reg) p i = absurd cc
one_form (Net reg) p i = absurd cc
one_form Parameter p i = absurd cc
one_form Instance p i = absurd cc

two_forms : (f g : Form) → (is_listed f && is_signal g) ≡ true → (is_parameter f || (is_parameter g || false)) ≡ true → ⊥
two_forms Listed Listed h p = absurd cc
two_forms Listed (Directed input reg) h p = absurd cc
two_forms Listed (Net reg) h p = absurd cc
two_forms Listed Parameter h p = absurd cc
two_forms Listed Instance h p = absurd cc
two_forms (Directed input reg) g h p = absurd cc
two_forms (Net reg) g h p = absurd cc
two_forms Parameter g h p = absurd cc
two_forms Instance g h p = absurd cc

paired : (g k : Form) → goes_with g k ≡ true → (is_parameter g || (is_parameter k || false)) ≡ true → ⊥
paired Listed k h p = absurd cc
paired (Directed input true) k h p = absurd cc
paired (Directed input false) Listed h p = absurd cc
paired (Directed input false) (Directed a b) h p = absurd cc
paired (Directed input false) (Net reg) h p = absurd cc
paired (Directed input false) Parameter h p = absurd cc
paired (Directed input false) Instance h p = absurd cc
paired (Net reg) Listed h p = absurd cc
paired (Net reg) (Directed input a) h p = absurd cc
paired (Net reg) (Net a) h p = absurd cc
paired (Net reg) Parameter h p = absurd cc
paired (Net reg) Instance h p = absurd cc
paired Parameter k h p = absurd cc
paired Instance k h p = absurd cc

three_forms : (f g k : Form) → (is_listed f && goes_with g k) ≡ true → (is_parameter f || (is_parameter g || (is_parameter k || false))) ≡ true → ⊥
three_forms Listed g k h p = paired g k h p
three_forms (Directed input reg) g k h p = absurd cc
three_forms (Net reg) g k h p = absurd cc
three_forms Parameter g k h p = absurd cc
three_forms Instance g k h p = absurd cc

apart : (ds : List Declaration) → are_right ds ≡ true → list_any (λ d. is_parameter d.form) ds ≡ true → list_any (λ d. is_input d.form) ds ≡ true → ⊥
apart [] h p i = absurd cc
apart (a ∷ []) h p i = one_form a.form p i
apart (a ∷ b ∷ []) h p i = two_forms a.form b.form h p
apart (a ∷ b ∷ c ∷ []) h p i = three_forms a.form b.form c.form h p
apart (a ∷ b ∷ c ∷ d ∷ ds) h p i = absurd cc

pub no_parameter : (m : PlainModule) → first (twice m) ≡ None → (name : Text) → declares is_input (declarations m) name ≡ true → declares is_parameter (declarations m) name ≡ true → ⊥
no_parameter m none name i p = apart (of_name name (declarations m)) (all_right name [] (declarations m) refl none) p i

-- ---- the names of signals

input_signal : (f : Form) → is_input f ≡ true → is_signal f ≡ true
input_signal Listed h = absurd cc
input_signal (Directed input reg) h = refl
input_signal (Net reg) h = absurd cc
input_signal Parameter h = absurd cc
input_signal Instance h = absurd cc

-- an input is one of the signals
pub input_named : (ds : List Declaration) (name : Text) → declares is_input ds name ≡ true → is_among (signal_names ds) name ≡ true
input_named [] name h = absurd cc
input_named (d ∷ ds) name h = by (same_text d.name name) (is_input d.form) (is_signal d.form) refl refl refl (λ e. input_named ds name e) h
  where
    later : (b : Bool) → is_among (signal_names ds) name ≡ true → is_among (map (λ (e : Declaration). e.name) (cond b (d ∷ signal_declarations ds) (signal_declarations ds))) name ≡ true
    later true rest = or_second (same_text d.name name) (is_among (signal_names ds) name) rest
    later false rest = rest

    by : (same input signal : Bool) → same_text d.name name ≡ same → is_input d.form ≡ input → is_signal d.form ≡ signal
        → (declares is_input ds name ≡ true → is_among (signal_names ds) name ≡ true)
        → list_any (λ (e : Declaration). is_input e.form) (cond same (d ∷ of_name name ds) (of_name name ds)) ≡ true
        → is_among (map (λ (e : Declaration). e.name) (cond signal (d ∷ signal_declarations ds) (signal_declarations ds))) name ≡ true
    by true true true s i t rest k = or_first (same_text d.name name) (is_among (signal_names ds) name) s
    by true true false s i t rest k = let other : is_signal d.form ≡ true = input_signal d.form i in absurd cc
    by true false signal s i t rest k = later signal (rest (sym (ap (λ b. b || list_any (λ (e : Declaration). is_input e.form) (of_name name ds)) i) ∙ k))
    by false input signal s i t rest k = later signal (rest k)

-- a name that no signal has
pub none_declared : (ds : List Declaration) (name : Text) → is_among (signal_names ds) name ≡ false → of_name name (signal_declarations ds) ≡ []
none_declared [] name h = refl
none_declared (d ∷ ds) name h = by (is_signal d.form) (λ e. none_declared ds name e) h
  where
    here : (same : Bool) → (is_among (signal_names ds) name ≡ false → of_name name (signal_declarations ds) ≡ []) → (same || is_among (signal_names ds) name) ≡ false → cond same (d ∷ of_name name (signal_declarations ds)) (of_name name (signal_declarations ds)) ≡ []
    here true rest k = absurd cc
    here false rest k = rest k

    by : (signal : Bool) → (is_among (signal_names ds) name ≡ false → of_name name (signal_declarations ds) ≡ []) → is_among (map (λ (e : Declaration). e.name) (cond signal (d ∷ signal_declarations ds) (signal_declarations ds))) name ≡ false
        → of_name name (cond signal (d ∷ signal_declarations ds) (signal_declarations ds)) ≡ []
    by true rest k = here (same_text d.name name) rest k
    by false rest k = rest k
