-- An input of an instance is a signal of its own, and a name without a declaration has one bit.
use Rattle.std.proofs.Common.{◌≡◌, ◌∙◌, ℕ, ◌+◌, Bool, true, false, not, ◌||◌, cond, List, [], ◌∷◌, ◌++◌, Option, Some, None, Result, Ok, Err, map, filter, refl, sym, ap}
use Rattle.std.specs.List.{AllByRecursion, flat_map, enumerate_from, list_any, find}
use Rattle.std.specs.Option.{option_map}
use Rattle.std.proofs.lemmas.List.Elements.{filter-append}
use Rattle.rst_word.specs.Words.{PlainWord}
use Rattle.rst_tree.specs.Trees.{Text}
use Rattle.rst_tree.specs.Modules.{PlainRange, PlainParamDecl, PlainParamName, PlainItem, PlainModule}
use Rattle.rst_tree.specs.Modules as tree
use Rattle.rst_width.specs.Scopes.{Names, Meaning, Signal, Param, either_of}
use Rattle.rst_names.specs.declared.forms.Form.{Form}
use Rattle.rst_names.specs.declared.faults.ElabCode.{ElabCode}
use Rattle.rst_names.specs.Faults.{first}
use Rattle.rst_names.specs.Names.{same_text, is_among}
use Rattle.rst_names.specs.Declarations.{Declaration, param_declaration, param_declarations, header_declarations, item_declarations, declarations, of_name, declares, is_input, is_parameter, ports, first_range, signal_names, signal_named, inner_names, item_params, param_decls}
use Rattle.rst_names.proofs.TableLemmas.{one_text}
use Rattle.rst_name_faults.specs.NameRows.{twice}
use Rattle.rst_instances.specs.Parameters.{Known, known, names_from, param_width, Valued, Linked, known_values, valued, values_of_names, values_of_decls, values_of, names_behind}
use Rattle.rst_instances.specs.Places.{Place, Located, extent_by, extent_in, known_signal, known_signals, names_at, width_in}
use Rattle.rst_instances.proofs.KnownLemmas.{names_from-append}
use Rattle.rst_accepted_units.proofs.Lists.{each_weaker, each_joined, any_joined, or_first, or_second}
use Rattle.rst_accepted_units.proofs.Reached.{itself}
use Rattle.rst_accepted_units.proofs.Declared.{no_parameter, input_named, none_declared}

-- ---- declarations in two parts

module _ (test : Form → Bool) (a b : List Declaration) (name : Text) where
  declares_joined : declares test (a ++ b) name ≡ (declares test a name || declares test b name)
  declares_joined =
      ap (list_any (λ (d : Declaration). test d.form)) (filter-append (λ (d : Declaration). same_text d.name name) a b)
      ∙ any_joined (λ (d : Declaration). test d.form) (of_name name a) (of_name name b)

  declares_first : declares test a name ≡ true → declares test (a ++ b) name ≡ true
  declares_first h = declares_joined ∙ or_first (declares test a name) (declares test b name) h

  declares_second : declares test b name ≡ true → declares test (a ++ b) name ≡ true
  declares_second h = declares_joined ∙ or_second (declares test a name) (declares test b name) h

-- ---- the parameters of a module are declared in it

abbrev AreDeclared : List Declaration → PlainParamDecl → Type 0
AreDeclared ds d = AllByRecursion (λ (p : PlainParamName). declares is_parameter ds p.name ≡ true) d.names

names_declared : (d : PlainParamDecl) (ps : List PlainParamName) → AllByRecursion (λ (p : PlainParamName). declares is_parameter (map (param_declaration d) ps) p.name ≡ true) ps
names_declared d [] = tt
names_declared d (p ∷ ps) =
    let others = map (param_declaration d) ps in (
      ap (λ b. list_any (λ (x : Declaration). is_parameter x.form) (cond b (param_declaration d p ∷ of_name p.name others) (of_name p.name others))) (itself p.name),
      each_weaker (λ (q : PlainParamName). declares is_parameter others q.name ≡ true) (λ (q : PlainParamName). declares is_parameter (param_declaration d p ∷ others) q.name ≡ true)
          (λ q h. declares_second is_parameter (param_declaration d p ∷ []) others q.name h) ps (names_declared d ps),
    )

wider_first : (a b : List Declaration) (ds : List PlainParamDecl) → AllByRecursion (AreDeclared a) ds → AllByRecursion (AreDeclared (a ++ b)) ds
wider_first a b ds h =
    each_weaker (AreDeclared a) (AreDeclared (a ++ b))
    (λ d k. each_weaker (λ (p : PlainParamName). declares is_parameter a p.name ≡ true) (λ (p : PlainParamName). declares is_parameter (a ++ b) p.name ≡ true)
    (λ p e. declares_first is_parameter a b p.name e) d.names k) ds h

wider_second : (a b : List Declaration) (ds : List PlainParamDecl) → AllByRecursion (AreDeclared b) ds → AllByRecursion (AreDeclared (a ++ b)) ds
wider_second a b ds h =
    each_weaker (AreDeclared b) (AreDeclared (a ++ b))
    (λ d k. each_weaker (λ (p : PlainParamName). declares is_parameter b p.name ≡ true) (λ (p : PlainParamName). declares is_parameter (a ++ b) p.name ≡ true)
    (λ p e. declares_second is_parameter a b p.name e) d.names k) ds h

decls_declared : (ds : List PlainParamDecl) → AllByRecursion (AreDeclared (flat_map param_declarations ds)) ds
decls_declared [] = tt
decls_declared (d ∷ ds) =
    let alone : AllByRecursion (AreDeclared (param_declarations d)) (d ∷ []) = (names_declared d d.names, tt) in (
      (wider_first (param_declarations d) (flat_map param_declarations ds) (d ∷ []) alone).0,
      wider_second (param_declarations d) (flat_map param_declarations ds) ds (decls_declared ds),
    )

items_declared : (items : List PlainItem) → AllByRecursion (AreDeclared (flat_map item_declarations items)) (flat_map item_params items)
items_declared [] = tt
items_declared (tree.Params d ∷ items) =
    let alone : AllByRecursion (AreDeclared (param_declarations d)) (d ∷ []) = (names_declared d d.names, tt) in (
      (wider_first (param_declarations d) (flat_map item_declarations items) (d ∷ []) alone).0,
      wider_second (param_declarations d) (flat_map item_declarations items) (flat_map item_params items) (items_declared items),
    )
items_declared (x ∷ items) = wider_second (item_declarations x) (flat_map item_declarations items) (flat_map item_params items) (items_declared items)

params_declared : (m : PlainModule) → AllByRecursion (AreDeclared (declarations m)) (param_decls m)
params_declared m =
    let front = flat_map param_declarations m.params in
    let header = header_declarations m.header in
    let back = flat_map item_declarations m.items in
    each_joined (AreDeclared (declarations m)) m.params (flat_map item_params m.items)
    (wider_first front (header ++ back) m.params (decls_declared m.params))
    (wider_second front (header ++ back) (flat_map item_params m.items) (wider_second header back (flat_map item_params m.items) (items_declared m.items)))

-- ---- so the values of an instance have names of parameters

abbrev pub AreParameters : PlainModule → List Valued → Type 0
AreParameters m vs = AllByRecursion (λ (v : Valued). declares is_parameter (declarations m) v.name ≡ true) vs

module _ (m : PlainModule) (outside : Names) (links : List Linked) where
  names_of_decl : (d : PlainParamDecl) (width : Result (Option ℕ) ElabCode) (before : List Valued) (ps : List PlainParamName) → AreParameters m before
      → AllByRecursion (λ (p : PlainParamName). declares is_parameter (declarations m) p.name ≡ true) ps → AreParameters m (values_of_names m outside links d width before ps)
  names_of_decl d width before [] h k = h
  names_of_decl d width before (p ∷ ps) h k =
      names_of_decl d width (before ++ valued m outside links d width before p ∷ []) ps
      (each_joined (λ (v : Valued). declares is_parameter (declarations m) v.name ≡ true) before (valued m outside links d width before p ∷ []) h (k.0, tt)) k.1

  names_of_decls : (before : List Valued) (ds : List PlainParamDecl) → AreParameters m before → AllByRecursion (AreDeclared (declarations m)) ds → AreParameters m (values_of_decls m outside links before ds)
  names_of_decls before [] h k = h
  names_of_decls before (d ∷ ds) h k =
      let width = param_width (names_behind m before) d.range in
      names_of_decls (values_of_names m outside links d width before d.names) ds (names_of_decl d width before d.names h k.0) k.1

  pub values_named : AreParameters m (values_of m outside links)
  values_named = names_of_decls [] (param_decls m) tt (params_declared m)

-- ---- the signals of an instance by their names

none_valued : (m : PlainModule) (name : Text) (vs : List Valued) → AreParameters m vs → (declares is_parameter (declarations m) name ≡ true → ⊥) → names_from (known_values vs) name ≡ None
none_valued m name [] h none = refl
none_valued m name (v ∷ vs) h none = by v.value (none_valued m name vs h.1 none)
  where
    other : (w : PlainWord) (b : Bool) → names_from (known_values vs) name ≡ None → same_text v.name name ≡ b → option_map (λ (k : Known). k.meaning) (cond b (Some (known v.name (Param w))) (find (λ (k : Known). same_text k.name name) (known_values vs))) ≡ None
    other w true rest e = absurd (none (ap (declares is_parameter (declarations m)) (sym (one_text v.name name e)) ∙ h.0))
    other w false rest e = rest

    by : (r : Result PlainWord ElabCode) → names_from (known_values vs) name ≡ None → names_from (known_values (record { name = v.name; value = r } ∷ vs)) name ≡ None
    by (Ok w) rest = other w (same_text v.name name) rest refl
    by (Err e) rest = rest

-- the number of a signal
pub record HasNumber (p : Place) (names : Names) (name : Text) : Type 0 where
  pub number : ℕ
  pub is : names name ≡ Some (Signal number (extent_in p (signal_named p.of name)))

signal_found : (p : Place) (n : ℕ) (ts : List Text) (name : Text) → is_among ts name ≡ true → HasNumber p (names_from (map (known_signal p) (enumerate_from n (map (signal_named p.of) ts)))) name
signal_found p n [] name h = absurd cc
signal_found p n (t ∷ ts) name h = by (same_text t name) refl (λ e. signal_found p (n + 1) ts name e) h
  where
    rest : Option Known
    rest = find (λ (k : Known). same_text k.name name) (map (known_signal p) (enumerate_from (n + 1) (map (signal_named p.of) ts)))

    first_one : Known
    first_one = known t (Signal n (extent_in p (signal_named p.of t)))

    told : (b : Bool) → same_text t name ≡ b → names_from (map (known_signal p) (enumerate_from n (map (signal_named p.of) (t ∷ ts)))) name ≡ option_map (λ (k : Known). k.meaning) (cond b (Some first_one) rest)
    told b e = ap (λ c. option_map (λ (k : Known). k.meaning) (cond c (Some first_one) rest)) e

    by : (b : Bool) → same_text t name ≡ b → (is_among ts name ≡ true → HasNumber p (names_from (map (known_signal p) (enumerate_from (n + 1) (map (signal_named p.of) ts)))) name) → (b || is_among ts name) ≡ true → HasNumber p (names_from (map (known_signal p) (enumerate_from n (map (signal_named p.of) (t ∷ ts))))) name
    by true e rest k = record { number = n; is = told true e ∙ ap (λ x. Some (Signal n (extent_in p (signal_named p.of x)))) (one_text t name e) }
    by false e rest k = let later = rest k in record { number = later.number; is = told false e ∙ later.is }

-- a name that isn't among the ports stays among the others
kept : (others ts : List Text) (name : Text) → is_among ts name ≡ true → is_among others name ≡ false → is_among (filter (λ n. not (is_among others n)) ts) name ≡ true
kept others [] name h none = absurd cc
kept others (t ∷ ts) name h none = by (same_text t name) refl (λ e. kept others ts name e none) h
  where
    later : (b : Bool) → is_among (filter (λ n. not (is_among others n)) ts) name ≡ true → is_among (cond b (t ∷ filter (λ n. not (is_among others n)) ts) (filter (λ n. not (is_among others n)) ts)) name ≡ true
    later true rest = or_second (same_text t name) (is_among (filter (λ n. not (is_among others n)) ts) name) rest
    later false rest = rest

    by : (b : Bool) → same_text t name ≡ b → (is_among ts name ≡ true → is_among (filter (λ n. not (is_among others n)) ts) name ≡ true) → (b || is_among ts name) ≡ true → is_among (filter (λ n. not (is_among others n)) (t ∷ ts)) name ≡ true
    by true e rest k =
        let apart : is_among others t ≡ false = ap (is_among others) (one_text t name e) ∙ none in
        ap (λ c. is_among (cond (not c) (t ∷ filter (λ n. not (is_among others n)) ts) (filter (λ n. not (is_among others n)) ts)) name) apart
        ∙ or_first (same_text t name) (is_among (filter (λ n. not (is_among others n)) ts) name) e
    by false e rest k = later (not (is_among others t)) (rest k)

among_all : (m : PlainModule) (name : Text) → is_among (signal_names (declarations m)) name ≡ true → is_among (ports m ++ inner_names m) name ≡ true
among_all m name h =
    any_joined (λ n. same_text n name) (ports m) (inner_names m) ∙ by (is_among (ports m) name) refl
  where
    by : (b : Bool) → is_among (ports m) name ≡ b → (b || is_among (inner_names m) name) ≡ true
    by true e = refl
    by false e = kept (ports m) (signal_names (declarations m)) name h e

module _ (l : Located) (name : Text) where
  parts : names_at l name ≡ either_of (names_from (known_values l.place.values) name) (names_from (known_signals l) name)
  parts = names_from-append (known_values l.place.values) (known_signals l) name

  declared_here : is_among (signal_names (declarations l.place.of)) name ≡ true → HasNumber l.place (names_from (known_signals l)) name
  declared_here h = signal_found l.place l.base (ports l.place.of ++ inner_names l.place.of) name (among_all l.place.of name h)

  -- an input is a signal of its instance
  pub input_found : first (twice l.place.of) ≡ None → AreParameters l.place.of l.place.values → declares is_input (declarations l.place.of) name ≡ true → HasNumber l.place (names_at l) name
  input_found once named h =
      let here = declared_here (input_named (declarations l.place.of) name h) in
      record {
        number = here.number;
        is = parts ∙ ap (λ o. either_of o (names_from (known_signals l) name)) (none_valued l.place.of name l.place.values named (no_parameter l.place.of once name h)) ∙ here.is;
      }

  some_found : (a b : Option Meaning) (m : Meaning) → b ≡ Some m → either_of a b ≡ None → ⊥
  some_found None b m h k = cc
  some_found (Some a) b m h k = cc

  -- a name that stands for nothing has one bit
  pub missing_bit : names_at l name ≡ None → width_in l.place name ≡ 1
  missing_bit none = by (is_among (signal_names (declarations l.place.of)) name) refl
    where
      by : (b : Bool) → is_among (signal_names (declarations l.place.of)) name ≡ b → width_in l.place name ≡ 1
      by true e =
          let here = declared_here e in
          absurd (some_found (names_from (known_values l.place.values) name) (names_from (known_signals l) name) (Signal here.number (extent_in l.place (signal_named l.place.of name))) here.is (sym parts ∙ none))
      by false e =
          ap (λ ds. (extent_by (names_behind l.place.of l.place.values) (signal_named l.place.of name).signed (first_range ds)).width)
          (none_declared (declarations l.place.of) name e)
