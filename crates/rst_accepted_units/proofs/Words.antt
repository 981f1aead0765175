-- The values of parameters are words, whatever links set them; their names are those of parameters.
use Rattle.std.proofs.Common.{◌≡◌, ℕ, ◌<◌, ◌≤◌, nat_lt, Bool, true, false, cond, List, [], ◌∷◌, ◌++◌, Option, Some, None, Result, Ok, Err, filter, unwrap_or, arith, refl, subst, pow_pos, mod-lt}
use Rattle.std.specs.Prelude.{IfOk}
use Rattle.std.specs.List.{AllByRecursion, find}
use Rattle.std.specs.Option.{option_map}
use Rattle.std.proofs.lemmas.Bool.Decides.{nat_tests}
use Rattle.rst_tree.specs.Trees.{Text, Tree}
use Rattle.rst_tree.specs.Modules.{PlainRange, PlainParamDecl, PlainParamName, PlainModule}
use Rattle.rst_word.specs.Words.{PlainWord, IsWord}
use Rattle.rst_width.specs.declared.typed_expr.Shape.{Shape}
use Rattle.rst_width.specs.declared.typed_expr.WidthFault.{WidthFault}
use Rattle.rst_width.specs.Scopes.{Names, Meaning, Signal, Param, Later, IsMeaning, AreMeanings}
use Rattle.rst_width.specs.Sized.{Answer, in_context, own, ◌>>=◌}
use Rattle.rst_width.specs.Sizing.{sized}
use Rattle.rst_width.specs.Values.{constant_word}
use Rattle.rst_width.specs.Fit.{FitsIn}
use Rattle.rst_width.specs.Reads.{HaveWidths, ReadsInside}
use Rattle.rst_width.specs.Answers.{constant_answer, widened_shape}
use Rattle.rst_width.proofs.Fits.{in_context-fit}
use Rattle.rst_width.proofs.SizingFits.{sized-fit}
use Rattle.rst_width.proofs.ReadsSized.{typed-reads}
use Rattle.rst_width.proofs.ValueWords.{value-word}
use Rattle.rst_names.specs.declared.faults.ElabCode.{ElabCode}
use Rattle.rst_names.specs.declared.faults.ElabCode.TheVariants as code
use Rattle.rst_names.specs.Names.{same_text}
use Rattle.rst_names.specs.Declarations.{Declaration, declarations, is_value, param_decls}
use Rattle.rst_instances.specs.Parameters.{Known, names_from, coded, ◌then◌, Ends, ends_answer, is_bad_range, width_of, checked_width, param_width, Valued, Linked, link_to, as_declared, value_at, value_of, known_values, later, unshaped, names_behind, valued, values_of_names, values_of_decls, values_of}
use Rattle.rst_accepted_units.proofs.Lists.{each_weaker, each_always, each_joined, each_map, each_found}

-- ---- what the names of a list stand for

pub each_meaning : (P : Meaning → Type 0) (ks : List Known) → AllByRecursion (λ k. P k.meaning) ks → (name : Text) (m : Meaning) → names_from ks name ≡ Some m → P m
each_meaning P ks h name m is = by (find (λ k. same_text k.name name) ks) refl is
  where
    by : (o : Option Known) → find (λ k. same_text k.name name) ks ≡ o → option_map (λ (k : Known). k.meaning) o ≡ Some m → P m
    by None found e = absurd cc
    by (Some k) found e = let same : k.meaning ≡ m = cc in subst P same (each_found (λ k. P k.meaning) (λ k. same_text k.name name) ks k h found)

-- a parameter, or a name that has no width yet
abbrev pub IsConstant : Meaning → Type 0
IsConstant (Signal i extent) = ⊥
IsConstant (Param w) = IsWord w
IsConstant (Later ranged) = Unit {0}

abbrev pub AreConstant : Names → Type 0
AreConstant names = (name : Text) (m : Meaning) → names name ≡ Some m → IsConstant m

constant_meaning : (m : Meaning) → IsConstant m → IsMeaning m
constant_meaning (Signal i extent) h = absurd h
constant_meaning (Param w) h = h
constant_meaning (Later ranged) h = tt

-- ---- the word of a constant expression

word_in : (a : Answer) (context : Shape) → FitsIn context a → IfOk a (ReadsInside (λ _. 0)) → IfOk (a >>= λ t. Ok (constant_word t)) IsWord
word_in (Ok t) context fit reads = value-word (λ _. 0) (λ _. 0) (λ _. omega arith) t fit.fit reads
word_in (Err fault) context fit reads = tt

pub constant_is_word : (names : Names) → AreConstant names → (e : Tree) (width : ℕ) → IfOk (constant_answer names e width) IsWord
constant_is_word names right e width =
    let meant : AreMeanings names = λ name m is. constant_meaning m (right name m is) in
    let none : HaveWidths (λ _. 0) names = λ name i extent is. absurd (right name (Signal i extent) is) in
    let shape = widened_shape (own (sized true names e)) width in
    word_in (in_context true (sized true names e) shape) shape
    (in_context-fit (sized true names e) shape (sized-fit true names meant e) (omega arith))
    (typed-reads (λ _. 0) names meant none true true e shape (omega arith))

-- ---- the values of parameters

abbrev pub IsValue : Valued → Type 0
IsValue v = IfOk v.value IsWord

abbrev pub AreValues : List Valued → Type 0
AreValues vs = AllByRecursion IsValue vs

-- the width of a range, where there is one
abbrev IsRange : Option ℕ → Type 0
IsRange None = Unit {0}
IsRange (Some width) = (0 < width) × (width ≤ 64)

checked : (ends : Ends) → IfOk (checked_width ends) IsRange
checked ends = by (is_bad_range ends) (nat_lt 64 (width_of ends)) refl
  where
    by : (bad wide : Bool) → nat_lt 64 (width_of ends) ≡ wide → IfOk (cond bad (Err code.BadRange) (cond wide (Err code.TooWide) (Ok (Some (width_of ends))))) IsRange
    by true wide e = tt
    by false true e = tt
    by false false e = (omega arith, grind (arith, nat_tests))

range_ok : (a : Result Ends ElabCode) → IfOk (a then checked_width) IsRange
range_ok (Ok ends) = checked ends
range_ok (Err e) = tt

param_width_ok : (names : Names) (r : Option PlainRange) → IfOk (param_width names r) IsRange
param_width_ok names None = tt
param_width_ok names (Some r) = range_ok (ends_answer names r)

declared_word : (signed : Bool) (range : Option ℕ) (w : PlainWord) → IsRange range → IsWord w → IsWord (as_declared signed range w)
declared_word signed None w r h = record { some_bits = h.some_bits; at_most_64 = h.at_most_64; fits = h.fits }
declared_word signed (Some width) w r h = record { some_bits = r.0; at_most_64 = r.1; fits = mod-lt w.value (pow_pos width) }

value_ok : (signed : Bool) (range : Option ℕ) (a : Result PlainWord WidthFault) → IsRange range → IfOk a IsWord → IfOk (coded a then λ w. Ok (as_declared signed range w)) IsWord
value_ok signed range (Ok w) r h = declared_word signed range w r h
value_ok signed range (Err e) r h = tt

value_at_ok : (names : Names) (signed : Bool) (range : Option ℕ) (e : Tree) → AreConstant names → IsRange range → IfOk (value_at names signed range e) IsWord
value_at_ok names signed range e right r = value_ok signed range (constant_answer names e (unwrap_or range 0)) r (constant_is_word names right e (unwrap_or range 0))

value_of_ok : (own outside : Names) (signed : Bool) (range : Option ℕ) (default : Tree) (o : Option Linked) → AreConstant own → AreConstant outside → IsRange range
    → IfOk (value_of own outside signed range default o) IsWord
value_of_ok own outside signed range default None right around r = value_at_ok own signed range default right r
value_of_ok own outside signed range default (Some set) right around r = value_at_ok outside signed range set.value around r

-- ---- the names of a module where constants are worked out

known_ok : (vs : List Valued) → AreValues vs → AllByRecursion (λ (k : Known). IsConstant k.meaning) (known_values vs)
known_ok [] h = tt
known_ok (v ∷ vs) h = by v.value (known_ok vs h.1) h.0
  where
    by : (r : Result PlainWord ElabCode) → AllByRecursion (λ (k : Known). IsConstant k.meaning) (known_values vs) → IfOk r IsWord → AllByRecursion (λ (k : Known). IsConstant k.meaning) (known_values (record { name = v.name; value = r } ∷ vs))
    by (Ok w) rest k = (k, rest)
    by (Err e) rest k = rest

pub behind_constant : (m : PlainModule) (vs : List Valued) → AreValues vs → AreConstant (names_behind m vs)
behind_constant m vs h =
    each_meaning IsConstant (known_values vs ++ unshaped m)
    (each_joined (λ (k : Known). IsConstant k.meaning) (known_values vs) (unshaped m) (known_ok vs h)
    (each_map (λ (k : Known). IsConstant k.meaning) later (filter (λ d. is_value d.form) (declarations m)) (each_always (λ (d : Declaration). IsConstant (later d).meaning) (λ d. tt) (filter (λ d. is_value d.form) (declarations m)))))

pub known_meanings : (vs : List Valued) → AreValues vs → AllByRecursion (λ (k : Known). IsMeaning k.meaning) (known_values vs)
known_meanings vs h = each_weaker (λ (k : Known). IsConstant k.meaning) (λ (k : Known). IsMeaning k.meaning) (λ k c. constant_meaning k.meaning c) (known_values vs) (known_ok vs h)

-- ---- one after the other

module _ (m : PlainModule) (outside : Names) (links : List Linked) (around : AreConstant outside) where
  one_value : (d : PlainParamDecl) (width : Result (Option ℕ) ElabCode) (before : List Valued) (p : PlainParamName) → AreValues before → IfOk width IsRange → IsValue (valued m outside links d width before p)
  one_value d (Ok range) before p h r = value_of_ok (names_behind m before) outside d.signed range p.value (link_to links p.name) (behind_constant m before h) around r
  one_value d (Err e) before p h r = tt

  names_ok : (d : PlainParamDecl) (width : Result (Option ℕ) ElabCode) (before : List Valued) (ps : List PlainParamName) → AreValues before → IfOk width IsRange → AreValues (values_of_names m outside links d width before ps)
  names_ok d width before [] h r = h
  names_ok d width before (p ∷ ps) h r =
      names_ok d width (before ++ valued m outside links d width before p ∷ []) ps
      (each_joined IsValue before (valued m outside links d width before p ∷ []) h (one_value d width before p h r, tt)) r

  decls_ok : (before : List Valued) (ds : List PlainParamDecl) → AreValues before → AreValues (values_of_decls m outside links before ds)
  decls_ok before [] h = h
  decls_ok before (d ∷ ds) h =
      decls_ok (values_of_names m outside links d (param_width (names_behind m before) d.range) before d.names) ds
      (names_ok d (param_width (names_behind m before) d.range) before d.names h (param_width_ok (names_behind m before) d.range))

  pub values_ok : AreValues (values_of m outside links)
  values_ok = decls_ok [] (param_decls m) tt
