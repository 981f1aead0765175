-- In version 1 every setting has a value, and so no place of a pattern is free.
use Rattle.std.proofs.Common.{◌≡◌, ◌∙◌, ℕ, zero, suc, ◌+◌, ◌-◌, ◌*◌, ◌/◌, ◌%◌, ◌^◌, ◌==◌, Bool, true, false, cond, nat_lt, Option, Some, None, ok_or, option_map, option_and_then, Result, Ok, Err, List, [], ◌∷◌, ◌++◌, length, replicate, bytes_eq, codes, refl, sym, ap, subst, arith}
use Rattle.std.specs.List.{AllByRecursion}
use Rattle.rst_lex.specs.Words.{is_name}
use Rattle.rst_outside.specs.declared.names.PortBits.{PortBits}
use Rattle.rst_value.specs.declared.tern.Tern.{Tern}
use Rattle.rst_value.specs.Terns.{known}
use Rattle.rst_gate.specs.Patterns.{free_count, free_bits}
use Rattle.rst_script.specs.declared.script.Setting.{Setting}
use Rattle.rst_script.specs.declared.script.ScriptFault.{ScriptFault}
use Rattle.rst_script.specs.declared.script.ScriptFault.TheVariants.{BadLine, Repeated, TooMany}
use Rattle.rst_script.specs.Lines.{Line, lines, said_lines}
use Rattle.rst_script.specs.Numbers.{at_most, value_number}
use Rattle.rst_script.specs.Opening.{version_of, clock_of}
use Rattle.rst_script.specs.Choices.{and_then, no_choices, choices_in}
use Rattle.rst_script.specs.Steps.{PlainStep, parted, value_of, named_setting, setting_of, last_of, settings_in, step_words, step_of, names_set, has_twice, step_from, step_at, steps_in}
use Rattle.rst_script.specs.Scripts.{PlainScript, body_of, script_behind, script_in, script_of}
use Rattle.rst_script.specs.Fitting.{value_in, place_at, known_places, places_of, cube_of, first_fault, pattern_of, unless, fit_of}

-- RESULTS AND OPTIONS THAT ARE KNOWN

value_of_ok : {A : Type 0} → A → Result A ScriptFault → A
value_of_ok d (Ok x) = x
value_of_ok d (Err fault) = d

abbrev ok : {A : Type 0} → A → Result A ScriptFault
ok x = Ok x

the_ok : {A : Type 0} (x y : A) → ok x ≡ ok y → x ≡ y
unfolding value_of_ok
the_ok x y e = ap (value_of_ok x) e

value_of_some : {A : Type 0} → A → Option A → A
value_of_some d (Some x) = x
value_of_some d None = d

the_some : {A : Type 0} (x y : A) → Some x ≡ Some y → x ≡ y
unfolding value_of_some
the_some x y e = ap (value_of_some x) e

no_ok : {A : Type 0} (fault : ScriptFault) (x : A) → Err fault ≡ Ok x → ⊥
no_ok fault x e = cc

no_some : {A : Type 0} (x : A) → None ≡ Some x → ⊥
no_some x e = cc

and_then_ok : {A B : Type 0} (r : Result A ScriptFault) (next : A → Result B ScriptFault) (y : B) → and_then r next ≡ Ok y → (x : A) × (r ≡ Ok x) × (next x ≡ Ok y)
and_then_ok (Ok x) next y e = (x, refl, e)
and_then_ok (Err fault) next y e = absurd (no_ok fault y e)

option_then_some : {A B : Type 0} (o : Option A) (next : A → Option B) (y : B) → option_and_then next o ≡ Some y → (x : A) × (o ≡ Some x) × (next x ≡ Some y)
option_then_some None next y e = absurd (no_some y e)
option_then_some (Some x) next y e = (x, refl, e)

option_map_some : {A B : Type 0} (f : A → B) (o : Option A) (y : B) → option_map f o ≡ Some y → (x : A) × (o ≡ Some x) × (f x ≡ y)
option_map_some f None y e = absurd (no_some y e)
option_map_some f (Some x) y e = (x, refl, the_some (f x) y e)

all_push : {A : Type 0} (P : A → Type 0) (xs : List A) (x : A) → AllByRecursion P xs → P x → AllByRecursion P (xs ++ x ∷ [])
all_push P [] x h k = (k, tt)
all_push P (y ∷ xs) x h k = (h.0, all_push P xs x h.1 k)

-- EVERY SETTING HAS A VALUE

abbrev IsValue : Option ℕ → Type 0
IsValue None = ⊥
IsValue (Some n) = Unit {0}

abbrev AreValued : List Setting → Type 0
AreValued settings = AllByRecursion (λ (setting : Setting). IsValue setting.value) settings

value_by : (star : Bool) (text : List ℕ) (value : Option ℕ) → cond star None (option_map (λ (n : ℕ). Some n) (at_most (2 ^ 64 - 1) (value_number text))) ≡ Some value → IsValue value
value_by true text value e = absurd (no_some value e)
value_by false text value e =
    let p = option_map_some (λ (n : ℕ). Some n) (at_most (2 ^ 64 - 1) (value_number text)) value e in
    subst IsValue p.2 tt

value_ok : (text : List ℕ) (value : Option ℕ) → value_of 1 text ≡ Some value → IsValue value
value_ok text value e = value_by (bytes_eq text (codes "*")) text value e

named_by : (x : Bool) (parts : List ℕ × List ℕ) (setting : Setting)
    → cond x (option_map (λ (value : Option ℕ). let it : Setting = record { name = parts.0; value = value } in it) (value_of 1 parts.1)) None ≡ Some setting → IsValue setting.value
named_by true parts setting f =
    let p = option_map_some (λ (value : Option ℕ). let it : Setting = record { name = parts.0; value = value } in it) (value_of 1 parts.1) setting f in
    subst (λ (it : Setting). IsValue it.value) p.2 (value_ok parts.1 p.0 p.1)
named_by false parts setting f = absurd (no_some setting f)

setting_ok : (word : List ℕ) (setting : Setting) → setting_of 1 word ≡ Some setting → IsValue setting.value
setting_ok word setting e =
    let p = option_then_some (parted word) (named_setting 1) setting e in
    named_by (is_name p.0.0) p.0 setting p.2

word_ok : (o : Option Setting) (before : List Setting) (word : List ℕ) (others : List (List ℕ)) (found : List Setting × ℕ) → o ≡ setting_of 1 word → AreValued before
    → ((more : List Setting) → AreValued more → settings_in 1 more others ≡ Some found → AreValued found.0)
    → elim o as (λ _. Option (List Setting × ℕ)) [
      | None ↦ option_map (λ (times : ℕ). (before, times)) (last_of word others)
      | Some setting ↦ settings_in 1 (before ++ setting ∷ []) others
    ] ≡ Some found
    → AreValued found.0
word_ok None before word others found same h later e =
    let p = option_map_some (λ (times : ℕ). (before, times)) (last_of word others) found e in
    subst (λ (it : List Setting × ℕ). AreValued it.0) p.2 h
word_ok (Some setting) before word others found same h later e =
    later (before ++ setting ∷ []) (all_push (λ (setting : Setting). IsValue setting.value) before setting h (setting_ok word setting (sym same))) e

settings_ok : (before : List Setting) (words : List (List ℕ)) (found : List Setting × ℕ) → AreValued before → settings_in 1 before words ≡ Some found → AreValued found.0
settings_ok before [] found h e = subst (λ (it : List Setting × ℕ). AreValued it.0) (the_some (before, 1) found e) h
settings_ok before (word ∷ others) found h e =
    word_ok (setting_of 1 word) before word others found refl h (λ more k f. settings_ok more others found k f) e

step_by : (x y : Bool) (line : ℕ) (found : List Setting × ℕ) (step : PlainStep) → AreValued found.0
    → cond x (Err (Repeated line)) (cond y (Err (TooMany line)) (Ok (record { line = line; times = found.1; values = found.0 }))) ≡ Ok step → AreValued step.values
step_by true y line found step h g = absurd (no_ok (Repeated line) step g)
step_by false true line found step h g = absurd (no_ok (TooMany line) step g)
step_by false false line found step h g = subst (λ (it : PlainStep). AreValued it.values) (the_ok (record { line = line; times = found.1; values = found.0 }) step g) h

step_from_ok : (cycles line : ℕ) (o : Option (List Setting × ℕ)) (step : PlainStep) → ((found : List Setting × ℕ) → o ≡ Some found → AreValued found.0)
    → step_from cycles line o ≡ Ok step → AreValued step.values
step_from_ok cycles line None step h e = absurd (no_ok (BadLine line) step e)
step_from_ok cycles line (Some found) step h e = step_by (has_twice [] (names_set found.0)) (nat_lt 128 (cycles + found.1)) line found step (h found refl) e

words_ok : (words : List (List ℕ)) (found : List Setting × ℕ) → step_of 1 words ≡ Some found → AreValued found.0
words_ok words found f =
    let p = option_then_some (step_words words) (settings_in 1 []) found f in
    settings_ok [] p.0 found tt p.2

abbrev AreSteps : List PlainStep → Type 0
AreSteps steps = AllByRecursion (λ (step : PlainStep). AreValued step.values) steps

steps_ok : (cycles : ℕ) (before : List PlainStep) (said : List Line) (steps : List PlainStep) → AreSteps before → steps_in 1 cycles before said ≡ Ok steps → AreSteps steps
steps_ok cycles before [] steps each e = subst AreSteps (the_ok before steps e) each
steps_ok cycles before (line ∷ others) steps each e =
    let p = and_then_ok (step_at 1 cycles line) (λ step. steps_in 1 (cycles + step.times) (before ++ step ∷ []) others) steps e in
    let q = step_from_ok cycles line.number (step_of 1 line.words) p.0 (words_ok line.words) p.1 in
    steps_ok (cycles + p.0.times) (before ++ p.0 ∷ []) others steps (all_push (λ (step : PlainStep). AreValued step.values) before p.0 each q) p.2

body_ok : (version : ℕ) (clock : Option (List ℕ)) (said : List Line) (script : PlainScript) → body_of version clock said ≡ Ok script → script.version ≡ 1 → AreSteps script.steps
body_ok version clock said script e one =
    let p = and_then_ok (choices_in no_choices said) _ script e in
    let q = and_then_ok (steps_in version 0 [] p.0.1) _ script p.2 in
    let whole = the_ok _ script q.2 in
    let same : version ≡ 1 = ap (λ (s : PlainScript). s.version) whole ∙ one in
    let P : ℕ → Type 0 = λ v. steps_in v 0 [] p.0.1 ≡ Ok q.0 in
    subst (λ (s : PlainScript). AreSteps s.steps) whole (steps_ok 0 [] p.0.1 q.0 tt (subst P same q.1))

behind_ok : (count version : ℕ) (said : List Line) (script : PlainScript) → script_behind count version said ≡ Ok script → script.version ≡ 1 → AreSteps script.steps
behind_ok count version [] script e one = absurd (no_ok _ script e)
behind_ok count version (line ∷ others) script e one =
    let p = and_then_ok (ok_or (clock_of line.words) (BadLine line.number)) _ script e in
    body_ok version p.0 others script p.2 one

in_ok : (count : ℕ) (said : List Line) (script : PlainScript) → script_in count said ≡ Ok script → script.version ≡ 1 → AreSteps script.steps
in_ok count [] script e one = absurd (no_ok _ script e)
in_ok count (line ∷ others) script e one =
    let p = and_then_ok (ok_or (version_of line.words) (BadLine line.number)) _ script e in
    behind_ok count p.0 others script p.2 one

-- NO PLACE IS FREE

free_known : (b : Bool) (places : List Tern) → free_count (known b ∷ places) ≡ free_count places
free_known true places = omega arith
free_known false places = omega arith

known_free : (width value : ℕ) → free_count (known_places width value) ≡ 0
known_free zero value = refl
known_free (suc width) value = free_known ((value / 2 ^ width) % 2 == 1) (known_places width value) ∙ known_free width value

places_free : (width : ℕ) (value : Option ℕ) → IsValue value → free_count (places_of width value) ≡ 0
places_free width None h = absurd h
places_free width (Some value) h = known_free width value

value_by_name : (x : Bool) (setting : Setting) (other : Option ℕ) → IsValue setting.value → IsValue other → IsValue (cond x setting.value other)
value_by_name true setting other h k = h
value_by_name false setting other h k = k

value_here : (settings : List Setting) (name : List ℕ) → AreValued settings → IsValue (value_in settings name)
value_here [] name h = tt
value_here (setting ∷ settings) name h = value_by_name (bytes_eq setting.name name) setting (value_in settings name) h.0 (value_here settings name h.1)

count_append : (a b : List Tern) → free_count (a ++ b) ≡ free_count a + free_count b
count_append [] b = omega arith
count_append (place ∷ a) b = let others = count_append a b in omega (arith, others)

cube_free : (ports : List PortBits) (settings : List Setting) → AreValued settings → free_count (cube_of ports settings) ≡ 0
cube_free [] settings h = refl
cube_free (port ∷ ports) settings h =
    let here = places_free port.width (value_in settings port.name) (value_here settings port.name h) in
    let others = cube_free ports settings h in
    count_append (places_of port.width (value_in settings port.name)) (cube_of ports settings) ∙ omega (arith, here, others)

bits_append : (a b : List (List Tern)) → free_bits (a ++ b) ≡ free_bits a + free_bits b
bits_append [] b = omega arith
bits_append (places ∷ a) b = let others = bits_append a b in omega (arith, others)

bits_replicate : (n : ℕ) (places : List Tern) → free_count places ≡ 0 → free_bits (replicate n places) ≡ 0
bits_replicate zero places h = refl
bits_replicate (suc n) places h = let others = bits_replicate n places h in omega (arith, others, h)

pattern_free : (ports : List PortBits) (steps : List PlainStep) → AreSteps steps → free_bits (pattern_of ports steps) ≡ 0
pattern_free ports [] h = refl
pattern_free ports (step ∷ steps) h =
    let here = bits_replicate step.times (cube_of ports step.values) (cube_free ports step.values h.0) in
    let others = pattern_free ports steps h.1 in
    bits_append (replicate step.times (cube_of ports step.values)) (pattern_of ports steps) ∙ omega (arith, here, others)

no_fault : {A : Type 0} (fault : Option ScriptFault) (x y : A) → unless fault x ≡ Ok y → x ≡ y
no_fault None x y e = the_ok x y e
no_fault (Some fault) x y e = absurd (no_ok fault y e)

pub none_free : (text : List ℕ) (script : PlainScript) (ports : List PortBits) (pattern : List (List Tern)) → script_of text ≡ Ok script → script.version ≡ 1
    → fit_of ports script.steps ≡ Ok pattern → free_bits pattern ≡ 0
none_free text script ports pattern e one f =
    let same = no_fault (first_fault ports 0 script.steps) (pattern_of ports script.steps) pattern f in
    ap free_bits (sym same) ∙ pattern_free ports script.steps (in_ok (length (lines text)) (said_lines 0 (lines text)) script e one)
