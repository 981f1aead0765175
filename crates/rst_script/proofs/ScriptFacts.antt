-- The limits that every script keeps that a text says.
use Rattle.std.proofs.Common.{◌≡◌, ℕ, suc, ◌+◌, ◌≤◌, Bool, true, false, cond, nat_le, nat_lt, ◌&&◌, Option, Some, None, IfSome, unwrap_or, ok_or, option_map, option_and_then, Result, Ok, Err, List, [], ◌∷◌, ◌++◌, length, bytes_eq, codes, inl, inr, ◌⊎◌, refl, sym, ap, subst, arith}
use Rattle.std.specs.List.{AllByRecursion}
use Rattle.std.proofs.lemmas.Bool.{leb-true, leb-false}
use Rattle.std.proofs.lemmas.List.Sums.{sum_by_push}
use Rattle.rst_lex.specs.Words.{is_name, IsName}
use Rattle.rst_script.specs.declared.choices.Choice.{Choice}
use Rattle.rst_script.specs.declared.choices.Choice.TheVariants.{Budget, Bound, Json}
use Rattle.rst_script.specs.declared.choices.Choices.{Choices}
use Rattle.rst_script.specs.declared.script.Setting.{Setting}
use Rattle.rst_script.specs.declared.script.ScriptFault.{ScriptFault}
use Rattle.rst_script.specs.declared.script.ScriptFault.TheVariants.{BadLine, Repeated, TooMany}
use Rattle.rst_script.specs.Lines.{Line, lines, said_lines, pair_of}
use Rattle.rst_script.specs.Numbers.{number, at_most, at_least, within}
use Rattle.rst_script.specs.Opening.{version_pair, version_of, is_noclock, clock_pair, clock_of}
use Rattle.rst_script.specs.Choices.{and_then, json_of, choice_pair, choice_of, no_choices, with_choice, with_read, choice_at, is_step_line, choices_in}
use Rattle.rst_script.specs.Steps.{PlainStep, parted, value_of, named_setting, setting_of, last_of, settings_in, step_words, step_of, names_set, has_twice, step_from, step_at, steps_in}
use Rattle.rst_script.specs.Scripts.{PlainScript, body_of, script_behind, script_in, script_of}
use Rattle.rst_script.specs.Limits.{cycles_of, IsStep, IsScript}

-- results and options that are known

value_of_ok : {A : Type 0} → A → Result A ScriptFault → A
value_of_ok d (Ok x) = x
value_of_ok d (Err fault) = d

abbrev ok : {A : Type 0} → A → Result A ScriptFault
ok x = Ok x

the_ok : {A : Type 0} (x y : A) → ok x ≡ ok y → x ≡ y
unfolding value_of_ok
the_ok x y e = ap (value_of_ok x) e

value_of_some : {A : Type 0} → A → Option A → A
value_of_some d (Some x) = x
value_of_some d None = d

the_some : {A : Type 0} (x y : A) → Some x ≡ Some y → x ≡ y
unfolding value_of_some
the_some x y e = ap (value_of_some x) e

no_ok : {A : Type 0} (fault : ScriptFault) (x : A) → Err fault ≡ Ok x → ⊥
no_ok fault x e = cc

no_some : {A : Type 0} (x : A) → None ≡ Some x → ⊥
no_some x e = cc

and_then_ok : {A B : Type 0} (r : Result A ScriptFault) (next : A → Result B ScriptFault) (y : B) → and_then r next ≡ Ok y → (x : A) × (r ≡ Ok x) × (next x ≡ Ok y)
and_then_ok (Ok x) next y e = (x, refl, e)
and_then_ok (Err fault) next y e = absurd (no_ok fault y e)

ok_or_ok : {A : Type 0} (o : Option A) (fault : ScriptFault) (x : A) → ok_or o fault ≡ Ok x → o ≡ Some x
ok_or_ok None fault x e = absurd (no_ok fault x e)
ok_or_ok (Some y) fault x e = ap (λ z. Some z) (the_ok y x e)

option_then_some : {A B : Type 0} (o : Option A) (next : A → Option B) (y : B) → option_and_then next o ≡ Some y → (x : A) × (o ≡ Some x) × (next x ≡ Some y)
option_then_some None next y e = absurd (no_some y e)
option_then_some (Some x) next y e = (x, refl, e)

option_map_some : {A B : Type 0} (f : A → B) (o : Option A) (y : B) → option_map f o ≡ Some y → (x : A) × (o ≡ Some x) × (f x ≡ y)
option_map_some f None y e = absurd (no_some y e)
option_map_some f (Some x) y e = (x, refl, the_some (f x) y e)

-- the version

version_by : (x y z : Bool) (v : ℕ) → cond x (cond y (Some 1) (cond z (Some 2) None)) None ≡ Some v → (v ≡ 1) ⊎ (v ≡ 2)
version_by false y z v e = absurd (no_some v e)
version_by true true z v e = inl (sym (the_some 1 v e))
version_by true false true v e = inr (sym (the_some 2 v e))
version_by true false false v e = absurd (no_some v e)

version_ok : (words : List (List ℕ)) (v : ℕ) → version_of words ≡ Some v → (v ≡ 1) ⊎ (v ≡ 2)
version_ok words v e =
    let p = option_then_some (pair_of words) version_pair v e in
    version_by (bytes_eq p.0.0 (codes "reset-script")) (bytes_eq p.0.1 (codes "1")) (bytes_eq p.0.1 (codes "2")) v p.2

-- the clock

and_right : (a b : Bool) → true ≡ (a && b) → b ≡ true
and_right true b e = sym e
and_right false b e = absurd (cc)

clock_by : (x : Bool) (first name : List ℕ) (clock : Option (List ℕ)) → x ≡ (bytes_eq first (codes "clock") && is_name name)
    → cond x (Some (Some name)) None ≡ Some clock → IfSome clock IsName
clock_by true first name clock e f = subst (λ (c : Option (List ℕ)). IfSome c IsName) (the_some (Some name) clock f) (and_right (bytes_eq first (codes "clock")) (is_name name) e)
clock_by false first name clock e f = absurd (no_some clock f)

clock_in : (x : Bool) (pair : Option (List ℕ × List ℕ)) (clock : Option (List ℕ)) → cond x (Some None) (option_and_then clock_pair pair) ≡ Some clock → IfSome clock IsName
clock_in true pair clock e = subst (λ (c : Option (List ℕ)). IfSome c IsName) (the_some None clock e) tt
clock_in false pair clock e =
    let p = option_then_some pair clock_pair clock e in
    clock_by (bytes_eq p.0.0 (codes "clock") && is_name p.0.1) p.0.0 p.0.1 clock refl p.2

clock_ok : (words : List (List ℕ)) (clock : Option (List ℕ)) → clock_of words ≡ Some clock → IfSome clock IsName
clock_ok words clock e = clock_in (is_noclock words) (pair_of words) clock e

-- the choices

at_most_by : (x : Bool) (most n m : ℕ) → x ≡ nat_le n most → cond x (Some n) None ≡ Some m → m ≤ most
at_most_by true most n m e f = let under = leb-true n most (sym e) in let same = the_some n m f in omega (arith, under, same)
at_most_by false most n m e f = absurd (no_some m f)

at_most_some : (most m : ℕ) (o : Option ℕ) → at_most most o ≡ Some m → m ≤ most
at_most_some most m None e = absurd (no_some m e)
at_most_some most m (Some n) e = at_most_by (nat_le n most) most n m refl e

at_least_by : (x : Bool) (least n m : ℕ) → x ≡ nat_le least n → cond x (Some n) None ≡ Some m → (n ≡ m) × (least ≤ m)
at_least_by true least n m e f = let over = leb-true least n (sym e) in let same = the_some n m f in (same, omega (arith, over, same))
at_least_by false least n m e f = absurd (no_some m f)

at_least_some : (least m : ℕ) (o : Option ℕ) → at_least least o ≡ Some m → (o ≡ Some m) × (least ≤ m)
at_least_some least m None e = absurd (no_some m e)
at_least_some least m (Some n) e = let p = at_least_by (nat_le least n) least n m refl e in (ap (λ k. Some k) p.0, p.1)

within_some : (least most m : ℕ) (o : Option ℕ) → within least most o ≡ Some m → (least ≤ m) × (m ≤ most)
within_some least most m o e = let p = at_least_some least m (at_most most o) e in (p.1, at_most_some most m o p.0)

-- the choices keep their limits
record AreChosen (choices : Choices) : Type 0 where
  budget : IfSome choices.budget (λ (n : ℕ). n ≤ 100000)
  bound : IfSome choices.bound (λ (n : ℕ). (1 ≤ n) × (n ≤ 128))

IsChosen : Choice → Type 0
IsChosen (Budget n) = n ≤ 100000
IsChosen (Bound n) = (1 ≤ n) × (n ≤ 128)
IsChosen (Json json) = Unit {0}

choice_by : (x y z : Bool) (word : List ℕ) (choice : Choice)
    → cond x (option_map Budget (within 0 100000 (number 10 word))) (cond y (option_map Bound (within 1 128 (number 10 word))) (cond z (option_map Json (json_of word)) None)) ≡ Some choice
    → IsChosen choice
unfolding IsChosen
choice_by true y z word choice e =
    let p = option_map_some Budget (within 0 100000 (number 10 word)) choice e in
    subst IsChosen p.2 (within_some 0 100000 p.0 (number 10 word) p.1).1
choice_by false true z word choice e =
    let p = option_map_some Bound (within 1 128 (number 10 word)) choice e in
    subst IsChosen p.2 (within_some 1 128 p.0 (number 10 word) p.1)
choice_by false false true word choice e =
    let p = option_map_some Json (json_of word) choice e in subst IsChosen p.2 tt
choice_by false false false word choice e = absurd (no_some choice e)

choice_ok : (words : List (List ℕ)) (choice : Choice) → choice_of words ≡ Some choice → IsChosen choice
choice_ok words choice e =
    let p = option_then_some (pair_of words) choice_pair choice e in
    choice_by (bytes_eq p.0.0 (codes "budget")) (bytes_eq p.0.0 (codes "bound")) (bytes_eq p.0.0 (codes "report")) p.0.1 choice p.2

with_by : (x : Bool) (line : ℕ) (next more : Choices) → AreChosen next → cond x (Err (Repeated line)) (Ok next) ≡ Ok more → AreChosen more
with_by true line next more h e = absurd (no_ok (Repeated line) more e)
with_by false line next more h e = subst AreChosen (the_ok next more e) h

with_ok : (before : Choices) (choice : Choice) (line : ℕ) (more : Choices) → AreChosen before → IsChosen choice → with_choice before choice line ≡ Ok more → AreChosen more
unfolding IsChosen
with_ok before (Budget n) line more h k e = with_by _ line _ more (record { budget = k; bound = h.bound }) e
with_ok before (Bound n) line more h k e = with_by _ line _ more (record { budget = h.budget; bound = k }) e
with_ok before (Json json) line more h k e = with_by _ line _ more (record { budget = h.budget; bound = h.bound }) e

read_ok : (before : Choices) (choice : Option Choice) (line : ℕ) (more : Choices) → AreChosen before → ((c : Choice) → choice ≡ Some c → IsChosen c)
    → with_read before choice line ≡ Ok more → AreChosen more
read_ok before None line more h k e = absurd (no_ok (BadLine line) more e)
read_ok before (Some choice) line more h k e = with_ok before choice line more h (k choice refl) e

line_ok : (x : Bool) (before : Choices) (line : Line) (others : List Line) (found : Choices × List Line) → AreChosen before
    → ((more : Choices) → AreChosen more → choices_in more others ≡ Ok found → AreChosen found.0)
    → cond x (Ok (before, line ∷ others)) (and_then (choice_at before line) (λ more. choices_in more others)) ≡ Ok found → AreChosen found.0
line_ok true before line others found h later e = subst (λ (it : Choices × List Line). AreChosen it.0) (the_ok (before, line ∷ others) found e) h
line_ok false before line others found h later e =
    let p = and_then_ok (choice_at before line) (λ more. choices_in more others) found e in
    later p.0 (read_ok before (choice_of line.words) line.number p.0 h (choice_ok line.words) p.1) p.2

choices_ok : (before : Choices) (said : List Line) (found : Choices × List Line) → AreChosen before → choices_in before said ≡ Ok found → AreChosen found.0
choices_ok before [] found h e = subst (λ (it : Choices × List Line). AreChosen it.0) (the_ok (before, []) found e) h
choices_ok before (line ∷ others) found h e = line_ok (is_step_line line.words) before line others found h (λ more k f. choices_ok more others found k f) e

least_of : (bound : Option ℕ) → IfSome bound (λ (n : ℕ). (1 ≤ n) × (n ≤ 128)) → (1 ≤ unwrap_or bound 32) × (unwrap_or bound 32 ≤ 128)
least_of None h = (omega arith, omega arith)
least_of (Some n) h = h

most_of : (budget : Option ℕ) → IfSome budget (λ (n : ℕ). n ≤ 100000) → unwrap_or budget 20000 ≤ 100000
most_of None h = omega arith
most_of (Some n) h = h

-- the steps

abbrev AreNamed : List Setting → Type 0
AreNamed settings = AllByRecursion (λ (setting : Setting). IsName setting.name) settings

all_push : {A : Type 0} (P : A → Type 0) (xs : List A) (x : A) → AllByRecursion P xs → P x → AllByRecursion P (xs ++ x ∷ [])
all_push P [] x h k = (k, tt)
all_push P (y ∷ xs) x h k = (h.0, all_push P xs x h.1 k)

named_by : (x : Bool) (version : ℕ) (parts : List ℕ × List ℕ) (setting : Setting) → x ≡ is_name parts.0
    → cond x (option_map (λ (value : Option ℕ). let it : Setting = record { name = parts.0; value = value } in it) (value_of version parts.1)) None ≡ Some setting → IsName setting.name
named_by true version parts setting e f =
    let p = option_map_some (λ (value : Option ℕ). let it : Setting = record { name = parts.0; value = value } in it) (value_of version parts.1) setting f in
    subst (λ (it : Setting). IsName it.name) p.2 (sym e)
named_by false version parts setting e f = absurd (no_some setting f)

setting_ok : (version : ℕ) (word : List ℕ) (setting : Setting) → setting_of version word ≡ Some setting → IsName setting.name
setting_ok version word setting e =
    let p = option_then_some (parted word) (named_setting version) setting e in
    named_by (is_name p.0.0) version p.0 setting refl p.2

word_ok : (o : Option Setting) (version : ℕ) (before : List Setting) (word : List ℕ) (others : List (List ℕ)) (found : List Setting × ℕ) → o ≡ setting_of version word → AreNamed before
    → ((more : List Setting) → AreNamed more → settings_in version more others ≡ Some found → AreNamed found.0)
    → elim o as (λ _. Option (List Setting × ℕ)) [
      | None ↦ option_map (λ (times : ℕ). (before, times)) (last_of word others)
      | Some setting ↦ settings_in version (before ++ setting ∷ []) others
    ] ≡ Some found
    → AreNamed found.0
word_ok None version before word others found same h later e =
    let p = option_map_some (λ (times : ℕ). (before, times)) (last_of word others) found e in
    subst (λ (it : List Setting × ℕ). AreNamed it.0) p.2 h
word_ok (Some setting) version before word others found same h later e =
    later (before ++ setting ∷ []) (all_push (λ (setting : Setting). IsName setting.name) before setting h (setting_ok version word setting (sym same))) e

settings_ok : (version : ℕ) (before : List Setting) (words : List (List ℕ)) (found : List Setting × ℕ) → AreNamed before → settings_in version before words ≡ Some found → AreNamed found.0
settings_ok version before [] found h e = subst (λ (it : List Setting × ℕ). AreNamed it.0) (the_some (before, 1) found e) h
settings_ok version before (word ∷ others) found h e =
    word_ok (setting_of version word) version before word others found refl h (λ more k f. settings_ok version more others found k f) e

step_by : (x y : Bool) (cycles line : ℕ) (found : List Setting × ℕ) (step : PlainStep) → x ≡ has_twice [] (names_set found.0) → y ≡ nat_lt 128 (cycles + found.1) → AreNamed found.0
    → cond x (Err (Repeated line)) (cond y (Err (TooMany line)) (Ok (record { line = line; times = found.1; values = found.0 }))) ≡ Ok step
    → IsStep step × (cycles + step.times ≤ 128)
step_by true y cycles line found step e f h g = absurd (no_ok (Repeated line) step g)
step_by false true cycles line found step e f h g = absurd (no_ok (TooMany line) step g)
step_by false false cycles line found step e f h g =
    let few : cycles + found.1 ≤ 128 = (let under = leb-false (suc 128) (cycles + found.1) (sym f) in omega (arith, under)) in
    subst (λ (it : PlainStep). IsStep it × (cycles + it.times ≤ 128)) (the_ok (record { line = line; times = found.1; values = found.0 }) step g)
    (record { named = h; once = sym e }, few)

step_from_ok : (cycles line : ℕ) (o : Option (List Setting × ℕ)) (step : PlainStep) → ((found : List Setting × ℕ) → o ≡ Some found → AreNamed found.0)
    → step_from cycles line o ≡ Ok step → IsStep step × (cycles + step.times ≤ 128)
step_from_ok cycles line None step h e = absurd (no_ok (BadLine line) step e)
step_from_ok cycles line (Some found) step h e =
    step_by (has_twice [] (names_set found.0)) (nat_lt 128 (cycles + found.1)) cycles line found step refl refl (h found refl) e

step_ok : (version cycles : ℕ) (line : Line) (step : PlainStep) → step_at version cycles line ≡ Ok step → IsStep step × (cycles + step.times ≤ 128)
step_ok version cycles line step e = step_from_ok cycles line.number (step_of version line.words) step named e where
  named : (found : List Setting × ℕ) → step_of version line.words ≡ Some found → AreNamed found.0
  named found f = let p = option_then_some (step_words line.words) (settings_in version []) found f in settings_ok version [] p.0 found tt p.2

steps_ok : (version cycles : ℕ) (before : List PlainStep) (said : List Line) (steps : List PlainStep) → cycles_of before ≡ cycles → cycles ≤ 128 → AllByRecursion IsStep before
    → steps_in version cycles before said ≡ Ok steps → AllByRecursion IsStep steps × (cycles_of steps ≤ 128)
steps_ok version cycles before [] steps h k each e =
    subst (λ (them : List PlainStep). AllByRecursion IsStep them × (cycles_of them ≤ 128)) (the_ok before steps e) (each, omega (arith, h, k))
steps_ok version cycles before (line ∷ others) steps h k each e =
    let p = and_then_ok (step_at version cycles line) (λ step. steps_in version (cycles + step.times) (before ++ step ∷ []) others) steps e in
    let q = step_ok version cycles line p.0 p.1 in
    let grown = sum_by_push (λ (step : PlainStep). step.times) before p.0 in
    steps_ok version (cycles + p.0.times) (before ++ p.0 ∷ []) others steps (omega (arith, grown, h)) q.1 (all_push IsStep before p.0 each q.0) p.2

-- the whole

body_ok : (version : ℕ) (clock : Option (List ℕ)) (said : List Line) (script : PlainScript) → (version ≡ 1) ⊎ (version ≡ 2) → IfSome clock IsName
    → body_of version clock said ≡ Ok script → IsScript script
body_ok version clock said script v c e =
    let p = and_then_ok (choices_in no_choices said) _ script e in
    let q = and_then_ok (steps_in version 0 [] p.0.1) _ script p.2 in
    let chosen = choices_ok no_choices said p.0 (record { budget = tt; bound = tt }) p.1 in
    let read = steps_ok version 0 [] p.0.1 q.0 refl (omega arith) tt q.1 in
    let bounds = least_of p.0.0.bound chosen.bound in
    subst IsScript (the_ok _ script q.2) (record {
      version = v;
      clock = c;
      budget = most_of p.0.0.budget chosen.budget;
      bound_least = bounds.0;
      bound_most = bounds.1;
      each = read.0;
      cycles = read.1;
    })

behind_ok : (count version : ℕ) (said : List Line) (script : PlainScript) → (version ≡ 1) ⊎ (version ≡ 2) → script_behind count version said ≡ Ok script → IsScript script
behind_ok count version [] script v e = absurd (no_ok _ script e)
behind_ok count version (line ∷ others) script v e =
    let p = and_then_ok (ok_or (clock_of line.words) (BadLine line.number)) _ script e in
    body_ok version p.0 others script v (clock_ok line.words p.0 (ok_or_ok (clock_of line.words) (BadLine line.number) p.0 p.1)) p.2

in_ok : (count : ℕ) (said : List Line) (script : PlainScript) → script_in count said ≡ Ok script → IsScript script
in_ok count [] script e = absurd (no_ok _ script e)
in_ok count (line ∷ others) script e =
    let p = and_then_ok (ok_or (version_of line.words) (BadLine line.number)) _ script e in
    behind_ok count p.0 others script (version_ok line.words p.0 (ok_or_ok (version_of line.words) (BadLine line.number) p.0 p.1)) p.2

pub keeps_limits : (text : List ℕ) (script : PlainScript) → script_of text ≡ Ok script → IsScript script
keeps_limits text script e = in_ok (length (lines text)) (said_lines 0 (lines text)) script e
