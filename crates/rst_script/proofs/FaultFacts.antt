-- The faults that texts and scripts are refused with.
use Rattle.std.proofs.Common.{◌≡◌, ℕ, ◌+◌, ◌≤◌, Bool, true, false, cond, ◌||◌, ◌==◌, nat_lt, Option, Some, None, ok_or, Result, Ok, Err, List, [], ◌∷◌, ◌++◌, length, refl, ap, subst, eq-eqb, arith}
use Rattle.std.specs.List.{AllByRecursion}
use Rattle.std.specs.Option.{option_or}
use Rattle.rst_outside.specs.declared.names.PortBits.{PortBits}
use Rattle.rst_script.specs.declared.choices.Choice.{Choice}
use Rattle.rst_script.specs.declared.choices.Choice.TheVariants.{Budget, Bound, Json}
use Rattle.rst_script.specs.declared.choices.Choices.{Choices}
use Rattle.rst_script.specs.declared.script.Setting.{Setting}
use Rattle.rst_script.specs.declared.script.ScriptFault.{ScriptFault}
use Rattle.rst_script.specs.declared.script.ScriptFault.TheVariants.{BadLine, Repeated, TooMany, BadName, BadValue, TooFree}
use Rattle.rst_script.specs.Lines.{Line, lines, line_words, said_line, said_lines}
use Rattle.rst_script.specs.Opening.{version_of, clock_of}
use Rattle.rst_script.specs.Choices.{and_then, no_choices, choice_of, with_choice, with_read, choice_at, is_step_line, choices_in}
use Rattle.rst_script.specs.Steps.{PlainStep, step_of, names_set, has_twice, step_from, step_at, steps_in}
use Rattle.rst_script.specs.Scripts.{PlainScript, body_of, script_behind, script_in, script_of}
use Rattle.rst_script.specs.Fitting.{width_in, fits_width, width_fault, setting_fault, settings_fault, step_free, first_fault, pattern_of, unless, fit_of}
use Rattle.rst_script.specs.Limits.{IsReadFault, has_line, IsFitFault}

-- what holds of an answer, and what of a fault
Gives : {A : Type 0} → (A → Type 0) → (ScriptFault → Type 0) → Result A ScriptFault → Type 0
Gives P Q (Ok x) = P x
Gives P Q (Err fault) = Q fault

gives_then : {A B : Type 0} (P : A → Type 0) (R : B → Type 0) (Q : ScriptFault → Type 0) (r : Result A ScriptFault) (next : A → Result B ScriptFault) → Gives P Q r
    → ((x : A) → P x → Gives R Q (next x)) → Gives R Q (and_then r next)
unfolding Gives
gives_then P R Q (Ok x) next h k = k x h
gives_then P R Q (Err fault) next h k = h

gives_or : {A : Type 0} (Q : ScriptFault → Type 0) (o : Option A) (fault : ScriptFault) → Q fault → Gives (λ (x : A). Unit {0}) Q (ok_or o fault)
unfolding Gives
gives_or Q None fault h = h
gives_or Q (Some x) fault h = tt

gives_fault : {A : Type 0} (P : A → Type 0) (Q : ScriptFault → Type 0) (r : Result A ScriptFault) (fault : ScriptFault) → Gives P Q r → r ≡ Err fault → Q fault
unfolding Gives
gives_fault P Q r fault h e = subst (Gives P Q) e h

IsNumbered : ℕ → Line → Type 0
IsNumbered count line = (1 ≤ line.number) × (line.number ≤ count)

AreNumbered : ℕ → List Line → Type 0
AreNumbered count said = AllByRecursion (IsNumbered count) said

bad : (count : ℕ) (line : Line) → IsNumbered count line → IsReadFault count (BadLine line.number)
unfolding IsNumbered
bad count line h = (h.0, omega (arith, h.1))

said_numbered : (count before : ℕ) (words : List (List ℕ)) (others : List Line) → before + 1 ≤ count → AreNumbered count others → AreNumbered count (said_line (before + 1) words others)
unfolding AreNumbered IsNumbered
said_numbered count before [] others h k = k
said_numbered count before (word ∷ words) others h k = ((omega arith, h), k)

lines_numbered : (count before : ℕ) (them : List (List ℕ)) → before + length them ≤ count → AreNumbered count (said_lines before them)
unfolding AreNumbered
lines_numbered count before [] h = tt
lines_numbered count before (line ∷ others) h =
    said_numbered count before (line_words line) (said_lines (before + 1) others) (omega (arith, h)) (lines_numbered count (before + 1) others (omega (arith, h)))

-- the choices

with_gives : (x : Bool) (count : ℕ) (line : Line) (next : Choices) → IsNumbered count line
    → Gives (λ (more : Choices). Unit {0}) (IsReadFault count) (cond x (Err (Repeated line.number)) (Ok next))
unfolding Gives IsNumbered
with_gives true count line next h = h
with_gives false count line next h = tt

choice_gives : (count : ℕ) (before : Choices) (choice : Choice) (line : Line) → IsNumbered count line
    → Gives (λ (more : Choices). Unit {0}) (IsReadFault count) (with_choice before choice line.number)
choice_gives count before (Budget n) line h = with_gives _ count line _ h
choice_gives count before (Bound n) line h = with_gives _ count line _ h
choice_gives count before (Json json) line h = with_gives _ count line _ h

read_gives : (count : ℕ) (before : Choices) (choice : Option Choice) (line : Line) → IsNumbered count line
    → Gives (λ (more : Choices). Unit {0}) (IsReadFault count) (with_read before choice line.number)
unfolding Gives
read_gives count before None line h = bad count line h
read_gives count before (Some choice) line h = choice_gives count before choice line h

line_gives : (x : Bool) (count : ℕ) (before : Choices) (line : Line) (others : List Line) → AreNumbered count (line ∷ others)
    → ((more : Choices) → Gives (λ (found : Choices × List Line). AreNumbered count found.1) (IsReadFault count) (choices_in more others))
    → Gives (λ (found : Choices × List Line). AreNumbered count found.1) (IsReadFault count)
    (cond x (Ok (before, line ∷ others)) (and_then (choice_at before line) (λ more. choices_in more others)))
unfolding Gives AreNumbered
line_gives true count before line others h later = h
line_gives false count before line others h later =
    gives_then (λ (more : Choices). Unit {0}) (λ (found : Choices × List Line). AreNumbered count found.1) (IsReadFault count) (choice_at before line)
    (λ more. choices_in more others) (read_gives count before (choice_of line.words) line h.0) (λ more _. later more)

choices_give : (count : ℕ) (before : Choices) (said : List Line) → AreNumbered count said
    → Gives (λ (found : Choices × List Line). AreNumbered count found.1) (IsReadFault count) (choices_in before said)
unfolding Gives AreNumbered
choices_give count before [] h = tt
choices_give count before (line ∷ others) h = line_gives (is_step_line line.words) count before line others h (λ more. choices_give count more others h.1)

-- the steps

step_by : (x y : Bool) (count : ℕ) (line : Line) (step : PlainStep) → IsNumbered count line
    → Gives (λ (more : PlainStep). Unit {0}) (IsReadFault count) (cond x (Err (Repeated line.number)) (cond y (Err (TooMany line.number)) (Ok step)))
unfolding Gives IsNumbered
step_by true y count line step h = h
step_by false true count line step h = h
step_by false false count line step h = tt

step_gives : (count cycles : ℕ) (line : Line) (o : Option (List Setting × ℕ)) → IsNumbered count line
    → Gives (λ (more : PlainStep). Unit {0}) (IsReadFault count) (step_from cycles line.number o)
unfolding Gives
step_gives count cycles line None h = bad count line h
step_gives count cycles line (Some found) h =
    step_by (has_twice [] (names_set found.0)) (nat_lt 128 (cycles + found.1)) count line (record { line = line.number; times = found.1; values = found.0 }) h

steps_give : (count version cycles : ℕ) (before : List PlainStep) (said : List Line) → AreNumbered count said
    → Gives (λ (steps : List PlainStep). Unit {0}) (IsReadFault count) (steps_in version cycles before said)
unfolding Gives AreNumbered
steps_give count version cycles before [] h = tt
steps_give count version cycles before (line ∷ others) h =
    gives_then (λ (more : PlainStep). Unit {0}) (λ (steps : List PlainStep). Unit {0}) (IsReadFault count) (step_at version cycles line)
    (λ step. steps_in version (cycles + step.times) (before ++ step ∷ []) others) (step_gives count cycles line (step_of version line.words) h.0)
    (λ step _. steps_give count version (cycles + step.times) (before ++ step ∷ []) others h.1)

-- the whole

body_gives : (count version : ℕ) (clock : Option (List ℕ)) (said : List Line) → AreNumbered count said
    → Gives (λ (script : PlainScript). Unit {0}) (IsReadFault count) (body_of version clock said)
unfolding Gives
body_gives count version clock said h =
    gives_then (λ (found : Choices × List Line). AreNumbered count found.1) (λ (script : PlainScript). Unit {0}) (IsReadFault count) (choices_in no_choices said) _
    (choices_give count no_choices said h)
    (λ found k. gives_then (λ (steps : List PlainStep). Unit {0}) (λ (script : PlainScript). Unit {0}) (IsReadFault count) (steps_in version 0 [] found.1) _
    (steps_give count version 0 [] found.1 k) (λ steps _. tt))

behind_gives : (count version : ℕ) (said : List Line) → AreNumbered count said
    → Gives (λ (script : PlainScript). Unit {0}) (IsReadFault count) (script_behind count version said)
unfolding Gives AreNumbered
behind_gives count version [] h = (omega arith, omega arith)
behind_gives count version (line ∷ others) h =
    gives_then (λ (clock : Option (List ℕ)). Unit {0}) (λ (script : PlainScript). Unit {0}) (IsReadFault count) (ok_or (clock_of line.words) (BadLine line.number)) _
    (gives_or (IsReadFault count) (clock_of line.words) (BadLine line.number) (bad count line h.0)) (λ clock _. body_gives count version clock others h.1)

script_gives : (count : ℕ) (said : List Line) → AreNumbered count said → Gives (λ (script : PlainScript). Unit {0}) (IsReadFault count) (script_in count said)
unfolding Gives AreNumbered
script_gives count [] h = (omega arith, omega arith)
script_gives count (line ∷ others) h =
    gives_then (λ (version : ℕ). Unit {0}) (λ (script : PlainScript). Unit {0}) (IsReadFault count) (ok_or (version_of line.words) (BadLine line.number)) _
    (gives_or (IsReadFault count) (version_of line.words) (BadLine line.number) (bad count line h.0)) (λ version _. behind_gives count version others h.1)

pub read_faults : (text : List ℕ) (fault : ScriptFault) → script_of text ≡ Err fault → IsReadFault (length (lines text)) fault
read_faults text fault e =
    let count = length (lines text) in
    gives_fault (λ (script : PlainScript). Unit {0}) (IsReadFault count) (script_of text) fault
    (script_gives count (said_lines 0 (lines text)) (lines_numbered count 0 (lines text) (omega arith))) e

-- fitting

-- what holds of a fault, if there is one
Tells : (ScriptFault → Type 0) → Option ScriptFault → Type 0
Tells Q None = Unit {0}
Tells Q (Some fault) = Q fault

tells_or : (Q : ScriptFault → Type 0) (a b : Option ScriptFault) → Tells Q a → Tells Q b → Tells Q (option_or a b)
unfolding Tells
tells_or Q None b h k = k
tells_or Q (Some fault) b h k = h

tells_if : (Q : ScriptFault → Type 0) (x : Bool) (a b : Option ScriptFault) → Tells Q a → Tells Q b → Tells Q (cond x a b)
tells_if Q true a b h k = h
tells_if Q false a b h k = k

or_right : (a b : Bool) → b ≡ true → (a || b) ≡ true
or_right true b e = refl
or_right false b e = e

width_tells : (steps : List PlainStep) (line : ℕ) (value width : Option ℕ) → has_line steps line ≡ true → Tells (IsFitFault steps) (width_fault line value width)
unfolding Tells
width_tells steps line value None h = h
width_tells steps line value (Some width) h = tells_if (IsFitFault steps) (fits_width width value) None (Some (BadValue line)) tt h

settings_tell : (ports : List PortBits) (steps : List PlainStep) (line : ℕ) (settings : List Setting) → has_line steps line ≡ true
    → Tells (IsFitFault steps) (settings_fault ports line settings)
unfolding Tells
settings_tell ports steps line [] h = tt
settings_tell ports steps line (setting ∷ settings) h =
    tells_or (IsFitFault steps) (setting_fault ports line setting) (settings_fault ports line settings)
    (width_tells steps line setting.value (width_in ports setting.name) h) (settings_tell ports steps line settings h)

more_steps : (step : PlainStep) (steps : List PlainStep) (fault : ScriptFault) → IsFitFault steps fault → IsFitFault (step ∷ steps) fault
more_steps step steps (BadName line) h = or_right (step.line == line) (has_line steps line) h
more_steps step steps (BadValue line) h = or_right (step.line == line) (has_line steps line) h
more_steps step steps (TooFree line) h = or_right (step.line == line) (has_line steps line) h
more_steps step steps other h = absurd h

tells_more : (step : PlainStep) (steps : List PlainStep) (o : Option ScriptFault) → Tells (IsFitFault steps) o → Tells (IsFitFault (step ∷ steps)) o
unfolding Tells
tells_more step steps None h = tt
tells_more step steps (Some fault) h = more_steps step steps fault h

own_line : (step : PlainStep) (steps : List PlainStep) → has_line (step ∷ steps) step.line ≡ true
own_line step steps = first_true (step.line == step.line) (has_line steps step.line) (eq-eqb step.line step.line refl) where
  first_true : (a b : Bool) → a ≡ true → (a || b) ≡ true
  first_true true b e = refl
  first_true false b e = absurd (cc)

fit_tells : (ports : List PortBits) (free : ℕ) (steps : List PlainStep) → Tells (IsFitFault steps) (first_fault ports free steps)
unfolding Tells
fit_tells ports free [] = tt
fit_tells ports free (step ∷ steps) =
    let more = free + step_free ports step in
    let all = step ∷ steps in
    tells_or (IsFitFault all) (settings_fault ports step.line step.values) _ (settings_tell ports all step.line step.values (own_line step steps))
    (tells_if (IsFitFault all) (nat_lt 1024 more) (Some (TooFree step.line)) (first_fault ports more steps) (own_line step steps)
    (tells_more step steps (first_fault ports more steps) (fit_tells ports more steps)))

fault_of : {A : Type 0} → ScriptFault → Result A ScriptFault → ScriptFault
fault_of own (Ok x) = own
fault_of own (Err fault) = fault

unless_fault : {A : Type 0} (Q : ScriptFault → Type 0) (o : Option ScriptFault) (x : A) (fault : ScriptFault) → Tells Q o → unless o x ≡ Err fault → Q fault
unfolding Tells fault_of
unless_fault Q None x fault h e = absurd (cc)
unless_fault Q (Some own) x fault h e = subst Q (ap (fault_of own) e) h

pub fit_faults : (ports : List PortBits) (steps : List PlainStep) (fault : ScriptFault) → fit_of ports steps ≡ Err fault → IsFitFault steps fault
fit_faults ports steps fault e = unless_fault (IsFitFault steps) (first_fault ports 0 steps) (pattern_of ports steps) fault (fit_tells ports 0 steps) e
