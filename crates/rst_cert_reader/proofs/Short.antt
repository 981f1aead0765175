-- A line of 4,096 bytes is at fault where a short one is due.
use Rattle.std.proofs.Common.{◌≡◌, ◌==◌, ◌-◌, ◌≤◌, ◌<◌, ◌^◌, ℕ, Bool, true, false, not, cond, bytes_eq, Option, None, Some, option_map, List, length, codes, refl, sym, ap, subst, ◌∙◌, arith}
use Rattle.std.proofs.Math.Nat.{min-le_right}
use Rattle.std.proofs.lemmas.Slice.Eq.{bytes_eq-Decides}
use Rattle.rst_cert_lines.specs.Readers.{step_at, free_step_at, state_at, hop_line_at, entry_at}
use Rattle.rst_cert_reader.specs.declared.heading.HeadLine.{HeadLine}
use Rattle.rst_cert_reader.specs.declared.heading.HeadLine.TheVariants.{Version, Form, Clock, Registers, Inputs, Outputs, Kind}
use Rattle.rst_cert_reader.specs.declared.heading.CertKind.{CertKind}
use Rattle.rst_cert_reader.specs.declared.heading.CertKind.TheVariants.{Known, Relation, Refuted, Never, Alignable, Unknown}
use Rattle.rst_cert_reader.specs.declared.heading.Heading.{Heading}
use Rattle.rst_cert_reader.specs.declared.gathered.Gathered.{Gathered}
use Rattle.rst_cert_reader.specs.declared.section.Section.{Section}
use Rattle.rst_cert_reader.specs.declared.section.Section.TheVariants.{FreeSteps, Steps, Word, Equal, StateA, StateB, Blocked, Freed, SplitLog, LandLog, EscapeLog, StuckLog, Journal}
use Rattle.rst_cert_reader.specs.declared.stage.Stage.{Stage}
use Rattle.rst_cert_reader.specs.declared.stage.Stage.TheVariants.{Head, Begin, Items, Endless, End, Closed, BadHead, Bad}
use Rattle.rst_cert_reader.specs.Headings.{whole, number_in, version_of, version_in, kind_in, with_line}
use Rattle.rst_cert_reader.specs.Sections.{free_where, shape_of, before_of, place_of, with_entry, with_free_step, with_step, with_word, with_blocked, with_freed, with_work, with_item, with_equal, with_a, with_b, begun_by, is_long_log}
use Rattle.rst_cert_reader.specs.Readings.{with_head, with_begun, with_more, bad_line, endless, taken}
use Rattle.rst_cert_reader.specs.Kept.{behind_fault}
use Rattle.rst_cert_reader.specs.Keeping.{is_log}
use Rattle.rst_cert_reader.proofs.Adding.{free_some}
use Rattle.rst_cert_reader.proofs.Headers.{kind_word, kind_is}
use Rattle.rst_cert_reader.proofs.Limits.{HasLimits}
use Rattle.rst_cert_reader.proofs.Lengths.{IsSmall, number_short, state_short, step_short, free_step_short, hop_short, entry_short}

-- what is due has only short lines
abbrev pub is_short : Stage → Bool
is_short (Head Version) = true
is_short (Head Form) = true
is_short (Head Clock) = false
is_short (Head Registers) = true
is_short (Head Inputs) = true
is_short (Head Outputs) = true
is_short (Head Kind) = true
is_short (Begin section) = not (is_log section)
is_short (Items section left) = not (is_log section)
is_short Endless = false
is_short End = true
is_short Closed = true
is_short BadHead = true
is_short (Bad first) = true

not_true : (x : Bool) → x ≡ false → x ≡ true → ⊥
not_true true e f = cc
not_true false e f = cc

-- nothing is read that isn't short
pub none_of : {A : Type 0} (option : Option A) (line : List ℕ) → 4096 ≤ length line → ((a : A) → option ≡ Some a → length line < 4096) → option ≡ None
none_of None line long short = refl
none_of (Some a) line long short = let less = short a refl in absurd (omega (arith, long, less))

pub none_mapped : {A B : Type 0} (f : A → B) (option : Option A) → option ≡ None → option_map f option ≡ None
none_mapped f option e = ap (option_map f) e

pub no_number : (word : List ℕ) (most : ℕ) (line : List ℕ) → length word ≤ 20 → most < 2 ^ 64 → 4096 ≤ length line → number_in word most line ≡ None
no_number word most line short few long = none_of (number_in word most line) line long (λ number e. number_short word most line number short few e)

no_version : (line : List ℕ) → 4096 ≤ length line → version_in line ≡ None
unfolding version_in
no_version line long = ap version_of (no_number (codes "reset-certificate") 2 line (omega arith) (omega arith) long)

kind_length : (kind : CertKind) → length (kind_word kind) < 4096
kind_length Known = omega arith
kind_length Relation = omega arith
kind_length Refuted = omega arith
kind_length Never = omega arith
kind_length Alignable = omega arith
kind_length Unknown = omega arith

no_kind : (line : List ℕ) → 4096 ≤ length line → kind_in line ≡ None
no_kind line long = none_of (kind_in line) line long (λ kind e. subst (λ (text : List ℕ). length text < 4096) (sym (kind_is line kind e)) (kind_length kind))

no_head : (due : HeadLine) (h : Heading) (g : Gathered) (line : List ℕ) → is_short (Head due) ≡ true → 4096 ≤ length line → with_line due h line ≡ None
no_head Version h g line short long = none_mapped _ (version_in line) (no_version line long)
no_head Form h g line short long = none_mapped _ (number_in (codes "form") (2 ^ 32 - 1) line) (no_number (codes "form") (2 ^ 32 - 1) line (omega arith) (omega arith) long)
no_head Clock h g line short long = absurd (not_true false refl short)
no_head Registers h g line short long = none_mapped _ (number_in (codes "registers") 512 line) (no_number (codes "registers") 512 line (omega arith) (omega arith) long)
no_head Inputs h g line short long = none_mapped _ (number_in (codes "inputs") 256 line) (no_number (codes "inputs") 256 line (omega arith) (omega arith) long)
no_head Outputs h g line short long = none_mapped _ (number_in (codes "outputs") 256 line) (no_number (codes "outputs") 256 line (omega arith) (omega arith) long)
no_head Kind h g line short long = none_mapped _ (kind_in line) (no_kind line long)

small_shape : (h : Heading) (g : Gathered) → HasLimits h g → IsSmall (shape_of h)
small_shape h g few = record { registers = few.registers; inputs = few.inputs }

no_equal : (h : Heading) (g : Gathered) (line : List ℕ) → HasLimits h g → 4096 ≤ length line → with_equal h g line ≡ None
unfolding with_equal
no_equal h g line few long =
    none_mapped _ (whole (state_at (codes "equal") h.registers line))
    (none_of (whole (state_at (codes "equal") h.registers line)) line long (λ bits e. state_short (codes "equal") h.registers line bits (omega arith) few.registers e))

no_a : (h : Heading) (g : Gathered) (line : List ℕ) → HasLimits h g → 4096 ≤ length line → with_a h g line ≡ None
unfolding with_a
no_a h g line few long =
    none_mapped _ (whole (state_at (codes "a") h.registers line))
    (none_of (whole (state_at (codes "a") h.registers line)) line long (λ bits e. state_short (codes "a") h.registers line bits (omega arith) few.registers e))

no_b : (h : Heading) (g : Gathered) (line : List ℕ) → HasLimits h g → 4096 ≤ length line → with_b h g line ≡ None
unfolding with_b
no_b h g line few long =
    none_mapped _ (whole (state_at (codes "b") h.registers line))
    (none_of (whole (state_at (codes "b") h.registers line)) line long (λ bits e. state_short (codes "b") h.registers line bits (omega arith) few.registers e))

not_log : (x : Bool) → not x ≡ true → x ≡ false
not_log true e = sym e
not_log false e = refl

no_begun : (h : Heading) (section : Section) (g : Gathered) (line : List ℕ) → is_log section ≡ false → HasLimits h g → 4096 ≤ length line → begun_by h section g line ≡ None
no_begun h FreeSteps g line other few long = none_mapped _ (number_in (codes "sequence") 128 line) (no_number (codes "sequence") 128 line (omega arith) (omega arith) long)
no_begun h Steps g line other few long = none_mapped _ (number_in (codes "sequence") 128 line) (no_number (codes "sequence") 128 line (omega arith) (omega arith) long)
no_begun h Word g line other few long = none_mapped _ (number_in (codes "word") 100000 line) (no_number (codes "word") 100000 line (omega arith) (omega arith) long)
no_begun h Blocked g line other few long = none_mapped _ (number_in (codes "blocked") 100000 line) (no_number (codes "blocked") 100000 line (omega arith) (omega arith) long)
no_begun h Freed g line other few long = none_mapped _ (number_in (codes "freed") 100000 line) (no_number (codes "freed") 100000 line (omega arith) (omega arith) long)
no_begun h Journal g line other few long = none_mapped _ (number_in (codes "journal") 100000 line) (no_number (codes "journal") 100000 line (omega arith) (omega arith) long)
no_begun h Equal g line other few long = no_equal h g line few long
no_begun h StateA g line other few long = no_a h g line few long
no_begun h StateB g line other few long = no_b h g line few long
no_begun h SplitLog g line other few long = absurd (not_true true other refl)
no_begun h LandLog g line other few long = absurd (not_true true other refl)
no_begun h EscapeLog g line other few long = absurd (not_true true other refl)
no_begun h StuckLog g line other few long = absurd (not_true true other refl)

no_long_log : (section : Section) (line : List ℕ) → is_log section ≡ false → is_long_log section line ≡ false
unfolding is_long_log
no_long_log FreeSteps line other = refl
no_long_log Steps line other = refl
no_long_log Word line other = refl
no_long_log Blocked line other = refl
no_long_log Freed line other = refl
no_long_log Journal line other = refl
no_long_log Equal line other = refl
no_long_log StateA line other = refl
no_long_log StateB line other = refl
no_long_log SplitLog line other = absurd (not_true true other refl)
no_long_log LandLog line other = absurd (not_true true other refl)
no_long_log EscapeLog line other = absurd (not_true true other refl)
no_long_log StuckLog line other = absurd (not_true true other refl)

no_free_step : (h : Heading) (g : Gathered) (line : List ℕ) → HasLimits h g → 4096 ≤ length line → with_free_step h g line ≡ None
unfolding with_free_step
no_free_step h g line few long =
    let read = whole (free_step_at h.inputs line) in
    none_mapped _ (free_where (h.version == 2) read)
    (none_of (free_where (h.version == 2) read) line long (λ places e. free_step_short h.inputs line places few.inputs (free_some (h.version == 2) read places e)))

no_step : (h : Heading) (g : Gathered) (line : List ℕ) → HasLimits h g → 4096 ≤ length line → with_step h g line ≡ None
unfolding with_step
no_step h g line few long =
    none_mapped _ (whole (step_at h.inputs line)) (none_of (whole (step_at h.inputs line)) line long (λ bits e. step_short h.inputs line bits few.inputs e))

no_word : (h : Heading) (g : Gathered) (line : List ℕ) → HasLimits h g → 4096 ≤ length line → with_word h g line ≡ None
unfolding with_word
no_word h g line few long =
    none_mapped _ (whole (step_at h.inputs line)) (none_of (whole (step_at h.inputs line)) line long (λ bits e. step_short h.inputs line bits few.inputs e))

few_before : {A : Type 0} (items : List A) → before_of items ≤ 2 ^ 32
few_before items = let most = min-le_right (length items) (2 ^ 32 - 1) in omega (arith, most)

no_blocked : (h : Heading) (g : Gathered) (line : List ℕ) → HasLimits h g → 4096 ≤ length line → with_blocked h g line ≡ None
unfolding with_blocked
no_blocked h g line few long =
    let read = whole (hop_line_at (shape_of h) (codes "out") (before_of g.blocked) line) in
    none_mapped _ read (none_of read line long (λ hop e. hop_short (shape_of h) (codes "out") (before_of g.blocked) line hop (omega arith) (few_before g.blocked) (small_shape h g few) e))

no_freed : (h : Heading) (g : Gathered) (line : List ℕ) → HasLimits h g → 4096 ≤ length line → with_freed h g line ≡ None
unfolding with_freed
no_freed h g line few long =
    let read = whole (hop_line_at (shape_of h) (codes "in") (before_of g.freed) line) in
    none_mapped _ read (none_of read line long (λ hop e. hop_short (shape_of h) (codes "in") (before_of g.freed) line hop (omega arith) (few_before g.freed) (small_shape h g few) e))

no_work : (h : Heading) (g : Gathered) (line : List ℕ) → HasLimits h g → 4096 ≤ length line → with_work h g line ≡ None
unfolding with_work
no_work h g line few long =
    let read = whole (entry_at (place_of h g) line) in
    none_mapped (with_entry g) read
    (none_of read line long (λ entry e. entry_short (place_of h g) line entry few.blocked few.freed (small_shape h g few) e))

no_item : (h : Heading) (section : Section) (g : Gathered) (line : List ℕ) → is_log section ≡ false → HasLimits h g → 4096 ≤ length line → with_item h section g line ≡ None
no_item h FreeSteps g line other few long = no_free_step h g line few long
no_item h Steps g line other few long = no_step h g line few long
no_item h Word g line other few long = no_word h g line few long
no_item h Blocked g line other few long = no_blocked h g line few long
no_item h Freed g line other few long = no_freed h g line few long
no_item h Journal g line other few long = no_work h g line few long
no_item h Equal g line other few long = refl
no_item h StateA g line other few long = refl
no_item h StateB g line other few long = refl
no_item h SplitLog g line other few long = absurd (not_true true other refl)
no_item h LandLog g line other few long = absurd (not_true true other refl)
no_item h EscapeLog g line other few long = absurd (not_true true other refl)
no_item h StuckLog g line other few long = absurd (not_true true other refl)

not_end_by : (x : Bool) (line : List ℕ) → x ≡ bytes_eq line (codes "end") → 3 < length line → x ≡ false
not_end_by true line is long =
    let same = ap length ((bytes_eq-Decides line (codes "end")).0 (sym is)) in
    absurd (omega (arith, same, long))
not_end_by false line is long = refl

pub not_end : (line : List ℕ) → 3 < length line → bytes_eq line (codes "end") ≡ false
not_end line long = not_end_by (bytes_eq line (codes "end")) line refl long

-- the line is at fault
pub is_fault : (h : Heading) (g : Gathered) (stage : Stage) (number : ℕ) (line : List ℕ) → HasLimits h g → is_short stage ≡ true → 4096 ≤ length line → taken h g stage number line ≡ behind_fault stage number
is_fault h g (Head due) number line few short long = ap (with_head due g) (no_head due h g line short long)
is_fault h g (Begin section) number line few short long =
    let other = not_log (is_log section) short in
    ap (with_begun h section number line) (no_begun h section g line other few long)
    ∙ ap (λ (x : Bool). cond x endless (bad_line number)) (no_long_log section line other)
is_fault h g (Items section left) number line few short long =
    ap (with_more h section left number) (no_item h section g line (not_log (is_log section) short) few long)
is_fault h g Endless number line few short long = absurd (not_true false refl short)
is_fault h g End number line few short long = rw (not_end line (omega (arith, long))) refl
is_fault h g Closed number line few short long = refl
is_fault h g BadHead number line few short long = refl
is_fault h g (Bad first) number line few short long = refl
