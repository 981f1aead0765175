-- What is kept of long lines tells what they are.
use Rattle.std.proofs.Common.{◌≡◌, ◌==◌, ◌+◌, ◌-◌, ◌≤◌, ◌<◌, ◌^◌, ℕ, Bool, true, false, ◌&&◌, ◌||◌, not, cond, bytes_eq, None, Some, List, [], ◌∷◌, ◌++◌, length, take, drop, codes, refl, sym, ap, ◌∙◌, arith, length-append}
use Rattle.std.specs.List.{list_all}
use Rattle.std.proofs.lemmas.Bool.{le-leb}
use Rattle.std.proofs.lemmas.List.{take-append-le, drop-append-le}
use Rattle.std.proofs.lemmas.List.Folds.{list_all-append}
use Rattle.std.proofs.lemmas.Slice.Eq.{bytes_eq-Decides}
use Rattle.rst_lex.specs.Bytes.{is_letter, is_digit as is_name_digit, is_name_start, is_name_byte}
use Rattle.rst_lex.specs.Words.{is_keyword, is_identifier}
use Rattle.rst_cert_lines.specs.Reading.{Read, after}
use Rattle.rst_cert_lines.proofs.WordLaws.{after_takes, after_again}
use Rattle.rst_cert_reader.specs.declared.heading.HeadLine.TheVariants.{Version, Form, Clock, Registers, Inputs, Outputs, Kind}
use Rattle.rst_cert_reader.specs.declared.heading.Heading.{Heading}
use Rattle.rst_cert_reader.specs.declared.gathered.Gathered.{Gathered}
use Rattle.rst_cert_reader.specs.declared.section.Section.{Section}
use Rattle.rst_cert_reader.specs.declared.section.Section.TheVariants.{FreeSteps, Steps, Word, Equal, StateA, StateB, Blocked, Freed, SplitLog, LandLog, EscapeLog, StuckLog, Journal}
use Rattle.rst_cert_reader.specs.declared.stage.Stage.{Stage}
use Rattle.rst_cert_reader.specs.declared.stage.Stage.TheVariants.{Head, Begin, Items, Endless, End, Closed, BadHead, Bad}
use Rattle.rst_cert_reader.specs.Headings.{number_in, name_behind, clock_in}
use Rattle.rst_cert_reader.specs.Sections.{begun_by, is_digit, is_long_number, is_long_behind, is_long_log}
use Rattle.rst_cert_reader.specs.Readings.{with_head, with_begun, endless, bad_line, taken}
use Rattle.rst_cert_reader.specs.Kept.{behind_fault, name_taken}
use Rattle.rst_cert_reader.specs.Keeping.{is_log}
use Rattle.rst_cert_reader.proofs.Short.{none_mapped, no_number}

-- a word in front

abbrev more_behind : List ℕ → Read (Unit {0}) → Read (Unit {0})
more_behind more None = None
more_behind more (Some it) = Some (it.0, it.1 ++ more)

after_by : (x : Bool) (rest more : List ℕ) → cond {A = Read (Unit {0})} x (Some (tt, rest ++ more)) None ≡ more_behind more (cond x (Some (tt, rest)) None)
after_by true rest more = refl
after_by false rest more = refl

after_on : (word text more : List ℕ) → length word ≤ length text → after word (text ++ more) ≡ more_behind more (after word text)
unfolding after
after_on word text more fits =
    rw (take-append-le (length word) text more fits, drop-append-le (length word) text more fits)
    (after_by (bytes_eq (take (length word) text) word) (drop (length word) text) more)

pub none_on : (word text more : List ℕ) → length word ≤ length text → after word text ≡ None → after word (text ++ more) ≡ None
none_on word text more fits e = after_on word text more fits ∙ ap (more_behind more) e

-- the clock's name

no_noclock_by : (x : Bool) (text : List ℕ) → x ≡ bytes_eq text (codes "noclock") → 8 ≤ length text → x ≡ false
no_noclock_by true text is long =
    let same = ap length ((bytes_eq-Decides text (codes "noclock")).0 (sym is)) in
    absurd (omega (arith, same, long))
no_noclock_by false text is long = refl

clock_long : (text : List ℕ) → 8 ≤ length text → clock_in text ≡ name_behind (after (codes "clock ") text)
unfolding clock_in
clock_long text long =
    ap (λ (x : Bool). cond x (Some None) (name_behind (after (codes "clock ") text))) (no_noclock_by (bytes_eq text (codes "noclock")) text refl long)

pub clock_named : (name : List ℕ) → 2 ≤ length name → clock_in (codes "clock " ++ name) ≡ name_behind (Some (tt, name))
clock_named name long =
    let whole = length-append (codes "clock ") name in
    clock_long (codes "clock " ++ name) (omega (arith, whole, long)) ∙ ap name_behind (after_again (codes "clock ") name)

pub no_clock : (text more : List ℕ) → 8 ≤ length text → after (codes "clock ") text ≡ None → clock_in (text ++ more) ≡ None
no_clock text more long e =
    let whole = length-append text more in
    clock_long (text ++ more) (omega (arith, whole, long)) ∙ ap name_behind (none_on (codes "clock ") text more (omega (arith, long)) e)

pub no_name : (name : List ℕ) → is_identifier name ≡ false → name_behind (Some (tt, name)) ≡ None
no_name name e = ap (λ (x : Bool). cond (x && not (is_keyword name)) (Some (Some name)) None) e

front_by : (a c d : Bool) → (a && c) ≡ false → (a && (c && d)) ≡ false
front_by true true d e = absurd (cc)
front_by true false d e = refl
front_by false c d e = refl

-- what begins as no identifier is none
pub front_broken : (name more : List ℕ) → 0 < length name → is_identifier name ≡ false → is_identifier (name ++ more) ≡ false
front_broken [] more some e = absurd (omega (arith, some))
front_broken (b ∷ name) more some e =
    ap (λ (x : Bool). is_name_start b && x) (list_all-append is_name_byte name more) ∙ front_by (is_name_start b) (list_all is_name_byte name) (list_all is_name_byte more) e

start_by : (a d u s : Bool) → (a || d || u || s) ≡ false → (a || u) ≡ false
start_by true d u s e = absurd (cc)
start_by false d false s e = refl
start_by false true true s e = absurd (cc)
start_by false false true s e = absurd (cc)

no_start : (byte : ℕ) → is_name_byte byte ≡ false → is_name_start byte ≡ false
no_start byte e = start_by (is_letter byte) (is_name_digit byte) (byte == 95) (byte == 36) e

and_true : (x : Bool) → (x && true) ≡ x
and_true true = refl
and_true false = refl

and_false : (x : Bool) → (x && false) ≡ false
and_false true = refl
and_false false = refl

-- another byte is in no name
pub name_broken : (name more : List ℕ) (byte : ℕ) → is_name_byte byte ≡ false → is_identifier (name ++ byte ∷ more) ≡ false
name_broken [] more byte e = ap (λ (x : Bool). x && list_all is_name_byte more) (no_start byte e)
name_broken (b ∷ name) more byte e =
    ap (λ (x : Bool). is_name_start b && x) (list_all-append is_name_byte name (byte ∷ more))
    ∙ ap (λ (x : Bool). is_name_start b && (list_all is_name_byte name && (x && list_all is_name_byte more))) e
    ∙ ap (λ (x : Bool). is_name_start b && x) (and_false (list_all is_name_byte name))
    ∙ and_false (is_name_start b)

-- a name with one byte more
pub name_grows : (name : List ℕ) (byte : ℕ) → is_identifier name ≡ true → is_name_byte byte ≡ true → is_identifier (name ++ byte ∷ []) ≡ true
name_grows [] byte e is = absurd (cc)
name_grows (b ∷ name) byte e is =
    ap (λ (x : Bool). is_name_start b && x) (list_all-append is_name_byte name (byte ∷ []))
    ∙ ap (λ (x : Bool). is_name_start b && (list_all is_name_byte name && (x && true))) is
    ∙ ap (λ (x : Bool). is_name_start b && x) (and_true (list_all is_name_byte name))
    ∙ e

-- a name that is none
pub name_fault : (h : Heading) (g : Gathered) (stage : Stage) (number : ℕ) (name : List ℕ) → is_identifier name ≡ false → name_taken h g stage number name ≡ behind_fault stage number
name_fault h g (Head Version) number name e = refl
name_fault h g (Head Form) number name e = refl
name_fault h g (Head Clock) number name e = ap (with_head Clock g) (none_mapped _ (name_behind (Some (tt, name))) (no_name name e))
name_fault h g (Head Registers) number name e = refl
name_fault h g (Head Inputs) number name e = refl
name_fault h g (Head Outputs) number name e = refl
name_fault h g (Head Kind) number name e = refl
name_fault h g (Begin section) number name e = refl
name_fault h g (Items section left) number name e = refl
name_fault h g Endless number name e = refl
name_fault h g End number name e = refl
name_fault h g Closed number name e = refl
name_fault h g BadHead number name e = refl
name_fault h g (Bad first) number name e = refl

-- a long number

digits_by : (a b c : Bool) → (true && (a && b) && c) ≡ ((true && a && c) && b)
digits_by true true c = sym (and_true c)
digits_by true false c = sym (and_false c)
digits_by false b c = refl

number_on : (digits more : List ℕ) → 20 ≤ length digits → is_long_number (digits ++ more) ≡ (is_long_number digits && list_all is_digit more)
number_on digits more long =
    let whole = length-append digits more in
    let far : 20 ≤ length (digits ++ more) = omega (arith, whole, long) in
    let one : 1 ≤ length digits = omega (arith, long) in
    rw (le-leb 20 (length (digits ++ more)) far, le-leb 20 (length digits) long, list_all-append is_digit digits more, take-append-le 1 digits more one)
    (digits_by (list_all is_digit digits) (list_all is_digit more) (not (bytes_eq (take 1 digits) (codes "0"))))

number_behind : (word text more : List ℕ) (read : Read (Unit {0})) → length word + 20 ≤ length text → ((found : Unit {0} × List ℕ) → read ≡ Some found → text ≡ word ++ found.1)
    → is_long_behind (more_behind more read) ≡ (is_long_behind read && list_all is_digit more)
number_behind word text more None long is = refl
number_behind word text more (Some it) long is =
    let same = ap length (is it refl) in
    let whole = length-append word it.1 in
    number_on it.1 more (omega (arith, same, whole, long))

number_after : (word text more : List ℕ) → length word + 20 ≤ length text → is_long_behind (after word (text ++ more)) ≡ (is_long_behind (after word text) && list_all is_digit more)
number_after word text more long =
    ap is_long_behind (after_on word text more (omega (arith, long)))
    ∙ number_behind word text more (after word text) long (λ found e. after_takes word text found e)

log_on : (section : Section) (text more : List ℕ) → 4096 ≤ length text → is_long_log section (text ++ more) ≡ (is_long_log section text && list_all is_digit more)
unfolding is_long_log
log_on SplitLog text more long = number_after (codes "log split ") text more (omega (arith, long))
log_on LandLog text more long = number_after (codes "log land ") text more (omega (arith, long))
log_on EscapeLog text more long = number_after (codes "log escape ") text more (omega (arith, long))
log_on StuckLog text more long = number_after (codes "log stuck ") text more (omega (arith, long))
log_on FreeSteps text more long = refl
log_on Steps text more long = refl
log_on Word text more long = refl
log_on Equal text more long = refl
log_on StateA text more long = refl
log_on StateB text more long = refl
log_on Blocked text more long = refl
log_on Freed text more long = refl
log_on Journal text more long = refl

none_begun : (h : Heading) (section : Section) (g : Gathered) (line : List ℕ) → is_log section ≡ true → 4096 ≤ length line → begun_by h section g line ≡ None
none_begun h SplitLog g line log long = none_mapped _ (number_in (codes "log split") (2 ^ 64 - 1) line) (no_number (codes "log split") (2 ^ 64 - 1) line (omega arith) (omega arith) long)
none_begun h LandLog g line log long = none_mapped _ (number_in (codes "log land") (2 ^ 64 - 1) line) (no_number (codes "log land") (2 ^ 64 - 1) line (omega arith) (omega arith) long)
none_begun h EscapeLog g line log long = none_mapped _ (number_in (codes "log escape") (2 ^ 64 - 1) line) (no_number (codes "log escape") (2 ^ 64 - 1) line (omega arith) (omega arith) long)
none_begun h StuckLog g line log long = none_mapped _ (number_in (codes "log stuck") (2 ^ 64 - 1) line) (no_number (codes "log stuck") (2 ^ 64 - 1) line (omega arith) (omega arith) long)
none_begun h FreeSteps g line log long = absurd (cc)
none_begun h Steps g line log long = absurd (cc)
none_begun h Word g line log long = absurd (cc)
none_begun h Equal g line log long = absurd (cc)
none_begun h StateA g line log long = absurd (cc)
none_begun h StateB g line log long = absurd (cc)
none_begun h Blocked g line log long = absurd (cc)
none_begun h Freed g line log long = absurd (cc)
none_begun h Journal g line log long = absurd (cc)

-- the first line of a log, where it is long
pub log_begun : (h : Heading) (g : Gathered) (section : Section) (number : ℕ) (text more : List ℕ) → is_log section ≡ true → 4096 ≤ length text
    → taken h g (Begin section) number (text ++ more) ≡ cond (is_long_log section text && list_all is_digit more) endless (bad_line number)
log_begun h g section number text more log long =
    let whole = length-append text more in
    ap (with_begun h section number (text ++ more)) (none_begun h section g (text ++ more) log (omega (arith, whole, long)))
    ∙ ap (λ (x : Bool). cond x endless (bad_line number)) (log_on section text more long)
