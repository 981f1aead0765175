-- What is kept behind each byte answers for what the bytes have come to.
use Rattle.std.proofs.Common.{◌≡◌, ◌==◌, ◌≤◌, ◌<◌, ℕ, ℤ, Bool, true, false, ◌&&◌, not, cond, nat_le, bytes_eq, Option, None, Some, option_map, Result, Ok, Err, OnOk, IfSome, List, [], ◌∷◌, ◌++◌, length, codes, refl, sym, ap, subst, ◌∙◌, arith, append_assoc, append-nil, length-append}
use Rattle.std.specs.List.{list_all}
use Rattle.std.proofs.lemmas.Bool.{leb-true, leb-false}
use Rattle.std.proofs.lemmas.Slice.Eq.{bytes_eq-Decides}
use Rattle.std.proofs.lemmas.Bool.{eqb-true}
use Rattle.rst_lex.specs.Bytes.{is_name_byte}
use Rattle.rst_lex.specs.Words.{is_identifier}
use Rattle.rst_verdict.specs.declared.cert.Cert.{Cert}
use Rattle.rst_cert_lines.specs.Reading.{Read, after, literal_at}
use Rattle.rst_cert_lines.specs.Readers.{clause_at}
use Rattle.rst_cert_lines.proofs.WordLaws.{after_takes}
use Rattle.rst_cert_reader.specs.declared.heading.HeadLine.TheVariants.{Version, Form, Clock, Registers, Inputs, Outputs, Kind}
use Rattle.rst_cert_reader.specs.declared.heading.Heading.{Heading}
use Rattle.rst_cert_reader.specs.declared.gathered.Gathered.{Gathered}
use Rattle.rst_cert_reader.specs.declared.section.Section.{Section}
use Rattle.rst_cert_reader.specs.declared.stage.Stage.{Stage}
use Rattle.rst_cert_reader.specs.declared.stage.Stage.TheVariants.{Head, Begin, Items, Endless, End, Closed, BadHead, Bad}
use Rattle.rst_cert_reader.specs.declared.line.Line.{Line}
use Rattle.rst_cert_reader.specs.declared.line.Line.TheVariants.{Bytes, Nothing, Name, Digits, Clause}
use Rattle.rst_cert_reader.specs.declared.reader.CertFault.{CertFault}
use Rattle.rst_cert_reader.specs.declared.reader.CertFault.TheVariants.{Cut}
use Rattle.rst_cert_reader.specs.Headings.{whole, clock_in}
use Rattle.rst_cert_reader.specs.Sections.{is_digit, is_long_log}
use Rattle.rst_cert_reader.specs.Readings.{Reading, taken, with_head, endless, bad_head, bad_line, ReaderState, start, next_number, line_fed, fed, fed_all, by_stage, finished, cert_of, Answers}
use Rattle.rst_cert_reader.specs.Kept.{Kept, behind_fault, name_taken, digits_taken, clause_taken, clause_behind, behind, IsLong, HasLine, IsAt, StandsFor}
use Rattle.rst_cert_reader.specs.Keeping.{is_log, whole_ends, long_ends, literals_end, ends_by, line_ends, line_lost, with_byte, literals_kept, with_literal, literal_goes, word_goes, goes_by, byte_goes, bytes_go, name_begun, digits_begun, clause_start, clause_begun, begun_by, long_begun, readied_by, readied, line_goes, kept_behind, kept_all, state_of, finished_by, kept_finished, kept_start}
use Rattle.rst_cert_reader.proofs.Clauses.{word_grows, literal_read, literal_broken, long_broken, clause_end, clause_broken, endless_any, clause_line_is, no_clause_line, log_taken, endless_taken}
use Rattle.rst_cert_reader.proofs.LongLines.{none_on, clock_named, no_clock, no_name, front_broken, name_broken, name_grows, name_fault, log_begun}
use Rattle.rst_cert_reader.proofs.Short.{is_short, not_end, is_fault, none_mapped}
use Rattle.rst_cert_reader.proofs.Limits.{KeepsLimits, fed_keeps, text_keeps}

-- what is read behind a line
abbrev taken_of : Reading → ℕ → List ℕ → Reading
taken_of r number line = taken r.heading r.gathered r.stage (next_number number) line

abbrev taken_in : ReaderState → List ℕ → Reading
taken_in s line = taken_of s.reading s.number line

-- a line ends

whole_line_ends : (k : Kept) (s : ReaderState) → k.number ≡ s.number → HasLine Bytes k s → IsAt (whole_ends k) (line_fed s)
whole_line_ends k s number line = record {
  number = ap next_number number;
  ends = ap (λ (p : List ℕ). bytes_eq p (codes "end")) line.1;
  line = (
    ap (λ (r : Reading). taken_of r k.number k.partial) line.0
        ∙ ap (λ (n : ℕ). taken_of s.reading n k.partial) number
        ∙ ap (λ (p : List ℕ). taken_of s.reading s.number p) line.1,
    refl,
    omega arith,
  );
}

-- a long line ends, behind which all this was read
long_line_ends : (line : Line) (k : Kept) (s : ReaderState) (reading : Reading) → k.number ≡ s.number → IsLong line k s → behind line k [] ≡ reading → IsAt (long_ends k reading) (line_fed s)
long_line_ends line k s reading number long is = record {
  number = ap next_number number;
  ends = sym (not_end s.partial long.long);
  line = (sym is ∙ sym (long.always []) ∙ ap (taken_in s) (append-nil s.partial), refl, omega arith);
}

clause_ends_by : (x : Bool) (k : Kept) (s : ReaderState) → x ≡ bytes_eq k.partial (codes "0") → k.number ≡ s.number → IsLong Clause k s
    → IsAt (cond x (literals_end k) (long_ends k (behind_fault k.reading.stage (next_number k.number)))) (line_fed s)
clause_ends_by true k s is number long =
    let same = (bytes_eq-Decides k.partial (codes "0")).0 (sym is) in
    long_line_ends Clause k s _ number long
    (ap (clause_taken k.reading.heading k.reading.gathered k.reading.stage (next_number k.number))
    (ap (clause_behind k.literals) (append-nil k.partial ∙ same) ∙ clause_end k.literals))
clause_ends_by false k s is number long =
    long_line_ends Clause k s _ number long
    (ap (clause_taken k.reading.heading k.reading.gathered k.reading.stage (next_number k.number))
    (ap (clause_behind k.literals) (append-nil k.partial) ∙ clause_broken k.literals k.partial long.bytes.1 (sym is)))

line_ends_by : (line : Line) (k : Kept) (s : ReaderState) → k.number ≡ s.number → HasLine line k s → IsAt (ends_by line k) (line_fed s)
line_ends_by Bytes k s number line = whole_line_ends k s number line
line_ends_by Nothing k s number line = long_line_ends Nothing k s k.reading number line refl
line_ends_by Name k s number line =
    long_line_ends Name k s _ number line (ap (name_taken k.reading.heading k.reading.gathered k.reading.stage (next_number k.number)) (append-nil k.partial))
line_ends_by Digits k s number line = long_line_ends Digits k s endless number line refl
line_ends_by Clause k s number line = clause_ends_by (bytes_eq k.partial (codes "0")) k s refl number line

-- a line goes on

abbrev goes_on : ReaderState → ℕ → ReaderState
goes_on s byte = record s { partial = s.partial ++ byte ∷ [] }

longer : (s : ReaderState) (byte : ℕ) → 3 < length s.partial → 3 < length (s.partial ++ byte ∷ [])
longer s byte long = let more = length-append s.partial (byte ∷ []) in omega (arith, more, long)

-- what is read behind the line with one byte more is what was kept tells
goes_always : (line : Line) (k : Kept) (s : ReaderState) (byte : ℕ) → IsLong line k s → (more : List ℕ) → taken_in s ((s.partial ++ byte ∷ []) ++ more) ≡ behind line k (byte ∷ more)
goes_always line k s byte at more = ap (taken_in s) (append_assoc s.partial (byte ∷ []) more) ∙ at.always (byte ∷ more)

-- nothing is kept of a line that is at fault
lost : (k : Kept) (s : ReaderState) → k.number ≡ s.number → k.ends ≡ s.ends → 3 < length s.partial
    → ((more : List ℕ) → taken_in s (s.partial ++ more) ≡ behind_fault k.reading.stage (next_number k.number)) → IsAt (line_lost k) s
lost k s number ends long always = record { number = number; ends = ends; line = record { long = long; always = always; bytes = refl } }

-- a byte is kept
kept_on : (line : Line) (k : Kept) (s : ReaderState) (byte : ℕ) → line ≡ k.line → k.number ≡ s.number → k.ends ≡ s.ends → HasLine line (with_byte k byte) (goes_on s byte)
    → IsAt (with_byte k byte) (goes_on s byte)
kept_on line k s byte is number ends has = record { number = number; ends = ends; line = subst (λ (l : Line). HasLine l (with_byte k byte) (goes_on s byte)) is has }

name_on : (x : Bool) (k : Kept) (s : ReaderState) (byte : ℕ) → x ≡ is_name_byte byte → Name ≡ k.line → k.number ≡ s.number → k.ends ≡ s.ends → IsLong Name k s
    → IsAt (cond x (with_byte k byte) (line_lost k)) (goes_on s byte)
name_on true k s byte is line number ends at = kept_on Name k s byte line number ends (record {
  long = longer s byte at.long;
  always = λ more.
      goes_always Name k s byte at more
      ∙ ap (name_taken k.reading.heading k.reading.gathered k.reading.stage (next_number k.number)) (sym (append_assoc k.partial (byte ∷ []) more));
  bytes = name_grows k.partial byte at.bytes (sym is);
})
name_on false k s byte is line number ends at = lost k (goes_on s byte) number ends (longer s byte at.long)
    (λ more. goes_always Name k s byte at more
    ∙ name_fault k.reading.heading k.reading.gathered k.reading.stage (next_number k.number) (k.partial ++ byte ∷ more) (name_broken k.partial more byte (sym is)))

digits_on : (x : Bool) (k : Kept) (s : ReaderState) (byte : ℕ) → x ≡ is_digit byte → Digits ≡ k.line → k.number ≡ s.number → k.ends ≡ s.ends → IsLong Digits k s
    → IsAt (cond x k (line_lost k)) (goes_on s byte)
digits_on true k s byte is line number ends at = record {
  number = number;
  ends = ends;
  line = subst (λ (l : Line). HasLine l k (goes_on s byte)) line (record {
    long = longer s byte at.long;
    always = λ more.
        goes_always Digits k s byte at more
        ∙ ap (λ (x : Bool). cond (x && list_all is_digit more) endless (behind_fault k.reading.stage (next_number k.number))) (sym is);
    bytes = at.bytes;
  });
}
digits_on false k s byte is line number ends at = lost k (goes_on s byte) number ends (longer s byte at.long)
    (λ more. goes_always Digits k s byte at more
    ∙ ap (λ (x : Bool). cond (x && list_all is_digit more) endless (behind_fault k.reading.stage (next_number k.number))) (sym is))

-- where a log has no end its clauses aren't kept
any_kept : (h : Heading) (g : Gathered) (stage : Stage) (number : ℕ) (literals : List ℤ) (literal : ℤ) (more : List ℕ)
    → clause_taken h g stage number (clause_behind (literals ++ literal ∷ []) more) ≡ clause_taken h g stage number (clause_behind (literals_kept stage literals literal) more)
any_kept h g (Head due) number literals literal more = refl
any_kept h g (Begin section) number literals literal more = refl
any_kept h g (Items section left) number literals literal more = refl
any_kept h g Endless number literals literal more = endless_any h g number (literals ++ literal ∷ []) literals more
any_kept h g End number literals literal more = refl
any_kept h g Closed number literals literal more = refl
any_kept h g BadHead number literals literal more = refl
any_kept h g (Bad first) number literals literal more = refl

literal_on : (read : Option ℤ) (k : Kept) (s : ReaderState) (byte : ℕ) → read ≡ whole (literal_at k.partial) → byte ≡ 32 → Clause ≡ k.line → k.number ≡ s.number → k.ends ≡ s.ends
    → IsLong Clause k s → IsAt (literal_goes k read) (goes_on s byte)
literal_on (Some literal) k s byte is space line number ends at = record {
  number = number;
  ends = ends;
  line = subst (λ (l : Line). HasLine l (with_literal k literal) (goes_on s byte)) line (record {
    long = longer s byte at.long;
    always = λ more.
        goes_always Clause k s byte at more
        ∙ ap (λ (b : ℕ). clause_taken k.reading.heading k.reading.gathered k.reading.stage (next_number k.number) (clause_behind k.literals (k.partial ++ b ∷ more))) space
        ∙ ap (clause_taken k.reading.heading k.reading.gathered k.reading.stage (next_number k.number)) (literal_read k.literals k.partial literal more (sym is))
        ∙ any_kept k.reading.heading k.reading.gathered k.reading.stage (next_number k.number) k.literals literal more;
    bytes = (omega arith, refl);
  });
}
literal_on None k s byte is space line number ends at = lost k (goes_on s byte) number ends (longer s byte at.long)
    (λ more. goes_always Clause k s byte at more
    ∙ ap (λ (b : ℕ). clause_taken k.reading.heading k.reading.gathered k.reading.stage (next_number k.number) (clause_behind k.literals (k.partial ++ b ∷ more))) space
    ∙ ap (clause_taken k.reading.heading k.reading.gathered k.reading.stage (next_number k.number)) (literal_broken k.literals k.partial more at.bytes.1 (sym is)))

-- one byte more than fewer
one_more : (bytes : List ℕ) (byte : ℕ) → length bytes < 4096 → length (bytes ++ byte ∷ []) ≤ 4096
one_more bytes byte few = let more = length-append bytes (byte ∷ []) in omega (arith, more, few)

word_on : (x : Bool) (k : Kept) (s : ReaderState) (byte : ℕ) → x ≡ nat_le 4096 (length k.partial) → (byte == 32) ≡ false → Clause ≡ k.line → k.number ≡ s.number → k.ends ≡ s.ends
    → IsLong Clause k s → IsAt (cond x (line_lost k) (with_byte k byte)) (goes_on s byte)
word_on true k s byte is other line number ends at = lost k (goes_on s byte) number ends (longer s byte at.long)
    (λ more. goes_always Clause k s byte at more
    ∙ ap (clause_taken k.reading.heading k.reading.gathered k.reading.stage (next_number k.number))
    (long_broken k.literals k.partial (byte ∷ more) at.bytes.1 (leb-true 4096 (length k.partial) (sym is))))
word_on false k s byte is other line number ends at = kept_on Clause k s byte line number ends (record {
  long = longer s byte at.long;
  always = λ more.
      goes_always Clause k s byte at more
      ∙ ap (λ (p : List ℕ). clause_taken k.reading.heading k.reading.gathered k.reading.stage (next_number k.number) (clause_behind k.literals p)) (sym (append_assoc k.partial (byte ∷ []) more));
  bytes = (one_more k.partial byte (leb-false 4096 (length k.partial) (sym is)), word_grows k.partial byte other at.bytes.1);
})

clause_on : (x : Bool) (k : Kept) (s : ReaderState) (byte : ℕ) → x ≡ (byte == 32) → Clause ≡ k.line → k.number ≡ s.number → k.ends ≡ s.ends → IsLong Clause k s
    → IsAt (cond x (literal_goes k (whole (literal_at k.partial))) (word_goes k byte)) (goes_on s byte)
clause_on true k s byte is line number ends at = literal_on (whole (literal_at k.partial)) k s byte refl (eqb-true byte 32 (sym is)) line number ends at
clause_on false k s byte is line number ends at = word_on (nat_le 4096 (length k.partial)) k s byte refl (sym is) line number ends at

-- there is room for one byte more
abbrev HasRoom : Line → List ℕ → Type 0
HasRoom Bytes bytes = length bytes < 4096
HasRoom Nothing bytes = Unit {0}
HasRoom Name bytes = Unit {0}
HasRoom Digits bytes = Unit {0}
HasRoom Clause bytes = Unit {0}

line_on : (line : Line) (k : Kept) (s : ReaderState) (byte : ℕ) → line ≡ k.line → HasRoom line k.partial → k.number ≡ s.number → k.ends ≡ s.ends → HasLine line k s
    → IsAt (goes_by line k byte) (goes_on s byte)
line_on Bytes k s byte is room number ends at = kept_on Bytes k s byte is number ends (at.0, ap (λ (p : List ℕ). p ++ byte ∷ []) at.1, one_more k.partial byte room)
line_on Nothing k s byte is room number ends at = record {
  number = number;
  ends = ends;
  line = subst (λ (l : Line). HasLine l k (goes_on s byte)) is (record { long = longer s byte at.long; always = λ more. goes_always Nothing k s byte at more; bytes = at.bytes });
}
line_on Name k s byte is room number ends at = name_on (is_name_byte byte) k s byte refl is number ends at
line_on Digits k s byte is room number ends at = digits_on (is_digit byte) k s byte refl is number ends at
line_on Clause k s byte is room number ends at = clause_on (byte == 32) k s byte refl is number ends at

byte_on : (k : Kept) (s : ReaderState) (byte : ℕ) → HasRoom k.line k.partial → IsAt k s → IsAt (byte_goes k byte) (goes_on s byte)
byte_on k s byte room at = line_on k.line k s byte refl room at.number at.ends at.line

-- a long line stays one

abbrev StaysLong : Line → Type 0
StaysLong Bytes = ⊥
StaysLong Nothing = Unit {0}
StaysLong Name = Unit {0}
StaysLong Digits = Unit {0}
StaysLong Clause = Unit {0}

long_has_room : (line : Line) (bytes : List ℕ) → StaysLong line → HasRoom line bytes
long_has_room Bytes bytes long = absurd long
long_has_room Nothing bytes long = tt
long_has_room Name bytes long = tt
long_has_room Digits bytes long = tt
long_has_room Clause bytes long = tt

either_long : (x : Bool) (k other : Kept) → StaysLong k.line → StaysLong other.line → StaysLong (cond x k other).line
either_long true k other long same = long
either_long false k other long same = same

literal_long : (k : Kept) (read : Option ℤ) → StaysLong k.line → StaysLong (literal_goes k read).line
literal_long k None long = tt
literal_long k (Some literal) long = long

goes_long_by : (line : Line) (k : Kept) (byte : ℕ) → StaysLong line → StaysLong k.line → StaysLong (goes_by line k byte).line
goes_long_by Bytes k byte line long = absurd line
goes_long_by Nothing k byte line long = long
goes_long_by Name k byte line long = either_long (is_name_byte byte) (with_byte k byte) (line_lost k) long tt
goes_long_by Digits k byte line long = either_long (is_digit byte) k (line_lost k) long tt
goes_long_by Clause k byte line long =
    either_long (byte == 32) (literal_goes k (whole (literal_at k.partial))) (word_goes k byte) (literal_long k (whole (literal_at k.partial)) long)
    (either_long (nat_le 4096 (length k.partial)) (line_lost k) (with_byte k byte) tt long)

goes_long : (k : Kept) (byte : ℕ) → StaysLong k.line → StaysLong (byte_goes k byte).line
goes_long k byte long = goes_long_by k.line k byte long long

all_long : (bytes : List ℕ) (k : Kept) → StaysLong k.line → StaysLong (bytes_go k bytes).line
all_long [] k long = long
all_long (byte ∷ bytes) k long = all_long bytes (byte_goes k byte) (goes_long k byte long)

abbrev all_on : ReaderState → List ℕ → ReaderState
all_on s bytes = record s { partial = s.partial ++ bytes }

bytes_on : (bytes : List ℕ) (k : Kept) (s : ReaderState) → StaysLong k.line → IsAt k s → IsAt (bytes_go k bytes) (all_on s bytes)
bytes_on [] k s long at = subst (λ (p : List ℕ). IsAt k (record s { partial = p })) (sym (append-nil s.partial)) at
bytes_on (byte ∷ bytes) k s long at =
    subst (λ (p : List ℕ). IsAt (bytes_go k (byte ∷ bytes)) (record s { partial = p })) (append_assoc s.partial (byte ∷ []) bytes)
    (bytes_on bytes (byte_goes k byte) (goes_on s byte) (goes_long k byte long) (byte_on k s byte (long_has_room k.line k.partial long) at))

-- a line is long

is_longer : (text : List ℕ) → 4096 ≤ length text → 3 < length text
is_longer text long = omega (arith, long)

-- what is read behind the line where this is due
due_taken : (k : Kept) (stage : Stage) → stage ≡ k.reading.stage → (line : List ℕ) → taken_of k.reading k.number line ≡ taken k.reading.heading k.reading.gathered stage (next_number k.number) line
due_taken k stage due line = ap (λ (d : Stage). taken k.reading.heading k.reading.gathered d (next_number k.number) line) (sym due)

clock_none : (h : Heading) (g : Gathered) (number : ℕ) (line : List ℕ) → clock_in line ≡ None → taken h g (Head Clock) number line ≡ bad_head
clock_none h g number line e = ap (with_head Clock g) (none_mapped _ (clock_in line) e)

-- the fault of what is due
due_fault : (k : Kept) (stage : Stage) → stage ≡ k.reading.stage → behind_fault stage (next_number k.number) ≡ behind_fault k.reading.stage (next_number k.number)
due_fault k stage due = ap (λ (d : Stage). behind_fault d (next_number k.number)) due

short_begins : (k : Kept) (stage : Stage) → KeepsLimits k.reading → is_short stage ≡ true → stage ≡ k.reading.stage → 4096 ≤ length k.partial → IsAt (line_lost k) (state_of k)
short_begins k stage few short due long = lost k (state_of k) refl refl (is_longer k.partial long)
    (λ more. let whole = length-append k.partial more in
    due_taken k stage due (k.partial ++ more)
    ∙ is_fault k.reading.heading k.reading.gathered stage (next_number k.number) (k.partial ++ more) few short (omega (arith, whole, long))
    ∙ due_fault k stage due)

named : (name more partial : List ℕ) → partial ≡ codes "clock " ++ name → partial ++ more ≡ codes "clock " ++ (name ++ more)
named name more partial parts = ap (λ (p : List ℕ). p ++ more) parts ∙ append_assoc (codes "clock ") name more

long_name : (name partial : List ℕ) → partial ≡ codes "clock " ++ name → 4096 ≤ length partial → 2 ≤ length name
long_name name partial parts long =
    let same = ap length parts in
    let whole = length-append (codes "clock ") name in
    omega (arith, same, whole, long)

named_long : (name more : List ℕ) → 2 ≤ length name → 2 ≤ length (name ++ more)
named_long name more long = let whole = length-append name more in omega (arith, whole, long)

name_begins_by : (x : Bool) (k : Kept) (name : List ℕ) → x ≡ is_identifier name → Head Clock ≡ k.reading.stage → 4096 ≤ length k.partial → k.partial ≡ codes "clock " ++ name
    → IsAt (cond x (record { reading = k.reading; number = k.number; ends = k.ends; line = Name; literals = []; partial = name }) (line_lost k)) (state_of k)
name_begins_by true k name is due long parts = record {
  number = refl;
  ends = refl;
  line = record {
    long = is_longer k.partial long;
    always = λ more.
        due_taken k (Head Clock) due (k.partial ++ more)
        ∙ ap (λ (line : List ℕ). taken k.reading.heading k.reading.gathered (Head Clock) (next_number k.number) line) (named name more k.partial parts)
        ∙ ap (λ (clock : Option (Option (List ℕ))). with_head Clock k.reading.gathered (option_map (λ c. record k.reading.heading { clock = c }) clock))
        (clock_named (name ++ more) (named_long name more (long_name name k.partial parts long)))
        ∙ ap (λ (d : Stage). name_taken k.reading.heading k.reading.gathered d (next_number k.number) (name ++ more)) due;
    bytes = sym is;
  };
}
name_begins_by false k name is due long parts = lost k (state_of k) refl refl (is_longer k.partial long)
    (λ more. let far = long_name name k.partial parts long in
    due_taken k (Head Clock) due (k.partial ++ more)
    ∙ clock_none k.reading.heading k.reading.gathered (next_number k.number) (k.partial ++ more)
    (ap clock_in (named name more k.partial parts) ∙ clock_named (name ++ more) (named_long name more far) ∙ no_name (name ++ more) (front_broken name more (omega (arith, far)) (sym is)))
    ∙ due_fault k (Head Clock) due)

name_begins : (read : Read (Unit {0})) (k : Kept) → read ≡ after (codes "clock ") k.partial → Head Clock ≡ k.reading.stage → 4096 ≤ length k.partial → IsAt (name_begun k read) (state_of k)
name_begins None k is due long = lost k (state_of k) refl refl (is_longer k.partial long)
    (λ more. due_taken k (Head Clock) due (k.partial ++ more)
    ∙ clock_none k.reading.heading k.reading.gathered (next_number k.number) (k.partial ++ more) (no_clock k.partial more (omega (arith, long)) (sym is))
    ∙ due_fault k (Head Clock) due)
name_begins (Some it) k is due long = name_begins_by (is_identifier it.1) k it.1 refl due long (after_takes (codes "clock ") k.partial it (sym is))

digits_begin_by : (x : Bool) (section : Section) (k : Kept) → x ≡ is_long_log section k.partial → is_log section ≡ true → Begin section ≡ k.reading.stage → 4096 ≤ length k.partial
    → IsAt (cond x (record { reading = k.reading; number = k.number; ends = k.ends; line = Digits; literals = []; partial = [] }) (line_lost k)) (state_of k)
digits_begin_by true section k is log due long = record {
  number = refl;
  ends = refl;
  line = record {
    long = is_longer k.partial long;
    always = λ more.
        due_taken k (Begin section) due (k.partial ++ more)
        ∙ log_begun k.reading.heading k.reading.gathered section (next_number k.number) k.partial more log long
        ∙ ap (λ (x : Bool). cond (x && list_all is_digit more) endless (bad_line (next_number k.number))) (sym is)
        ∙ ap (λ (d : Stage). digits_taken d (next_number k.number) more) due;
    bytes = refl;
  };
}
digits_begin_by false section k is log due long = lost k (state_of k) refl refl (is_longer k.partial long)
    (λ more. due_taken k (Begin section) due (k.partial ++ more)
    ∙ log_begun k.reading.heading k.reading.gathered section (next_number k.number) k.partial more log long
    ∙ ap (λ (x : Bool). cond (x && list_all is_digit more) endless (bad_line (next_number k.number))) (sym is)
    ∙ due_fault k (Begin section) due)

-- clauses are due
abbrev ReadsClauses : Kept → Stage → Type 0
ReadsClauses k stage = (line : List ℕ) → taken k.reading.heading k.reading.gathered stage (next_number k.number) line
    ≡ clause_taken k.reading.heading k.reading.gathered stage (next_number k.number) (whole (clause_at line))

clause_starts : (k : Kept) (stage : Stage) → ReadsClauses k stage → stage ≡ k.reading.stage → IsAt (clause_start k) (record (state_of k) { partial = codes "clause " })
clause_starts k stage reads due = record {
  number = refl;
  ends = refl;
  line = record {
    long = omega arith;
    always = λ more.
        due_taken k stage due (codes "clause " ++ more)
        ∙ reads (codes "clause " ++ more)
        ∙ ap (clause_taken k.reading.heading k.reading.gathered stage (next_number k.number)) (clause_line_is more)
        ∙ ap (λ (d : Stage). clause_taken k.reading.heading k.reading.gathered d (next_number k.number) (clause_behind [] more)) due;
    bytes = (omega arith, refl);
  };
}

clause_begins : (read : Read (Unit {0})) (k : Kept) (stage : Stage) → read ≡ after (codes "clause ") k.partial → ReadsClauses k stage → stage ≡ k.reading.stage → 4096 ≤ length k.partial
    → IsAt (clause_begun k read) (state_of k)
clause_begins None k stage is reads due long = lost k (state_of k) refl refl (is_longer k.partial long)
    (λ more. due_taken k stage due (k.partial ++ more)
    ∙ reads (k.partial ++ more)
    ∙ ap (clause_taken k.reading.heading k.reading.gathered stage (next_number k.number))
    (no_clause_line (k.partial ++ more) (none_on (codes "clause ") k.partial more (omega (arith, long)) (sym is)))
    ∙ due_fault k stage due)
clause_begins (Some it) k stage is reads due long =
    subst (λ (p : List ℕ). IsAt (bytes_go (clause_start k) it.1) (record (state_of k) { partial = p })) (sym (after_takes (codes "clause ") k.partial it (sym is)))
    (bytes_on it.1 (clause_start k) (record (state_of k) { partial = codes "clause " }) tt (clause_starts k stage reads due))

section_begins : (x : Bool) (section : Section) (k : Kept) → x ≡ is_log section → KeepsLimits k.reading → Begin section ≡ k.reading.stage → 4096 ≤ length k.partial
    → IsAt (cond x (digits_begun section k) (line_lost k)) (state_of k)
section_begins true section k log few due long = digits_begin_by (is_long_log section k.partial) section k refl (sym log) due long
section_begins false section k log few due long = short_begins k (Begin section) few (ap not (sym log)) due long

item_begins : (x : Bool) (section : Section) (left : ℕ) (k : Kept) → x ≡ is_log section → KeepsLimits k.reading → Items section left ≡ k.reading.stage → 4096 ≤ length k.partial
    → IsAt (cond x (clause_begun k (after (codes "clause ") k.partial)) (line_lost k)) (state_of k)
item_begins true section left k log few due long =
    clause_begins (after (codes "clause ") k.partial) k (Items section left) refl
    (λ line. log_taken k.reading.heading k.reading.gathered section left (next_number k.number) line (sym log)) due long
item_begins false section left k log few due long = short_begins k (Items section left) few (ap not (sym log)) due long

long_begins : (stage : Stage) (k : Kept) → KeepsLimits k.reading → stage ≡ k.reading.stage → 4096 ≤ length k.partial → IsAt (begun_by stage k) (state_of k)
long_begins (Head Version) k few due long = short_begins k (Head Version) few refl due long
long_begins (Head Form) k few due long = short_begins k (Head Form) few refl due long
long_begins (Head Clock) k few due long = name_begins (after (codes "clock ") k.partial) k refl due long
long_begins (Head Registers) k few due long = short_begins k (Head Registers) few refl due long
long_begins (Head Inputs) k few due long = short_begins k (Head Inputs) few refl due long
long_begins (Head Outputs) k few due long = short_begins k (Head Outputs) few refl due long
long_begins (Head Kind) k few due long = short_begins k (Head Kind) few refl due long
long_begins (Begin section) k few due long = section_begins (is_log section) section k refl few due long
long_begins (Items section left) k few due long = item_begins (is_log section) section left k refl few due long
long_begins Endless k few due long =
    clause_begins (after (codes "clause ") k.partial) k Endless refl (λ line. endless_taken k.reading.heading k.reading.gathered (next_number k.number) line) due long
long_begins End k few due long = short_begins k End few refl due long
long_begins Closed k few due long = short_begins k Closed few refl due long
long_begins BadHead k few due long = short_begins k BadHead few refl due long
long_begins (Bad first) k few due long = short_begins k (Bad first) few refl due long

name_is_long : (k : Kept) (read : Read (Unit {0})) → StaysLong (name_begun k read).line
name_is_long k None = tt
name_is_long k (Some it) =
    either_long (is_identifier it.1) (record { reading = k.reading; number = k.number; ends = k.ends; line = Name; literals = []; partial = it.1 }) (line_lost k) tt tt

digits_are_long : (section : Section) (k : Kept) → StaysLong (digits_begun section k).line
digits_are_long section k =
    either_long (is_long_log section k.partial) (record { reading = k.reading; number = k.number; ends = k.ends; line = Digits; literals = []; partial = [] }) (line_lost k) tt tt

clause_is_long : (k : Kept) (read : Read (Unit {0})) → StaysLong (clause_begun k read).line
clause_is_long k None = tt
clause_is_long k (Some it) = all_long it.1 (clause_start k) tt

begun_long : (stage : Stage) (k : Kept) → StaysLong (begun_by stage k).line
begun_long (Head Version) k = tt
begun_long (Head Form) k = tt
begun_long (Head Clock) k = name_is_long k (after (codes "clock ") k.partial)
begun_long (Head Registers) k = tt
begun_long (Head Inputs) k = tt
begun_long (Head Outputs) k = tt
begun_long (Head Kind) k = tt
begun_long (Begin section) k = either_long (is_log section) (digits_begun section k) (line_lost k) (digits_are_long section k) tt
begun_long (Items section left) k =
    either_long (is_log section) (clause_begun k (after (codes "clause ") k.partial)) (line_lost k) (clause_is_long k (after (codes "clause ") k.partial)) tt
begun_long Endless k = clause_is_long k (after (codes "clause ") k.partial)
begun_long End k = tt
begun_long Closed k = tt
begun_long BadHead k = tt
begun_long (Bad first) k = tt

-- one byte more

-- what is kept of a line by its bytes is what the bytes so far have come to
same_state : (k : Kept) (s : ReaderState) → k.number ≡ s.number → k.ends ≡ s.ends → HasLine Bytes k s → state_of k ≡ s
same_state k s number ends line =
    ap (λ (r : Reading). record (state_of k) { reading = r }) line.0
    ∙ ap (λ (n : ℕ). record (state_of k) { reading = s.reading; number = n }) number
    ∙ ap (λ (e : Bool). record (state_of k) { reading = s.reading; number = s.number; ends = e }) ends
    ∙ ap (λ (p : List ℕ). record s { partial = p }) line.1

bytes_ready : (x : Bool) (k : Kept) (s : ReaderState) → x ≡ nat_le 4096 (length k.partial) → KeepsLimits s.reading → HasLine Bytes k s → IsAt k s → IsAt (cond x (long_begun k) k) s
bytes_ready true k s count few line at =
    subst (IsAt (long_begun k)) (same_state k s at.number at.ends line)
    (long_begins k.reading.stage k (subst KeepsLimits (sym line.0) few) refl (leb-true 4096 (length k.partial) (sym count)))
bytes_ready false k s count few line at = at

ready_by : (line : Line) (k : Kept) (s : ReaderState) → KeepsLimits s.reading → HasLine line k s → IsAt k s → IsAt (readied_by line k) s
ready_by Bytes k s few line at = bytes_ready (nat_le 4096 (length k.partial)) k s refl few line at
ready_by Nothing k s few line at = at
ready_by Name k s few line at = at
ready_by Digits k s few line at = at
ready_by Clause k s few line at = at

bytes_room : (x : Bool) (k : Kept) → x ≡ nat_le 4096 (length k.partial) → Bytes ≡ k.line → HasRoom (cond x (long_begun k) k).line (cond x (long_begun k) k).partial
bytes_room true k count is = long_has_room (long_begun k).line (long_begun k).partial (begun_long k.reading.stage k)
bytes_room false k count is = subst (λ (l : Line). HasRoom l k.partial) is (leb-false 4096 (length k.partial) (sym count))

room_by : (line : Line) (k : Kept) → line ≡ k.line → HasRoom (readied_by line k).line (readied_by line k).partial
room_by Bytes k is = bytes_room (nat_le 4096 (length k.partial)) k refl is
room_by Nothing k is = subst (λ (l : Line). HasRoom l k.partial) is tt
room_by Name k is = subst (λ (l : Line). HasRoom l k.partial) is tt
room_by Digits k is = subst (λ (l : Line). HasRoom l k.partial) is tt
room_by Clause k is = subst (λ (l : Line). HasRoom l k.partial) is tt

feed_by : (x : Bool) (k : Kept) (s : ReaderState) (byte : ℕ) → KeepsLimits s.reading → IsAt k s → IsAt (cond x (line_ends k) (line_goes k byte)) (cond x (line_fed s) (goes_on s byte))
feed_by true k s byte few at = line_ends_by k.line k s at.number at.line
feed_by false k s byte few at = byte_on (readied k) s byte (room_by k.line k refl) (ready_by k.line k s few at.line at)

feed_on : (bytes : List ℕ) (k : Kept) (s : ReaderState) → KeepsLimits s.reading → IsAt k s → IsAt (kept_all k bytes) (fed_all s bytes)
feed_on [] k s few at = at
feed_on (byte ∷ bytes) k s few at = feed_on bytes (kept_behind k byte) (fed s byte) (fed_keeps s byte few) (feed_by (byte == 10) k s byte few at)

-- bytes are fed one list behind the other
pub fed_both : (s : ReaderState) (front more : List ℕ) → fed_all (fed_all s front) more ≡ fed_all s (front ++ more)
fed_both s [] more = refl
fed_both s (byte ∷ front) more = fed_both (fed s byte) front more

-- bytes are read one behind the other
pub feeds_go : (reader : Option Kept) (byte : ℕ) (bytes : List ℕ)
    → option_map (λ k. kept_all k (byte ∷ bytes)) reader ≡ option_map (λ k. kept_all k bytes) (option_map (λ k. kept_behind k byte) reader)
feeds_go None byte bytes = refl
feeds_go (Some k) byte bytes = refl

-- bytes of a line are read one behind the other
pub bytes_more : (reader : Option Kept) (byte : ℕ) (bytes : List ℕ)
    → option_map (λ k. bytes_go k (byte ∷ bytes)) reader ≡ option_map (λ k. bytes_go k bytes) (option_map (λ k. byte_goes k byte) reader)
bytes_more None byte bytes = refl
bytes_more (Some k) byte bytes = refl

-- a reader of no bytes stands for the empty text
pub stands_at_first : (reader : Option Kept) → reader ≡ Some kept_start → StandsFor reader []
stands_at_first reader is = subst (λ (r : Option Kept). StandsFor r []) (sym is) (record { number = refl; ends = refl; line = (refl, refl, omega arith) })

stands_behind : (reader : Option Kept) (piece text : List ℕ) → StandsFor reader text → StandsFor (option_map (λ k. kept_all k piece) reader) (text ++ piece)
stands_behind None piece text stands = absurd stands
stands_behind (Some k) piece text stands = subst (λ (s : ReaderState). IsAt (kept_all k piece) s) (fed_both start text piece) (feed_on piece k (fed_all start text) (text_keeps text) stands)

-- behind a piece it stands for the text and the piece
stands_on : (reader new : Option Kept) (piece : List ℕ) → new ≡ option_map (λ k. kept_all k piece) reader → (text : List ℕ) → StandsFor reader text → StandsFor new (text ++ piece)
stands_on reader new piece is text stands = subst (λ (r : Option Kept). StandsFor r (text ++ piece)) (sym is) (stands_behind reader piece text stands)

pub stands_fed : {A E : Type 0} (old new : Option Kept) (piece : List ℕ) (result : Result A E) → OnOk result (new ≡ option_map (λ k. kept_all k piece) old)
    → OnOk result ((text : List ℕ) → StandsFor old text → StandsFor new (text ++ piece))
stands_fed old new piece (Ok done) is = λ text stands. stands_on old new piece is text stands
stands_fed old new piece (Err fault) is = tt

-- what is answered

and_false : (x : Bool) → (x && false) ≡ false
and_false true = refl
and_false false = refl

not_empty_by : (x : Bool) (line : List ℕ) → x ≡ bytes_eq line [] → 3 < length line → x ≡ false
not_empty_by true line is long =
    let same = ap length ((bytes_eq-Decides line []).0 (sym is)) in
    absurd (omega (arith, same, long))
not_empty_by false line is long = refl

cut_long : (line : Line) (k : Kept) (s : ReaderState) → IsLong line k s → Err Cut ≡ finished s
cut_long line k s long =
    let cut : ◌≡◌ {A = Bool} (s.ends && bytes_eq s.partial []) false = ap (λ (x : Bool). s.ends && x) (not_empty_by (bytes_eq s.partial []) s.partial refl long.long) ∙ and_false s.ends in
    sym (ap (λ (x : Bool). cond x (by_stage s s.reading.stage) (Err Cut)) cut)

finished_at : (line : Line) (k : Kept) (s : ReaderState) → k.number ≡ s.number → k.ends ≡ s.ends → HasLine line k s → finished_by line k ≡ finished s
finished_at Bytes k s number ends line = ap finished (same_state k s number ends line)
finished_at Nothing k s number ends line = cut_long Nothing k s line
finished_at Name k s number ends line = cut_long Name k s line
finished_at Digits k s number ends line = cut_long Digits k s line
finished_at Clause k s number ends line = cut_long Clause k s line

pub answers : (reader : Option Kept) (result : Result Cert CertFault) → IfSome reader (λ k. Answers (kept_finished k) result) → (text : List ℕ) → StandsFor reader text → Answers (cert_of text) result
answers None result h text stands = absurd stands
answers (Some k) result h text stands =
    subst (λ (made : Result Cert CertFault). Answers made result) (finished_at k.line k (fed_all start text) stands.number stands.ends stands.line) h
