-- What a reader keeps behind each byte. Words of the contracts inside this crate, which no public clause cites.
use Rattle.std.specs.Prelude.{◌==◌, nat_le, bytes_eq, ℕ, ℤ, Bool, true, false, Option, None, Some, Result, Err, List, [], ◌∷◌, ◌++◌, length, codes, if◌then◌else◌}
use Rattle.rst_lex.specs.Bytes.{is_name_byte}
use Rattle.rst_lex.specs.Words.{is_identifier}
use Rattle.rst_verdict.specs.declared.cert.Cert.{Cert}
use Rattle.rst_cert_lines.specs.Reading.{Read, after, literal_at}
use Rattle.rst_cert_reader.specs.declared.heading.HeadLine.TheVariants.{Version, Form, Clock, Registers, Inputs, Outputs, Kind}
use Rattle.rst_cert_reader.specs.declared.section.Section.{Section}
use Rattle.rst_cert_reader.specs.declared.section.Section.TheVariants.{FreeSteps, Steps, Word, Equal, StateA, StateB, Blocked, Freed, SplitLog, LandLog, EscapeLog, StuckLog, Journal}
use Rattle.rst_cert_reader.specs.declared.stage.Stage.{Stage}
use Rattle.rst_cert_reader.specs.declared.stage.Stage.TheVariants.{Head, Begin, Items, Endless, End, Closed, BadHead, Bad}
use Rattle.rst_cert_reader.specs.declared.line.Line.{Line}
use Rattle.rst_cert_reader.specs.declared.line.Line.TheVariants.{Bytes, Nothing, Name, Digits, Clause}
use Rattle.rst_cert_reader.specs.declared.reader.CertFault.{CertFault}
use Rattle.rst_cert_reader.specs.declared.reader.CertFault.TheVariants.{Cut}
use Rattle.rst_cert_reader.specs.Headings.{whole}
use Rattle.rst_cert_reader.specs.Sections.{is_digit, is_long_log}
use Rattle.rst_cert_reader.specs.Readings.{Reading, endless, taken, ReaderState, start, next_number, finished}
use Rattle.rst_cert_reader.specs.Kept.{Kept, behind_fault, name_taken, clause_read}

abbrev pub is_log : Section → Bool
is_log FreeSteps = false
is_log Steps = false
is_log Word = false
is_log Equal = false
is_log StateA = false
is_log StateB = false
is_log Blocked = false
is_log Freed = false
is_log SplitLog = true
is_log LandLog = true
is_log EscapeLog = true
is_log StuckLog = true
is_log Journal = false

-- the line of which the bytes are kept ends
abbrev pub whole_ends : Kept → Kept
whole_ends k = record {
  reading = taken k.reading.heading k.reading.gathered k.reading.stage (next_number k.number) k.partial;
  number = next_number k.number;
  ends = bytes_eq k.partial (codes "end");
  line = Bytes;
  literals = [];
  partial = [];
}

-- a long line ends, behind which this was read
abbrev pub long_ends : Kept → Reading → Kept
long_ends k reading = record { reading = reading; number = next_number k.number; ends = false; line = Bytes; literals = []; partial = [] }

abbrev pub name_ends : Kept → Kept
name_ends k = long_ends k (name_taken k.reading.heading k.reading.gathered k.reading.stage (next_number k.number) k.partial)

abbrev pub literals_end : Kept → Kept
literals_end k = long_ends k (clause_read k.reading.heading k.reading.gathered k.reading.stage (next_number k.number) k.literals)

abbrev pub clause_ends : Kept → Kept
clause_ends k = if bytes_eq k.partial (codes "0") then literals_end k else long_ends k (behind_fault k.reading.stage (next_number k.number))

abbrev pub ends_by : Line → Kept → Kept
ends_by Bytes k = whole_ends k
ends_by Nothing k = long_ends k k.reading
ends_by Name k = name_ends k
ends_by Digits k = long_ends k endless
ends_by Clause k = clause_ends k

abbrev pub line_ends : Kept → Kept
line_ends k = ends_by k.line k

-- the line is lost
abbrev pub line_lost : Kept → Kept
line_lost k = record { reading = behind_fault k.reading.stage (next_number k.number); number = k.number; ends = k.ends; line = Nothing; literals = []; partial = [] }

abbrev pub with_byte : Kept → ℕ → Kept
with_byte k byte = record { reading = k.reading; number = k.number; ends = k.ends; line = k.line; literals = k.literals; partial = k.partial ++ byte ∷ [] }

-- one byte more of the clock's name
abbrev pub name_goes : Kept → ℕ → Kept
name_goes k byte = if is_name_byte byte then with_byte k byte else line_lost k

-- one digit more of a long number
abbrev pub digits_go : Kept → ℕ → Kept
digits_go k byte = if is_digit byte then k else line_lost k

-- the literals that are kept of a clause: none where the log has no end
abbrev pub literals_kept : Stage → List ℤ → ℤ → List ℤ
literals_kept (Head due) literals literal = literals ++ literal ∷ []
literals_kept (Begin section) literals literal = literals ++ literal ∷ []
literals_kept (Items section left) literals literal = literals ++ literal ∷ []
literals_kept Endless literals literal = literals
literals_kept End literals literal = literals ++ literal ∷ []
literals_kept Closed literals literal = literals ++ literal ∷ []
literals_kept BadHead literals literal = literals ++ literal ∷ []
literals_kept (Bad first) literals literal = literals ++ literal ∷ []

abbrev pub with_literal : Kept → ℤ → Kept
with_literal k literal = record {
  reading = k.reading;
  number = k.number;
  ends = k.ends;
  line = k.line;
  literals = literals_kept k.reading.stage k.literals literal;
  partial = [];
}

-- the literal behind which a space stands, if it is one
abbrev pub literal_goes : Kept → Option ℤ → Kept
literal_goes k None = line_lost k
literal_goes k (Some literal) = with_literal k literal

-- one byte more of a literal
abbrev pub word_goes : Kept → ℕ → Kept
word_goes k byte = if nat_le 4096 (length k.partial) then line_lost k else with_byte k byte

-- one byte more of a clause
abbrev pub clause_goes : Kept → ℕ → Kept
clause_goes k byte = if byte == 32 then literal_goes k (whole (literal_at k.partial)) else word_goes k byte

-- one byte more of a line
abbrev pub goes_by : Line → Kept → ℕ → Kept
goes_by Bytes k byte = with_byte k byte
goes_by Nothing k byte = k
goes_by Name k byte = name_goes k byte
goes_by Digits k byte = digits_go k byte
goes_by Clause k byte = clause_goes k byte

abbrev pub byte_goes : Kept → ℕ → Kept
byte_goes k byte = goes_by k.line k byte

abbrev pub bytes_go : Kept → List ℕ → Kept
bytes_go k [] = k
bytes_go k (byte ∷ bytes) = bytes_go (byte_goes k byte) bytes

-- What is kept of a line once it has 4,096 bytes:

-- of the clock's line the name
abbrev pub name_begun : Kept → Read (Unit {0}) → Kept
name_begun k None = line_lost k
name_begun k (Some it) =
    if is_identifier it.1 then record { reading = k.reading; number = k.number; ends = k.ends; line = Name; literals = []; partial = it.1 }
    else line_lost k

-- of the first line of a log that it has a long number
abbrev pub digits_begun : Section → Kept → Kept
digits_begun section k =
    if is_long_log section k.partial then record { reading = k.reading; number = k.number; ends = k.ends; line = Digits; literals = []; partial = [] }
    else line_lost k

-- of a clause its literals
abbrev pub clause_start : Kept → Kept
clause_start k = record { reading = k.reading; number = k.number; ends = k.ends; line = Clause; literals = []; partial = [] }

abbrev pub clause_begun : Kept → Read (Unit {0}) → Kept
clause_begun k None = line_lost k
clause_begun k (Some it) = bytes_go (clause_start k) it.1

-- of another nothing
abbrev pub begun_by : Stage → Kept → Kept
begun_by (Head Version) k = line_lost k
begun_by (Head Form) k = line_lost k
begun_by (Head Clock) k = name_begun k (after (codes "clock ") k.partial)
begun_by (Head Registers) k = line_lost k
begun_by (Head Inputs) k = line_lost k
begun_by (Head Outputs) k = line_lost k
begun_by (Head Kind) k = line_lost k
begun_by (Begin section) k = if is_log section then digits_begun section k else line_lost k
begun_by (Items section left) k = if is_log section then clause_begun k (after (codes "clause ") k.partial) else line_lost k
begun_by Endless k = clause_begun k (after (codes "clause ") k.partial)
begun_by End k = line_lost k
begun_by Closed k = line_lost k
begun_by BadHead k = line_lost k
begun_by (Bad first) k = line_lost k

abbrev pub long_begun : Kept → Kept
long_begun k = begun_by k.reading.stage k

-- the line before one byte more
abbrev pub readied_by : Line → Kept → Kept
readied_by Bytes k = if nat_le 4096 (length k.partial) then long_begun k else k
readied_by Nothing k = k
readied_by Name k = k
readied_by Digits k = k
readied_by Clause k = k

abbrev pub readied : Kept → Kept
readied k = readied_by k.line k

abbrev pub line_goes : Kept → ℕ → Kept
line_goes k byte = byte_goes (readied k) byte

-- one byte more
abbrev pub kept_behind : Kept → ℕ → Kept
kept_behind k byte = if byte == 10 then line_ends k else line_goes k byte

abbrev pub kept_all : Kept → List ℕ → Kept
kept_all k [] = k
kept_all k (byte ∷ bytes) = kept_all (kept_behind k byte) bytes

abbrev pub state_of : Kept → ReaderState
state_of k = record { reading = k.reading; number = k.number; ends = k.ends; partial = k.partial }

-- what the bytes are of which this is kept
abbrev pub finished_by : Line → Kept → Result Cert CertFault
finished_by Bytes k = finished (state_of k)
finished_by Nothing k = Err Cut
finished_by Name k = Err Cut
finished_by Digits k = Err Cut
finished_by Clause k = Err Cut

abbrev pub kept_finished : Kept → Result Cert CertFault
kept_finished k = finished_by k.line k

abbrev pub kept_start : Kept
kept_start = record { reading = start.reading; number = 0; ends = false; line = Bytes; literals = []; partial = [] }
