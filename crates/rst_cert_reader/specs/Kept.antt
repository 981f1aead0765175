-- What a reader keeps of a text, and the texts that it stands for.
use Rattle.std.specs.Prelude.{◌≡◌, ◌<◌, ◌≤◌, ℕ, ℤ, Bool, true, Option, None, Some, option_map, List, [], ◌∷◌, ◌++◌, length, if◌then◌else◌}
use Rattle.std.specs.List.{list_all}
use Rattle.rst_lex.specs.Words.{is_identifier}
use Rattle.rst_cert_lines.specs.Reading.{word_of, literals_behind}
use Rattle.rst_cert_reader.specs.declared.heading.HeadLine.TheVariants.{Version, Form, Clock, Registers, Inputs, Outputs, Kind}
use Rattle.rst_cert_reader.specs.declared.heading.Heading.{Heading}
use Rattle.rst_cert_reader.specs.declared.gathered.Gathered.{Gathered}
use Rattle.rst_cert_reader.specs.declared.section.Section.{Section}
use Rattle.rst_cert_reader.specs.declared.section.Section.TheVariants.{FreeSteps, Steps, Word, Equal, StateA, StateB, Blocked, Freed, SplitLog, LandLog, EscapeLog, StuckLog, Journal}
use Rattle.rst_cert_reader.specs.declared.stage.Stage.{Stage}
use Rattle.rst_cert_reader.specs.declared.stage.Stage.TheVariants.{Head, Begin, Items, Endless, End, Closed, BadHead, Bad}
use Rattle.rst_cert_reader.specs.declared.line.Line.{Line}
use Rattle.rst_cert_reader.specs.declared.line.Line.TheVariants.{Bytes, Nothing, Name, Digits, Clause}
use Rattle.rst_cert_reader.specs.Headings.{whole, name_behind}
use Rattle.rst_cert_reader.specs.Sections.{is_digit}
use Rattle.rst_cert_reader.specs.Readings.{Reading, bad_head, bad_line, with_head, with_more, endless, taken, ReaderState, start, next_number, fed_all}

-- what was read, how many lines, whether the last is `end`, and the line under way: what is kept of it, with the literals and the bytes
-- that are. Where nothing is kept of it, what was read is that behind it.
pub record Kept : Type 0 where
  pub reading : Reading
  pub number : ℕ
  pub ends : Bool
  pub line : Line
  pub literals : List ℤ
  pub partial : List ℕ

-- what was read behind a line of this number that is at fault
abbrev pub behind_fault : Stage → ℕ → Reading
behind_fault (Head due) number = bad_head
behind_fault (Begin section) number = bad_line number
behind_fault (Items section left) number = bad_line number
behind_fault Endless number = bad_line number
behind_fault End number = bad_line number
behind_fault Closed number = bad_line number
behind_fault BadHead number = bad_head
behind_fault (Bad first) number = bad_line first

-- the header with the clock of this name
abbrev pub with_name : Heading → List ℕ → Option Heading
with_name heading name = option_map (λ clock. record heading { clock = clock }) (name_behind (Some (tt, name)))

-- what was read behind the clock's line with this name
abbrev pub name_taken : Heading → Gathered → Stage → ℕ → List ℕ → Reading
name_taken h g (Head Clock) number name = with_head Clock g (with_name h name)
name_taken h g (Head Version) number name = bad_head
name_taken h g (Head Form) number name = bad_head
name_taken h g (Head Registers) number name = bad_head
name_taken h g (Head Inputs) number name = bad_head
name_taken h g (Head Outputs) number name = bad_head
name_taken h g (Head Kind) number name = bad_head
name_taken h g (Begin section) number name = bad_line number
name_taken h g (Items section left) number name = bad_line number
name_taken h g Endless number name = bad_line number
name_taken h g End number name = bad_line number
name_taken h g Closed number name = bad_line number
name_taken h g BadHead number name = bad_head
name_taken h g (Bad first) number name = bad_line first

-- what was read behind the first line of a log whose number is long already, with these bytes behind
abbrev pub digits_taken : Stage → ℕ → List ℕ → Reading
digits_taken stage number more = if list_all is_digit more then endless else behind_fault stage number

-- what was gathered, with one more clause of a log
abbrev pub with_clause : Section → Gathered → List ℤ → Option Gathered
with_clause FreeSteps g clause = None
with_clause Steps g clause = None
with_clause Word g clause = None
with_clause Equal g clause = None
with_clause StateA g clause = None
with_clause StateB g clause = None
with_clause Blocked g clause = None
with_clause Freed g clause = None
with_clause SplitLog g clause = Some (record g { first = g.first ++ clause ∷ [] })
with_clause LandLog g clause = Some (record g { second = g.second ++ clause ∷ [] })
with_clause EscapeLog g clause = Some (record g { first = g.first ++ clause ∷ [] })
with_clause StuckLog g clause = Some (record g { second = g.second ++ clause ∷ [] })
with_clause Journal g clause = None

-- what was read behind a clause
abbrev pub clause_read : Heading → Gathered → Stage → ℕ → List ℤ → Reading
clause_read h g (Head due) number clause = bad_head
clause_read h g (Begin section) number clause = bad_line number
clause_read h g (Items section left) number clause = with_more h section left number (with_clause section g clause)
clause_read h g Endless number clause = endless
clause_read h g End number clause = bad_line number
clause_read h g Closed number clause = bad_line number
clause_read h g BadHead number clause = bad_head
clause_read h g (Bad first) number clause = bad_line first

-- what was read behind a line that is a clause, or isn't
abbrev pub clause_taken : Heading → Gathered → Stage → ℕ → Option (List ℤ) → Reading
clause_taken h g stage number None = behind_fault stage number
clause_taken h g stage number (Some clause) = clause_read h g stage number clause

-- the clause of these bytes behind literals
abbrev pub clause_behind : List ℤ → List ℕ → Option (List ℤ)
clause_behind literals text = whole (literals_behind (length text) literals text)

-- what was read behind the line under way, by what is kept of it, where these bytes follow in it
abbrev pub behind : Line → Kept → List ℕ → Reading
behind Bytes k more = taken k.reading.heading k.reading.gathered k.reading.stage (next_number k.number) (k.partial ++ more)
behind Nothing k more = k.reading
behind Name k more = name_taken k.reading.heading k.reading.gathered k.reading.stage (next_number k.number) (k.partial ++ more)
behind Digits k more = digits_taken k.reading.stage (next_number k.number) more
behind Clause k more = clause_taken k.reading.heading k.reading.gathered k.reading.stage (next_number k.number) (clause_behind k.literals (k.partial ++ more))

-- what is kept of the line's bytes: 4,096 of them at most, or the clock's name. Behind a clause's last space there is none.
abbrev pub AreKept : Line → List ℕ → Type 0
AreKept Bytes bytes = length bytes ≤ 4096
AreKept Nothing bytes = bytes ≡ []
AreKept Name bytes = is_identifier bytes ≡ true
AreKept Digits bytes = bytes ≡ []
AreKept Clause bytes = (length bytes ≤ 4096) × (word_of bytes ≡ bytes)

-- the line under way is longer than `end`, and whatever follows in it, what is kept tells what was read behind it
pub record IsLong (line : Line) (kept : Kept) (s : ReaderState) : Type 0 where
  pub long : 3 < length s.partial
  pub always : (more : List ℕ) → taken s.reading.heading s.reading.gathered s.reading.stage (next_number s.number) (s.partial ++ more) ≡ behind line kept more
  pub bytes : AreKept line kept.partial

-- the line under way, by what is kept of it
abbrev pub HasLine : Line → Kept → ReaderState → Type 0
HasLine Bytes kept s = (kept.reading ≡ s.reading) × (kept.partial ≡ s.partial) × AreKept Bytes kept.partial
HasLine Nothing kept s = IsLong Nothing kept s
HasLine Name kept s = IsLong Name kept s
HasLine Digits kept s = IsLong Digits kept s
HasLine Clause kept s = IsLong Clause kept s

-- what is kept answers for what the bytes so far have come to
pub record IsAt (kept : Kept) (s : ReaderState) : Type 0 where
  pub number : kept.number ≡ s.number
  pub ends : kept.ends ≡ s.ends
  pub line : HasLine kept.line kept s

-- a reader stands for a text: what it keeps answers for it. Once memory ran out it stands for none.
abbrev pub StandsFor : Option Kept → List ℕ → Type 0
StandsFor None text = ⊥
StandsFor (Some kept) text = IsAt kept (fed_all start text)
