-- A certificate that is read line by line.
use Rattle.std.specs.Prelude.{◌≡◌, ◌==◌, ◌&&◌, ◌^◌, ◌+◌, ◌-◌, min, ℕ, Bool, false, bytes_eq, Option, None, Some, Result, Ok, Err, ⊤, List, [], ◌∷◌, ◌++◌, codes, if◌then◌else◌}
use Rattle.rst_verdict.specs.declared.cert.Cert.{Cert}
use Rattle.rst_verdict.specs.declared.verdict.Verdict.{Verdict}
use Rattle.rst_verdict.specs.declared.verdict.Verdict.TheVariants as verdicts
use Rattle.rst_cert_reader.specs.declared.heading.HeadLine.{HeadLine}
use Rattle.rst_cert_reader.specs.declared.heading.HeadLine.TheVariants.{Version, Form, Clock, Registers, Inputs, Outputs, Kind}
use Rattle.rst_cert_reader.specs.declared.heading.CertKind.{CertKind}
use Rattle.rst_cert_reader.specs.declared.heading.CertKind.TheVariants.{Known, Relation, Refuted, Never, Alignable, Unknown}
use Rattle.rst_cert_reader.specs.declared.heading.Heading.{Heading}
use Rattle.rst_cert_reader.specs.declared.gathered.Gathered.{Gathered}
use Rattle.rst_cert_reader.specs.declared.section.Section.{Section}
use Rattle.rst_cert_reader.specs.declared.section.Section.TheVariants.{FreeSteps, Steps, Word, Equal, StateA, StateB, Blocked, Freed, SplitLog, LandLog, EscapeLog, StuckLog, Journal}
use Rattle.rst_cert_reader.specs.declared.stage.Stage.{Stage}
use Rattle.rst_cert_reader.specs.declared.stage.Stage.TheVariants.{Head, Begin, Items, Endless, End, Closed, BadHead, Bad}
use Rattle.rst_cert_reader.specs.declared.reader.CertFault.{CertFault}
use Rattle.rst_cert_reader.specs.declared.reader.CertFault.TheVariants.{BadHeader, BadLine, Cut, NoMemory}
use Rattle.rst_cert_reader.specs.Headings.{no_heading, with_line}
use Rattle.rst_cert_reader.specs.Sections.{with_item, begun_by, is_clause, is_long_log}

-- the sections of a kind, one behind the other

abbrev pub first_section : CertKind → Section
first_section Known = FreeSteps
first_section Relation = FreeSteps
first_section Refuted = Steps
first_section Never = StateA
first_section Alignable = Steps
first_section Unknown = Equal

abbrev pub stage_behind : CertKind → Section → Stage
stage_behind Known section = End
stage_behind Relation FreeSteps = Begin Equal
stage_behind Relation Equal = Begin Blocked
stage_behind Relation Blocked = Begin SplitLog
stage_behind Relation SplitLog = Begin LandLog
stage_behind Relation _ = End
stage_behind Refuted Steps = Begin StateA
stage_behind Refuted StateA = Begin StateB
stage_behind Refuted StateB = Begin Word
stage_behind Refuted _ = End
stage_behind Never StateA = Begin StateB
stage_behind Never StateB = Begin Blocked
stage_behind Never Blocked = Begin Freed
stage_behind Never Freed = Begin EscapeLog
stage_behind Never _ = End
stage_behind Alignable Steps = Begin StateA
stage_behind Alignable StateA = Begin StateB
stage_behind Alignable StateB = Begin Word
stage_behind Alignable Word = Begin Blocked
stage_behind Alignable Blocked = Begin Freed
stage_behind Alignable Freed = Begin SplitLog
stage_behind Alignable SplitLog = Begin StuckLog
stage_behind Alignable _ = End
stage_behind Unknown Equal = Begin Journal
stage_behind Unknown _ = End

-- what is due behind a line of the header
abbrev pub stage_behind_head : HeadLine → CertKind → Stage
stage_behind_head Version kind = Head Form
stage_behind_head Form kind = Head Clock
stage_behind_head Clock kind = Head Registers
stage_behind_head Registers kind = Head Inputs
stage_behind_head Inputs kind = Head Outputs
stage_behind_head Outputs kind = Head Kind
stage_behind_head Kind kind = Begin (first_section kind)

-- what is due where so many lines of a section are left
abbrev pub stage_with : CertKind → Section → ℕ → Stage
stage_with kind section left = if left == 0 then stage_behind kind section else Items section left

abbrev pub nothing : Gathered
nothing = record {
  seq = [];
  plain = [];
  word = [];
  equal = [];
  a = [];
  b = [];
  blocked = [];
  freed = [];
  first = [];
  second = [];
  journal = [];
  marked = 0;
  blocked_entries = 0;
  freed_entries = 0;
}

-- what was read, and what is due
pub record Reading : Type 0 where
  pub heading : Heading
  pub gathered : Gathered
  pub stage : Stage

-- behind a fault, or where one is sure to come, nothing else is told
abbrev pub told : Heading → Gathered → Stage → Reading
told heading gathered BadHead = record { heading = no_heading; gathered = nothing; stage = BadHead }
told heading gathered (Bad number) = record { heading = no_heading; gathered = nothing; stage = Bad number }
told heading gathered Endless = record { heading = no_heading; gathered = nothing; stage = Endless }
told heading gathered (Head line) = record { heading = heading; gathered = gathered; stage = Head line }
told heading gathered (Begin section) = record { heading = heading; gathered = gathered; stage = Begin section }
told heading gathered (Items section left) = record { heading = heading; gathered = gathered; stage = Items section left }
told heading gathered End = record { heading = heading; gathered = gathered; stage = End }
told heading gathered Closed = record { heading = heading; gathered = gathered; stage = Closed }

abbrev pub bad_head : Reading
bad_head = record { heading = no_heading; gathered = nothing; stage = BadHead }

abbrev pub bad_line : ℕ → Reading
bad_line number = record { heading = no_heading; gathered = nothing; stage = Bad number }

abbrev pub with_head : HeadLine → Gathered → Option Heading → Reading
with_head due gathered None = bad_head
with_head due gathered (Some heading) = record { heading = heading; gathered = gathered; stage = stage_behind_head due heading.kind }

-- a log of 2^64 clauses or more is due, which no text has: the first line that isn't a clause is at fault
abbrev pub endless : Reading
endless = record { heading = no_heading; gathered = nothing; stage = Endless }

abbrev pub with_begun : Heading → Section → ℕ → List ℕ → Option (Gathered × ℕ) → Reading
with_begun heading section number line None = if is_long_log section line then endless else bad_line number
with_begun heading section number line (Some begun) = record { heading = heading; gathered = begun.0; stage = stage_with heading.kind section begun.1 }

abbrev pub with_more : Heading → Section → ℕ → ℕ → Option Gathered → Reading
with_more heading section left number None = bad_line number
with_more heading section left number (Some gathered) = record { heading = heading; gathered = gathered; stage = stage_with heading.kind section (left - 1) }

-- what was read behind one more line, that of this number
abbrev pub taken : Heading → Gathered → Stage → ℕ → List ℕ → Reading
taken heading gathered (Head due) number line = with_head due gathered (with_line due heading line)
taken heading gathered (Begin section) number line = with_begun heading section number line (begun_by heading section gathered line)
taken heading gathered (Items section left) number line = with_more heading section left number (with_item heading section gathered line)
taken heading gathered Endless number line = if is_clause line then endless else bad_line number
taken heading gathered End number line = if bytes_eq line (codes "end") then record { heading = heading; gathered = gathered; stage = Closed } else bad_line number
taken heading gathered Closed number line = bad_line number
taken heading gathered BadHead number line = bad_head
taken heading gathered (Bad first) number line = bad_line first

-- the verdict of what was gathered
abbrev pub verdict_of : CertKind → Gathered → Verdict
verdict_of Known g = verdicts.SignedKnown g.seq
verdict_of Relation g = verdicts.SignedRelation g.seq g.equal g.blocked g.first g.second
verdict_of Refuted g = verdicts.Refuted g.plain g.a g.b g.word
verdict_of Never g = verdicts.Never g.a g.b g.blocked g.freed g.first
verdict_of Alignable g = verdicts.Alignable g.plain g.a g.b g.word g.blocked g.freed g.first g.second
verdict_of Unknown g = verdicts.Unknown g.equal g.journal

abbrev pub cert_from : Heading → Gathered → Cert
cert_from h g = record {
  version = h.version;
  form = h.form;
  clock = h.clock;
  registers = h.registers;
  inputs = h.inputs;
  outputs = h.outputs;
  verdict = verdict_of h.kind g;
}

-- what the bytes so far have come to: the lines that were read, how many, whether the last is `end`, and the line under way
pub record ReaderState : Type 0 where
  pub reading : Reading
  pub number : ℕ
  pub ends : Bool
  pub partial : List ℕ

abbrev pub start : ReaderState
start = record { reading = record { heading = no_heading; gathered = nothing; stage = Head Version }; number = 0; ends = false; partial = [] }

-- the number of the next line, up to the greatest number of 32 bits
abbrev pub next_number : ℕ → ℕ
next_number number = min (number + 1) (2 ^ 32 - 1)

abbrev pub line_fed : ReaderState → ReaderState
line_fed s = record {
  reading = taken s.reading.heading s.reading.gathered s.reading.stage (next_number s.number) s.partial;
  number = next_number s.number;
  ends = bytes_eq s.partial (codes "end");
  partial = [];
}

-- one byte more
abbrev pub fed : ReaderState → ℕ → ReaderState
fed s byte = if byte == 10 then line_fed s else record s { partial = s.partial ++ byte ∷ [] }

abbrev pub fed_all : ReaderState → List ℕ → ReaderState
fed_all s [] = s
fed_all s (byte ∷ bytes) = fed_all (fed s byte) bytes

abbrev pub by_stage : ReaderState → Stage → Result Cert CertFault
by_stage s (Head due) = Err BadHeader
by_stage s BadHead = Err BadHeader
by_stage s (Bad number) = Err (BadLine number)
by_stage s Closed = Ok (cert_from s.reading.heading s.reading.gathered)
by_stage s (Begin section) = Err (BadLine s.number)
by_stage s (Items section left) = Err (BadLine s.number)
by_stage s Endless = Err (BadLine s.number)
by_stage s End = Err (BadLine s.number)

-- what the bytes are: cut where their last line isn't `end`
abbrev pub finished : ReaderState → Result Cert CertFault
finished s = if s.ends && bytes_eq s.partial [] then by_stage s s.reading.stage else Err Cut

-- the certificate that a text is, or its first fault
abbrev pub cert_of : List ℕ → Result Cert CertFault
cert_of text = finished (fed_all start text)

-- what a call answered, unless memory ran out
abbrev pub Answers : Result Cert CertFault → Result Cert CertFault → Type 0
Answers made (Ok cert) = made ≡ Ok cert
Answers made (Err NoMemory) = ⊤
Answers made (Err BadHeader) = made ≡ Err BadHeader
Answers made (Err (BadLine number)) = made ≡ Err (BadLine number)
Answers made (Err Cut) = made ≡ Err Cut
