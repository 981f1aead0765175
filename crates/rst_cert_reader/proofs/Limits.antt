-- What was read keeps the limits of the format.
use Rattle.std.proofs.Common.{◌≡◌, ◌==◌, ◌+◌, ◌-◌, ◌≤◌, ◌^◌, ℕ, Bool, true, false, cond, bytes_eq, Option, None, Some, option_map, List, [], ◌∷◌, ◌++◌, codes, refl, arith}
use Rattle.std.proofs.Math.Nat.{min-le_right}
use Rattle.rst_pair.specs.declared.journal.Entry.{Entry}
use Rattle.rst_pair.specs.declared.journal.Entry.TheVariants as entries
use Rattle.rst_cert_lines.specs.Readers.{step_at, free_step_at, state_at, clause_at, hop_line_at, entry_at}
use Rattle.rst_cert_reader.specs.declared.heading.HeadLine.{HeadLine}
use Rattle.rst_cert_reader.specs.declared.heading.HeadLine.TheVariants.{Version, Form, Clock, Registers, Inputs, Outputs, Kind}
use Rattle.rst_cert_reader.specs.declared.heading.Heading.{Heading}
use Rattle.rst_cert_reader.specs.declared.gathered.Gathered.{Gathered}
use Rattle.rst_cert_reader.specs.declared.section.Section.{Section}
use Rattle.rst_cert_reader.specs.declared.section.Section.TheVariants.{FreeSteps, Steps, Word, Equal, StateA, StateB, Blocked, Freed, SplitLog, LandLog, EscapeLog, StuckLog, Journal}
use Rattle.rst_cert_reader.specs.declared.stage.Stage.{Stage}
use Rattle.rst_cert_reader.specs.declared.stage.Stage.TheVariants.{Head, Begin, Items, Endless, End, Closed, BadHead, Bad}
use Rattle.rst_cert_reader.specs.Headings.{whole, no_heading, number_in, version_in, clock_in, kind_in, with_line}
use Rattle.rst_cert_reader.specs.Sections.{free_where, shape_of, before_of, blocked_behind, freed_behind, place_of, with_entry, with_free_step, with_step, with_word, with_blocked, with_freed, with_first, with_second, with_work, with_item, is_clause, with_equal, with_a, with_b, begun_by, is_long_log}
use Rattle.rst_cert_reader.specs.Readings.{nothing, Reading, with_head, endless, bad_line, with_begun, with_more, taken, ReaderState, start, next_number, line_fed, fed, fed_all}
use Rattle.rst_cert_reader.proofs.Adding.{number_line}

-- numbers of registers and inputs, and of blocked and freed hops
pub record Limits (m n b f : ℕ) : Type 0 where
  pub registers : m ≤ 512
  pub inputs : n ≤ 256
  pub blocked : b ≤ 2 ^ 32
  pub freed : f ≤ 2 ^ 32

abbrev pub HasLimits : Heading → Gathered → Type 0
HasLimits h g = Limits h.registers h.inputs g.blocked_entries g.freed_entries

abbrev pub KeepsLimits : Reading → Type 0
KeepsLimits r = HasLimits r.heading r.gathered

none_read : HasLimits no_heading nothing
none_read = record { registers = omega arith; inputs = omega arith; blocked = omega arith; freed = omega arith }

abbrev AllOf : {A : Type 0} → (A → Type 0) → Option A → Type 0
AllOf holds None = Unit {0}
AllOf holds (Some a) = holds a

mapped : {A B : Type 0} (holds : B → Type 0) (f : A → B) (option : Option A) → ((a : A) → option ≡ Some a → holds (f a)) → AllOf holds (option_map f option)
mapped holds f None each = tt
mapped holds f (Some a) each = each a refl

-- a line of the header

line_keeps : (due : HeadLine) (h : Heading) (g : Gathered) (line : List ℕ) → HasLimits h g → AllOf (λ (new : Heading). HasLimits new g) (with_line due h line)
line_keeps Version h g line few = mapped (λ (new : Heading). HasLimits new g) (λ number. record h { version = number }) (version_in line) (λ number e. few)
line_keeps Form h g line few = mapped (λ (new : Heading). HasLimits new g) (λ number. record h { form = number }) (number_in (codes "form") (2 ^ 32 - 1) line) (λ number e. few)
line_keeps Clock h g line few = mapped (λ (new : Heading). HasLimits new g) (λ clock. record h { clock = clock }) (clock_in line) (λ clock e. few)
line_keeps Registers h g line few = mapped (λ (new : Heading). HasLimits new g) (λ number. record h { registers = number }) (number_in (codes "registers") 512 line)
    (λ number e. record { registers = (number_line (codes "registers") 512 line number e).1; inputs = few.inputs; blocked = few.blocked; freed = few.freed })
line_keeps Inputs h g line few = mapped (λ (new : Heading). HasLimits new g) (λ number. record h { inputs = number }) (number_in (codes "inputs") 256 line)
    (λ number e. record { registers = few.registers; inputs = (number_line (codes "inputs") 256 line number e).1; blocked = few.blocked; freed = few.freed })
line_keeps Outputs h g line few = mapped (λ (new : Heading). HasLimits new g) (λ number. record h { outputs = number }) (number_in (codes "outputs") 256 line) (λ number e. few)
line_keeps Kind h g line few = mapped (λ (new : Heading). HasLimits new g) (λ kind. record h { kind = kind }) (kind_in line) (λ kind e. few)

head_keeps : (due : HeadLine) (g : Gathered) (option : Option Heading) → AllOf (λ (new : Heading). HasLimits new g) option → KeepsLimits (with_head due g option)
head_keeps due g None all = none_read
head_keeps due g (Some heading) all = all

-- a line of a section

blocked_few : (before : ℕ) (entry : Entry) → before ≤ 2 ^ 32 → blocked_behind before entry ≤ 2 ^ 32
blocked_few before (entries.Candidate input level) few = few
blocked_few before (entries.Conflict kind cube) few = few
blocked_few before (entries.Blocked hop pair) few = let most = min-le_right (before + 1) (2 ^ 32 - 1) in omega (arith, most)
blocked_few before (entries.Freed hop pair) few = few
blocked_few before (entries.Built a b) few = few

freed_few : (before : ℕ) (entry : Entry) → before ≤ 2 ^ 32 → freed_behind before entry ≤ 2 ^ 32
freed_few before (entries.Candidate input level) few = few
freed_few before (entries.Conflict kind cube) few = few
freed_few before (entries.Blocked hop pair) few = few
freed_few before (entries.Freed hop pair) few = let most = min-le_right (before + 1) (2 ^ 32 - 1) in omega (arith, most)
freed_few before (entries.Built a b) few = few

abbrev Fits : Heading → Gathered → Type 0
Fits h new = HasLimits h new

item_keeps : (h : Heading) (section : Section) (g : Gathered) (line : List ℕ) → HasLimits h g → AllOf (Fits h) (with_item h section g line)
unfolding with_free_step with_step with_word with_blocked with_freed with_first with_second with_work
item_keeps h FreeSteps g line few =
    mapped (Fits h) (λ places. record g { seq = g.seq ++ places ∷ [] }) (free_where (h.version == 2) (whole (free_step_at h.inputs line))) (λ places e. few)
item_keeps h Steps g line few = mapped (Fits h) (λ input. record g { plain = g.plain ++ input ∷ [] }) (whole (step_at h.inputs line)) (λ input e. few)
item_keeps h Word g line few = mapped (Fits h) (λ input. record g { word = g.word ++ input ∷ [] }) (whole (step_at h.inputs line)) (λ input e. few)
item_keeps h Blocked g line few =
    mapped (Fits h) (λ hop. record g { blocked = g.blocked ++ hop ∷ [] }) (whole (hop_line_at (shape_of h) (codes "out") (before_of g.blocked) line)) (λ hop e. few)
item_keeps h Freed g line few =
    mapped (Fits h) (λ hop. record g { freed = g.freed ++ hop ∷ [] }) (whole (hop_line_at (shape_of h) (codes "in") (before_of g.freed) line)) (λ hop e. few)
item_keeps h SplitLog g line few = mapped (Fits h) (λ clause. record g { first = g.first ++ clause ∷ [] }) (whole (clause_at line)) (λ clause e. few)
item_keeps h LandLog g line few = mapped (Fits h) (λ clause. record g { second = g.second ++ clause ∷ [] }) (whole (clause_at line)) (λ clause e. few)
item_keeps h EscapeLog g line few = mapped (Fits h) (λ clause. record g { first = g.first ++ clause ∷ [] }) (whole (clause_at line)) (λ clause e. few)
item_keeps h StuckLog g line few = mapped (Fits h) (λ clause. record g { second = g.second ++ clause ∷ [] }) (whole (clause_at line)) (λ clause e. few)
item_keeps h Journal g line few =
    mapped (Fits h) (with_entry g) (whole (entry_at (place_of h g) line))
    (λ entry e. record { registers = few.registers; inputs = few.inputs; blocked = blocked_few g.blocked_entries entry few.blocked; freed = freed_few g.freed_entries entry few.freed })
item_keeps h Equal g line few = tt
item_keeps h StateA g line few = tt
item_keeps h StateB g line few = tt

more_keeps : (h : Heading) (section : Section) (left number : ℕ) (option : Option Gathered) → AllOf (Fits h) option → KeepsLimits (with_more h section left number option)
more_keeps h section left number None all = none_read
more_keeps h section left number (Some gathered) all = all

-- the first line of a section

abbrev Begun : Heading → Gathered × ℕ → Type 0
Begun h begun = HasLimits h begun.0

first_keeps : (h : Heading) (section : Section) (g : Gathered) (line : List ℕ) → HasLimits h g → AllOf (Begun h) (begun_by h section g line)
unfolding with_equal with_a with_b
first_keeps h FreeSteps g line few = mapped (Begun h) (λ (count : ℕ). (record g { seq = [] }, count)) (number_in (codes "sequence") 128 line) (λ count e. few)
first_keeps h Steps g line few = mapped (Begun h) (λ (count : ℕ). (record g { plain = [] }, count)) (number_in (codes "sequence") 128 line) (λ count e. few)
first_keeps h Word g line few = mapped (Begun h) (λ (count : ℕ). (record g { word = [] }, count)) (number_in (codes "word") 100000 line) (λ count e. few)
first_keeps h Blocked g line few = mapped (Begun h) (λ (count : ℕ). (record g { blocked = [] }, count)) (number_in (codes "blocked") 100000 line) (λ count e. few)
first_keeps h Freed g line few = mapped (Begun h) (λ (count : ℕ). (record g { freed = [] }, count)) (number_in (codes "freed") 100000 line) (λ count e. few)
first_keeps h SplitLog g line few = mapped (Begun h) (λ (count : ℕ). (record g { first = [] }, count)) (number_in (codes "log split") (2 ^ 64 - 1) line) (λ count e. few)
first_keeps h LandLog g line few = mapped (Begun h) (λ (count : ℕ). (record g { second = [] }, count)) (number_in (codes "log land") (2 ^ 64 - 1) line) (λ count e. few)
first_keeps h EscapeLog g line few = mapped (Begun h) (λ (count : ℕ). (record g { first = [] }, count)) (number_in (codes "log escape") (2 ^ 64 - 1) line) (λ count e. few)
first_keeps h StuckLog g line few = mapped (Begun h) (λ (count : ℕ). (record g { second = [] }, count)) (number_in (codes "log stuck") (2 ^ 64 - 1) line) (λ count e. few)
first_keeps h Journal g line few =
    mapped (Begun h) (λ (count : ℕ). (record g { journal = []; blocked_entries = 0; freed_entries = 0 }, count)) (number_in (codes "journal") 100000 line)
    (λ count e. record { registers = few.registers; inputs = few.inputs; blocked = omega arith; freed = omega arith })
first_keeps h Equal g line few = mapped (Begun h) _ (whole (state_at (codes "equal") h.registers line)) (λ bits e. few)
first_keeps h StateA g line few = mapped (Begun h) (λ bits. (record g { a = bits }, 0)) (whole (state_at (codes "a") h.registers line)) (λ bits e. few)
first_keeps h StateB g line few = mapped (Begun h) (λ bits. (record g { b = bits }, 0)) (whole (state_at (codes "b") h.registers line)) (λ bits e. few)

either_keeps : (x : Bool) (number : ℕ) → KeepsLimits (cond x endless (bad_line number))
either_keeps true number = none_read
either_keeps false number = none_read

begun_keeps : (h : Heading) (section : Section) (number : ℕ) (line : List ℕ) (option : Option (Gathered × ℕ)) → AllOf (Begun h) option → KeepsLimits (with_begun h section number line option)
begun_keeps h section number line None all = either_keeps (is_long_log section line) number
begun_keeps h section number line (Some begun) all = all

closed_keeps : (x : Bool) (h : Heading) (g : Gathered) (number : ℕ) → HasLimits h g → KeepsLimits (cond x (record { heading = h; gathered = g; stage = Closed }) (bad_line number))
closed_keeps true h g number few = few
closed_keeps false h g number few = none_read

taken_keeps : (h : Heading) (g : Gathered) (stage : Stage) (number : ℕ) (line : List ℕ) → HasLimits h g → KeepsLimits (taken h g stage number line)
taken_keeps h g (Head due) number line few = head_keeps due g (with_line due h line) (line_keeps due h g line few)
taken_keeps h g (Begin section) number line few = begun_keeps h section number line (begun_by h section g line) (first_keeps h section g line few)
taken_keeps h g (Items section left) number line few = more_keeps h section left number (with_item h section g line) (item_keeps h section g line few)
taken_keeps h g Endless number line few = either_keeps (is_clause line) number
taken_keeps h g End number line few = closed_keeps (bytes_eq line (codes "end")) h g number few
taken_keeps h g Closed number line few = none_read
taken_keeps h g BadHead number line few = none_read
taken_keeps h g (Bad first) number line few = none_read

-- the bytes so far

fed_keeps_by : (x : Bool) (s : ReaderState) (byte : ℕ) → KeepsLimits s.reading → KeepsLimits (cond x (line_fed s) (record s { partial = s.partial ++ byte ∷ [] })).reading
fed_keeps_by true s byte few = taken_keeps s.reading.heading s.reading.gathered s.reading.stage (next_number s.number) s.partial few
fed_keeps_by false s byte few = few

pub fed_keeps : (s : ReaderState) (byte : ℕ) → KeepsLimits s.reading → KeepsLimits (fed s byte).reading
fed_keeps s byte few = fed_keeps_by (byte == 10) s byte few

all_keep : (bytes : List ℕ) (s : ReaderState) → KeepsLimits s.reading → KeepsLimits (fed_all s bytes).reading
all_keep [] s few = few
all_keep (byte ∷ bytes) s few = all_keep bytes (fed s byte) (fed_keeps s byte few)

-- every text keeps them
pub text_keeps : (text : List ℕ) → KeepsLimits (fed_all start text).reading
text_keeps text = all_keep text start none_read
