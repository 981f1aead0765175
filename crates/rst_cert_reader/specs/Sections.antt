-- The evidence of a certificate, section by section.
use Rattle.std.specs.Prelude.{◌≡◌, ◌==◌, ◌&&◌, ◌||◌, not, is_some, nat_le, bytes_eq, take, ◌^◌, ◌+◌, ◌-◌, min, ℕ, Bool, true, false, Option, None, Some, option_map, Result, Ok, Err, ⊤, List, [], ◌∷◌, ◌++◌, length, codes, if◌then◌else◌}
use Rattle.std.specs.List.{list_all}
use Rattle.rst_value.specs.declared.tern.Tern.{Tern}
use Rattle.rst_value.specs.declared.tern.Tern.TheVariants.{Zero, One, Unknown}
use Rattle.rst_pair.specs.declared.journal.Entry.{Entry}
use Rattle.rst_pair.specs.declared.journal.Entry.TheVariants as entries
use Rattle.rst_cert_lines.specs.declared.cursor.LineFault.{LineFault}
use Rattle.rst_cert_lines.specs.declared.cursor.LineFault.TheVariants.{Wrong, NoMemory}
use Rattle.rst_cert_lines.specs.declared.lines.Shape.{Shape}
use Rattle.rst_cert_lines.specs.declared.lines.Place.{Place}
use Rattle.rst_cert_lines.specs.Reading.{Read, after}
use Rattle.rst_cert_lines.specs.Readers.{step_at, free_step_at, state_at, clause_at, hop_line_at, entry_at}
use Rattle.rst_cert_reader.specs.declared.heading.Heading.{Heading}
use Rattle.rst_cert_reader.specs.declared.gathered.Gathered.{Gathered}
use Rattle.rst_cert_reader.specs.declared.section.Section.{Section}
use Rattle.rst_cert_reader.specs.declared.section.Section.TheVariants.{FreeSteps, Steps, Word, Equal, StateA, StateB, Blocked, Freed, SplitLog, LandLog, EscapeLog, StuckLog, Journal}
use Rattle.rst_cert_reader.specs.Headings.{whole, number_in}

abbrev pub is_known : Tern → Bool
is_known Zero = true
is_known One = true
is_known Unknown = false

-- the cube where its bits may be free, or none is
abbrev pub free_where : Bool → Option (List Tern) → Option (List Tern)
free_where free None = None
free_where free (Some places) = if free || list_all is_known places then Some places else None

abbrev pub shape_of : Heading → Shape
shape_of heading = record { registers = heading.registers; inputs = heading.inputs }

-- how many of bits are set, up to the greatest number of 16 bits, behind others
abbrev pub marked_behind : ℕ → List Bool → ℕ
marked_behind before [] = before
marked_behind before (bit ∷ bits) = marked_behind (if bit then min (before + 1) 65535 else before) bits

-- how many stand before, up to the greatest number of 32 bits
abbrev pub before_of : {A : Type 0} → List A → ℕ
before_of items = min (length items) (2 ^ 32 - 1)

abbrev pub blocked_behind : ℕ → Entry → ℕ
blocked_behind before (entries.Blocked hop pair) = min (before + 1) (2 ^ 32 - 1)
blocked_behind before (entries.Candidate input level) = before
blocked_behind before (entries.Conflict kind cube) = before
blocked_behind before (entries.Freed hop pair) = before
blocked_behind before (entries.Built a b) = before

abbrev pub freed_behind : ℕ → Entry → ℕ
freed_behind before (entries.Freed hop pair) = min (before + 1) (2 ^ 32 - 1)
freed_behind before (entries.Candidate input level) = before
freed_behind before (entries.Conflict kind cube) = before
freed_behind before (entries.Blocked hop pair) = before
freed_behind before (entries.Built a b) = before

-- where a unit of work stands
abbrev pub place_of : Heading → Gathered → Place
place_of heading gathered = record {
  shape = shape_of heading;
  marked = gathered.marked;
  free = heading.version == 2;
  blocked = gathered.blocked_entries;
  freed = gathered.freed_entries;
}

-- what was gathered, with one more

abbrev pub with_entry : Gathered → Entry → Gathered
with_entry g entry = record g {
  journal = g.journal ++ entry ∷ [];
  blocked_entries = blocked_behind g.blocked_entries entry;
  freed_entries = freed_behind g.freed_entries entry;
}

unfoldable pub with_free_step : Heading → Gathered → List ℕ → Option Gathered
with_free_step h g line = option_map (λ places. record g { seq = g.seq ++ places ∷ [] }) (free_where (h.version == 2) (whole (free_step_at h.inputs line)))

unfoldable pub with_step : Heading → Gathered → List ℕ → Option Gathered
with_step h g line = option_map (λ input. record g { plain = g.plain ++ input ∷ [] }) (whole (step_at h.inputs line))

unfoldable pub with_word : Heading → Gathered → List ℕ → Option Gathered
with_word h g line = option_map (λ input. record g { word = g.word ++ input ∷ [] }) (whole (step_at h.inputs line))

unfoldable pub with_blocked : Heading → Gathered → List ℕ → Option Gathered
with_blocked h g line = option_map (λ hop. record g { blocked = g.blocked ++ hop ∷ [] }) (whole (hop_line_at (shape_of h) (codes "out") (before_of g.blocked) line))

unfoldable pub with_freed : Heading → Gathered → List ℕ → Option Gathered
with_freed h g line = option_map (λ hop. record g { freed = g.freed ++ hop ∷ [] }) (whole (hop_line_at (shape_of h) (codes "in") (before_of g.freed) line))

unfoldable pub with_first : Gathered → List ℕ → Option Gathered
with_first g line = option_map (λ clause. record g { first = g.first ++ clause ∷ [] }) (whole (clause_at line))

unfoldable pub with_second : Gathered → List ℕ → Option Gathered
with_second g line = option_map (λ clause. record g { second = g.second ++ clause ∷ [] }) (whole (clause_at line))

unfoldable pub with_work : Heading → Gathered → List ℕ → Option Gathered
with_work h g line = option_map (with_entry g) (whole (entry_at (place_of h g) line))

-- one more line of a section that has begun
abbrev pub with_item : Heading → Section → Gathered → List ℕ → Option Gathered
with_item h FreeSteps g line = with_free_step h g line
with_item h Steps g line = with_step h g line
with_item h Word g line = with_word h g line
with_item h Blocked g line = with_blocked h g line
with_item h Freed g line = with_freed h g line
with_item h SplitLog g line = with_first g line
with_item h EscapeLog g line = with_first g line
with_item h LandLog g line = with_second g line
with_item h StuckLog g line = with_second g line
with_item h Journal g line = with_work h g line
with_item h Equal g line = None
with_item h StateA g line = None
with_item h StateB g line = None

-- the line is a clause of a log
unfoldable pub is_clause : List ℕ → Bool
is_clause line = is_some (whole (clause_at line))

-- the first line of a section: what was gathered behind it, and how many lines follow

unfoldable pub with_equal : Heading → Gathered → List ℕ → Option (Gathered × ℕ)
with_equal h g line = option_map (λ bits. (record g { equal = bits; marked = marked_behind 0 bits }, 0)) (whole (state_at (codes "equal") h.registers line))

unfoldable pub with_a : Heading → Gathered → List ℕ → Option (Gathered × ℕ)
with_a h g line = option_map (λ bits. (record g { a = bits }, 0)) (whole (state_at (codes "a") h.registers line))

unfoldable pub with_b : Heading → Gathered → List ℕ → Option (Gathered × ℕ)
with_b h g line = option_map (λ bits. (record g { b = bits }, 0)) (whole (state_at (codes "b") h.registers line))

abbrev pub begun_by : Heading → Section → Gathered → List ℕ → Option (Gathered × ℕ)
begun_by h FreeSteps g line = option_map (λ (count : ℕ). (record g { seq = [] }, count)) (number_in (codes "sequence") 128 line)
begun_by h Steps g line = option_map (λ (count : ℕ). (record g { plain = [] }, count)) (number_in (codes "sequence") 128 line)
begun_by h Word g line = option_map (λ (count : ℕ). (record g { word = [] }, count)) (number_in (codes "word") 100000 line)
begun_by h Blocked g line = option_map (λ (count : ℕ). (record g { blocked = [] }, count)) (number_in (codes "blocked") 100000 line)
begun_by h Freed g line = option_map (λ (count : ℕ). (record g { freed = [] }, count)) (number_in (codes "freed") 100000 line)
begun_by h SplitLog g line = option_map (λ (count : ℕ). (record g { first = [] }, count)) (number_in (codes "log split") (2 ^ 64 - 1) line)
begun_by h LandLog g line = option_map (λ (count : ℕ). (record g { second = [] }, count)) (number_in (codes "log land") (2 ^ 64 - 1) line)
begun_by h EscapeLog g line = option_map (λ (count : ℕ). (record g { first = [] }, count)) (number_in (codes "log escape") (2 ^ 64 - 1) line)
begun_by h StuckLog g line = option_map (λ (count : ℕ). (record g { second = [] }, count)) (number_in (codes "log stuck") (2 ^ 64 - 1) line)
begun_by h Journal g line = option_map (λ (count : ℕ). (record g { journal = []; blocked_entries = 0; freed_entries = 0 }, count)) (number_in (codes "journal") 100000 line)
begun_by h Equal g line = with_equal h g line
begun_by h StateA g line = with_a h g line
begun_by h StateB g line = with_b h g line

abbrev pub is_digit : ℕ → Bool
is_digit c = nat_le 48 c && nat_le c 57

-- twenty decimal digits or more, without leading zeros
abbrev pub is_long_number : List ℕ → Bool
is_long_number digits = nat_le 20 (length digits) && list_all is_digit digits && not (bytes_eq (take 1 digits) (codes "0"))

abbrev pub is_long_behind : Read (Unit {0}) → Bool
is_long_behind None = false
is_long_behind (Some it) = is_long_number it.1

-- the first line of a log with a long number of clauses
unfoldable pub is_long_log : Section → List ℕ → Bool
is_long_log SplitLog line = is_long_behind (after (codes "log split ") line)
is_long_log LandLog line = is_long_behind (after (codes "log land ") line)
is_long_log EscapeLog line = is_long_behind (after (codes "log escape ") line)
is_long_log StuckLog line = is_long_behind (after (codes "log stuck ") line)
is_long_log _ line = false

abbrev pub BeginsAs : Option (Gathered × ℕ) → Result ℕ LineFault → Gathered → Type 0
BeginsAs made (Ok count) new = made ≡ Some (new, count)
BeginsAs made (Err Wrong) new = made ≡ None
BeginsAs made (Err NoMemory) new = ⊤
