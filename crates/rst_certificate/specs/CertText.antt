-- The text of a certificate, line by line: seven lines of a header, of which the last is the kind; the evidence of the verdict;
-- and the line `end`. Every line ends with a newline.
use Rattle.std.specs.Prelude.{◌≡◌, ℕ, ℤ, Bool, Option, Some, None, List, [], ◌∷◌, ◌++◌, map, length, codes}
use Rattle.std.specs.List.{flat_map}
use Rattle.rst_value.specs.declared.tern.Tern.{Tern}
use Rattle.rst_gate.specs.Patterns.{free_bits}
use Rattle.rst_pair.specs.declared.hop.Hop.{Hop}
use Rattle.rst_pair.specs.declared.query.Kind.{Kind}
use Rattle.rst_pair.specs.declared.query.Kind.TheVariants.{Split, Land, Escape, Stuck}
use Rattle.rst_pair.specs.declared.journal.Entry.{Entry}
use Rattle.rst_pair.specs.declared.journal.Entry.TheVariants.{Candidate, Conflict, Blocked, Freed, Built}
use Rattle.rst_verdict.specs.declared.verdict.Verdict.{Verdict}
use Rattle.rst_verdict.specs.declared.verdict.Verdict.TheVariants.{SignedKnown, SignedRelation, Refuted, Never, Alignable, Unknown}
use Rattle.rst_verdict.specs.declared.cert.Cert.{Cert}
use Rattle.rst_certificate.specs.Words.{line, counted, digit, bits_text, cube_text, clause_text}

-- the clock's name, where the design has a clock
abbrev pub clock_line : Option (List ℕ) → List ℕ
clock_line None = codes "noclock"
clock_line (Some name) = codes "clock " ++ name

-- what was found
abbrev pub kind_line : Verdict → List ℕ
kind_line (SignedKnown seq) = codes "known"
kind_line (SignedRelation seq equal blocked split land) = codes "relation"
kind_line (Refuted seq a b word) = codes "refuted"
kind_line (Never a b blocked freed escape) = codes "never"
kind_line (Alignable seq a b word blocked freed split stuck) = codes "alignable"
kind_line (Unknown equal journal) = codes "unknown"

-- the version, the form and the clock
abbrev pub opening_lines : Cert → List (List ℕ)
opening_lines cert = counted (codes "reset-certificate") cert.version ∷ counted (codes "form") cert.form ∷ clock_line cert.clock ∷ []

-- the numbers of the design's bits
abbrev pub size_lines : Cert → List (List ℕ)
size_lines cert = counted (codes "registers") cert.registers ∷ counted (codes "inputs") cert.inputs ∷ counted (codes "outputs") cert.outputs ∷ []

abbrev pub header_lines : Cert → List (List ℕ)
header_lines cert = opening_lines cert ++ size_lines cert ++ kind_line cert.verdict ∷ []

-- the input of one cycle
abbrev pub step_line : List Bool → List ℕ
step_line input = codes "step " ++ bits_text input

-- the input of one cycle of a pattern, with `-` for a free bit
abbrev pub free_step_line : List Tern → List ℕ
free_step_line places = codes "step " ++ cube_text places

-- the number of cycles, and a line a cycle
abbrev pub pattern_lines : List (List Tern) → List (List ℕ)
pattern_lines seq = counted (codes "sequence") (length seq) ∷ map free_step_line seq

abbrev pub sequence_lines : List (List Bool) → List (List ℕ)
sequence_lines seq = counted (codes "sequence") (length seq) ∷ map step_line seq

abbrev pub word_lines : List (List Bool) → List (List ℕ)
word_lines word = counted (codes "word") (length word) ∷ map step_line word

-- where a hop leads: the word, or the number of an earlier hop
abbrev pub target_text : List ℕ → Option ℕ → List ℕ
target_text word None = word
target_text word (Some next) = counted (codes "to") next

-- a hop's cube, its input, and where it leads
abbrev pub hop_text : List ℕ → Hop → List ℕ
hop_text word hop = cube_text hop.cube ++ codes " via " ++ bits_text hop.input ++ codes " " ++ target_text word hop.next

abbrev pub blocked_line : Hop → List ℕ
blocked_line hop = codes "cube " ++ hop_text (codes "out") hop

abbrev pub freed_line : Hop → List ℕ
freed_line hop = codes "cube " ++ hop_text (codes "in") hop

-- the number of hops, and a line a hop
abbrev pub blocked_lines : List Hop → List (List ℕ)
blocked_lines hops = counted (codes "blocked") (length hops) ∷ map blocked_line hops

abbrev pub freed_lines : List Hop → List (List ℕ)
freed_lines hops = counted (codes "freed") (length hops) ∷ map freed_line hops

-- a clause of a log
abbrev pub clause_line : List ℤ → List ℕ
clause_line clause = codes "clause " ++ clause_text clause

-- the log's name, the number of its clauses, and a line a clause
abbrev pub log_lines : List ℕ → List (List ℤ) → List (List ℕ)
log_lines name log = counted (codes "log " ++ name) (length log) ∷ map clause_line log

abbrev pub query_word : Kind → List ℕ
query_word Split = codes "split"
query_word Land = codes "land"
query_word Escape = codes "escape"
query_word Stuck = codes "stuck"

-- a unit of work
abbrev pub entry_line : Entry → List ℕ
entry_line (Candidate input level) = counted (codes "candidate") input ++ 32 ∷ digit level ∷ []
entry_line (Conflict kind cube) = codes "conflict " ++ query_word kind ++ codes " " ++ cube_text cube
entry_line (Blocked hop pair) = codes "blocked " ++ hop_text (codes "out") hop ++ codes " pair " ++ bits_text pair
entry_line (Freed hop pair) = codes "freed " ++ hop_text (codes "in") hop ++ codes " pair " ++ bits_text pair
entry_line (Built a b) = codes "built " ++ bits_text a ++ codes " " ++ bits_text b

-- the number of entries, and a line an entry
abbrev pub journal_lines : List Entry → List (List ℕ)
journal_lines journal = counted (codes "journal") (length journal) ∷ map entry_line journal

-- two states
abbrev pub pair_lines : List Bool → List Bool → List (List ℕ)
pair_lines a b = (codes "a " ++ bits_text a) ∷ (codes "b " ++ bits_text b) ∷ []

-- which registers are marked
abbrev pub equal_lines : List Bool → List (List ℕ)
equal_lines equal = (codes "equal " ++ bits_text equal) ∷ []

-- the evidence of a verdict
abbrev pub part_lines : Verdict → List (List ℕ)
part_lines (SignedKnown seq) = pattern_lines seq
part_lines (SignedRelation seq equal blocked split land) =
    pattern_lines seq ++ equal_lines equal ++ blocked_lines blocked ++ log_lines (codes "split") split ++ log_lines (codes "land") land
part_lines (Refuted seq a b word) = sequence_lines seq ++ pair_lines a b ++ word_lines word
part_lines (Never a b blocked freed escape) =
    pair_lines a b ++ blocked_lines blocked ++ freed_lines freed ++ log_lines (codes "escape") escape
part_lines (Alignable seq a b word blocked freed split stuck) =
    sequence_lines seq ++ pair_lines a b ++ word_lines word ++ blocked_lines blocked ++ freed_lines freed
    ++ log_lines (codes "split") split ++ log_lines (codes "stuck") stuck
part_lines (Unknown equal journal) = equal_lines equal ++ journal_lines journal

abbrev pub cert_lines : Cert → List (List ℕ)
cert_lines cert = header_lines cert ++ part_lines cert.verdict ++ codes "end" ∷ []

-- the whole text
unfoldable pub cert_text : Cert → List ℕ
cert_text cert = flat_map line (cert_lines cert)

-- how many bits of the verdict's pattern are free; the verdicts without a pattern have none
abbrev pub free_bits_of : Verdict → ℕ
free_bits_of (SignedKnown seq) = free_bits seq
free_bits_of (SignedRelation seq equal blocked split land) = free_bits seq
free_bits_of (Refuted seq a b word) = 0
free_bits_of (Never a b blocked freed escape) = 0
free_bits_of (Alignable seq a b word blocked freed split stuck) = 0
free_bits_of (Unknown equal journal) = 0

-- the certificate's version has what it writes: version 1 has no free bit
abbrev pub VersionFits : Cert → Type 0
VersionFits cert = cert.version ≡ 1 → free_bits_of cert.verdict ≡ 0
