-- The certificates within the format's limits.
use Rattle.std.specs.Prelude.{◌≡◌, ◌==◌, ◌≤◌, ◌<◌, ◌+◌, ◌^◌, ℕ, ℤ, Bool, ⊤, IfSome, IsTrue, List, [], ◌∷◌, length}
use Rattle.std.specs.List.{AllByRecursion}
use Rattle.rst_lex.specs.Words.{is_name}
use Rattle.rst_value.specs.declared.tern.Tern.{Tern}
use Rattle.rst_pair.specs.declared.hop.Hop.{Hop}
use Rattle.rst_pair.specs.declared.journal.Entry.{Entry}
use Rattle.rst_verdict.specs.declared.verdict.Verdict.{Verdict}
use Rattle.rst_verdict.specs.declared.verdict.Verdict.TheVariants.{SignedKnown, SignedRelation, Refuted, Never, Alignable, Unknown}
use Rattle.rst_verdict.specs.declared.cert.Cert.{Cert}
use Rattle.rst_certificate.specs.CertText.{VersionFits}
use Rattle.rst_cert_lines.specs.declared.lines.Shape.{Shape}
use Rattle.rst_cert_lines.specs.declared.lines.Place.{Place}
use Rattle.rst_cert_lines.specs.Fits.{IsLiteral, HopFits, EntryFits}
use Rattle.rst_cert_reader.specs.Sections.{marked_behind, blocked_behind, freed_behind}

-- at most 128 cycles, each with a place for each input
abbrev pub PatternFits : ℕ → List (List Tern) → Type 0
PatternFits inputs seq = (length seq ≤ 128) × AllByRecursion (λ places. length places ≡ inputs) seq

-- at most 128 cycles, each with a bit for each input
abbrev pub SequenceFits : ℕ → List (List Bool) → Type 0
SequenceFits inputs seq = (length seq ≤ 128) × AllByRecursion (λ input. length input ≡ inputs) seq

-- at most 100,000 cycles, each with a bit for each input
abbrev pub WordFits : ℕ → List (List Bool) → Type 0
WordFits inputs word = (length word ≤ 100000) × AllByRecursion (λ input. length input ≡ inputs) word

-- each hop has a cube over both states and a bit for each input, and leads to an earlier one, if to any; so many stand before
abbrev pub EachHopFits : Shape → ℕ → List Hop → Type 0
EachHopFits shape before [] = ⊤
EachHopFits shape before (hop ∷ hops) = HopFits shape before hop × EachHopFits shape (before + 1) hops

-- at most 100,000 hops
abbrev pub HopsFit : Shape → List Hop → Type 0
HopsFit shape hops = (length hops ≤ 100000) × EachHopFits shape 0 hops

-- fewer than 2^64 clauses, of literals of 32 bits
abbrev pub LogFits : List (List ℤ) → Type 0
LogFits log = (length log < 2 ^ 64) × AllByRecursion (AllByRecursion IsLiteral) log

-- where the unit of work behind one stands
abbrev pub place_behind : Place → Entry → Place
place_behind place entry = record place { blocked = blocked_behind place.blocked entry; freed = freed_behind place.freed entry }

-- each unit of work fits at its place
abbrev pub EachEntryFits : Place → List Entry → Type 0
EachEntryFits place [] = ⊤
EachEntryFits place (entry ∷ entries) = EntryFits place entry × EachEntryFits (place_behind place entry) entries

-- where the first unit of work stands: with so many marked registers, and with free bits or without
abbrev pub first_place : Shape → ℕ → Bool → Place
first_place shape marked free = record { shape = shape; marked = marked; free = free; blocked = 0; freed = 0 }

-- at most 100,000 units of work
abbrev pub JournalFits : Place → List Entry → Type 0
JournalFits place journal = (length journal ≤ 100000) × EachEntryFits place journal

-- a state has a bit for each register
abbrev pub StateFits : Shape → List Bool → Type 0
StateFits shape state = length state ≡ shape.registers

-- the evidence fits the numbers of bits; `free` says whether bits may be free: in version 2
abbrev pub EvidenceFits : Shape → Bool → Verdict → Type 0
EvidenceFits shape free (SignedKnown seq) = PatternFits shape.inputs seq
EvidenceFits shape free (SignedRelation seq equal blocked split land) =
    PatternFits shape.inputs seq × StateFits shape equal × HopsFit shape blocked × LogFits split × LogFits land
EvidenceFits shape free (Refuted seq a b word) = SequenceFits shape.inputs seq × StateFits shape a × StateFits shape b × WordFits shape.inputs word
EvidenceFits shape free (Never a b blocked freed escape) = StateFits shape a × StateFits shape b × HopsFit shape blocked × HopsFit shape freed × LogFits escape
EvidenceFits shape free (Alignable seq a b word blocked freed split stuck) =
    SequenceFits shape.inputs seq × StateFits shape a × StateFits shape b × WordFits shape.inputs word × HopsFit shape blocked × HopsFit shape freed
    × LogFits split × LogFits stuck
EvidenceFits shape free (Unknown equal journal) = StateFits shape equal × JournalFits (first_place shape (marked_behind 0 equal) free) journal

-- version 1 or 2, the clock's name a name and no keyword, at most 512 registers, 256 inputs and 256 outputs, no free bit in version 1,
-- and evidence that fits
pub record CertFits (cert : Cert) : Type 0 where
  pub some_version : 1 ≤ cert.version
  pub version : cert.version ≤ 2
  pub form : cert.form < 2 ^ 32
  pub clock : IfSome cert.clock (λ name. IsTrue (is_name name))
  pub registers : cert.registers ≤ 512
  pub inputs : cert.inputs ≤ 256
  pub outputs : cert.outputs ≤ 256
  pub free : VersionFits cert
  pub evidence : EvidenceFits (record { registers = cert.registers; inputs = cert.inputs }) (cert.version == 2) cert.verdict
