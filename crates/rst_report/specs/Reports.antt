-- The report of a verdict as a text.
use Rattle.std.specs.Prelude.{ℕ, Bool, List, ◌++◌, length, map, codes}
use Prim.Native.Char.{code}
use Rattle.rst_outside.specs.declared.names.PortBits.{PortBits}
use Rattle.rst_text.specs.Lines.{line, counted}
use Rattle.rst_value.specs.declared.tern.Tern.{Tern}
use Rattle.rst_value.specs.Terns.{known}
use Rattle.rst_gate.specs.Patterns.{known_pattern}
use Rattle.rst_verdict.specs.declared.verdict.Verdict.{Verdict}
use Rattle.rst_verdict.specs.declared.verdict.Verdict.TheVariants.{SignedKnown, SignedRelation, Refuted, Never, Alignable, Unknown}
use Rattle.rst_report.specs.declared.head.Head.{Head}
use Rattle.rst_report.specs.Heads.{width_sum}
use Rattle.rst_report.specs.Rows.{values_text, cycle_rows}

-- free bits of a pattern are marked so
abbrev pub free_mark : ℕ
free_mark = code "-"

-- the kind of the verdict
abbrev pub kind_text : Verdict → List ℕ
kind_text (SignedKnown seq) = codes "SIGNED known"
kind_text (SignedRelation seq equal blocked split land) = codes "SIGNED relation"
kind_text (Refuted seq a b word) = codes "REFUTED"
kind_text (Never a b blocked freed escape) = codes "NONRESETTABLE"
kind_text (Alignable seq a b word blocked freed split stuck) = codes "ALIGNABLE"
kind_text (Unknown equal journal) = codes "UNKNOWN"

-- the numbers of register, input and output bits
abbrev pub counts_text : Head → List ℕ
counts_text head = counted (codes " registers") (width_sum head.registers) ++ (counted (codes " inputs") (width_sum head.inputs) ++ counted (codes " outputs") (width_sum head.outputs))

-- the design's name and its numbers of bits
abbrev pub design_text : Head → List ℕ
design_text head = codes "design " ++ (head.top ++ counts_text head)

-- a pattern of inputs: its length, and a row for each of its cycles, counted from 0
abbrev pub pattern_lines : List ℕ → List PortBits → List (List Tern) → List ℕ
pattern_lines title ports pattern = line (counted title (length pattern)) ++ cycle_rows free_mark ports 0 pattern

-- a power-up state
abbrev pub state_line : List ℕ → List PortBits → List Bool → List ℕ
state_line title registers state = line (title ++ values_text free_mark registers (map known state))

-- two power-up states
abbrev pub pair_lines : Head → List Bool → List Bool → List ℕ
pair_lines head a b = state_line (codes "a") head.registers a ++ state_line (codes "b") head.registers b

-- a sequence, two power-up states, and the word that tells them apart or aligns them behind the sequence
abbrev pub apart_lines : Head → List (List Bool) → List Bool → List Bool → List (List Bool) → List ℕ
apart_lines head seq a b word = pattern_lines (codes "sequence") head.inputs (known_pattern seq) ++ (pair_lines head a b ++ pattern_lines (codes "word") head.inputs (known_pattern word))

-- what the verdict shows of its evidence
abbrev pub part_lines : Head → Verdict → List ℕ
part_lines head (SignedKnown seq) = pattern_lines (codes "sequence") head.inputs seq
part_lines head (SignedRelation seq equal blocked split land) = pattern_lines (codes "sequence") head.inputs seq
part_lines head (Refuted seq a b word) = apart_lines head seq a b word
part_lines head (Never a b blocked freed escape) = pair_lines head a b
part_lines head (Alignable seq a b word blocked freed split stuck) = apart_lines head seq a b word
part_lines head (Unknown equal journal) = line (counted (codes "budget") head.budget)

-- the whole report
abbrev pub report_text : Head → Verdict → List ℕ
report_text head verdict = line (kind_text verdict) ++ (line (design_text head) ++ part_lines head verdict)
