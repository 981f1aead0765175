-- The report of a verdict as JSON.
use Rattle.std.specs.Prelude.{ℕ, Bool, List, [], ◌∷◌, map, take, drop, codes}
use Rattle.std.specs.Str.Lossy.{utf8_lossy}
use Rattle.serde_json.specs.Data.{Data, string, number, unsigned, array, object, Members, no_members, put}
use Rattle.serde_json.specs.View.{items_of}
use Rattle.serde_json.specs.Written.{compact_text}
use Rattle.rst_outside.specs.declared.names.PortBits.{PortBits}
use Rattle.rst_text.specs.Lines.{line}
use Rattle.rst_value.specs.declared.tern.Tern.{Tern}
use Rattle.rst_value.specs.Terns.{known}
use Rattle.rst_gate.specs.Patterns.{known_pattern}
use Rattle.rst_verdict.specs.declared.verdict.Verdict.{Verdict}
use Rattle.rst_verdict.specs.declared.verdict.Verdict.TheVariants.{SignedKnown, SignedRelation, Refuted, Never, Alignable, Unknown}
use Rattle.rst_report.specs.declared.head.Head.{Head}
use Rattle.rst_report.specs.Heads.{width_sum}
use Rattle.rst_report.specs.Rows.{digit}
use Rattle.rst_report.specs.Reports.{free_mark}

-- a name of the design. It is ASCII, and so stands as it is
abbrev pub name_text : List ℕ → List ℕ
name_text name = utf8_lossy name

-- places as a string of digits
abbrev pub places_data : List Tern → Data
places_data places = string (map (digit free_mark) places)

-- the values of ports that stand behind one another in a list of places, each under its port's name
abbrev pub with_values : List PortBits → List Tern → Members → Members
with_values [] places members = members
with_values (port ∷ ports) places members = with_values ports (drop port.width places) (put (name_text port.name) (places_data (take port.width places)) members)

abbrev pub values_data : List PortBits → List Tern → Data
values_data ports places = object (with_values ports places no_members)

-- a pattern of inputs: an object for each of its cycles
abbrev pub pattern_data : List PortBits → List (List Tern) → Data
pattern_data ports pattern = array (items_of (map (values_data ports) pattern))

-- the kind of the verdict
abbrev pub verdict_word : Verdict → List ℕ
verdict_word (SignedKnown seq) = codes "SIGNED"
verdict_word (SignedRelation seq equal blocked split land) = codes "SIGNED"
verdict_word (Refuted seq a b word) = codes "REFUTED"
verdict_word (Never a b blocked freed escape) = codes "NONRESETTABLE"
verdict_word (Alignable seq a b word blocked freed split stuck) = codes "ALIGNABLE"
verdict_word (Unknown equal journal) = codes "UNKNOWN"

-- how a signed design was signed
abbrev pub with_method : Verdict → Members → Members
with_method (SignedKnown seq) members = put (codes "method") (string (codes "known")) members
with_method (SignedRelation seq equal blocked split land) members = put (codes "method") (string (codes "relation")) members
with_method (Refuted seq a b word) members = members
with_method (Never a b blocked freed escape) members = members
with_method (Alignable seq a b word blocked freed split stuck) members = members
with_method (Unknown equal journal) members = members

-- the design's name and its numbers of input, output and register bits
abbrev pub with_design : Head → Members → Members
with_design head members =
    put (codes "registers") (number (unsigned (width_sum head.registers)))
    (put (codes "outputs") (number (unsigned (width_sum head.outputs)))
    (put (codes "inputs") (number (unsigned (width_sum head.inputs)))
    (put (codes "design") (string (name_text head.top)) members)))

-- two power-up states
abbrev pub with_pair : Head → List Bool → List Bool → Members → Members
with_pair head a b members =
    put (codes "b") (values_data head.registers (map known b))
    (put (codes "a") (values_data head.registers (map known a)) members)

-- a sequence, two power-up states, and the word that tells them apart or aligns them behind the sequence
abbrev pub with_apart : Head → List (List Bool) → List Bool → List Bool → List (List Bool) → Members → Members
with_apart head seq a b word members =
    put (codes "word") (pattern_data head.inputs (known_pattern word))
    (with_pair head a b
    (put (codes "sequence") (pattern_data head.inputs (known_pattern seq)) members))

-- what the verdict shows of its evidence
abbrev pub with_parts : Head → Verdict → Members → Members
with_parts head (SignedKnown seq) members = put (codes "sequence") (pattern_data head.inputs seq) members
with_parts head (SignedRelation seq equal blocked split land) members = put (codes "sequence") (pattern_data head.inputs seq) members
with_parts head (Refuted seq a b word) members = with_apart head seq a b word members
with_parts head (Never a b blocked freed escape) members = with_pair head a b members
with_parts head (Alignable seq a b word blocked freed split stuck) members = with_apart head seq a b word members
with_parts head (Unknown equal journal) members = put (codes "budget") (number (unsigned head.budget)) members

-- the report as a value: one object
abbrev pub report_data : Head → Verdict → Data
report_data head verdict = object (with_parts head verdict (with_method verdict (put (codes "verdict") (string (verdict_word verdict)) (with_design head no_members))))

-- the report's text: one line
abbrev pub report_json : Head → Verdict → List ℕ
report_json head verdict = line (compact_text (report_data head verdict))
