-- A line that is no clause, no clock and no first line of a log has fewer than 4,096 bytes, where there are at most 512 registers and 256 inputs.
use Rattle.std.proofs.Common.{◌≡◌, ◌+◌, ◌≤◌, ◌<◌, ◌^◌, ℕ, Bool, true, false, nat_le, Option, None, Some, List, [], ◌∷◌, ◌++◌, length, codes, sym, ap, subst, ◌∙◌, arith, append-nil, length-append}
use Rattle.std.specs.Fmt.{decimal}
use Rattle.std.proofs.lemmas.Fmt.{length-decimal-le}
use Rattle.std.proofs.lemmas.List.{length-map}
use Rattle.std.proofs.lemmas.Bool.{leb-true}
use Rattle.rst_value.specs.declared.tern.Tern.{Tern}
use Rattle.rst_pair.specs.declared.hop.Hop.{Hop}
use Rattle.rst_pair.specs.declared.query.Kind.{Kind}
use Rattle.rst_pair.specs.declared.query.Kind.TheVariants.{Split, Land, Escape, Stuck}
use Rattle.rst_pair.specs.declared.journal.Entry.{Entry}
use Rattle.rst_pair.specs.declared.journal.Entry.TheVariants as entries
use Rattle.rst_certificate.specs.Words.{counted, digit, place_digit, bits_text, cube_text}
use Rattle.rst_certificate.specs.CertText.{step_line, free_step_line, target_text, hop_text, query_word, entry_line}
use Rattle.rst_cert_lines.specs.declared.lines.Shape.{Shape}
use Rattle.rst_cert_lines.specs.declared.lines.Place.{Place}
use Rattle.rst_cert_lines.specs.Fits.{IsEarlier, HopFits, EntryFits}
use Rattle.rst_cert_lines.specs.Readers.{step_at, free_step_at, state_at, hop_line_at, entry_at, least_places, more_places, fits_query}
use Rattle.rst_cert_lines.proofs.Binds.{both_true}
use Rattle.rst_cert_lines.proofs.LineLaws.{step_takes, free_step_takes, state_text, state_takes}
use Rattle.rst_cert_lines.proofs.HopLaws.{hop_line_takes}
use Rattle.rst_cert_lines.proofs.EntryLaws.{entry_takes}
use Rattle.rst_cert_reader.specs.Headings.{whole, number_in}
use Rattle.rst_cert_reader.proofs.Adding.{whole_some, number_line}

-- the limits of a design
pub record IsSmall (shape : Shape) : Type 0 where
  pub registers : shape.registers ≤ 512
  pub inputs : shape.inputs ≤ 256

decimal_length : (n : ℕ) → n < 2 ^ 64 → length (decimal n) ≤ 20
decimal_length n h = length-decimal-le 20 n (omega arith) (omega (arith, h)) h

counted_length : (word : List ℕ) (n : ℕ) → n < 2 ^ 64 → length (counted word n) ≤ length word + 21
counted_length word n h =
    let both = length-append word (32 ∷ decimal n) in
    let digits = decimal_length n h in
    omega (arith, both, digits)

pub number_short : (word : List ℕ) (most : ℕ) (text : List ℕ) (number : ℕ) → length word ≤ 20 → most < 2 ^ 64 → number_in word most text ≡ Some number → length text < 4096
number_short word most text number short few e =
    let line = number_line word most text number e in
    let count = counted_length word number (omega (arith, line.1, few)) in
    let same = ap length line.0 in
    omega (arith, count, same, short)

bits_length : (bits : List Bool) → length (bits_text bits) ≡ 1 + length bits
bits_length bits = let same = length-map bits digit in omega (arith, same)

cube_length : (places : List Tern) → length (cube_text places) ≡ 1 + length places
cube_length places = let same = length-map places place_digit in omega (arith, same)

pub state_short : (word : List ℕ) (count : ℕ) (text : List ℕ) (bits : List Bool) → length word ≤ 20 → count ≤ 512 → whole (state_at word count text) ≡ Some bits → length text < 4096
state_short word count text bits short few e =
    let took = state_takes word count text (bits, []) (whole_some (state_at word count text) bits e) in
    let same = ap length (took.0 ∙ append-nil (state_text word bits)) in
    let both = length-append word (32 ∷ bits_text bits) in
    let digits = bits_length bits in
    let count_is = took.1 in
    omega (arith, same, both, digits, count_is, short, few)

pub step_short : (inputs : ℕ) (text : List ℕ) (bits : List Bool) → inputs ≤ 256 → whole (step_at inputs text) ≡ Some bits → length text < 4096
step_short inputs text bits few e =
    let took = step_takes inputs text (bits, []) (whole_some (step_at inputs text) bits e) in
    let same = ap length (took.0 ∙ append-nil (step_line bits)) in
    let both = length-append (codes "step ") (bits_text bits) in
    let digits = bits_length bits in
    let count_is = took.1 in
    omega (arith, same, both, digits, count_is, few)

pub free_step_short : (inputs : ℕ) (text : List ℕ) (places : List Tern) → inputs ≤ 256 → whole (free_step_at inputs text) ≡ Some places → length text < 4096
free_step_short inputs text places few e =
    let took = free_step_takes inputs text (places, []) (whole_some (free_step_at inputs text) places e) in
    let same = ap length (took.0 ∙ append-nil (free_step_line places)) in
    let both = length-append (codes "step ") (cube_text places) in
    let digits = cube_length places in
    let count_is = took.1 in
    omega (arith, same, both, digits, count_is, few)

target_length : (word : List ℕ) (before : ℕ) (next : Option ℕ) → length word ≤ 20 → before ≤ 2 ^ 32 → IsEarlier before next → length (target_text word next) ≤ 23
target_length word before None short few h = omega (arith, short)
target_length word before (Some next) short few h = counted_length (codes "to") next (omega (arith, few, h))

lengths_of_four : (a b c d : List ℕ) → length (a ++ b ++ c ++ d) ≡ length a + length b + length c + length d
lengths_of_four a b c d =
    length-append (a ++ b ++ c) d ∙ ap (λ (n : ℕ). n + length d) (length-append (a ++ b) c ∙ ap (λ (n : ℕ). n + length c) (length-append a b))

lengths_of_five : (a b c d e : List ℕ) → length (a ++ b ++ c ++ d ++ e) ≡ length a + length b + length c + length d + length e
lengths_of_five a b c d e = length-append (a ++ b ++ c ++ d) e ∙ ap (λ (n : ℕ). n + length e) (lengths_of_four a b c d)

hop_length : (shape : Shape) (word : List ℕ) (before : ℕ) (hop : Hop) → length word ≤ 20 → before ≤ 2 ^ 32 → IsSmall shape → HopFits shape before hop → length (hop_text word hop) ≤ 1400
hop_length shape word before hop short few small fits =
    let target = target_length word before hop.next short few fits.next in
    let cube = cube_length hop.cube in
    let input = bits_length hop.input in
    let cube_is = fits.cube in
    let input_is = fits.input in
    let registers = small.registers in
    let inputs = small.inputs in
    subst (λ (n : ℕ). n ≤ 1400) (sym (lengths_of_five (cube_text hop.cube) (codes " via ") (bits_text hop.input) (codes " ") (target_text word hop.next)))
    (omega (arith, target, cube, input, cube_is, input_is, registers, inputs))

pub hop_short : (shape : Shape) (word : List ℕ) (before : ℕ) (text : List ℕ) (hop : Hop) → length word ≤ 20 → before ≤ 2 ^ 32 → IsSmall shape → whole (hop_line_at shape word before text) ≡ Some hop → length text < 4096
hop_short shape word before text hop short few small e =
    let took = hop_line_takes shape word before text (hop, []) (whole_some (hop_line_at shape word before text) hop e) in
    let same = ap length (took.0 ∙ append-nil (codes "cube " ++ hop_text word hop)) in
    let both = length-append (codes "cube ") (hop_text word hop) in
    let inside = hop_length shape word before hop short few small took.1 in
    omega (arith, same, both, inside)

query_length : (kind : Kind) → length (query_word kind) ≤ 6
query_length Split = omega arith
query_length Land = omega arith
query_length Escape = omega arith
query_length Stuck = omega arith

more_length : (free : Bool) (kind : Kind) → more_places free kind ≤ 1024
more_length true Land = omega arith
more_length false Land = omega arith
more_length free Split = omega arith
more_length free Escape = omega arith
more_length free Stuck = omega arith

least_length : (shape : Shape) (marked : ℕ) (kind : Kind) → IsSmall shape → least_places shape marked kind ≤ 1280
least_length shape marked Split small = omega (arith, small.registers, small.inputs)
least_length shape marked Land small = omega (arith, small.registers)
least_length shape marked Escape small = omega (arith, small.registers, small.inputs)
least_length shape marked Stuck small = omega (arith, small.registers)

query_places : (shape : Shape) (marked : ℕ) (free : Bool) (kind : Kind) (count : ℕ) → IsSmall shape → fits_query shape marked free kind count ≡ true → count ≤ 2304
query_places shape marked free kind count small fits =
    let most = least_places shape marked kind + more_places free kind in
    let under = leb-true count most (both_true (nat_le (least_places shape marked kind) count) (nat_le count most) fits).1 in
    let least = least_length shape marked kind small in
    let more = more_length free kind in
    omega (arith, under, least, more)

paired_length : (front text : List ℕ) (pair : List Bool) (registers : ℕ) → length front ≤ 10 → length text ≤ 1400 → registers ≤ 512 → length pair ≡ registers + registers
    → length (front ++ text ++ codes " pair " ++ bits_text pair) < 4096
paired_length front text pair registers short inside few fits =
    let digits = bits_length pair in
    subst (λ (n : ℕ). n < 4096) (sym (lengths_of_four front text (codes " pair ") (bits_text pair))) (omega (arith, digits, short, inside, few, fits))

entry_length : (place : Place) (entry : Entry) → place.blocked ≤ 2 ^ 32 → place.freed ≤ 2 ^ 32 → IsSmall place.shape → EntryFits place entry → length (entry_line entry) < 4096
entry_length place (entries.Candidate input level) few less small fits =
    let number = counted_length (codes "candidate") input (omega (arith, fits)) in
    subst (λ (n : ℕ). n < 4096) (sym (length-append (counted (codes "candidate") input) (32 ∷ digit level ∷ []))) (omega (arith, number))
entry_length place (entries.Conflict kind cube) few less small fits =
    let places = query_places place.shape place.marked place.free kind (length cube) small fits in
    let digits = cube_length cube in
    let word = query_length kind in
    subst (λ (n : ℕ). n < 4096) (sym (lengths_of_four (codes "conflict ") (query_word kind) (codes " ") (cube_text cube))) (omega (arith, places, digits, word))
entry_length place (entries.Blocked hop pair) few less small fits =
    paired_length (codes "blocked ") (hop_text (codes "out") hop) pair place.shape.registers (omega arith)
    (hop_length place.shape (codes "out") place.blocked hop (omega arith) few small fits.0) small.registers fits.1
entry_length place (entries.Freed hop pair) few less small fits =
    paired_length (codes "freed ") (hop_text (codes "in") hop) pair place.shape.registers (omega arith)
    (hop_length place.shape (codes "in") place.freed hop (omega arith) less small fits.0) small.registers fits.1
entry_length place (entries.Built a b) few less small fits =
    let first = bits_length a in
    let second = bits_length b in
    let first_is = fits.0 in
    let second_is = fits.1 in
    let registers = small.registers in
    subst (λ (n : ℕ). n < 4096) (sym (lengths_of_four (codes "built ") (bits_text a) (codes " ") (bits_text b))) (omega (arith, first, second, first_is, second_is, registers))

pub entry_short : (place : Place) (text : List ℕ) (entry : Entry) → place.blocked ≤ 2 ^ 32 → place.freed ≤ 2 ^ 32 → IsSmall place.shape → whole (entry_at place text) ≡ Some entry → length text < 4096
entry_short place text entry few less small e =
    let took = entry_takes place text (entry, []) (whole_some (entry_at place text) entry e) in
    let same = ap length (took.0 ∙ append-nil (entry_line entry)) in
    let inside = entry_length place entry few less small took.1 in
    omega (arith, same, inside)
