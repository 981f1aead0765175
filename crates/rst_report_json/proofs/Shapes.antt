-- Reports have their shape.
use Rattle.std.proofs.Common.{◌≡◌, Bool, List, [], ◌∷◌, map, take, drop, ℕ, Ordering, Less, Equal, Greater, nat_cmp, refl, ap, ◌∙◌, codes}
use Rattle.std.proofs.lemmas.Cmp.{nat_list_cmp_total}
use Rattle.std.specs.Cmp.Lexicographic.{slice_cmp}
use Rattle.std.specs.Ordering.{match_ordering, ordering_reverse}
use Rattle.serde_json.specs.Data.{Data, string, number, unsigned, Members, no_members, member, put}
use Rattle.rst_outside.specs.declared.names.PortBits.{PortBits}
use Rattle.rst_value.specs.declared.tern.Tern.{Tern}
use Rattle.rst_value.specs.Terns.{known}
use Rattle.rst_gate.specs.Patterns.{known_pattern}
use Rattle.rst_verdict.specs.declared.verdict.Verdict.{Verdict}
use Rattle.rst_verdict.specs.declared.verdict.Verdict.TheVariants.{SignedKnown, SignedRelation, Refuted, Never, Alignable, Unknown}
use Rattle.rst_report.specs.declared.head.Head.{Head}
use Rattle.rst_report.specs.Heads.{width_sum}
use Rattle.rst_report_json.specs.JsonReports.{name_text, places_data, with_values, values_data, pattern_data, verdict_word, with_method, with_design, with_pair, with_apart, with_parts, report_data}
use Rattle.rst_report_json.specs.Shapes.{IsBelow, AreAscending, EachMember, AreMembers, IsText, IsValues, IsPart, IsReport}

none : {P : Data → Type 0} → AreMembers P no_members
none = record { ascending = tt; each = tt }

each_at : (P : Data → Type 0) (o : Ordering) (k l : List ℕ) (d e : Data) (ms : Members) → P d → EachMember P (member l e ms) → EachMember P (put k d ms)
    → EachMember P (match_ordering o (member k d (member l e ms)) (member l d ms) (member l e (put k d ms)))
each_at P Less k l d e ms one old later = (one, old)
each_at P Equal k l d e ms one old later = (one, old.1)
each_at P Greater k l d e ms one old later = (old.0, later)

each_put : (P : Data → Type 0) (k : List ℕ) (d : Data) (ms : Members) → P d → EachMember P ms → EachMember P (put k d ms)
each_put P k d no_members one old = (one, tt)
each_put P k d (member l e ms) one old = each_at P (slice_cmp nat_cmp k l) k l d e ms one old (each_put P k d ms one old.1)

turned : (k l : List ℕ) → slice_cmp nat_cmp k l ≡ Greater → slice_cmp nat_cmp l k ≡ Less
turned k l e = nat_list_cmp_total.antisymm l k ∙ ap ordering_reverse e

below_at : (o : Ordering) (first k l : List ℕ) (d e : Data) (ms : Members) → slice_cmp nat_cmp first k ≡ Less → slice_cmp nat_cmp first l ≡ Less
    → IsBelow first (match_ordering o (member k d (member l e ms)) (member l d ms) (member l e (put k d ms)))
below_at Less first k l d e ms new old = new
below_at Equal first k l d e ms new old = old
below_at Greater first k l d e ms new old = old

-- a name that is below another and below all members stays below with the other
below_put : (first k : List ℕ) (d : Data) (ms : Members) → slice_cmp nat_cmp first k ≡ Less → IsBelow first ms → IsBelow first (put k d ms)
below_put first k d no_members new old = new
below_put first k d (member l e ms) new old = below_at (slice_cmp nat_cmp k l) first k l d e ms new old

ascending_at : (o : Ordering) (k l : List ℕ) (d e : Data) (ms : Members) → slice_cmp nat_cmp k l ≡ o → AreAscending (member l e ms) → AreAscending (put k d ms)
    → AreAscending (match_ordering o (member k d (member l e ms)) (member l d ms) (member l e (put k d ms)))
ascending_at Less k l d e ms is old later = (is, old)
ascending_at Equal k l d e ms is old later = old
ascending_at Greater k l d e ms is old later = (below_put l k d ms (turned k l is) old.0, later)

ascending_put : (k : List ℕ) (d : Data) (ms : Members) → AreAscending ms → AreAscending (put k d ms)
ascending_put k d no_members old = (tt, tt)
ascending_put k d (member l e ms) old = ascending_at (slice_cmp nat_cmp k l) k l d e ms refl old (ascending_put k d ms old.1)

put_keeps : {P : Data → Type 0} (k : List ℕ) (d : Data) (ms : Members) → P d → AreMembers P ms → AreMembers P (put k d ms)
put_keeps {P} k d ms one old = record { ascending = ascending_put k d ms old.ascending; each = each_put P k d ms one old.each }

with_values_keep : (ports : List PortBits) (places : List Tern) (ms : Members) → AreMembers IsText ms → AreMembers IsText (with_values ports places ms)
with_values_keep [] places ms old = old
with_values_keep (port ∷ ports) places ms old =
    with_values_keep ports (drop port.width places) (put (name_text port.name) (places_data (take port.width places)) ms) (put_keeps (name_text port.name) (places_data (take port.width places)) ms tt old)

values_are : (ports : List PortBits) (places : List Tern) → IsValues (values_data ports places)
values_are ports places = with_values_keep ports places no_members none

pattern_is : (ports : List PortBits) (pattern : List (List Tern)) → IsPart (pattern_data ports pattern)
pattern_is ports [] = tt
pattern_is ports (places ∷ pattern) = (values_are ports places, pattern_is ports pattern)

pair_keeps : (head : Head) (a b : List Bool) (ms : Members) → AreMembers IsPart ms → AreMembers IsPart (with_pair head a b ms)
pair_keeps head a b ms old =
    put_keeps (codes "b") (values_data head.registers (map known b)) (put (codes "a") (values_data head.registers (map known a)) ms) (values_are head.registers (map known b))
    (put_keeps (codes "a") (values_data head.registers (map known a)) ms (values_are head.registers (map known a)) old)

apart_keeps : (head : Head) (seq : List (List Bool)) (a b : List Bool) (word : List (List Bool)) (ms : Members) → AreMembers IsPart ms → AreMembers IsPart (with_apart head seq a b word ms)
apart_keeps head seq a b word ms old =
    let signing : Members = put (codes "sequence") (pattern_data head.inputs (known_pattern seq)) ms in
    put_keeps (codes "word") (pattern_data head.inputs (known_pattern word)) (with_pair head a b signing) (pattern_is head.inputs (known_pattern word))
    (pair_keeps head a b signing (put_keeps (codes "sequence") (pattern_data head.inputs (known_pattern seq)) ms (pattern_is head.inputs (known_pattern seq)) old))

parts_keep : (head : Head) (verdict : Verdict) (ms : Members) → AreMembers IsPart ms → AreMembers IsPart (with_parts head verdict ms)
parts_keep head (SignedKnown seq) ms old = put_keeps (codes "sequence") (pattern_data head.inputs seq) ms (pattern_is head.inputs seq) old
parts_keep head (SignedRelation seq equal blocked split land) ms old = put_keeps (codes "sequence") (pattern_data head.inputs seq) ms (pattern_is head.inputs seq) old
parts_keep head (Refuted seq a b word) ms old = apart_keeps head seq a b word ms old
parts_keep head (Never a b blocked freed escape) ms old = pair_keeps head a b ms old
parts_keep head (Alignable seq a b word blocked freed split stuck) ms old = apart_keeps head seq a b word ms old
parts_keep head (Unknown equal journal) ms old = put_keeps (codes "budget") (number (unsigned head.budget)) ms tt old

method_keeps : (verdict : Verdict) (ms : Members) → AreMembers IsPart ms → AreMembers IsPart (with_method verdict ms)
method_keeps (SignedKnown seq) ms old = put_keeps (codes "method") (string (codes "known")) ms tt old
method_keeps (SignedRelation seq equal blocked split land) ms old = put_keeps (codes "method") (string (codes "relation")) ms tt old
method_keeps (Refuted seq a b word) ms old = old
method_keeps (Never a b blocked freed escape) ms old = old
method_keeps (Alignable seq a b word blocked freed split stuck) ms old = old
method_keeps (Unknown equal journal) ms old = old

design_keeps : (head : Head) (ms : Members) → AreMembers IsPart ms → AreMembers IsPart (with_design head ms)
design_keeps head ms old =
    let named : Members = put (codes "design") (string (name_text head.top)) ms in
    let in_ports : Members = put (codes "inputs") (number (unsigned (width_sum head.inputs))) named in
    let out_ports : Members = put (codes "outputs") (number (unsigned (width_sum head.outputs))) in_ports in
    put_keeps (codes "registers") (number (unsigned (width_sum head.registers))) out_ports tt
    (put_keeps (codes "outputs") (number (unsigned (width_sum head.outputs))) in_ports tt
    (put_keeps (codes "inputs") (number (unsigned (width_sum head.inputs))) named tt
    (put_keeps (codes "design") (string (name_text head.top)) ms tt old)))

pub report_is : (head : Head) (verdict : Verdict) → IsReport (report_data head verdict)
report_is head verdict =
    let design : Members = with_design head no_members in
    let worded : Members = put (codes "verdict") (string (verdict_word verdict)) design in
    parts_keep head verdict (with_method verdict worded)
    (method_keeps verdict worded
    (put_keeps (codes "verdict") (string (verdict_word verdict)) design tt (design_keeps head no_members none)))
