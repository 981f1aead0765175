-- What the shape of a report tells: it has no floats, and nests at most three deep.
use Rattle.std.proofs.Common.{◌≡◌, ◌≤◌, ◌||◌, Bool, false, refl, arith}
use Rattle.serde_json.specs.Data.{Data, null, boolean, number, string, array, object, unsigned, negative, float, Items, no_items, item, Members, no_members, member, depth, items_depth, members_depth}
use Rattle.serde_json.specs.Written.{has_float, items_have_float, members_have_float}
use Rattle.rst_report_json.specs.Shapes.{EachMember, EachItem, IsText, IsValues, IsPart, IsReport}

neither : (a b : Bool) → a ≡ false → b ≡ false → (a || b) ≡ false
neither a b e f = rw (e, f) refl

text_floats : (d : Data) → IsText d → has_float d ≡ false
text_floats null h = absurd h
text_floats (boolean b) h = absurd h
text_floats (number n) h = absurd h
text_floats (array ds) h = absurd h
text_floats (object ms) h = absurd h
text_floats (string s) h = refl

texts_floats : (ms : Members) → EachMember IsText ms → members_have_float ms ≡ false
texts_floats no_members h = refl
texts_floats (member k d ms) h = neither (has_float d) (members_have_float ms) (text_floats d h.0) (texts_floats ms h.1)

values_floats : (d : Data) → IsValues d → has_float d ≡ false
values_floats null h = absurd h
values_floats (boolean b) h = absurd h
values_floats (number n) h = absurd h
values_floats (string s) h = absurd h
values_floats (array ds) h = absurd h
values_floats (object ms) h = texts_floats ms h.each

cycles_floats : (ds : Items) → EachItem IsValues ds → items_have_float ds ≡ false
cycles_floats no_items h = refl
cycles_floats (item d ds) h = neither (has_float d) (items_have_float ds) (values_floats d h.0) (cycles_floats ds h.1)

part_floats : (d : Data) → IsPart d → has_float d ≡ false
part_floats null h = absurd h
part_floats (boolean b) h = absurd h
part_floats (number (negative z)) h = absurd h
part_floats (number (float x)) h = absurd h
part_floats (number (unsigned n)) h = refl
part_floats (string s) h = refl
part_floats (array ds) h = cycles_floats ds h
part_floats (object ms) h = texts_floats ms h.each

parts_floats : (ms : Members) → EachMember IsPart ms → members_have_float ms ≡ false
parts_floats no_members h = refl
parts_floats (member k d ms) h = neither (has_float d) (members_have_float ms) (part_floats d h.0) (parts_floats ms h.1)

pub no_floats : (d : Data) → IsReport d → has_float d ≡ false
no_floats null h = absurd h
no_floats (boolean b) h = absurd h
no_floats (number n) h = absurd h
no_floats (string s) h = absurd h
no_floats (array ds) h = absurd h
no_floats (object ms) h = parts_floats ms h.each

text_depth : (d : Data) → IsText d → depth d ≤ 0
text_depth null h = absurd h
text_depth (boolean b) h = absurd h
text_depth (number n) h = absurd h
text_depth (array ds) h = absurd h
text_depth (object ms) h = absurd h
text_depth (string s) h = omega arith

texts_depth : (ms : Members) → EachMember IsText ms → members_depth ms ≤ 0
texts_depth no_members h = omega arith
texts_depth (member k d ms) h = omega (arith, text_depth d h.0, texts_depth ms h.1)

values_depth : (d : Data) → IsValues d → depth d ≤ 1
values_depth null h = absurd h
values_depth (boolean b) h = absurd h
values_depth (number n) h = absurd h
values_depth (string s) h = absurd h
values_depth (array ds) h = absurd h
values_depth (object ms) h = omega (arith, texts_depth ms h.each)

cycles_depth : (ds : Items) → EachItem IsValues ds → items_depth ds ≤ 1
cycles_depth no_items h = omega arith
cycles_depth (item d ds) h = omega (arith, values_depth d h.0, cycles_depth ds h.1)

part_depth : (d : Data) → IsPart d → depth d ≤ 2
part_depth null h = absurd h
part_depth (boolean b) h = absurd h
part_depth (number (negative z)) h = absurd h
part_depth (number (float x)) h = absurd h
part_depth (number (unsigned n)) h = omega arith
part_depth (string s) h = omega arith
part_depth (array ds) h = omega (arith, cycles_depth ds h)
part_depth (object ms) h = omega (arith, texts_depth ms h.each)

parts_depth : (ms : Members) → EachMember IsPart ms → members_depth ms ≤ 2
parts_depth no_members h = omega arith
parts_depth (member k d ms) h = omega (arith, part_depth d h.0, parts_depth ms h.1)

pub few_levels : (d : Data) → IsReport d → depth d ≤ 3
few_levels null h = absurd h
few_levels (boolean b) h = absurd h
few_levels (number n) h = absurd h
few_levels (string s) h = absurd h
few_levels (array ds) h = absurd h
few_levels (object ms) h = omega (arith, parts_depth ms h.each)
