-- The shape of a report as a value.
use Rattle.std.specs.Prelude.{◌≡◌, ℕ, List}
use Rattle.std.specs.declared.cmp.Ordering.TheVariants.{Less}
use Rattle.std.specs.Ordering.{nat_cmp}
use Rattle.std.specs.Cmp.Lexicographic.{slice_cmp}
use Rattle.serde_json.specs.Data.{Data, null, boolean, number, string, array, object, Num, unsigned, negative, float, Items, no_items, item, Members, no_members, member}

-- the name is below that of the first member, byte by byte
abbrev pub IsBelow : List ℕ → Members → Type 0
IsBelow name no_members = Unit {0}
IsBelow name (member next d ms) = slice_cmp nat_cmp name next ≡ Less

-- the names are strictly ascending
abbrev pub AreAscending : Members → Type 0
AreAscending no_members = Unit {0}
AreAscending (member name d ms) = IsBelow name ms × AreAscending ms

abbrev pub EachMember : (Data → Type 0) → Members → Type 0
EachMember P no_members = Unit {0}
EachMember P (member name d ms) = P d × EachMember P ms

abbrev pub EachItem : (Data → Type 0) → Items → Type 0
EachItem P no_items = Unit {0}
EachItem P (item d ds) = P d × EachItem P ds

-- members in the order of their names, each of a kind
pub record AreMembers (P : Data → Type 0) (ms : Members) : Type 0 where
  pub ascending : AreAscending ms
  pub each : EachMember P ms

abbrev pub IsText : Data → Type 0
IsText null = ⊥
IsText (boolean b) = ⊥
IsText (number n) = ⊥
IsText (string s) = Unit {0}
IsText (array ds) = ⊥
IsText (object ms) = ⊥

-- an object of texts: a state, or the inputs of a cycle
abbrev pub IsValues : Data → Type 0
IsValues null = ⊥
IsValues (boolean b) = ⊥
IsValues (number n) = ⊥
IsValues (string s) = ⊥
IsValues (array ds) = ⊥
IsValues (object ms) = AreMembers IsText ms

abbrev pub IsNatural : Num → Type 0
IsNatural (unsigned n) = Unit {0}
IsNatural (negative z) = ⊥
IsNatural (float x) = ⊥

-- a member of a report: a text, a natural number, a state, or an array with an object for each cycle
abbrev pub IsPart : Data → Type 0
IsPart null = ⊥
IsPart (boolean b) = ⊥
IsPart (number n) = IsNatural n
IsPart (string s) = Unit {0}
IsPart (array ds) = EachItem IsValues ds
IsPart (object ms) = AreMembers IsText ms

abbrev pub IsReport : Data → Type 0
IsReport null = ⊥
IsReport (boolean b) = ⊥
IsReport (number n) = ⊥
IsReport (string s) = ⊥
IsReport (array ds) = ⊥
IsReport (object ms) = AreMembers IsPart ms
