-- Bit selects and part-selects.
use Rattle.std.specs.Prelude.{ℕ, suc, ◌+◌, ◌-◌, ◌^◌, nat_lt, nat_eq, Bool, true, false, not, cond, ◌&&◌, ◌||◌, Option, Some, None, Ok, Err, ℤ, pos, ◌-ℤ◌, int_le, unsigned_abs}
use Rattle.rst_tree.specs.Trees.{Text}
use Rattle.rst_width.specs.declared.typed_expr.Shape.{Shape}
use Rattle.rst_width.specs.declared.typed_expr.WidthFault.{WidthFault}
use Rattle.rst_width.specs.declared.typed_expr.WidthFault.TheVariants.{NoName, BadSelect, MayLeaveRange, NotConstant}
use Rattle.rst_width.specs.Scopes.{Extent, Meaning, Signal, Param, Later}
use Rattle.rst_width.specs.Typed.{Typed, Node, Slice, Pick, names_signal, shape_of, sized_as}
use Rattle.rst_width.specs.Values.{constant_number}
use Rattle.rst_width.specs.Sized.{Answer, Found, Earlier, Own, Good}

-- A signal where everything has to be constant is NotConstant.
abbrev pub signal_at : Bool → Node → Found
signal_at constant node = cond constant (Own NotConstant) (Good node)

-- a bit number of the range of a vector
abbrev pub in_range : Extent → ℤ → Bool
in_range extent place = int_le (pos extent.low) place && int_le place (pos (extent.low + extent.width - 1))

-- how far a bit is above the lowest one
abbrev pub place_in : Extent → ℤ → ℕ
place_in extent place = unsigned_abs (place -ℤ pos extent.low)

-- A variable index stays inside where it is unsigned, the vector ends at bit 0, and even its greatest value is a bit of the vector.
abbrev pub stays_inside : Extent → Shape → Bool
stays_inside extent index = not index.signed && (nat_eq extent.low 0 && not (nat_lt extent.width (2 ^ index.width)))

abbrev pub bit_of : Bool → ℕ → Extent → Typed → Found
bit_of constant signal extent index =
    cond (not extent.ranged) (Own BadSelect)
    (cond (names_signal index)
    (cond (stays_inside extent (shape_of index)) (signal_at constant (Pick signal index)) (Own MayLeaveRange))
    (cond (in_range extent (constant_number index)) (signal_at constant (Slice signal (place_in extent (constant_number index)) 1)) (Own BadSelect)))

-- What stands at a bit select, whose index comes first. A bit of a name that has no width and sign yet is no constant.
abbrev pub bit_found : Bool → Text → Option Meaning → Answer → Found
bit_found constant name entry (Err fault) = Earlier fault
bit_found constant name None (Ok index) = Earlier (NoName name)
bit_found constant name (Some (Param w)) (Ok index) = Own BadSelect
bit_found constant name (Some (Signal i extent)) (Ok index) = bit_of constant i extent index
bit_found constant name (Some (Later ranged)) (Ok index) = Own (cond ranged NotConstant BadSelect)

-- The number of a part that has to be constant, where it has one.
abbrev pub number_of_part : Answer → Option ℤ
number_of_part (Err fault) = None
number_of_part (Ok e) = cond (names_signal e) None (Some (constant_number e))

-- The width and sign of what a fault leaves open: it changes nothing around it.
abbrev pub open_shape : Shape
open_shape = sized_as 0 true

-- A part-select has high - low + 1 bits and is unsigned.
abbrev pub part_shape : Option ℤ → Option ℤ → Shape
part_shape (Some high) (Some low) = cond (int_le low high) (sized_as (suc (unsigned_abs (high -ℤ low))) false) open_shape
part_shape _ _ = open_shape

-- an end that has a number outside the range
abbrev pub leaves_range : Extent → Option ℤ → Bool
leaves_range extent None = false
leaves_range extent (Some place) = not (in_range extent place)

abbrev pub part_of : Bool → ℕ → Extent → Option ℤ → Option ℤ → Found
part_of constant signal extent (Some high) (Some low) =
    cond (not extent.ranged || (leaves_range extent (Some high) || (leaves_range extent (Some low) || not (int_le low high)))) (Own BadSelect)
    (signal_at constant (Slice signal (place_in extent low) (suc (unsigned_abs (high -ℤ low)))))
part_of constant signal extent high low =
    cond (not extent.ranged || (leaves_range extent high || leaves_range extent low)) (Own BadSelect) (Own NotConstant)

-- the ends of a part-select ascend
abbrev pub ascends : Option ℤ → Option ℤ → Bool
ascends (Some high) (Some low) = not (int_le low high)
ascends _ _ = false

-- A part-select of a name that has no width and sign yet is no constant, and it is BadSelect whatever those will be where the name
-- is declared without a range or the ends ascend.
abbrev pub later_part : Bool → Option ℤ → Option ℤ → WidthFault
later_part ranged high low = cond (not ranged || ascends high low) BadSelect NotConstant

-- What stands at a part-select, whose ends come first.
abbrev pub part_found : Bool → Text → Option Meaning → Answer → Answer → Found
part_found constant name entry (Err fault) low = Earlier fault
part_found constant name entry (Ok high) (Err fault) = Earlier fault
part_found constant name None (Ok high) (Ok low) = Earlier (NoName name)
part_found constant name (Some (Param w)) (Ok high) (Ok low) = Own BadSelect
part_found constant name (Some (Signal i extent)) (Ok high) (Ok low) =
    part_of constant i extent (number_of_part (Ok high)) (number_of_part (Ok low))
part_found constant name (Some (Later ranged)) (Ok high) (Ok low) =
    Own (later_part ranged (number_of_part (Ok high)) (number_of_part (Ok low)))
