-- The rows over ranges, one at a time.
use Rattle.std.specs.Prelude.{nat_lt, List, [], ◌∷◌, ◌++◌, Option, Some, None, Result}
use Rattle.rst_tree.specs.Trees.{Text}
use Rattle.rst_tree.specs.Modules.{plain_range}
use Rattle.rst_width.specs.Scopes.{Names}
use Rattle.rst_names.specs.declared.faults.ElabCode.{ElabCode}
use Rattle.rst_names.specs.declared.faults.ElabCode.TheVariants as code
use Rattle.rst_names.specs.Faults.{Fault, fault_at}
use Rattle.rst_instances.specs.declared.extents as memory
use Rattle.rst_instances.specs.declared.extents.RangeRow.TheVariants as row
use Rattle.rst_instances.specs.Parameters.{Ends, Valued, is_bad_range, width_of, ends_answer}
use Rattle.rst_instances.specs.Places.{Place}
use Rattle.rst_instances.specs.RangeRows.{Ranged, fault_of, ends_if, ends_faults, bad_ranges, wide_ranges}

-- a declaration of signals that has a range
abbrev pub plain_ranged : memory.Ranged.Ranged → Ranged
plain_ranged r = record { name = r.name.now; range = plain_range r.range.now }

-- the fault with a code, if there is one
abbrev pub fault_by : Text → Option ElabCode → List Fault
fault_by name None = []
fault_by name (Some e) = fault_at e name 0 ∷ []

-- the fault of a range in a row
abbrev pub range_fault : memory.RangeRow.RangeRow → Text → Result Ends ElabCode → List Fault
range_fault row.Ends name answer = fault_of name answer
range_fault row.BadRange name answer = ends_if is_bad_range code.BadRange name answer
range_fault row.TooWide name answer = ends_if (λ ends. nat_lt 64 (width_of ends)) code.TooWide name answer

-- a parameter without a value, at its flat name
abbrev pub value_fault : Text → Valued → List Fault
value_fault prefix v = fault_of (prefix ++ v.name) v.value

-- a range of a declaration, at the flat name of its first signal
abbrev pub range_faults : memory.RangeRow.RangeRow → Text → Names → Ranged → List Fault
range_faults row prefix names r = range_fault row (prefix ++ r.name) (ends_answer names r.range)

-- the faults of an instance in a row
abbrev pub row_faults : memory.RangeRow.RangeRow → Place → List Fault
row_faults row.Ends p = ends_faults p
row_faults row.BadRange p = bad_ranges p
row_faults row.TooWide p = wide_ranges p
