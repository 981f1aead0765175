-- The rows of refusals over parameters and ranges of an instance, each the list of its faults in the order of the text.
use Rattle.std.specs.Prelude.{nat_lt, Bool, List, [], ◌∷◌, ◌++◌, Option, Some, Result, Ok, Err}
use Rattle.std.specs.List.{flat_map}
use Rattle.rst_tree.specs.Trees.{Text}
use Rattle.rst_tree.specs.Modules.{PlainRange, PlainPortDecl, PlainNetDecl, PlainNetName, PlainHeader, PlainItem, PlainModule}
use Rattle.rst_tree.specs.Modules as tree
use Rattle.rst_names.specs.declared.faults.ElabCode.{ElabCode}
use Rattle.rst_names.specs.declared.faults.ElabCode.TheVariants as code
use Rattle.rst_names.specs.Faults.{Fault, fault_at, fault_if}
use Rattle.rst_instances.specs.Parameters.{Ends, ends_answer, is_bad_range, width_of, names_behind}
use Rattle.rst_instances.specs.Places.{Place, flat_name}

-- the fault of an answer
abbrev pub fault_of : {X : Type 0} → Text → Result X ElabCode → List Fault
fault_of name (Ok x) = []
fault_of name (Err code) = fault_at code name 0 ∷ []

-- "a parameter's range, faulty as in the two rows below, and then its value", at the parameter's flat name
abbrev pub param_faults : Place → List Fault
param_faults p = flat_map (λ v. fault_of (flat_name p v.name) v.value) p.values

-- A declaration of signals that has a range, by its first name.
pub record Ranged : Type 0 where
  pub name : Text
  pub range : PlainRange

abbrev pub ranged_if : List Text → Option PlainRange → List Ranged
ranged_if (n ∷ ns) (Some r) = record { name = n; range = r } ∷ []
ranged_if _ _ = []

abbrev pub first_net : List PlainNetName → List Text
first_net [] = []
first_net (n ∷ ns) = n.name ∷ []

abbrev pub ranged_port : PlainPortDecl → List Ranged
ranged_port d = ranged_if d.names d.range

abbrev pub ranged_item : PlainItem → List Ranged
ranged_item (tree.Port d) = ranged_port d
ranged_item (tree.Net d) = ranged_if (first_net d.names) d.range
ranged_item _ = []

abbrev pub ranged_header : PlainHeader → List Ranged
ranged_header (tree.Plain names) = []
ranged_header (tree.Full ds) = flat_map ranged_port ds

-- in the order of the text
abbrev pub ranged : PlainModule → List Ranged
ranged m = ranged_header m.header ++ flat_map ranged_item m.items

abbrev pub ends_in : Place → Ranged → Result Ends ElabCode
ends_in p r = ends_answer (names_behind p.of p.values) r.range

-- "a range's ends aren't constant words", at the signal
abbrev pub ends_faults : Place → List Fault
ends_faults p = flat_map (λ r. fault_of (flat_name p r.name) (ends_in p r)) (ranged p.of)

-- the ends of a range that pass a test give a fault
abbrev pub ends_if : (Ends → Bool) → ElabCode → Text → Result Ends ElabCode → List Fault
ends_if test code name (Ok ends) = fault_if (test ends) code name 0
ends_if test code name (Err e) = []

-- "not 0 <= low <= high < 65,536", at the signal
abbrev pub bad_ranges : Place → List Fault
bad_ranges p = flat_map (λ r. ends_if is_bad_range code.BadRange (flat_name p r.name) (ends_in p r)) (ranged p.of)

-- "width above 64", at the signal
abbrev pub wide_ranges : Place → List Fault
wide_ranges p = flat_map (λ r. ends_if (λ ends. nat_lt 64 (width_of ends)) code.TooWide (flat_name p r.name) (ends_in p r)) (ranged p.of)

-- ---- Row by row over all instances: parameters, the ends of ranges, BadRange, TooWide.
abbrev pub range_row_faults : List Place → List Fault
range_row_faults ps = flat_map param_faults ps ++ (flat_map ends_faults ps ++ (flat_map bad_ranges ps ++ flat_map wide_ranges ps))
