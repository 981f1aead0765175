-- The rows over the signals, as the code's tables of drives and marks tell them.
use Rattle.std.specs.Prelude.{ℕ, Bool, not, ◌&&◌, ◌||◌, List, ◌++◌, slice_index_or}
use Rattle.std.specs.List.{flat_map, enumerate_from}
use Rattle.rst_net.specs.Units.{PlainSignal, PlainFlat}
use Rattle.rst_names.specs.declared.faults.ElabCode.TheVariants as code
use Rattle.rst_names.specs.Faults.{Fault, fault_if}
use Rattle.rst_drivers.specs.declared.drives.Drive.{Drive}
use Rattle.rst_drivers.specs.Drives.{is_set, any_below}
use Rattle.rst_drivers.specs.FlatRows.{is_driven_role, bit_limits}
use Rattle.rst_drivers.specs.Counts.{nothing}
use Rattle.rst_drivers.specs.Marks.{stands}

-- what the table has of a signal
abbrev pub drive_at : List Drive → ℕ → Drive
drive_at drives signal = slice_index_or drives signal nothing

abbrev pub has_many : Drive → ℕ → Bool
has_many d width = any_below width (is_set d.twice) || d.shared

abbrev pub has_open : Drive → ℕ → Bool
has_open d width = any_below width (λ bit. not (is_set d.bits bit))

abbrev pub many_in : List Drive → ℕ × PlainSignal → List Fault
many_in drives numbered =
    fault_if (has_many (drive_at drives numbered.0) numbered.1.extent.width) code.ManyDrivers numbered.1.name 0

abbrev pub undriven_in : List Bool → List Drive → ℕ × PlainSignal → List Fault
undriven_in needed drives numbered =
    fault_if (not (is_driven_role numbered.1.role)
    && (stands needed numbered.0 && has_open (drive_at drives numbered.0) numbered.1.extent.width))
    code.Undriven numbered.1.name 0

-- all rows
abbrev pub faults_in : List Bool → List Drive → PlainFlat → List Fault
faults_in needed drives flat =
    flat_map (many_in drives) (enumerate_from 0 flat.signals)
    ++ (flat_map (undriven_in needed drives) (enumerate_from 0 flat.signals) ++ bit_limits flat)
