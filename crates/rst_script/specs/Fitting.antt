-- The pattern of inputs that a script's steps give a design, or the first fault.
use Rattle.std.specs.Prelude.{ℕ, zero, suc, ◌+◌, ◌*◌, ◌/◌, ◌%◌, ◌^◌, ◌==◌, nat_lt, Bool, true, List, [], ◌∷◌, flat_map, replicate, Option, Some, None, Result, Ok, Err, bytes_eq, if◌then◌else◌}
use Rattle.std.specs.Option.{option_or}
use Rattle.rst_outside.specs.declared.names.PortBits.{PortBits}
use Rattle.rst_value.specs.declared.tern.Tern.{Tern}
use Rattle.rst_value.specs.declared.tern.Tern.TheVariants.{Unknown}
use Rattle.rst_value.specs.Terns.{known}
use Rattle.rst_gate.specs.Patterns.{free_count}
use Rattle.rst_script.specs.declared.script.Setting.{Setting}
use Rattle.rst_script.specs.declared.script.ScriptFault.{ScriptFault}
use Rattle.rst_script.specs.declared.script.ScriptFault.TheVariants.{BadName, BadValue, TooFree}
use Rattle.rst_script.specs.Steps.{PlainStep}

-- the width of the input of this name
abbrev pub width_in : List PortBits → List ℕ → Option ℕ
width_in [] name = None
width_in (port ∷ ports) name = if bytes_eq port.name name then Some port.width else width_in ports name

-- a value fits an input where it is below 2^width; free bits always do
abbrev pub fits_width : ℕ → Option ℕ → Bool
fits_width width None = true
fits_width width (Some value) = nat_lt value (2 ^ width)

abbrev pub width_fault : ℕ → Option ℕ → Option ℕ → Option ScriptFault
width_fault line value None = Some (BadName line)
width_fault line value (Some width) = if fits_width width value then None else Some (BadValue line)

-- why a setting doesn't fit the inputs
abbrev pub setting_fault : List PortBits → ℕ → Setting → Option ScriptFault
setting_fault ports line setting = width_fault line setting.value (width_in ports setting.name)

-- the first fault of a step's settings
abbrev pub settings_fault : List PortBits → ℕ → List Setting → Option ScriptFault
settings_fault ports line [] = None
settings_fault ports line (setting ∷ settings) = option_or (setting_fault ports line setting) (settings_fault ports line settings)

-- the value that settings give an input: that of the setting that names it, and 0 where none does
abbrev pub value_in : List Setting → List ℕ → Option ℕ
value_in [] name = Some 0
value_in (setting ∷ settings) name = if bytes_eq setting.name name then setting.value else value_in settings name

-- the bit of this weight, as a known place
abbrev pub place_at : ℕ → ℕ → Tern
place_at value weight = known ((value / 2 ^ weight) % 2 == 1)

-- the lowest bits of a number, the most significant first
abbrev pub known_places : ℕ → ℕ → List Tern
known_places zero value = []
known_places (suc weight) value = place_at value weight ∷ known_places weight value

-- the places of an input: free ones, or the bits of its value
abbrev pub places_of : ℕ → Option ℕ → List Tern
places_of width None = replicate width Unknown
places_of width (Some value) = known_places width value

-- the places of one clock cycle: those of the inputs, in their order
abbrev pub cube_of : List PortBits → List Setting → List Tern
cube_of ports settings = flat_map (λ (port : PortBits). places_of port.width (value_in settings port.name)) ports

-- the free bits of a step: those of each of its clock cycles
abbrev pub step_free : List PortBits → PlainStep → ℕ
step_free ports step = step.times * free_count (cube_of ports step.values)

-- The first fault of steps, where so many bits are free before them: step by step those of its settings, and behind them that
-- the free bits up to and with it pass 1,024.
abbrev pub first_fault : List PortBits → ℕ → List PlainStep → Option ScriptFault
first_fault ports free [] = None
first_fault ports free (step ∷ steps) =
    option_or (settings_fault ports step.line step.values)
    (if nat_lt 1024 (free + step_free ports step) then Some (TooFree step.line) else first_fault ports (free + step_free ports step) steps)

-- the pattern: the cubes of each step in each of its clock cycles
abbrev pub pattern_of : List PortBits → List PlainStep → List (List Tern)
pattern_of ports steps = flat_map (λ (step : PlainStep). replicate step.times (cube_of ports step.values)) steps

abbrev pub unless : {A : Type 0} → Option ScriptFault → A → Result A ScriptFault
unless None x = Ok x
unless (Some fault) x = Err fault

-- The pattern that the steps give the inputs, or the first fault.
abbrev pub fit_of : List PortBits → List PlainStep → Result (List (List Tern)) ScriptFault
fit_of ports steps = unless (first_fault ports 0 steps) (pattern_of ports steps)
