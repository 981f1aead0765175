-- Rows of values: a line for each clock cycle, with the places of each port or register.
use Rattle.std.specs.Prelude.{ℕ, ◌+◌, List, [], ◌∷◌, ◌++◌, map, take, drop, codes}
use Prim.Native.Char.{code}
use Rattle.rst_outside.specs.declared.names.PortBits.{PortBits}
use Rattle.rst_text.specs.Lines.{line, counted}
use Rattle.rst_value.specs.declared.tern.Tern.{Tern}
use Rattle.rst_value.specs.declared.tern.Tern.TheVariants.{Zero, One, Unknown}

-- the digit of a place: 0, 1, or the mark of places that aren't known
abbrev pub digit : ℕ → Tern → ℕ
digit mark Zero = code "0"
digit mark One = code "1"
digit mark Unknown = mark

-- a port's name and its places, the most significant to the left
abbrev pub value_text : ℕ → List ℕ → List Tern → List ℕ
value_text mark name places = codes " " ++ (name ++ (codes "=" ++ map (digit mark) places))

-- the values of ports that stand behind one another in a list of places, each port with as many of them as it is wide
abbrev pub values_text : ℕ → List PortBits → List Tern → List ℕ
values_text mark [] places = []
values_text mark (port ∷ ports) places = value_text mark port.name (take port.width places) ++ values_text mark ports (drop port.width places)

-- the row of the cycle with this number
abbrev pub cycle_row : ℕ → List PortBits → ℕ → List Tern → List ℕ
cycle_row mark ports number places = line (counted (codes "cycle") number ++ values_text mark ports places)

-- a row a cycle, counted on from this number
abbrev pub cycle_rows : ℕ → List PortBits → ℕ → List (List Tern) → List ℕ
cycle_rows mark ports number [] = []
cycle_rows mark ports number (places ∷ cycles) = cycle_row mark ports number places ++ cycle_rows mark ports (number + 1) cycles

-- the registers in three values, `x` where they aren't known: at power-up as cycle 0, and behind each cycle
abbrev pub known_rows : List PortBits → List (List Tern) → List ℕ
known_rows registers states = cycle_rows (code "x") registers 0 states
