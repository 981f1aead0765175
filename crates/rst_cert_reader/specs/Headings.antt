-- The header of a certificate, line by line.
use Rattle.std.specs.Prelude.{◌≡◌, ◌^◌, ◌-◌, ℕ, nat_le, bytes_eq, Option, None, Some, option_map, Result, Ok, Err, ⊤, List, [], ◌∷◌, codes, if◌then◌else◌}
use Rattle.rst_lex.specs.Words.{is_name}
use Rattle.rst_cert_lines.specs.declared.cursor.LineFault.{LineFault}
use Rattle.rst_cert_lines.specs.declared.cursor.LineFault.TheVariants.{Wrong, NoMemory}
use Rattle.rst_cert_lines.specs.Reading.{Read, after}
use Rattle.rst_cert_lines.specs.Readers.{counted_at}
use Rattle.rst_cert_reader.specs.declared.heading.HeadLine.{HeadLine}
use Rattle.rst_cert_reader.specs.declared.heading.HeadLine.TheVariants.{Version, Form, Clock, Registers, Inputs, Outputs, Kind}
use Rattle.rst_cert_reader.specs.declared.heading.CertKind.{CertKind}
use Rattle.rst_cert_reader.specs.declared.heading.CertKind.TheVariants.{Known, Relation, Refuted, Never, Alignable, Unknown}
use Rattle.rst_cert_reader.specs.declared.heading.Heading.{Heading}

-- what a call answered is that of the definition, unless memory ran out
abbrev pub Gives : {A : Type 0} → Option A → Result A LineFault → Type 0
Gives made (Ok a) = made ≡ Some a
Gives made (Err Wrong) = made ≡ None
Gives made (Err NoMemory) = ⊤

-- what a call made of a value is that of the definition, unless memory ran out
abbrev pub Becomes : {A B : Type 0} → Option A → Result B LineFault → A → Type 0
Becomes made (Ok b) new = made ≡ Some new
Becomes made (Err Wrong) new = made ≡ None
Becomes made (Err NoMemory) new = ⊤

-- what was read, where it is the whole line
abbrev pub whole : {A : Type 0} → Read A → Option A
whole None = None
whole (Some (a, [])) = Some a
whole (Some (a, b ∷ rest)) = None

abbrev pub at_most : ℕ → Option ℕ → Option ℕ
at_most most None = None
at_most most (Some number) = if nat_le number most then Some number else None

-- a word and a number up to a limit
unfoldable pub number_in : List ℕ → ℕ → List ℕ → Option ℕ
number_in word most line = at_most most (whole (counted_at word line))

abbrev pub version_of : Option ℕ → Option ℕ
version_of None = None
version_of (Some number) = if nat_le 1 number then Some number else None

-- version 1 or 2
unfoldable pub version_in : List ℕ → Option ℕ
version_in line = version_of (number_in (codes "reset-certificate") 2 line)

abbrev pub name_behind : Read (Unit {0}) → Option (Option (List ℕ))
name_behind None = None
name_behind (Some it) = if is_name it.1 then Some (Some it.1) else None

-- the clock's name, or that there is none
unfoldable pub clock_in : List ℕ → Option (Option (List ℕ))
clock_in line = if bytes_eq line (codes "noclock") then Some None else name_behind (after (codes "clock ") line)

unfoldable pub kind_in : List ℕ → Option CertKind
kind_in line =
    if bytes_eq line (codes "known") then Some Known
    else (if bytes_eq line (codes "relation") then Some Relation
    else (if bytes_eq line (codes "refuted") then Some Refuted
    else (if bytes_eq line (codes "never") then Some Never
    else (if bytes_eq line (codes "alignable") then Some Alignable
    else (if bytes_eq line (codes "unknown") then Some Unknown else None)))))

abbrev pub no_heading : Heading
no_heading = record { version = 0; form = 0; clock = None; registers = 0; inputs = 0; outputs = 0; kind = Known }

-- the header with what a line says
abbrev pub with_line : HeadLine → Heading → List ℕ → Option Heading
with_line Version heading line = option_map (λ number. record heading { version = number }) (version_in line)
with_line Form heading line = option_map (λ number. record heading { form = number }) (number_in (codes "form") (2 ^ 32 - 1) line)
with_line Clock heading line = option_map (λ clock. record heading { clock = clock }) (clock_in line)
with_line Registers heading line = option_map (λ number. record heading { registers = number }) (number_in (codes "registers") 512 line)
with_line Inputs heading line = option_map (λ number. record heading { inputs = number }) (number_in (codes "inputs") 256 line)
with_line Outputs heading line = option_map (λ number. record heading { outputs = number }) (number_in (codes "outputs") 256 line)
with_line Kind heading line = option_map (λ kind. record heading { kind = kind }) (kind_in line)
