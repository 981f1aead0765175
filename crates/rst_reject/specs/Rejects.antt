-- Refusals: a code, the file and what it is that is refused.
use Rattle.std.specs.Prelude.{ℕ, List, [], Some, None}
use Rattle.rst_reject.specs.declared.code.Code.{Code}
use Rattle.rst_reject.specs.declared.reject.Reject.{Reject}
use Rattle.rst_reject.specs.declared.stop.Stop.{Stop}
use Rattle.rst_reject.specs.declared.stop.Stop.TheVariants as stop

-- a refusal of a file at one of its lines, counted from 1; 0 where it is of the whole file
abbrev pub at_line : Code → ℕ → ℕ → Reject
at_line code file line = record { code = code; file = Some file; name = []; number = line }

-- a refusal of a file at one of its lines, which names something there
abbrev pub at_name : Code → ℕ → List ℕ → ℕ → Reject
at_name code file name line = record { code = code; file = Some file; name = name; number = line }

-- a refusal of the design, at a name; the number is that of an item, or 0
abbrev pub in_design : Code → List ℕ → ℕ → Reject
in_design code name number = record { code = code; file = None; name = name; number = number }

-- what stops is such a refusal, unless memory ran out
abbrev pub IfRejected : Stop → (Reject → Type 0) → Type 0
IfRejected (stop.Rejected r) P = P r
IfRejected stop.NoMemory P = Unit {0}
