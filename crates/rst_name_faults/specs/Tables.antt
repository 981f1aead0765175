-- How the code shows one module with its tables, and what it keeps of declarations.
use Rattle.std.specs.Prelude.{Bool, true, false, ◌&&◌, cond, List, [], ◌∷◌, Option, None, Some}
use Rattle.rst_tree.specs.Modules.{PlainModule, plain_module}
use Rattle.rst_names.specs.declared.facts.Facts.{Facts}
use Rattle.rst_names.specs.Tables.{IsFacts, plain_declaration}
use Rattle.rst_names.specs.Declarations.{Declaration, is_signal}
use Rattle.rst_name_faults.specs.declared.declaring.Seen.{Seen}
use Rattle.rst_name_faults.specs.declared.declaring.Seen.TheVariants as seen
use Rattle.rst_name_faults.specs.NameRows.{is_one, is_listed}

-- a module with right tables
abbrev pub module_of : Facts → PlainModule
module_of f = plain_module f.module.now

abbrev pub AreRight : Facts → Type 0
AreRight f = IsFacts (module_of f) f

-- ---- words of proofs

-- what the row Twice keeps of the declarations of one name: the one, or the second of two
pub data Kept : Type 0 where
  One : Declaration → Kept
  Two : Declaration → Kept
  More : Kept

abbrev pub plain_seen : Seen → Kept
plain_seen (seen.One d) = One (plain_declaration d)
plain_seen (seen.Two d) = Two (plain_declaration d)
plain_seen seen.More = More

abbrev pub kept_of : List Declaration → Option Kept
kept_of [] = None
kept_of (a ∷ []) = Some (One a)
kept_of (a ∷ b ∷ []) = Some (Two b)
kept_of (a ∷ b ∷ c ∷ ds) = Some More

abbrev pub follows : Option Kept → Declaration → Bool
follows None d = true
follows (Some (One a)) d = is_listed a.form && is_signal d.form
follows (Some (Two b)) d = is_one b d
follows (Some More) d = false

abbrev pub seen_next : Option Kept → Declaration → Kept
seen_next None d = One d
seen_next (Some (One a)) d = Two d
seen_next (Some (Two b)) d = More
seen_next (Some More) d = More

abbrev pub seen_after : Option Kept → Bool → Declaration → Option Kept
seen_after before same d = cond same (Some (seen_next before d)) before
