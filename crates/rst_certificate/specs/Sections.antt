-- The sections of a certificate's text as the writer keeps them: each is a line, or a list of lines of one kind. Words of the
-- writer's own contracts, which no public clause cites.
use Rattle.std.specs.Prelude.{◌≡◌, ℕ, ◌<◌, ◌+◌, ◌-◌, drop, ◌*◌, Option, None, Some, List, [], ◌∷◌, ◌++◌, map, length}
use Rattle.std.specs.List.{flat_map}
use Rattle.rst_certificate.specs.declared.section.Section.{Section}
use Rattle.rst_certificate.specs.declared.section.Section.TheVariants.{Line, Named, Numbered, State, Steps, FreeSteps, BlockedHops, FreedHops, Clauses, Entries}
use Rattle.rst_certificate.specs.Atoms.{LineState, line_work}
use Rattle.rst_certificate.specs.Words.{line, counted, bits_text}
use Rattle.rst_certificate.specs.CertText.{step_line, free_step_line, blocked_line, freed_line, clause_line, entry_line}

abbrev pub section_lines : Section → List (List ℕ)
section_lines (Line words) = words.now ∷ []
section_lines (Named word name) = (word.now ++ name.now) ∷ []
section_lines (Numbered word number) = counted word.now number ∷ []
section_lines (State word bits) = (word.now ++ 32 ∷ bits_text bits.now) ∷ []
section_lines (Steps word) = map step_line word.now
section_lines (FreeSteps pattern) = map free_step_line pattern.now
section_lines (BlockedHops hops) = map blocked_line hops.now
section_lines (FreedHops hops) = map freed_line hops.now
section_lines (Clauses clauses) = map clause_line clauses.now
section_lines (Entries entries) = map entry_line entries.now

abbrev pub section_text : Section → List ℕ
section_text section = flat_map line (section_lines section)

-- what is left of a section behind a line
abbrev pub rest_text : Option Section → List ℕ
rest_text None = []
rest_text (Some section) = section_text section

-- bounds the work of giving a section: a line has a byte at least, and 16 atoms at most
abbrev pub section_work : Section → ℕ
section_work section = 32 * length (section_text section) + 1

abbrev pub rest_work : Option Section → ℕ
rest_work None = 0
rest_work (Some section) = section_work section

-- a section's text goes on as the line and what is left of the section, with less work
pub record GoesOn (all : List ℕ) (state : LineState) (rest : Option Section) : Type 0 where
  pub parts : state.text ++ rest_text rest ≡ all
  pub less : line_work state + rest_work rest < 32 * length all + 1

abbrev pub lines_of : List Section → List (List ℕ)
lines_of sections = flat_map section_lines sections

-- sections with more lines at their end
pub record AddsLines (old new : List Section) (lines : List (List ℕ)) : Type 0 where
  pub appended : lines_of new ≡ lines_of old ++ lines

-- what is still to be given of a text, and a bound on the work of it
pub record UnwrittenState : Type 0 where
  pub text : List ℕ
  pub work : ℕ

abbrev pub unwritten_state : LineState → List Section → UnwrittenState
unwritten_state state sections = record {
  text = state.text ++ flat_map section_text sections;
  work = line_work state + (32 * length (flat_map section_text sections) + length sections);
}

-- the text ends in what is left of it
abbrev pub EndsIn : List ℕ → List ℕ → Type 0
EndsIn text rest = drop (length text - length rest) text ≡ rest
