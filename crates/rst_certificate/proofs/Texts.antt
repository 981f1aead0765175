-- Sections and their lines.
use Rattle.std.proofs.Common.{◌≡◌, ℕ, List, [], ◌∷◌, ◌++◌, refl, sym, ap, ◌∙◌, append_assoc}
use Rattle.std.specs.List.{flat_map}
use Rattle.std.proofs.lemmas.Grind.{flat_map-append}
use Rattle.rst_certificate.specs.Words.{line}
use Rattle.rst_certificate.specs.declared.section.Section.{Section}
use Rattle.rst_certificate.specs.Sections.{section_lines, section_text, lines_of, AddsLines}

-- the text of sections is that of all their lines
pub text_of_lines : (sections : List Section) → flat_map section_text sections ≡ flat_map line (lines_of sections)
text_of_lines [] = refl
text_of_lines (section ∷ sections) =
    ap (λ text. section_text section ++ text) (text_of_lines sections)
    ∙ sym (flat_map-append line (section_lines section) (lines_of sections))

-- lines that were added one after the other
pub adds_both : {old mid new : List Section} {xs ys : List (List ℕ)} → AddsLines old mid xs → AddsLines mid new ys → AddsLines old new (xs ++ ys)
adds_both {old} {mid} {new} {xs} {ys} first second = record {
  appended = second.appended ∙ ap (λ lines. lines ++ ys) first.appended ∙ append_assoc (lines_of old) xs ys;
}
