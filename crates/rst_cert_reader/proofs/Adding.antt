-- What a line adds to the lines so far.
use Rattle.std.proofs.Common.{◌≡◌, ◌==◌, ◌+◌, ◌-◌, ◌≤◌, ◌^◌, ℕ, ℤ, suc, Bool, ◌||◌, nat_le, Option, None, Some, option_map, List, [], ◌∷◌, ◌++◌, length, map, codes, refl, sym, ap, ap₂, subst, ◌∙◌, arith, append-nil, length-append}
use Rattle.std.specs.List.{list_all}
use Rattle.std.proofs.lemmas.List.{map-append}
use Rattle.std.proofs.lemmas.Bool.{leb-true}
use Rattle.rst_value.specs.declared.tern.Tern.{Tern}
use Rattle.rst_pair.specs.declared.hop.Hop.{Hop}
use Rattle.rst_certificate.specs.Words.{counted, bits_text}
use Rattle.rst_certificate.specs.CertText.{step_line, free_step_line, blocked_line, freed_line, clause_line, entry_line}
use Rattle.rst_cert_lines.specs.Reading.{Read}
use Rattle.rst_cert_lines.specs.Readers.{step_at, free_step_at, state_at, clause_at, hop_line_at, entry_at, counted_at}
use Rattle.rst_cert_lines.proofs.LineLaws.{step_takes, free_step_takes, counted_takes, state_takes}
use Rattle.rst_cert_lines.proofs.ClauseLaws.{clause_takes}
use Rattle.rst_cert_lines.proofs.HopLaws.{hop_line_takes}
use Rattle.rst_cert_lines.proofs.EntryLaws.{entry_takes}
use Rattle.rst_cert_lines.proofs.Binds.{the_some, no_some, chosen}
use Rattle.rst_cert_reader.specs.declared.heading.CertKind.{CertKind}
use Rattle.rst_cert_reader.specs.declared.heading.Heading.{Heading}
use Rattle.rst_cert_reader.specs.declared.gathered.Gathered.{Gathered}
use Rattle.rst_cert_reader.specs.declared.section.Section.{Section}
use Rattle.rst_cert_reader.specs.declared.section.Section.TheVariants.{FreeSteps, Steps, Word, Equal, StateA, StateB, Blocked, Freed, SplitLog, LandLog, EscapeLog, StuckLog, Journal}
use Rattle.rst_cert_reader.specs.Headings.{whole, at_most, number_in}
use Rattle.rst_cert_reader.specs.Sections.{is_known, free_where, shape_of, marked_behind, before_of, blocked_behind, freed_behind, place_of, with_entry, with_free_step, with_step, with_word, with_blocked, with_freed, with_first, with_second, with_work, with_item, with_equal, with_a, with_b, begun_by}
use Rattle.rst_cert_reader.proofs.Written.{section_lines, lines_of, before, IsOf, keeps_freesteps, keeps_steps, keeps_word, keeps_equal, keeps_statea, keeps_stateb, keeps_blocked, keeps_freed, keeps_splitlog, keeps_landlog, keeps_escapelog, keeps_stucklog, keeps_journal}

pub whole_some : {A : Type 0} (read : Read A) (a : A) → whole read ≡ Some a → read ≡ Some (a, [])
whole_some None a e = absurd (no_some a e)
whole_some (Some (b, [])) a e = ap (λ (x : _). Some (x, [])) (the_some b a e)
whole_some (Some (b, c ∷ rest)) a e = absurd (no_some a e)

pub map_some : {A B : Type 0} (f : A → B) (option : Option A) (b : B) → option_map f option ≡ Some b → (a : A) × (option ≡ Some a) × (f a ≡ b)
map_some f None b e = absurd (no_some b e)
map_some f (Some a) b e = (a, refl, the_some (f a) b e)

at_most_some : (most : ℕ) (option : Option ℕ) (number : ℕ) → at_most most option ≡ Some number → (option ≡ Some number) × (number ≤ most)
at_most_some most None number e = absurd (no_some number e)
at_most_some most (Some n) number e =
    let p = chosen (nat_le n most) n number e in
    (ap (λ (k : ℕ). Some k) p.1, subst (λ (k : ℕ). k ≤ most) p.1 (leb-true n most p.0))

pub free_some : (free : Bool) (option : Option (List Tern)) (places : List Tern) → free_where free option ≡ Some places → option ≡ Some places
free_some free None places e = absurd (no_some places e)
free_some free (Some cube) places e = ap (λ (c : List Tern). Some c) (chosen (free || list_all is_known cube) cube places e).1

-- a number's line
pub number_line : (word : List ℕ) (most : ℕ) (text : List ℕ) (number : ℕ) → number_in word most text ≡ Some number → (text ≡ counted word number) × (number ≤ most)
unfolding number_in
number_line word most text number e =
    let p = at_most_some most (whole (counted_at word text)) number e in
    let took = counted_takes word text (number, []) (whole_some (counted_at word text) number p.0) in
    (took.0 ∙ append-nil (counted word number), p.1)

-- the lines of a list with one more at its end
listed : {A : Type 0} (word : List ℕ) (show : A → List ℕ) (items : List A) (item : A) (text : List ℕ) (left : ℕ) → text ≡ show item
    → counted word (length (items ++ item ∷ []) + left) ∷ map show (items ++ item ∷ []) ≡ (counted word (length items + suc left) ∷ map show items) ++ text ∷ []
listed word show items item text left is =
    let grown = length-append items (item ∷ []) in
    let count : length (items ++ item ∷ []) + left ≡ length items + suc left = omega (arith, grown) in
    ap₂ (λ (n : ℕ) (rest : List (List ℕ)). counted word n ∷ rest) count (map-append show items (item ∷ []))
    ∙ ap (λ (t : List ℕ). (counted word (length items + suc left) ∷ map show items) ++ t ∷ []) (sym is)

-- what a first line says
pub record Begins (section : Section) (old new : Gathered) (count : ℕ) (text : List ℕ) : Type 0 where
  pub first : section_lines section new count ≡ text ∷ []
  pub keeps : (kind : CertKind) → IsOf kind section → lines_of (before kind section) new ≡ lines_of (before kind section) old

-- what one more line says
pub record GoesOn (section : Section) (old new : Gathered) (text : List ℕ) : Type 0 where
  pub more : (left : ℕ) → section_lines section new left ≡ section_lines section old (suc left) ++ text ∷ []
  pub keeps : (kind : CertKind) → IsOf kind section → lines_of (before kind section) new ≡ lines_of (before kind section) old

begins_equal : (h : Heading) (g new : Gathered) (count : ℕ) (text : List ℕ) → with_equal h g text ≡ Some (new, count) → Begins Equal g new count text
unfolding with_equal
begins_equal h g new count text e =
    let made : List Bool → Gathered × ℕ = λ bits. (record g { equal = bits; marked = marked_behind 0 bits }, 0) in
    let p = map_some made (whole (state_at (codes "equal") h.registers text)) (new, count) e in
    let took = state_takes (codes "equal") h.registers text (p.0, []) (whole_some (state_at (codes "equal") h.registers text) p.0 p.1) in
    subst (λ (it : Gathered × ℕ). Begins Equal g it.0 it.1 text) p.2 (record {
      first = ap (λ (t : List ℕ). t ∷ []) (sym (took.0 ∙ append-nil (codes "equal " ++ bits_text p.0)));
      keeps = λ kind of. keeps_equal kind g p.0 (marked_behind 0 p.0) of;
    })

begins_statea : (h : Heading) (g new : Gathered) (count : ℕ) (text : List ℕ) → with_a h g text ≡ Some (new, count) → Begins StateA g new count text
unfolding with_a
begins_statea h g new count text e =
    let made : List Bool → Gathered × ℕ = λ bits. (record g { a = bits }, 0) in
    let p = map_some made (whole (state_at (codes "a") h.registers text)) (new, count) e in
    let took = state_takes (codes "a") h.registers text (p.0, []) (whole_some (state_at (codes "a") h.registers text) p.0 p.1) in
    subst (λ (it : Gathered × ℕ). Begins StateA g it.0 it.1 text) p.2 (record {
      first = ap (λ (t : List ℕ). t ∷ []) (sym (took.0 ∙ append-nil (codes "a " ++ bits_text p.0)));
      keeps = λ kind of. keeps_statea kind g p.0 of;
    })

begins_stateb : (h : Heading) (g new : Gathered) (count : ℕ) (text : List ℕ) → with_b h g text ≡ Some (new, count) → Begins StateB g new count text
unfolding with_b
begins_stateb h g new count text e =
    let made : List Bool → Gathered × ℕ = λ bits. (record g { b = bits }, 0) in
    let p = map_some made (whole (state_at (codes "b") h.registers text)) (new, count) e in
    let took = state_takes (codes "b") h.registers text (p.0, []) (whole_some (state_at (codes "b") h.registers text) p.0 p.1) in
    subst (λ (it : Gathered × ℕ). Begins StateB g it.0 it.1 text) p.2 (record {
      first = ap (λ (t : List ℕ). t ∷ []) (sym (took.0 ∙ append-nil (codes "b " ++ bits_text p.0)));
      keeps = λ kind of. keeps_stateb kind g p.0 of;
    })

pub begins : (h : Heading) (section : Section) (g new : Gathered) (count : ℕ) (text : List ℕ) → begun_by h section g text ≡ Some (new, count) → Begins section g new count text
begins h FreeSteps g new count text e =
    let made : ℕ → Gathered × ℕ = λ n. (record g { seq = [] }, n) in
    let p = map_some made (number_in (codes "sequence") 128 text) (new, count) e in
    let is = (number_line (codes "sequence") 128 text p.0 p.1).0 in
    subst (λ (it : Gathered × ℕ). Begins FreeSteps g it.0 it.1 text) p.2 (record {
      first = ap (λ (n : ℕ). counted (codes "sequence") n ∷ []) (omega arith) ∙ ap (λ (t : List ℕ). t ∷ []) (sym is);
      keeps = λ kind of. keeps_freesteps kind g [] of;
    })
begins h Steps g new count text e =
    let made : ℕ → Gathered × ℕ = λ n. (record g { plain = [] }, n) in
    let p = map_some made (number_in (codes "sequence") 128 text) (new, count) e in
    let is = (number_line (codes "sequence") 128 text p.0 p.1).0 in
    subst (λ (it : Gathered × ℕ). Begins Steps g it.0 it.1 text) p.2 (record {
      first = ap (λ (n : ℕ). counted (codes "sequence") n ∷ []) (omega arith) ∙ ap (λ (t : List ℕ). t ∷ []) (sym is);
      keeps = λ kind of. keeps_steps kind g [] of;
    })
begins h Word g new count text e =
    let made : ℕ → Gathered × ℕ = λ n. (record g { word = [] }, n) in
    let p = map_some made (number_in (codes "word") 100000 text) (new, count) e in
    let is = (number_line (codes "word") 100000 text p.0 p.1).0 in
    subst (λ (it : Gathered × ℕ). Begins Word g it.0 it.1 text) p.2 (record {
      first = ap (λ (n : ℕ). counted (codes "word") n ∷ []) (omega arith) ∙ ap (λ (t : List ℕ). t ∷ []) (sym is);
      keeps = λ kind of. keeps_word kind g [] of;
    })
begins h Blocked g new count text e =
    let made : ℕ → Gathered × ℕ = λ n. (record g { blocked = [] }, n) in
    let p = map_some made (number_in (codes "blocked") 100000 text) (new, count) e in
    let is = (number_line (codes "blocked") 100000 text p.0 p.1).0 in
    subst (λ (it : Gathered × ℕ). Begins Blocked g it.0 it.1 text) p.2 (record {
      first = ap (λ (n : ℕ). counted (codes "blocked") n ∷ []) (omega arith) ∙ ap (λ (t : List ℕ). t ∷ []) (sym is);
      keeps = λ kind of. keeps_blocked kind g [] of;
    })
begins h Freed g new count text e =
    let made : ℕ → Gathered × ℕ = λ n. (record g { freed = [] }, n) in
    let p = map_some made (number_in (codes "freed") 100000 text) (new, count) e in
    let is = (number_line (codes "freed") 100000 text p.0 p.1).0 in
    subst (λ (it : Gathered × ℕ). Begins Freed g it.0 it.1 text) p.2 (record {
      first = ap (λ (n : ℕ). counted (codes "freed") n ∷ []) (omega arith) ∙ ap (λ (t : List ℕ). t ∷ []) (sym is);
      keeps = λ kind of. keeps_freed kind g [] of;
    })
begins h SplitLog g new count text e =
    let made : ℕ → Gathered × ℕ = λ n. (record g { first = [] }, n) in
    let p = map_some made (number_in (codes "log split") (2 ^ 64 - 1) text) (new, count) e in
    let is = (number_line (codes "log split") (2 ^ 64 - 1) text p.0 p.1).0 in
    subst (λ (it : Gathered × ℕ). Begins SplitLog g it.0 it.1 text) p.2 (record {
      first = ap (λ (n : ℕ). counted (codes "log split") n ∷ []) (omega arith) ∙ ap (λ (t : List ℕ). t ∷ []) (sym is);
      keeps = λ kind of. keeps_splitlog kind g [] of;
    })
begins h LandLog g new count text e =
    let made : ℕ → Gathered × ℕ = λ n. (record g { second = [] }, n) in
    let p = map_some made (number_in (codes "log land") (2 ^ 64 - 1) text) (new, count) e in
    let is = (number_line (codes "log land") (2 ^ 64 - 1) text p.0 p.1).0 in
    subst (λ (it : Gathered × ℕ). Begins LandLog g it.0 it.1 text) p.2 (record {
      first = ap (λ (n : ℕ). counted (codes "log land") n ∷ []) (omega arith) ∙ ap (λ (t : List ℕ). t ∷ []) (sym is);
      keeps = λ kind of. keeps_landlog kind g [] of;
    })
begins h EscapeLog g new count text e =
    let made : ℕ → Gathered × ℕ = λ n. (record g { first = [] }, n) in
    let p = map_some made (number_in (codes "log escape") (2 ^ 64 - 1) text) (new, count) e in
    let is = (number_line (codes "log escape") (2 ^ 64 - 1) text p.0 p.1).0 in
    subst (λ (it : Gathered × ℕ). Begins EscapeLog g it.0 it.1 text) p.2 (record {
      first = ap (λ (n : ℕ). counted (codes "log escape") n ∷ []) (omega arith) ∙ ap (λ (t : List ℕ). t ∷ []) (sym is);
      keeps = λ kind of. keeps_escapelog kind g [] of;
    })
begins h StuckLog g new count text e =
    let made : ℕ → Gathered × ℕ = λ n. (record g { second = [] }, n) in
    let p = map_some made (number_in (codes "log stuck") (2 ^ 64 - 1) text) (new, count) e in
    let is = (number_line (codes "log stuck") (2 ^ 64 - 1) text p.0 p.1).0 in
    subst (λ (it : Gathered × ℕ). Begins StuckLog g it.0 it.1 text) p.2 (record {
      first = ap (λ (n : ℕ). counted (codes "log stuck") n ∷ []) (omega arith) ∙ ap (λ (t : List ℕ). t ∷ []) (sym is);
      keeps = λ kind of. keeps_stucklog kind g [] of;
    })
begins h Journal g new count text e =
    let made : ℕ → Gathered × ℕ = λ n. (record g { journal = []; blocked_entries = 0; freed_entries = 0 }, n) in
    let p = map_some made (number_in (codes "journal") 100000 text) (new, count) e in
    let is = (number_line (codes "journal") 100000 text p.0 p.1).0 in
    subst (λ (it : Gathered × ℕ). Begins Journal g it.0 it.1 text) p.2 (record {
      first = ap (λ (n : ℕ). counted (codes "journal") n ∷ []) (omega arith) ∙ ap (λ (t : List ℕ). t ∷ []) (sym is);
      keeps = λ kind of. keeps_journal kind g [] 0 0 of;
    })
begins h Equal g new count text e = begins_equal h g new count text e
begins h StateA g new count text e = begins_statea h g new count text e
begins h StateB g new count text e = begins_stateb h g new count text e

goes_on_freesteps : (h : Heading) (g new : Gathered) (text : List ℕ) → with_free_step h g text ≡ Some new → GoesOn FreeSteps g new text
unfolding with_free_step
goes_on_freesteps h g new text e =
    let made : List Tern → Gathered = λ item. record g { seq = g.seq ++ item ∷ [] } in
    let p = map_some made (free_where (h.version == 2) (whole (free_step_at h.inputs text))) new e in
    let is = (free_step_takes h.inputs text (p.0, []) (whole_some (free_step_at h.inputs text) p.0 (free_some (h.version == 2) (whole (free_step_at h.inputs text)) p.0 p.1))).0 ∙ append-nil (free_step_line p.0) in
    subst (λ (it : Gathered). GoesOn FreeSteps g it text) p.2 (record {
      more = λ left. listed (codes "sequence") free_step_line g.seq p.0 text left is;
      keeps = λ kind of. keeps_freesteps kind g (g.seq ++ p.0 ∷ []) of;
    })

goes_on_steps : (h : Heading) (g new : Gathered) (text : List ℕ) → with_step h g text ≡ Some new → GoesOn Steps g new text
unfolding with_step
goes_on_steps h g new text e =
    let made : List Bool → Gathered = λ item. record g { plain = g.plain ++ item ∷ [] } in
    let p = map_some made (whole (step_at h.inputs text)) new e in
    let is = (step_takes h.inputs text (p.0, []) (whole_some (step_at h.inputs text) p.0 p.1)).0 ∙ append-nil (step_line p.0) in
    subst (λ (it : Gathered). GoesOn Steps g it text) p.2 (record {
      more = λ left. listed (codes "sequence") step_line g.plain p.0 text left is;
      keeps = λ kind of. keeps_steps kind g (g.plain ++ p.0 ∷ []) of;
    })

goes_on_word : (h : Heading) (g new : Gathered) (text : List ℕ) → with_word h g text ≡ Some new → GoesOn Word g new text
unfolding with_word
goes_on_word h g new text e =
    let made : List Bool → Gathered = λ item. record g { word = g.word ++ item ∷ [] } in
    let p = map_some made (whole (step_at h.inputs text)) new e in
    let is = (step_takes h.inputs text (p.0, []) (whole_some (step_at h.inputs text) p.0 p.1)).0 ∙ append-nil (step_line p.0) in
    subst (λ (it : Gathered). GoesOn Word g it text) p.2 (record {
      more = λ left. listed (codes "word") step_line g.word p.0 text left is;
      keeps = λ kind of. keeps_word kind g (g.word ++ p.0 ∷ []) of;
    })

goes_on_blocked : (h : Heading) (g new : Gathered) (text : List ℕ) → with_blocked h g text ≡ Some new → GoesOn Blocked g new text
unfolding with_blocked
goes_on_blocked h g new text e =
    let made : Hop → Gathered = λ item. record g { blocked = g.blocked ++ item ∷ [] } in
    let p = map_some made (whole (hop_line_at (shape_of h) (codes "out") (before_of g.blocked) text)) new e in
    let is = (hop_line_takes (shape_of h) (codes "out") (before_of g.blocked) text (p.0, []) (whole_some (hop_line_at (shape_of h) (codes "out") (before_of g.blocked) text) p.0 p.1)).0 ∙ append-nil (blocked_line p.0) in
    subst (λ (it : Gathered). GoesOn Blocked g it text) p.2 (record {
      more = λ left. listed (codes "blocked") blocked_line g.blocked p.0 text left is;
      keeps = λ kind of. keeps_blocked kind g (g.blocked ++ p.0 ∷ []) of;
    })

goes_on_freed : (h : Heading) (g new : Gathered) (text : List ℕ) → with_freed h g text ≡ Some new → GoesOn Freed g new text
unfolding with_freed
goes_on_freed h g new text e =
    let made : Hop → Gathered = λ item. record g { freed = g.freed ++ item ∷ [] } in
    let p = map_some made (whole (hop_line_at (shape_of h) (codes "in") (before_of g.freed) text)) new e in
    let is = (hop_line_takes (shape_of h) (codes "in") (before_of g.freed) text (p.0, []) (whole_some (hop_line_at (shape_of h) (codes "in") (before_of g.freed) text) p.0 p.1)).0 ∙ append-nil (freed_line p.0) in
    subst (λ (it : Gathered). GoesOn Freed g it text) p.2 (record {
      more = λ left. listed (codes "freed") freed_line g.freed p.0 text left is;
      keeps = λ kind of. keeps_freed kind g (g.freed ++ p.0 ∷ []) of;
    })

goes_on_splitlog : (g new : Gathered) (text : List ℕ) → with_first g text ≡ Some new → GoesOn SplitLog g new text
unfolding with_first
goes_on_splitlog g new text e =
    let made : List ℤ → Gathered = λ item. record g { first = g.first ++ item ∷ [] } in
    let p = map_some made (whole (clause_at text)) new e in
    let is = (clause_takes text (p.0, []) (whole_some (clause_at text) p.0 p.1)).0 ∙ append-nil (clause_line p.0) in
    subst (λ (it : Gathered). GoesOn SplitLog g it text) p.2 (record {
      more = λ left. listed (codes "log split") clause_line g.first p.0 text left is;
      keeps = λ kind of. keeps_splitlog kind g (g.first ++ p.0 ∷ []) of;
    })

goes_on_escapelog : (g new : Gathered) (text : List ℕ) → with_first g text ≡ Some new → GoesOn EscapeLog g new text
unfolding with_first
goes_on_escapelog g new text e =
    let made : List ℤ → Gathered = λ item. record g { first = g.first ++ item ∷ [] } in
    let p = map_some made (whole (clause_at text)) new e in
    let is = (clause_takes text (p.0, []) (whole_some (clause_at text) p.0 p.1)).0 ∙ append-nil (clause_line p.0) in
    subst (λ (it : Gathered). GoesOn EscapeLog g it text) p.2 (record {
      more = λ left. listed (codes "log escape") clause_line g.first p.0 text left is;
      keeps = λ kind of. keeps_escapelog kind g (g.first ++ p.0 ∷ []) of;
    })

goes_on_landlog : (g new : Gathered) (text : List ℕ) → with_second g text ≡ Some new → GoesOn LandLog g new text
unfolding with_second
goes_on_landlog g new text e =
    let made : List ℤ → Gathered = λ item. record g { second = g.second ++ item ∷ [] } in
    let p = map_some made (whole (clause_at text)) new e in
    let is = (clause_takes text (p.0, []) (whole_some (clause_at text) p.0 p.1)).0 ∙ append-nil (clause_line p.0) in
    subst (λ (it : Gathered). GoesOn LandLog g it text) p.2 (record {
      more = λ left. listed (codes "log land") clause_line g.second p.0 text left is;
      keeps = λ kind of. keeps_landlog kind g (g.second ++ p.0 ∷ []) of;
    })

goes_on_stucklog : (g new : Gathered) (text : List ℕ) → with_second g text ≡ Some new → GoesOn StuckLog g new text
unfolding with_second
goes_on_stucklog g new text e =
    let made : List ℤ → Gathered = λ item. record g { second = g.second ++ item ∷ [] } in
    let p = map_some made (whole (clause_at text)) new e in
    let is = (clause_takes text (p.0, []) (whole_some (clause_at text) p.0 p.1)).0 ∙ append-nil (clause_line p.0) in
    subst (λ (it : Gathered). GoesOn StuckLog g it text) p.2 (record {
      more = λ left. listed (codes "log stuck") clause_line g.second p.0 text left is;
      keeps = λ kind of. keeps_stucklog kind g (g.second ++ p.0 ∷ []) of;
    })

goes_on_journal : (h : Heading) (g new : Gathered) (text : List ℕ) → with_work h g text ≡ Some new → GoesOn Journal g new text
unfolding with_work
goes_on_journal h g new text e =
    let p = map_some (with_entry g) (whole (entry_at (place_of h g) text)) new e in
    let is = (entry_takes (place_of h g) text (p.0, []) (whole_some (entry_at (place_of h g) text) p.0 p.1)).0 ∙ append-nil (entry_line p.0) in
    subst (λ (it : Gathered). GoesOn Journal g it text) p.2 (record {
      more = λ left. listed (codes "journal") entry_line g.journal p.0 text left is;
      keeps = λ kind of. keeps_journal kind g (g.journal ++ p.0 ∷ []) (blocked_behind g.blocked_entries p.0) (freed_behind g.freed_entries p.0) of;
    })

pub goes_on : (h : Heading) (section : Section) (g new : Gathered) (text : List ℕ) → with_item h section g text ≡ Some new → GoesOn section g new text
goes_on h FreeSteps g new text e = goes_on_freesteps h g new text e
goes_on h Steps g new text e = goes_on_steps h g new text e
goes_on h Word g new text e = goes_on_word h g new text e
goes_on h Blocked g new text e = goes_on_blocked h g new text e
goes_on h Freed g new text e = goes_on_freed h g new text e
goes_on h SplitLog g new text e = goes_on_splitlog g new text e
goes_on h EscapeLog g new text e = goes_on_escapelog g new text e
goes_on h LandLog g new text e = goes_on_landlog g new text e
goes_on h StuckLog g new text e = goes_on_stucklog g new text e
goes_on h Journal g new text e = goes_on_journal h g new text e
goes_on h Equal g new text e = absurd (no_some new e)
goes_on h StateA g new text e = absurd (no_some new e)
goes_on h StateB g new text e = absurd (no_some new e)
