-- A text that is read as a certificate is the text of that certificate.
use Rattle.std.proofs.Common.{◌≡◌, ◌==◌, ◌<◌, ◌+◌, ◌-◌, ℕ, zero, suc, Bool, true, false, ◌&&◌, bytes_eq, length, map, Option, None, Some, Result, Ok, Err, List, [], ◌∷◌, ◌++◌, codes, refl, sym, ap, subst, ◌∙◌, arith, append_assoc, append-nil, add-zero, if◌then◌else◌}
use Rattle.std.specs.List.{flat_map}
use Rattle.std.proofs.lemmas.Grind.{flat_map-append}
use Rattle.std.proofs.lemmas.Slice.Eq.{bytes_eq-Decides}
use Rattle.std.proofs.lemmas.Bool.{eqb-true}
use Rattle.rst_verdict.specs.declared.cert.Cert.{Cert}
use Rattle.rst_certificate.specs.Words.{line, counted}
use Rattle.rst_certificate.specs.CertText.{header_lines, part_lines, pattern_lines, sequence_lines, word_lines, blocked_lines, freed_lines, log_lines, pair_lines, equal_lines, step_line, free_step_line, blocked_line, freed_line, clause_line, entry_line, cert_lines, cert_text}
use Rattle.rst_cert_reader.specs.declared.heading.HeadLine.{HeadLine}
use Rattle.rst_cert_reader.specs.declared.heading.HeadLine.TheVariants.{Version, Form, Clock, Registers, Inputs, Outputs, Kind}
use Rattle.rst_cert_reader.specs.declared.heading.CertKind.{CertKind}
use Rattle.rst_cert_reader.specs.declared.heading.CertKind.TheVariants.{Known, Relation, Refuted, Never, Alignable, Unknown}
use Rattle.rst_cert_reader.specs.declared.heading.Heading.{Heading}
use Rattle.rst_cert_reader.specs.declared.gathered.Gathered.{Gathered}
use Rattle.rst_cert_reader.specs.declared.section.Section.{Section}
use Rattle.rst_cert_reader.specs.declared.section.Section.TheVariants.{FreeSteps, Steps, Word, Equal, StateA, StateB, Blocked, Freed, SplitLog, LandLog, EscapeLog, StuckLog, Journal}
use Rattle.rst_cert_reader.specs.declared.stage.Stage.{Stage}
use Rattle.rst_cert_reader.specs.declared.stage.Stage.TheVariants.{Head, Begin, Items, Endless, End, Closed, BadHead, Bad}
use Rattle.rst_cert_reader.specs.declared.reader.CertFault.{CertFault}
use Rattle.rst_cert_reader.specs.declared.reader.CertFault.TheVariants.{Cut}
use Rattle.rst_cert_reader.specs.Headings.{with_line}
use Rattle.rst_cert_reader.specs.Sections.{with_item, begun_by, is_clause, is_long_log}
use Rattle.rst_cert_reader.specs.Readings.{first_section, stage_behind, stage_behind_head, Reading, with_head, with_begun, with_more, bad_line, endless, taken, verdict_of, cert_from, ReaderState, start, next_number, line_fed, fed, fed_all, by_stage, cert_of}
use Rattle.rst_cert_reader.proofs.Written.{section_lines, lines_of, before, all_of, IsOf, FollowsOn, follows_on}
use Rattle.rst_cert_reader.proofs.Adding.{begins, goes_on}
use Rattle.rst_cert_reader.proofs.Headers.{head_before, head_all, head_behind, heads_on}

-- the text so far is these lines, and the line under way
abbrev pub IsText : List ℕ → List (List ℕ) → List ℕ → Type 0
IsText text lines partial = text ≡ flat_map line lines ++ partial

-- what the text so far is, by what is due
abbrev pub Holds : List ℕ → Heading → Gathered → Stage → List ℕ → Type 0
Holds text h g (Head due) partial = IsText text (head_before due h) partial
Holds text h g (Begin section) partial = IsText text (head_all h ++ lines_of (before h.kind section) g) partial × IsOf h.kind section
Holds text h g (Items section left) partial = IsText text (head_all h ++ (lines_of (before h.kind section) g ++ section_lines section g left)) partial × IsOf h.kind section × (0 < left)
Holds text h g End partial = IsText text (head_all h ++ lines_of (all_of h.kind) g) partial
Holds text h g Closed partial = IsText text (head_all h ++ (lines_of (all_of h.kind) g ++ codes "end" ∷ [])) partial
Holds text h g Endless partial = Unit {0}
Holds text h g BadHead partial = Unit {0}
Holds text h g (Bad number) partial = Unit {0}

-- a line that ends is one of the lines
line_ends : (text : List ℕ) (lines : List (List ℕ)) (partial : List ℕ) → IsText text lines partial → IsText (text ++ 10 ∷ []) (lines ++ partial ∷ []) []
line_ends text lines partial is =
    ap (λ (t : List ℕ). t ++ 10 ∷ []) is
    ∙ append_assoc (flat_map line lines) partial (10 ∷ [])
    ∙ ap (λ (t : List ℕ). flat_map line lines ++ t) (sym (append-nil (line partial)))
    ∙ sym (flat_map-append line lines (partial ∷ []))
    ∙ sym (append-nil (flat_map line (lines ++ partial ∷ [])))

byte_goes : (text : List ℕ) (lines : List (List ℕ)) (partial : List ℕ) (byte : ℕ) → IsText text lines partial → IsText (text ++ byte ∷ []) lines (partial ++ byte ∷ [])
byte_goes text lines partial byte is = ap (λ (t : List ℕ). t ++ byte ∷ []) is ∙ append_assoc (flat_map line lines) partial (byte ∷ [])

-- sections with one more
section_more : (sections : List Section) (section : Section) (g : Gathered) → lines_of (sections ++ section ∷ []) g ≡ lines_of sections g ++ section_lines section g 0
section_more sections section g =
    flat_map-append (λ (s : Section). section_lines s g 0) sections (section ∷ []) ∙ ap (λ (rest : List (List ℕ)). lines_of sections g ++ rest) (append-nil (section_lines section g 0))

-- behind all the lines of a section the next is due
behind_section : (text : List ℕ) (h : Heading) (g : Gathered) (sections : List Section) (stage : Stage) → FollowsOn h.kind sections stage
    → IsText text (head_all h ++ lines_of sections g) [] → Holds text h g stage []
behind_section text h g sections (Begin section) follows is =
    (subst (λ (s : List Section). IsText text (head_all h ++ lines_of s g) []) (sym follows.0) is, follows.1)
behind_section text h g sections End follows is = subst (λ (s : List Section). IsText text (head_all h ++ lines_of s g) []) (sym follows) is
behind_section text h g sections (Head due) follows is = absurd follows
behind_section text h g sections (Items section left) follows is = absurd follows
behind_section text h g sections Endless follows is = absurd follows
behind_section text h g sections Closed follows is = absurd follows
behind_section text h g sections BadHead follows is = absurd follows
behind_section text h g sections (Bad number) follows is = absurd follows

with_by : (x : Bool) (text : List ℕ) (h : Heading) (g : Gathered) (section : Section) (left : ℕ) → x ≡ (left == 0) → IsOf h.kind section
    → IsText text (head_all h ++ (lines_of (before h.kind section) g ++ section_lines section g left)) []
    → Holds text h g (if x then stage_behind h.kind section else Items section left) []
with_by true text h g section left e of is =
    let none = eqb-true left 0 (sym e) in
    let whole = subst (λ (n : ℕ). IsText text (head_all h ++ (lines_of (before h.kind section) g ++ section_lines section g n)) []) none is in
    let more = subst (λ (lines : List (List ℕ)). IsText text (head_all h ++ lines) []) (sym (section_more (before h.kind section) section g)) whole in
    behind_section text h g (before h.kind section ++ section ∷ []) (stage_behind h.kind section) (follows_on h.kind section of) more
with_by false text h g section zero e of is = absurd (let no : false ≡ true = e in cc)
with_by false text h g section (suc left) e of is = (is, of, omega arith)

-- where the first section begins
first_before : (kind : CertKind) → (before kind (first_section kind) ≡ []) × IsOf kind (first_section kind)
first_before Known = (refl, tt)
first_before Relation = (refl, tt)
first_before Refuted = (refl, tt)
first_before Never = (refl, tt)
first_before Alignable = (refl, tt)
first_before Unknown = (refl, tt)

head_stage : (text : List ℕ) (h : Heading) (g : Gathered) (due : HeadLine) → IsText text (head_behind due h) [] → Holds text h g (stage_behind_head due h.kind) []
head_stage text h g Version is = is
head_stage text h g Form is = is
head_stage text h g Clock is = is
head_stage text h g Registers is = is
head_stage text h g Inputs is = is
head_stage text h g Outputs is = is
head_stage text h g Kind is =
    let first = first_before h.kind in
    let none : head_all h ≡ head_all h ++ lines_of (before h.kind (first_section h.kind)) g =
    sym (ap (λ (s : List Section). head_all h ++ lines_of s g) first.0 ∙ append-nil (head_all h)) in
    (subst (λ (lines : List (List ℕ)). IsText text lines []) none is, first.1)

abbrev HoldsFor : List ℕ → Reading → Type 0
HoldsFor text r = Holds text r.heading r.gathered r.stage []

head_taken : (text : List ℕ) (h : Heading) (g : Gathered) (due : HeadLine) (partial : List ℕ) (read : Option Heading) → read ≡ with_line due h partial
    → IsText text (head_before due h) partial → HoldsFor (text ++ 10 ∷ []) (with_head due g read)
head_taken text h g due partial None e is = tt
head_taken text h g due partial (Some new) e is =
    head_stage (text ++ 10 ∷ []) new g due
    (subst (λ (lines : List (List ℕ)). IsText (text ++ 10 ∷ []) lines []) (sym (heads_on due h new partial (sym e))) (line_ends text (head_before due h) partial is))

endless_taken : (x : Bool) (text : List ℕ) (number : ℕ) → HoldsFor text (if x then endless else bad_line number)
endless_taken true text number = tt
endless_taken false text number = tt

first_taken : (text : List ℕ) (h : Heading) (g : Gathered) (section : Section) (number : ℕ) (partial : List ℕ) (read : Option (Gathered × ℕ)) → read ≡ begun_by h section g partial
    → IsOf h.kind section → IsText text (head_all h ++ lines_of (before h.kind section) g) partial → HoldsFor (text ++ 10 ∷ []) (with_begun h section number partial read)
first_taken text h g section number partial None e of is = endless_taken (is_long_log section partial) (text ++ 10 ∷ []) number
first_taken text h g section number partial (Some (new, count)) e of is =
    let says = begins h section g new count partial (sym e) in
    let lines = before h.kind section in
    let ended = line_ends text (head_all h ++ lines_of lines g) partial is in
    let same : (head_all h ++ lines_of lines g) ++ partial ∷ [] ≡ head_all h ++ (lines_of lines new ++ section_lines section new count) =
    append_assoc (head_all h) (lines_of lines g) (partial ∷ [])
    ∙ ap (λ (front : List (List ℕ)). head_all h ++ (front ++ partial ∷ [])) (sym (says.keeps h.kind of))
    ∙ ap (λ (back : List (List ℕ)). head_all h ++ (lines_of lines new ++ back)) (sym says.first) in
    with_by (count == 0) (text ++ 10 ∷ []) h new section count refl of (subst (λ (all : List (List ℕ)). IsText (text ++ 10 ∷ []) all []) same ended)

item_taken : (text : List ℕ) (h : Heading) (g : Gathered) (section : Section) (left number : ℕ) (partial : List ℕ) (read : Option Gathered) → read ≡ with_item h section g partial
    → IsOf h.kind section → 0 < left → IsText text (head_all h ++ (lines_of (before h.kind section) g ++ section_lines section g left)) partial
    → HoldsFor (text ++ 10 ∷ []) (with_more h section left number read)
item_taken text h g section left number partial None e of some is = tt
item_taken text h g section left number partial (Some new) e of some is =
    let says = goes_on h section g new partial (sym e) in
    let lines = before h.kind section in
    let one : left ≡ suc (left - 1) = omega (arith, some) in
    let ended = line_ends text (head_all h ++ (lines_of lines g ++ section_lines section g left)) partial is in
    let same : (head_all h ++ (lines_of lines g ++ section_lines section g left)) ++ partial ∷ [] ≡ head_all h ++ (lines_of lines new ++ section_lines section new (left - 1)) =
    append_assoc (head_all h) (lines_of lines g ++ section_lines section g left) (partial ∷ [])
    ∙ ap (λ (rest : List (List ℕ)). head_all h ++ rest) (append_assoc (lines_of lines g) (section_lines section g left) (partial ∷ []))
    ∙ ap (λ (n : ℕ). head_all h ++ (lines_of lines g ++ (section_lines section g n ++ partial ∷ []))) one
    ∙ ap (λ (back : List (List ℕ)). head_all h ++ (lines_of lines g ++ back)) (sym (says.more (left - 1)))
    ∙ ap (λ (front : List (List ℕ)). head_all h ++ (front ++ section_lines section new (left - 1))) (sym (says.keeps h.kind of)) in
    with_by (left - 1 == 0) (text ++ 10 ∷ []) h new section (left - 1) refl of (subst (λ (all : List (List ℕ)). IsText (text ++ 10 ∷ []) all []) same ended)

end_taken : (x : Bool) (text : List ℕ) (h : Heading) (g : Gathered) (number : ℕ) (partial : List ℕ) → x ≡ bytes_eq partial (codes "end") → IsText text (head_all h ++ lines_of (all_of h.kind) g) partial
    → HoldsFor (text ++ 10 ∷ []) (if x then record { heading = h; gathered = g; stage = Closed } else bad_line number)
end_taken true text h g number partial e is =
    let last = (bytes_eq-Decides partial (codes "end")).0 (sym e) in
    let same : (head_all h ++ lines_of (all_of h.kind) g) ++ partial ∷ [] ≡ head_all h ++ (lines_of (all_of h.kind) g ++ codes "end" ∷ []) =
    append_assoc (head_all h) (lines_of (all_of h.kind) g) (partial ∷ []) ∙ ap (λ (t : List ℕ). head_all h ++ (lines_of (all_of h.kind) g ++ t ∷ [])) last in
    subst (λ (all : List (List ℕ)). IsText (text ++ 10 ∷ []) all []) same (line_ends text (head_all h ++ lines_of (all_of h.kind) g) partial is)
end_taken false text h g number partial e is = tt

line_taken : (text : List ℕ) (h : Heading) (g : Gathered) (stage : Stage) (number : ℕ) (partial : List ℕ) → Holds text h g stage partial
    → HoldsFor (text ++ 10 ∷ []) (taken h g stage number partial)
line_taken text h g (Head due) number partial is = head_taken text h g due partial (with_line due h partial) refl is
line_taken text h g (Begin section) number partial is = first_taken text h g section number partial (begun_by h section g partial) refl is.1 is.0
line_taken text h g (Items section left) number partial is = item_taken text h g section left number partial (with_item h section g partial) refl is.1 is.2 is.0
line_taken text h g Endless number partial is = endless_taken (is_clause partial) (text ++ 10 ∷ []) number
line_taken text h g End number partial is = end_taken (bytes_eq partial (codes "end")) text h g number partial refl is
line_taken text h g Closed number partial is = tt
line_taken text h g BadHead number partial is = tt
line_taken text h g (Bad first) number partial is = tt

byte_held : (text : List ℕ) (h : Heading) (g : Gathered) (stage : Stage) (partial : List ℕ) (byte : ℕ) → Holds text h g stage partial → Holds (text ++ byte ∷ []) h g stage (partial ++ byte ∷ [])
byte_held text h g (Head due) partial byte is = byte_goes text (head_before due h) partial byte is
byte_held text h g (Begin section) partial byte is = (byte_goes text (head_all h ++ lines_of (before h.kind section) g) partial byte is.0, is.1)
byte_held text h g (Items section left) partial byte is =
    (byte_goes text (head_all h ++ (lines_of (before h.kind section) g ++ section_lines section g left)) partial byte is.0, is.1, is.2)
byte_held text h g End partial byte is = byte_goes text (head_all h ++ lines_of (all_of h.kind) g) partial byte is
byte_held text h g Closed partial byte is = byte_goes text (head_all h ++ (lines_of (all_of h.kind) g ++ codes "end" ∷ [])) partial byte is
byte_held text h g Endless partial byte is = tt
byte_held text h g BadHead partial byte is = tt
byte_held text h g (Bad number) partial byte is = tt

-- what holds of a reader behind a text
abbrev pub HoldsBehind : List ℕ → ReaderState → Type 0
HoldsBehind text s = Holds text s.reading.heading s.reading.gathered s.reading.stage s.partial

fed_by : (x : Bool) (text : List ℕ) (s : ReaderState) (byte : ℕ) → x ≡ (byte == 10) → HoldsBehind text s
    → HoldsBehind (text ++ byte ∷ []) (if x then line_fed s else record s { partial = s.partial ++ byte ∷ [] })
fed_by true text s byte e is =
    let ends = eqb-true byte 10 (sym e) in
    subst (λ (b : ℕ). HoldsBehind (text ++ b ∷ []) (line_fed s)) (sym ends) (line_taken text s.reading.heading s.reading.gathered s.reading.stage (next_number s.number) s.partial is)
fed_by false text s byte e is = byte_held text s.reading.heading s.reading.gathered s.reading.stage s.partial byte is

holds_all : (bytes text : List ℕ) (s : ReaderState) → HoldsBehind text s → HoldsBehind (text ++ bytes) (fed_all s bytes)
holds_all [] text s is = subst (λ (t : List ℕ). HoldsBehind t s) (sym (append-nil text)) is
holds_all (byte ∷ bytes) text s is =
    subst (λ (t : List ℕ). HoldsBehind t (fed_all (fed s byte) bytes)) (append_assoc text (byte ∷ []) bytes)
    (holds_all bytes (text ++ byte ∷ []) (fed s byte) (fed_by (byte == 10) text s byte refl is))

-- of a list all of whose lines stand, none is left
all_stand : {A : Type 0} (word : List ℕ) (show : A → List ℕ) (items : List A) → counted word (length items + 0) ∷ map show items ≡ counted word (length items) ∷ map show items
all_stand word show items = ap (λ (n : ℕ). counted word n ∷ map show items) (add-zero (length items))

abbrev Lines : Type 0
Lines = List (List ℕ)

relation_parts : (s e b l m : Lines) → s ++ (e ++ (b ++ (l ++ (m ++ [])))) ≡ s ++ e ++ b ++ l ++ m
relation_parts s e b l m = simp (append_assoc, append-nil)

refuted_parts : (s a b w : Lines) → s ++ (a ++ (b ++ (w ++ []))) ≡ s ++ (a ++ b) ++ w
refuted_parts s a b w = simp (append_assoc, append-nil)

never_parts : (a b c f l : Lines) → a ++ (b ++ (c ++ (f ++ (l ++ [])))) ≡ (a ++ b) ++ c ++ f ++ l
never_parts a b c f l = simp (append_assoc, append-nil)

alignable_parts : (s a b w c f l m : Lines) → s ++ (a ++ (b ++ (w ++ (c ++ (f ++ (l ++ (m ++ []))))))) ≡ s ++ (a ++ b) ++ w ++ c ++ f ++ l ++ m
alignable_parts s a b w c f l m = simp (append_assoc, append-nil)

unknown_parts : (e j : Lines) → e ++ (j ++ []) ≡ e ++ j
unknown_parts e j = simp append-nil

-- the sections of a kind are the parts of its verdict
parts_are : (kind : CertKind) (g : Gathered) → lines_of (all_of kind) g ≡ part_lines (verdict_of kind g)
parts_are Known g = append-nil (section_lines FreeSteps g 0) ∙ all_stand (codes "sequence") free_step_line g.seq
parts_are Relation g =
    relation_parts (section_lines FreeSteps g 0) (section_lines Equal g 0) (section_lines Blocked g 0) (section_lines SplitLog g 0) (section_lines LandLog g 0)
    ∙ ap (λ (x : Lines). x ++ equal_lines g.equal ++ section_lines Blocked g 0 ++ section_lines SplitLog g 0 ++ section_lines LandLog g 0) (all_stand (codes "sequence") free_step_line g.seq)
    ∙ ap (λ (x : Lines). pattern_lines g.seq ++ equal_lines g.equal ++ x ++ section_lines SplitLog g 0 ++ section_lines LandLog g 0) (all_stand (codes "blocked") blocked_line g.blocked)
    ∙ ap (λ (x : Lines). pattern_lines g.seq ++ equal_lines g.equal ++ blocked_lines g.blocked ++ x ++ section_lines LandLog g 0) (all_stand (codes "log split") clause_line g.first)
    ∙ ap (λ (x : Lines). pattern_lines g.seq ++ equal_lines g.equal ++ blocked_lines g.blocked ++ log_lines (codes "split") g.first ++ x) (all_stand (codes "log land") clause_line g.second)
parts_are Refuted g =
    refuted_parts (section_lines Steps g 0) (section_lines StateA g 0) (section_lines StateB g 0) (section_lines Word g 0)
    ∙ ap (λ (x : Lines). x ++ pair_lines g.a g.b ++ section_lines Word g 0) (all_stand (codes "sequence") step_line g.plain)
    ∙ ap (λ (x : Lines). sequence_lines g.plain ++ pair_lines g.a g.b ++ x) (all_stand (codes "word") step_line g.word)
parts_are Never g =
    never_parts (section_lines StateA g 0) (section_lines StateB g 0) (section_lines Blocked g 0) (section_lines Freed g 0) (section_lines EscapeLog g 0)
    ∙ ap (λ (x : Lines). pair_lines g.a g.b ++ x ++ section_lines Freed g 0 ++ section_lines EscapeLog g 0) (all_stand (codes "blocked") blocked_line g.blocked)
    ∙ ap (λ (x : Lines). pair_lines g.a g.b ++ blocked_lines g.blocked ++ x ++ section_lines EscapeLog g 0) (all_stand (codes "freed") freed_line g.freed)
    ∙ ap (λ (x : Lines). pair_lines g.a g.b ++ blocked_lines g.blocked ++ freed_lines g.freed ++ x) (all_stand (codes "log escape") clause_line g.first)
parts_are Alignable g =
    alignable_parts (section_lines Steps g 0) (section_lines StateA g 0) (section_lines StateB g 0) (section_lines Word g 0) (section_lines Blocked g 0) (section_lines Freed g 0) (section_lines SplitLog g 0) (section_lines StuckLog g 0)
    ∙ ap (λ (x : Lines). x ++ pair_lines g.a g.b ++ section_lines Word g 0 ++ section_lines Blocked g 0 ++ section_lines Freed g 0 ++ section_lines SplitLog g 0 ++ section_lines StuckLog g 0) (all_stand (codes "sequence") step_line g.plain)
    ∙ ap (λ (x : Lines). sequence_lines g.plain ++ pair_lines g.a g.b ++ x ++ section_lines Blocked g 0 ++ section_lines Freed g 0 ++ section_lines SplitLog g 0 ++ section_lines StuckLog g 0) (all_stand (codes "word") step_line g.word)
    ∙ ap (λ (x : Lines). sequence_lines g.plain ++ pair_lines g.a g.b ++ word_lines g.word ++ x ++ section_lines Freed g 0 ++ section_lines SplitLog g 0 ++ section_lines StuckLog g 0) (all_stand (codes "blocked") blocked_line g.blocked)
    ∙ ap (λ (x : Lines). sequence_lines g.plain ++ pair_lines g.a g.b ++ word_lines g.word ++ blocked_lines g.blocked ++ x ++ section_lines SplitLog g 0 ++ section_lines StuckLog g 0) (all_stand (codes "freed") freed_line g.freed)
    ∙ ap (λ (x : Lines). sequence_lines g.plain ++ pair_lines g.a g.b ++ word_lines g.word ++ blocked_lines g.blocked ++ freed_lines g.freed ++ x ++ section_lines StuckLog g 0) (all_stand (codes "log split") clause_line g.first)
    ∙ ap (λ (x : Lines). sequence_lines g.plain ++ pair_lines g.a g.b ++ word_lines g.word ++ blocked_lines g.blocked ++ freed_lines g.freed ++ log_lines (codes "split") g.first ++ x) (all_stand (codes "log stuck") clause_line g.second)
parts_are Unknown g =
    unknown_parts (section_lines Equal g 0) (section_lines Journal g 0)
    ∙ ap (λ (x : Lines). equal_lines g.equal ++ x) (all_stand (codes "journal") entry_line g.journal)

-- the header's lines are the certificate's
header_is : (kind : CertKind) (h : Heading) (g : Gathered) → head_all (record h { kind = kind }) ≡ header_lines (cert_from (record h { kind = kind }) g)
header_is Known h g = refl
header_is Relation h g = refl
header_is Refuted h g = refl
header_is Never h g = refl
header_is Alignable h g = refl
header_is Unknown h g = refl

-- the lines of the certificate are those that were read
whole_lines : (h : Heading) (g : Gathered) → head_all h ++ (lines_of (all_of h.kind) g ++ codes "end" ∷ []) ≡ cert_lines (cert_from h g)
whole_lines h g =
    sym (append_assoc (head_all h) (lines_of (all_of h.kind) g) (codes "end" ∷ []))
    ∙ ap (λ (x : Lines). x ++ lines_of (all_of h.kind) g ++ codes "end" ∷ []) (header_is h.kind h g)
    ∙ ap (λ (x : Lines). header_lines (cert_from h g) ++ x ++ codes "end" ∷ []) (parts_are h.kind g)

ok_is : Result Cert CertFault → Cert → Cert
ok_is (Ok cert) other = cert
ok_is (Err fault) other = other

abbrev ok : Cert → Result Cert CertFault
ok cert = Ok cert

the_ok : (x y : Cert) → ok x ≡ ok y → x ≡ y
unfolding ok_is
the_ok x y e = ap (λ (r : Result Cert CertFault). ok_is r x) e

no_ok : (fault : CertFault) (cert : Cert) → Err fault ≡ Ok cert → ⊥
no_ok fault cert e = cc

by_stage_ok : (text : List ℕ) (s : ReaderState) (stage : Stage) (cert : Cert) → by_stage s stage ≡ Ok cert → s.partial ≡ []
    → Holds text s.reading.heading s.reading.gathered stage s.partial → text ≡ cert_text cert
unfolding cert_text
by_stage_ok text s (Head due) cert e none is = absurd (no_ok _ cert e)
by_stage_ok text s (Begin section) cert e none is = absurd (no_ok _ cert e)
by_stage_ok text s (Items section left) cert e none is = absurd (no_ok _ cert e)
by_stage_ok text s Endless cert e none is = absurd (no_ok _ cert e)
by_stage_ok text s End cert e none is = absurd (no_ok _ cert e)
by_stage_ok text s BadHead cert e none is = absurd (no_ok _ cert e)
by_stage_ok text s (Bad number) cert e none is = absurd (no_ok _ cert e)
by_stage_ok text s Closed cert e none is =
    let h = s.reading.heading in
    let g = s.reading.gathered in
    let lines = head_all h ++ (lines_of (all_of h.kind) g ++ codes "end" ∷ []) in
    is ∙ ap (λ (t : List ℕ). flat_map line lines ++ t) none ∙ append-nil (flat_map line lines)
    ∙ ap (flat_map line) (whole_lines h g) ∙ ap (λ (c : Cert). flat_map line (cert_lines c)) (the_ok (cert_from h g) cert e)

finished_by : (ends empty : Bool) (text : List ℕ) (s : ReaderState) (cert : Cert) → empty ≡ bytes_eq s.partial [] → (if ends && empty then by_stage s s.reading.stage else Err Cut) ≡ Ok cert
    → HoldsBehind text s → text ≡ cert_text cert
finished_by false empty text s cert same e is = absurd (no_ok Cut cert e)
finished_by true false text s cert same e is = absurd (no_ok Cut cert e)
finished_by true true text s cert same e is = by_stage_ok text s s.reading.stage cert e ((bytes_eq-Decides s.partial []).0 (sym same)) is

-- a text that is read is that of the certificate that was read
pub found : (text : List ℕ) (cert : Cert) → cert_of text ≡ Ok cert → text ≡ cert_text cert
found text cert e =
    let s = fed_all start text in
    finished_by s.ends (bytes_eq s.partial []) text s cert refl e (holds_all text [] start refl)
