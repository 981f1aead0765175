-- The sections of a certificate are read as they are written.
use Rattle.std.proofs.Common.{◌≡◌, ◌==◌, ◌+◌, ◌-◌, ◌≤◌, ◌<◌, ◌^◌, ℕ, ℤ, Bool, true, false, ◌||◌, Some, option_map, List, [], ◌∷◌, ◌++◌, length, codes, refl, sym, ap, ap₂, subst, ◌∙◌, arith, append-nil, length-append}
use Rattle.std.specs.List.{list_all, AllByRecursion}
use Rattle.rst_value.specs.declared.tern.Tern.{Tern}
use Rattle.rst_value.specs.declared.tern.Tern.TheVariants as terns
use Rattle.rst_gate.specs.Patterns.{free_count, free_bits}
use Rattle.rst_pair.specs.declared.hop.Hop.{Hop}
use Rattle.rst_pair.specs.declared.journal.Entry.{Entry}
use Rattle.rst_pair.specs.declared.journal.Entry.TheVariants as entries
use Rattle.rst_verdict.specs.declared.verdict.Verdict.{Verdict}
use Rattle.rst_verdict.specs.declared.verdict.Verdict.TheVariants.{SignedKnown, SignedRelation, Refuted, Never, Alignable, Unknown}
use Rattle.rst_certificate.specs.Words.{bits_text}
use Rattle.rst_certificate.specs.CertText.{step_line, free_step_line, hop_text, blocked_line, freed_line, clause_line, entry_line, pattern_lines, sequence_lines, word_lines, blocked_lines, freed_lines, log_lines, journal_lines, equal_lines, pair_lines, part_lines, free_bits_of}
use Rattle.rst_cert_lines.specs.declared.lines.Shape.{Shape}
use Rattle.rst_cert_lines.specs.declared.lines.Place.{Place}
use Rattle.rst_cert_lines.specs.Reading.{Read}
use Rattle.rst_cert_lines.specs.Readers.{step_at, free_step_at, state_at, hop_line_at}
use Rattle.rst_cert_lines.specs.Fits.{IsLiteral, HopFits, EntryFits}
use Rattle.rst_cert_lines.proofs.LineLaws.{step_again, free_step_again, state_again}
use Rattle.rst_cert_lines.proofs.ClauseLaws.{clause_again}
use Rattle.rst_cert_lines.proofs.HopLaws.{hop_line_again, IsGoal, out_is_goal, in_is_goal}
use Rattle.rst_cert_lines.proofs.EntryLaws.{entry_again}
use Rattle.rst_cert_reader.specs.declared.heading.CertKind.{CertKind}
use Rattle.rst_cert_reader.specs.declared.heading.CertKind.TheVariants as kinds
use Rattle.rst_cert_reader.specs.declared.heading.Heading.{Heading}
use Rattle.rst_cert_reader.specs.declared.gathered.Gathered.{Gathered}
use Rattle.rst_cert_reader.specs.declared.section.Section.TheVariants.{FreeSteps, Steps, Word, Equal, StateA, StateB, Blocked, Freed, SplitLog, LandLog, EscapeLog, StuckLog, Journal}
use Rattle.rst_cert_reader.specs.declared.stage.Stage.TheVariants.{Begin, End}
use Rattle.rst_cert_reader.specs.Headings.{whole}
use Rattle.rst_cert_reader.specs.Sections.{is_known, free_where, shape_of, marked_behind, before_of, blocked_behind, freed_behind, place_of, with_entry, with_free_step, with_step, with_word, with_blocked, with_freed, with_first, with_second, with_work, with_equal, with_a, with_b}
use Rattle.rst_cert_reader.specs.Readings.{first_section, stage_behind, nothing, verdict_of}
use Rattle.rst_cert_laws.specs.Limits.{PatternFits, SequenceFits, WordFits, EachHopFits, HopsFit, LogFits, place_behind, EachEntryFits, first_place, JournalFits, EvidenceFits}
use Rattle.rst_cert_laws.proofs.Breaks.{clear_bits, clear_places, clear_clause, clear_hop, clear_entry}
use Rattle.rst_cert_laws.proofs.Lines.{Goes, goes_both, stands, EachBehind, list_goes, line_goes}

-- what fits alone fits behind others
each_all : {A : Type 0} (P : A → Type 0) (before items : List A) → AllByRecursion P items → EachBehind (λ front a. P a) before items
each_all P before [] h = tt
each_all P before (a ∷ items) h = (h.0, each_all P (before ++ a ∷ []) items h.1)

-- sequences

free_step_back : (inputs : ℕ) (free : Bool) (places : List Tern) → length places ≡ inputs → (free || list_all is_known places) ≡ true → free_where free (whole (free_step_at inputs (free_step_line places))) ≡ Some places
free_step_back inputs free places long known =
    ap (λ (t : List ℕ). free_where free (whole (free_step_at inputs t))) (sym (append-nil (free_step_line places)))
    ∙ ap (λ (n : ℕ). free_where free (whole (free_step_at n (free_step_line places ++ [])))) (sym long)
    ∙ ap (λ (r : Read (List Tern)). free_where free (whole r)) (free_step_again places [])
    ∙ rw known refl

step_back : (inputs : ℕ) (input : List Bool) → length input ≡ inputs → whole (step_at inputs (step_line input)) ≡ Some input
step_back inputs input long =
    ap (λ (t : List ℕ). whole (step_at inputs t)) (sym (append-nil (step_line input)))
    ∙ ap (λ (n : ℕ). whole (step_at n (step_line input ++ []))) (sym long)
    ∙ ap (λ (r : Read (List Bool)). whole r) (step_again input [])

free_step_each : (h : Heading) (g : Gathered) (before : List (List Tern)) (places : List Tern) → (length places ≡ h.inputs) × (((h.version == 2) || list_all is_known places) ≡ true)
    → with_free_step h (record g { seq = before }) (free_step_line places) ≡ Some (record g { seq = before ++ places ∷ [] })
unfolding with_free_step
free_step_each h g before places fits = ap (option_map (λ ps. record g { seq = before ++ ps ∷ [] })) (free_step_back h.inputs (h.version == 2) places fits.0 fits.1)

step_each : (h : Heading) (g : Gathered) (before : List (List Bool)) (input : List Bool) → length input ≡ h.inputs
    → with_step h (record g { plain = before }) (step_line input) ≡ Some (record g { plain = before ++ input ∷ [] })
unfolding with_step
step_each h g before input long = ap (option_map (λ bits. record g { plain = before ++ bits ∷ [] })) (step_back h.inputs input long)

word_each : (h : Heading) (g : Gathered) (before : List (List Bool)) (input : List Bool) → length input ≡ h.inputs
    → with_word h (record g { word = before }) (step_line input) ≡ Some (record g { word = before ++ input ∷ [] })
unfolding with_word
word_each h g before input long = ap (option_map (λ bits. record g { word = before ++ bits ∷ [] })) (step_back h.inputs input long)

all_known : (places : List Tern) → free_count places ≡ 0 → list_all is_known places ≡ true
all_known [] none = refl
all_known (terns.Zero ∷ places) none = all_known places (omega (arith, none))
all_known (terns.One ∷ places) none = all_known places (omega (arith, none))
all_known (terns.Unknown ∷ places) none = absurd (omega (arith, none))

free_or_known : (free : Bool) (places : List Tern) → (free ≡ false → free_count places ≡ 0) → (free || list_all is_known places) ≡ true
free_or_known true places none = refl
free_or_known false places none = all_known places (none refl)

pattern_each : (inputs : ℕ) (free : Bool) (seq : List (List Tern)) → (free ≡ false → free_bits seq ≡ 0) → AllByRecursion (λ places. length places ≡ inputs) seq
    → AllByRecursion (λ places. (length places ≡ inputs) × ((free || list_all is_known places) ≡ true)) seq
pattern_each inputs free [] none h = tt
pattern_each inputs free (places ∷ seq) none h = (
  (h.0, free_or_known free places (λ is. let sum = none is in omega (arith, sum))),
  pattern_each inputs free seq (λ is. let sum = none is in omega (arith, sum)) h.1,
)

pattern_goes : (h : Heading) (g : Gathered) (seq : List (List Tern)) → ((h.version == 2) ≡ false → free_bits seq ≡ 0) → PatternFits h.inputs seq
    → Goes (stands h g (Begin FreeSteps)) (pattern_lines seq) (stands h (record g { seq = seq }) (stage_behind h.kind FreeSteps))
pattern_goes h g seq none fits =
    let P : List Tern → Type 0 = λ places. (length places ≡ h.inputs) × (((h.version == 2) || list_all is_known places) ≡ true) in
    list_goes h FreeSteps (codes "sequence") 128 free_step_line g (λ xs. record g { seq = xs }) (λ before places. P places) (λ l. refl)
    (λ before places k. free_step_each h g before places k) (λ before places k. clear_places places) seq fits.0 (omega (arith, fits.0)) refl
    (each_all P [] seq (pattern_each h.inputs (h.version == 2) seq none fits.1))

sequence_goes : (h : Heading) (g : Gathered) (seq : List (List Bool)) → SequenceFits h.inputs seq
    → Goes (stands h g (Begin Steps)) (sequence_lines seq) (stands h (record g { plain = seq }) (stage_behind h.kind Steps))
sequence_goes h g seq fits =
    let P : List Bool → Type 0 = λ input. length input ≡ h.inputs in
    list_goes h Steps (codes "sequence") 128 step_line g (λ xs. record g { plain = xs }) (λ before input. P input) (λ l. refl)
    (λ before input k. step_each h g before input k) (λ before input k. clear_bits input) seq fits.0 (omega (arith, fits.0)) refl (each_all P [] seq fits.1)

word_goes : (h : Heading) (g : Gathered) (word : List (List Bool)) → WordFits h.inputs word
    → Goes (stands h g (Begin Word)) (word_lines word) (stands h (record g { word = word }) (stage_behind h.kind Word))
word_goes h g word fits =
    let P : List Bool → Type 0 = λ input. length input ≡ h.inputs in
    list_goes h Word (codes "word") 100000 step_line g (λ xs. record g { word = xs }) (λ before input. P input) (λ l. refl)
    (λ before input k. word_each h g before input k) (λ before input k. clear_bits input) word fits.0 (omega (arith, fits.0)) refl (each_all P [] word fits.1)

-- states

state_back : (word : List ℕ) (count : ℕ) (bits : List Bool) → length bits ≡ count → whole (state_at word count (word ++ 32 ∷ bits_text bits)) ≡ Some bits
state_back word count bits long =
    ap (λ (t : List ℕ). whole (state_at word count t)) (sym (append-nil (word ++ 32 ∷ bits_text bits)))
    ∙ ap (λ (n : ℕ). whole (state_at word n ((word ++ 32 ∷ bits_text bits) ++ []))) (sym long)
    ∙ ap (λ (r : Read (List Bool)). whole r) (state_again word bits [])

equal_goes : (h : Heading) (g : Gathered) (equal : List Bool) → length equal ≡ h.registers
    → Goes (stands h g (Begin Equal)) (equal_lines equal) (stands h (record g { equal = equal; marked = marked_behind 0 equal }) (stage_behind h.kind Equal))
unfolding with_equal
equal_goes h g equal long =
    line_goes h Equal (codes "equal " ++ bits_text equal) g (record g { equal = equal; marked = marked_behind 0 equal })
    (ap (option_map (λ bits. (record g { equal = bits; marked = marked_behind 0 bits }, 0))) (state_back (codes "equal") h.registers equal long)) (clear_bits equal)

a_goes : (h : Heading) (g : Gathered) (a : List Bool) → length a ≡ h.registers
    → Goes (stands h g (Begin StateA)) ((codes "a " ++ bits_text a) ∷ []) (stands h (record g { a = a }) (stage_behind h.kind StateA))
unfolding with_a
a_goes h g a long =
    line_goes h StateA (codes "a " ++ bits_text a) g (record g { a = a })
    (ap (option_map (λ bits. (record g { a = bits }, 0))) (state_back (codes "a") h.registers a long)) (clear_bits a)

b_goes : (h : Heading) (g : Gathered) (b : List Bool) → length b ≡ h.registers
    → Goes (stands h g (Begin StateB)) ((codes "b " ++ bits_text b) ∷ []) (stands h (record g { b = b }) (stage_behind h.kind StateB))
unfolding with_b
b_goes h g b long =
    line_goes h StateB (codes "b " ++ bits_text b) g (record g { b = b })
    (ap (option_map (λ bits. (record g { b = bits }, 0))) (state_back (codes "b") h.registers b long)) (clear_bits b)

-- hops

hop_back : (shape : Shape) (word : List ℕ) (before : ℕ) (hop : Hop) → IsGoal word → before ≤ 2 ^ 32 → HopFits shape before hop → whole (hop_line_at shape word before (codes "cube " ++ hop_text word hop)) ≡ Some hop
hop_back shape word before hop goal few fits =
    ap (λ (t : List ℕ). whole (hop_line_at shape word before t)) (sym (append-nil (codes "cube " ++ hop_text word hop)))
    ∙ ap (λ (r : Read Hop). whole r) (hop_line_again shape word before hop [] goal few fits tt)

few_before : {A : Type 0} (items : List A) → before_of items ≤ 2 ^ 32
few_before items = omega arith

blocked_each : (h : Heading) (g : Gathered) (before : List Hop) (hop : Hop) → HopFits (shape_of h) (before_of before) hop
    → with_blocked h (record g { blocked = before }) (blocked_line hop) ≡ Some (record g { blocked = before ++ hop ∷ [] })
unfolding with_blocked
blocked_each h g before hop fits =
    ap (option_map (λ it. record g { blocked = before ++ it ∷ [] })) (hop_back (shape_of h) (codes "out") (before_of before) hop out_is_goal (few_before before) fits)

freed_each : (h : Heading) (g : Gathered) (before : List Hop) (hop : Hop) → HopFits (shape_of h) (before_of before) hop
    → with_freed h (record g { freed = before }) (freed_line hop) ≡ Some (record g { freed = before ++ hop ∷ [] })
unfolding with_freed
freed_each h g before hop fits =
    ap (option_map (λ it. record g { freed = before ++ it ∷ [] })) (hop_back (shape_of h) (codes "in") (before_of before) hop in_is_goal (few_before before) fits)

hops_each : (shape : Shape) (n : ℕ) (before hops : List Hop) → n ≡ length before → n + length hops ≤ 100000 → EachHopFits shape n hops → EachBehind (λ front hop. HopFits shape (before_of front) hop) before hops
hops_each shape n before [] count few fits = tt
hops_each shape n before (hop ∷ hops) count few fits =
    let here : n ≡ before_of before = omega (arith, count, few) in
    let more : n + 1 ≡ length (before ++ hop ∷ []) = ap (λ k. k + 1) count ∙ sym (length-append before (hop ∷ [])) in
    let still : (n + 1) + length hops ≤ 100000 = omega (arith, few) in
    (subst (λ k. HopFits shape k hop) here fits.0, hops_each shape (n + 1) (before ++ hop ∷ []) hops more still fits.1)

blocked_goes : (h : Heading) (g : Gathered) (hops : List Hop) → HopsFit (shape_of h) hops
    → Goes (stands h g (Begin Blocked)) (blocked_lines hops) (stands h (record g { blocked = hops }) (stage_behind h.kind Blocked))
blocked_goes h g hops fits =
    list_goes h Blocked (codes "blocked") 100000 blocked_line g (λ xs. record g { blocked = xs }) (λ before hop. HopFits (shape_of h) (before_of before) hop) (λ l. refl)
    (λ before hop k. blocked_each h g before hop k) (λ before hop k. clear_hop (shape_of h) (codes "out") (before_of before) hop refl (few_before before) k)
    hops fits.0 (omega (arith, fits.0)) refl (hops_each (shape_of h) 0 [] hops refl (omega (arith, fits.0)) fits.1)

freed_goes : (h : Heading) (g : Gathered) (hops : List Hop) → HopsFit (shape_of h) hops
    → Goes (stands h g (Begin Freed)) (freed_lines hops) (stands h (record g { freed = hops }) (stage_behind h.kind Freed))
freed_goes h g hops fits =
    list_goes h Freed (codes "freed") 100000 freed_line g (λ xs. record g { freed = xs }) (λ before hop. HopFits (shape_of h) (before_of before) hop) (λ l. refl)
    (λ before hop k. freed_each h g before hop k) (λ before hop k. clear_hop (shape_of h) (codes "in") (before_of before) hop refl (few_before before) k)
    hops fits.0 (omega (arith, fits.0)) refl (hops_each (shape_of h) 0 [] hops refl (omega (arith, fits.0)) fits.1)

-- logs

first_each : (g : Gathered) (before : List (List ℤ)) (clause : List ℤ) → AllByRecursion IsLiteral clause → with_first (record g { first = before }) (clause_line clause) ≡ Some (record g { first = before ++ clause ∷ [] })
unfolding with_first
first_each g before clause fits = ap (λ (r : Read (List ℤ)). option_map (λ it. record g { first = before ++ it ∷ [] }) (whole r)) (clause_again clause fits)

second_each : (g : Gathered) (before : List (List ℤ)) (clause : List ℤ) → AllByRecursion IsLiteral clause → with_second (record g { second = before }) (clause_line clause) ≡ Some (record g { second = before ++ clause ∷ [] })
unfolding with_second
second_each g before clause fits = ap (λ (r : Read (List ℤ)). option_map (λ it. record g { second = before ++ it ∷ [] }) (whole r)) (clause_again clause fits)

few_clauses : (log : List (List ℤ)) → length log < 2 ^ 64 → length log ≤ 2 ^ 64 - 1
few_clauses log few = omega (arith, few)

split_goes : (h : Heading) (g : Gathered) (log : List (List ℤ)) → LogFits log → Goes (stands h g (Begin SplitLog)) (log_lines (codes "split") log) (stands h (record g { first = log }) (stage_behind h.kind SplitLog))
split_goes h g log fits =
    list_goes h SplitLog (codes "log split") (2 ^ 64 - 1) clause_line g (λ xs. record g { first = xs }) (λ before clause. AllByRecursion IsLiteral clause) (λ l. refl)
    (λ before clause k. first_each g before clause k) (λ before clause k. clear_clause clause k) log (few_clauses log fits.0) fits.0 refl (each_all (AllByRecursion IsLiteral) [] log fits.1)

escape_goes : (h : Heading) (g : Gathered) (log : List (List ℤ)) → LogFits log → Goes (stands h g (Begin EscapeLog)) (log_lines (codes "escape") log) (stands h (record g { first = log }) (stage_behind h.kind EscapeLog))
escape_goes h g log fits =
    list_goes h EscapeLog (codes "log escape") (2 ^ 64 - 1) clause_line g (λ xs. record g { first = xs }) (λ before clause. AllByRecursion IsLiteral clause) (λ l. refl)
    (λ before clause k. first_each g before clause k) (λ before clause k. clear_clause clause k) log (few_clauses log fits.0) fits.0 refl (each_all (AllByRecursion IsLiteral) [] log fits.1)

land_goes : (h : Heading) (g : Gathered) (log : List (List ℤ)) → LogFits log → Goes (stands h g (Begin LandLog)) (log_lines (codes "land") log) (stands h (record g { second = log }) (stage_behind h.kind LandLog))
land_goes h g log fits =
    list_goes h LandLog (codes "log land") (2 ^ 64 - 1) clause_line g (λ xs. record g { second = xs }) (λ before clause. AllByRecursion IsLiteral clause) (λ l. refl)
    (λ before clause k. second_each g before clause k) (λ before clause k. clear_clause clause k) log (few_clauses log fits.0) fits.0 refl (each_all (AllByRecursion IsLiteral) [] log fits.1)

stuck_goes : (h : Heading) (g : Gathered) (log : List (List ℤ)) → LogFits log → Goes (stands h g (Begin StuckLog)) (log_lines (codes "stuck") log) (stands h (record g { second = log }) (stage_behind h.kind StuckLog))
stuck_goes h g log fits =
    list_goes h StuckLog (codes "log stuck") (2 ^ 64 - 1) clause_line g (λ xs. record g { second = xs }) (λ before clause. AllByRecursion IsLiteral clause) (λ l. refl)
    (λ before clause k. second_each g before clause k) (λ before clause k. clear_clause clause k) log (few_clauses log fits.0) fits.0 refl (each_all (AllByRecursion IsLiteral) [] log fits.1)

-- the journal

abbrev blocked_count : ℕ → List Entry → ℕ
blocked_count n [] = n
blocked_count n (entry ∷ journal) = blocked_count (blocked_behind n entry) journal

abbrev freed_count : ℕ → List Entry → ℕ
freed_count n [] = n
freed_count n (entry ∷ journal) = freed_count (freed_behind n entry) journal

blocked_last : (n : ℕ) (journal : List Entry) (entry : Entry) → blocked_count n (journal ++ entry ∷ []) ≡ blocked_behind (blocked_count n journal) entry
blocked_last n [] entry = refl
blocked_last n (first ∷ journal) entry = blocked_last (blocked_behind n first) journal entry

freed_last : (n : ℕ) (journal : List Entry) (entry : Entry) → freed_count n (journal ++ entry ∷ []) ≡ freed_behind (freed_count n journal) entry
freed_last n [] entry = refl
freed_last n (first ∷ journal) entry = freed_last (freed_behind n first) journal entry

blocked_few : (n : ℕ) (entry : Entry) → n ≤ 2 ^ 32 → blocked_behind n entry ≤ 2 ^ 32
blocked_few n (entries.Candidate input level) few = few
blocked_few n (entries.Conflict kind cube) few = few
blocked_few n (entries.Blocked hop pair) few = omega arith
blocked_few n (entries.Freed hop pair) few = few
blocked_few n (entries.Built a b) few = few

freed_few : (n : ℕ) (entry : Entry) → n ≤ 2 ^ 32 → freed_behind n entry ≤ 2 ^ 32
freed_few n (entries.Candidate input level) few = few
freed_few n (entries.Conflict kind cube) few = few
freed_few n (entries.Blocked hop pair) few = few
freed_few n (entries.Freed hop pair) few = omega arith
freed_few n (entries.Built a b) few = few

blocked_all_few : (n : ℕ) (journal : List Entry) → n ≤ 2 ^ 32 → blocked_count n journal ≤ 2 ^ 32
blocked_all_few n [] few = few
blocked_all_few n (entry ∷ journal) few = blocked_all_few (blocked_behind n entry) journal (blocked_few n entry few)

freed_all_few : (n : ℕ) (journal : List Entry) → n ≤ 2 ^ 32 → freed_count n journal ≤ 2 ^ 32
freed_all_few n [] few = few
freed_all_few n (entry ∷ journal) few = freed_all_few (freed_behind n entry) journal (freed_few n entry few)

-- what was gathered with a journal
abbrev with_journal : Gathered → List Entry → Gathered
with_journal g journal = record g { journal = journal; blocked_entries = blocked_count 0 journal; freed_entries = freed_count 0 journal }

work_each : (h : Heading) (g : Gathered) (before : List Entry) (entry : Entry) → EntryFits (place_of h (with_journal g before)) entry
    → with_work h (with_journal g before) (entry_line entry) ≡ Some (with_journal g (before ++ entry ∷ []))
unfolding with_work
work_each h g before entry fits =
    ap (λ (r : Read Entry). option_map (with_entry (with_journal g before)) (whole r))
    (entry_again (place_of h (with_journal g before)) entry (blocked_all_few 0 before (omega arith)) (freed_all_few 0 before (omega arith)) fits)
    ∙ ap₂ (λ (b f : ℕ). Some (record g { journal = before ++ entry ∷ []; blocked_entries = b; freed_entries = f })) (sym (blocked_last 0 before entry)) (sym (freed_last 0 before entry))

works_each : (h : Heading) (g : Gathered) (before journal : List Entry) → EachEntryFits (place_of h (with_journal g before)) journal → EachBehind (λ front entry. EntryFits (place_of h (with_journal g front)) entry) before journal
works_each h g before [] fits = tt
works_each h g before (entry ∷ journal) fits =
    let P : Place = place_of h (with_journal g before) in
    let same : place_behind P entry ≡ place_of h (with_journal g (before ++ entry ∷ [])) =
    ap₂ (λ (b f : ℕ). record P { blocked = b; freed = f }) (sym (blocked_last 0 before entry)) (sym (freed_last 0 before entry)) in
    (fits.0, works_each h g (before ++ entry ∷ []) journal (subst (λ place. EachEntryFits place journal) same fits.1))

journal_goes : (h : Heading) (g : Gathered) (journal : List Entry) → JournalFits (first_place (shape_of h) g.marked (h.version == 2)) journal
    → Goes (stands h g (Begin Journal)) (journal_lines journal) (stands h (with_journal g journal) (stage_behind h.kind Journal))
journal_goes h g journal fits =
    list_goes h Journal (codes "journal") 100000 entry_line g (with_journal g) (λ before entry. EntryFits (place_of h (with_journal g before)) entry) (λ l. refl)
    (λ before entry k. work_each h g before entry k)
    (λ before entry k. clear_entry (place_of h (with_journal g before)) entry (blocked_all_few 0 before (omega arith)) (freed_all_few 0 before (omega arith)) k)
    journal fits.0 (omega (arith, fits.0)) refl (works_each h g [] journal fits.1)

-- verdicts

abbrev pub kind_of : Verdict → CertKind
kind_of (SignedKnown seq) = kinds.Known
kind_of (SignedRelation seq equal blocked split land) = kinds.Relation
kind_of (Refuted seq a b word) = kinds.Refuted
kind_of (Never a b blocked freed escape) = kinds.Never
kind_of (Alignable seq a b word blocked freed split stuck) = kinds.Alignable
kind_of (Unknown equal journal) = kinds.Unknown

-- the evidence is read, and is the verdict's
pub record PartsGo (h : Heading) (verdict : Verdict) : Type 0 where
  pub gathered : Gathered
  pub goes : Goes (stands h nothing (Begin (first_section h.kind))) (part_lines verdict) (stands h gathered End)
  pub is : verdict_of h.kind gathered ≡ verdict

pub parts_go : (h : Heading) (verdict : Verdict) → ((h.version == 2) ≡ false → free_bits_of verdict ≡ 0) → EvidenceFits (shape_of h) (h.version == 2) verdict → PartsGo (record h { kind = kind_of verdict }) verdict
parts_go h (SignedKnown seq) none fits =
    let k : Heading = record h { kind = kinds.Known } in
    record {
      gathered = record nothing { seq = seq };
      goes = pattern_goes k nothing seq none fits;
      is = refl;
    }
parts_go h (SignedRelation seq equal blocked split land) none fits =
    let k : Heading = record h { kind = kinds.Relation } in
    let g1 : Gathered = record nothing { seq = seq } in
    let g2 : Gathered = record g1 { equal = equal; marked = marked_behind 0 equal } in
    let g3 : Gathered = record g2 { blocked = blocked } in
    let g4 : Gathered = record g3 { first = split } in
    record {
      gathered = record g4 { second = land };
      goes = goes_both _ (stands k g4 (Begin LandLog)) _ _ (log_lines (codes "land") land)
          (goes_both _ (stands k g3 (Begin SplitLog)) _ _ (log_lines (codes "split") split)
          (goes_both _ (stands k g2 (Begin Blocked)) _ _ (blocked_lines blocked)
          (goes_both _ (stands k g1 (Begin Equal)) _ (pattern_lines seq) (equal_lines equal) (pattern_goes k nothing seq none fits.0) (equal_goes k g1 equal fits.1))
          (blocked_goes k g2 blocked fits.2)) (split_goes k g3 split fits.3)) (land_goes k g4 land fits.4);
      is = refl;
    }
parts_go h (Refuted seq a b word) none fits =
    let k : Heading = record h { kind = kinds.Refuted } in
    let g1 : Gathered = record nothing { plain = seq } in
    let g2 : Gathered = record g1 { a = a } in
    let g3 : Gathered = record g2 { b = b } in
    record {
      gathered = record g3 { word = word };
      goes = goes_both _ (stands k g3 (Begin Word)) _ _ (word_lines word)
          (goes_both _ (stands k g1 (Begin StateA)) _ (sequence_lines seq) (pair_lines a b) (sequence_goes k nothing seq fits.0)
          (goes_both _ (stands k g2 (Begin StateB)) _ ((codes "a " ++ bits_text a) ∷ []) ((codes "b " ++ bits_text b) ∷ []) (a_goes k g1 a fits.1) (b_goes k g2 b fits.2)))
          (word_goes k g3 word fits.3);
      is = refl;
    }
parts_go h (Never a b blocked freed escape) none fits =
    let k : Heading = record h { kind = kinds.Never } in
    let g1 : Gathered = record nothing { a = a } in
    let g2 : Gathered = record g1 { b = b } in
    let g3 : Gathered = record g2 { blocked = blocked } in
    let g4 : Gathered = record g3 { freed = freed } in
    record {
      gathered = record g4 { first = escape };
      goes = goes_both _ (stands k g4 (Begin EscapeLog)) _ _ (log_lines (codes "escape") escape)
          (goes_both _ (stands k g3 (Begin Freed)) _ _ (freed_lines freed)
          (goes_both _ (stands k g2 (Begin Blocked)) _ (pair_lines a b) (blocked_lines blocked)
          (goes_both _ (stands k g1 (Begin StateB)) _ ((codes "a " ++ bits_text a) ∷ []) ((codes "b " ++ bits_text b) ∷ []) (a_goes k nothing a fits.0) (b_goes k g1 b fits.1))
          (blocked_goes k g2 blocked fits.2)) (freed_goes k g3 freed fits.3)) (escape_goes k g4 escape fits.4);
      is = refl;
    }
parts_go h (Alignable seq a b word blocked freed split stuck) none fits =
    let k : Heading = record h { kind = kinds.Alignable } in
    let g1 : Gathered = record nothing { plain = seq } in
    let g2 : Gathered = record g1 { a = a } in
    let g3 : Gathered = record g2 { b = b } in
    let g4 : Gathered = record g3 { word = word } in
    let g5 : Gathered = record g4 { blocked = blocked } in
    let g6 : Gathered = record g5 { freed = freed } in
    let g7 : Gathered = record g6 { first = split } in
    record {
      gathered = record g7 { second = stuck };
      goes = goes_both _ (stands k g7 (Begin StuckLog)) _ _ (log_lines (codes "stuck") stuck)
          (goes_both _ (stands k g6 (Begin SplitLog)) _ _ (log_lines (codes "split") split)
          (goes_both _ (stands k g5 (Begin Freed)) _ _ (freed_lines freed)
          (goes_both _ (stands k g4 (Begin Blocked)) _ _ (blocked_lines blocked)
          (goes_both _ (stands k g3 (Begin Word)) _ _ (word_lines word)
          (goes_both _ (stands k g1 (Begin StateA)) _ (sequence_lines seq) (pair_lines a b) (sequence_goes k nothing seq fits.0)
          (goes_both _ (stands k g2 (Begin StateB)) _ ((codes "a " ++ bits_text a) ∷ []) ((codes "b " ++ bits_text b) ∷ []) (a_goes k g1 a fits.1) (b_goes k g2 b fits.2)))
          (word_goes k g3 word fits.3)) (blocked_goes k g4 blocked fits.4)) (freed_goes k g5 freed fits.5)) (split_goes k g6 split fits.6)) (stuck_goes k g7 stuck fits.7);
      is = refl;
    }
parts_go h (Unknown equal journal) none fits =
    let k : Heading = record h { kind = kinds.Unknown } in
    let g1 : Gathered = record nothing { equal = equal; marked = marked_behind 0 equal } in
    record {
      gathered = with_journal g1 journal;
      goes = goes_both _ (stands k g1 (Begin Journal)) _ (equal_lines equal) _ (equal_goes k nothing equal fits.0) (journal_goes k g1 journal fits.1);
      is = refl;
    }
