-- Lines that are read one behind the other.
use Rattle.std.proofs.Common.{◌≡◌, ◌==◌, ◌-◌, ◌≤◌, ◌<◌, ◌^◌, ℕ, suc, Bool, true, false, not, cond, bytes_eq, Some, option_map, List, [], ◌∷◌, ◌++◌, length, map, codes, refl, sym, ap, subst, ◌∙◌, arith, append-nil, append_assoc}
use Rattle.std.specs.Prelude.{⊤}
use Rattle.std.specs.List.{flat_map, AllByRecursion}
use Rattle.std.proofs.lemmas.Bool.{le-leb, eqb-true}
use Rattle.rst_certificate.specs.Words.{line, counted}
use Rattle.rst_cert_lines.specs.Readers.{counted_at}
use Rattle.rst_cert_lines.specs.Reading.{Read}
use Rattle.rst_cert_lines.proofs.Binds.{both_true}
use Rattle.rst_cert_lines.proofs.LineLaws.{counted_again}
use Rattle.rst_cert_reader.specs.declared.heading.CertKind.{CertKind}
use Rattle.rst_cert_reader.specs.declared.heading.Heading.{Heading}
use Rattle.rst_cert_reader.specs.declared.gathered.Gathered.{Gathered}
use Rattle.rst_cert_reader.specs.declared.section.Section.{Section}
use Rattle.rst_cert_reader.specs.declared.stage.Stage.{Stage}
use Rattle.rst_cert_reader.specs.declared.stage.Stage.TheVariants.{Begin, Items}
use Rattle.rst_cert_reader.specs.Headings.{whole, at_most, number_in}
use Rattle.rst_cert_reader.specs.Sections.{with_item, begun_by}
use Rattle.rst_cert_reader.specs.Readings.{Reading, ReaderState, stage_behind, stage_with, taken, with_begun, with_more, next_number, line_fed, fed, fed_all}
use Rattle.rst_cert_laws.proofs.Breaks.{no_break, IsClear, clear_counted}

-- what was read behind lines, where so many stand before
abbrev pub reading_behind : Reading → ℕ → List (List ℕ) → Reading
reading_behind r n [] = r
reading_behind r n (l ∷ ls) = reading_behind (taken r.heading r.gathered r.stage (next_number n) l) (next_number n) ls

abbrev pub number_behind : ℕ → List (List ℕ) → ℕ
number_behind n [] = n
number_behind n (l ∷ ls) = number_behind (next_number n) ls

abbrev pub ends_behind : Bool → List (List ℕ) → Bool
ends_behind e [] = e
ends_behind e (l ∷ ls) = ends_behind (bytes_eq l (codes "end")) ls

abbrev pub at : Reading → ℕ → Bool → List ℕ → ReaderState
at r n e partial = record { reading = r; number = n; ends = e; partial = partial }

byte_fed : (x : Bool) (r : Reading) (n : ℕ) (e : Bool) (partial : List ℕ) (b : ℕ) → x ≡ (b == 10) → not x ≡ true → fed (at r n e partial) b ≡ at r n e (partial ++ b ∷ [])
byte_fed true r n e partial b is none = absurd (cc)
byte_fed false r n e partial b is none = rw (sym is) refl

-- a line is fed byte by byte
line_is_fed : (r : Reading) (n : ℕ) (e : Bool) (partial l rest : List ℕ) → IsClear l → fed_all (at r n e partial) (l ++ 10 ∷ rest) ≡ fed_all (line_fed (at r n e (partial ++ l))) rest
line_is_fed r n e partial [] rest h = ap (λ p. fed_all (line_fed (at r n e p)) rest) (sym (append-nil partial))
line_is_fed r n e partial (b ∷ l) rest h =
    let p = both_true (not (b == 10)) (no_break l) h in
    ap (λ s. fed_all s (l ++ 10 ∷ rest)) (byte_fed (b == 10) r n e partial b refl p.0)
    ∙ line_is_fed r n e (partial ++ b ∷ []) l rest p.1
    ∙ ap (λ q. fed_all (line_fed (at r n e q)) rest) (append_assoc partial (b ∷ []) l)

-- lines are fed one behind the other
pub lines_are_fed : (r : Reading) (n : ℕ) (e : Bool) (ls : List (List ℕ)) → AllByRecursion IsClear ls
    → fed_all (at r n e []) (flat_map line ls) ≡ at (reading_behind r n ls) (number_behind n ls) (ends_behind e ls) []
lines_are_fed r n e [] h = refl
lines_are_fed r n e (l ∷ ls) h =
    ap (fed_all (at r n e [])) (append_assoc l (10 ∷ []) (flat_map line ls))
    ∙ line_is_fed r n e [] l (flat_map line ls) h.0
    ∙ lines_are_fed (taken r.heading r.gathered r.stage (next_number n) l) (next_number n) (bytes_eq l (codes "end")) ls h.1

reads_both : (r : Reading) (n : ℕ) (front back : List (List ℕ)) → reading_behind r n (front ++ back) ≡ reading_behind (reading_behind r n front) (number_behind n front) back
reads_both r n [] back = refl
reads_both r n (l ∷ front) back = reads_both (taken r.heading r.gathered r.stage (next_number n) l) (next_number n) front back

pub ends_both : (e : Bool) (front back : List (List ℕ)) → ends_behind e (front ++ back) ≡ ends_behind (ends_behind e front) back
ends_both e [] back = refl
ends_both e (l ∷ front) back = ends_both (bytes_eq l (codes "end")) front back

clear_lines : (front back : List (List ℕ)) → AllByRecursion IsClear front → AllByRecursion IsClear back → AllByRecursion IsClear (front ++ back)
clear_lines [] back h k = k
clear_lines (l ∷ front) back h k = (h.0, clear_lines front back h.1 k)

-- what is read behind lines without a newline inside, whatever their numbers are
pub record Goes (old : Reading) (ls : List (List ℕ)) (new : Reading) : Type 0 where
  pub reads : (n : ℕ) → reading_behind old n ls ≡ new
  pub clear : AllByRecursion IsClear ls

abbrev pub stands : Heading → Gathered → Stage → Reading
stands h g stage = record { heading = h; gathered = g; stage = stage }

pub goes_none : (r : Reading) → Goes r [] r
goes_none r = record { reads = λ n. refl; clear = tt }

pub goes_step : (old mid new : Reading) (l : List ℕ) (ls : List (List ℕ)) → ((n : ℕ) → taken old.heading old.gathered old.stage n l ≡ mid) → IsClear l → Goes mid ls new → Goes old (l ∷ ls) new
goes_step old mid new l ls first clear rest = record {
  reads = λ n. ap (λ r. reading_behind r (next_number n) ls) (first (next_number n)) ∙ rest.reads (next_number n);
  clear = (clear, rest.clear);
}

pub goes_both : (old mid new : Reading) (front back : List (List ℕ)) → Goes old front mid → Goes mid back new → Goes old (front ++ back) new
goes_both old mid new front back first second = record {
  reads = λ n. reads_both old n front back ∙ ap (λ r. reading_behind r (number_behind n front) back) (first.reads n) ∙ second.reads (number_behind n front);
  clear = clear_lines front back first.clear second.clear;
}

-- a word and a number are read
pub number_again : (word : List ℕ) (most number : ℕ) → number ≤ most → number < 2 ^ 64 → number_in word most (counted word number) ≡ Some number
unfolding number_in
number_again word most number fits small =
    ap (λ (t : List ℕ). at_most most (whole (counted_at word t))) (sym (append-nil (counted word number)))
    ∙ ap (λ (r : Read ℕ). at_most most (whole r)) (counted_again word number [] small tt)
    ∙ rw (le-leb number most fits) refl

-- each of these fits behind those before it
abbrev pub EachBehind : {A : Type 0} → (List A → A → Type 0) → List A → List A → Type 0
EachBehind Fits before [] = ⊤
EachBehind Fits before (a ∷ items) = Fits before a × EachBehind Fits (before ++ a ∷ []) items

stage_more_by : (x : Bool) (kind : CertKind) (section : Section) (left : ℕ) → x ≡ (suc left == 0) → cond x (stage_behind kind section) (Items section (suc left)) ≡ Items section (suc left)
stage_more_by true kind section left e = let none : suc left ≡ 0 = eqb-true (suc left) 0 (sym e) in absurd (omega (arith, none))
stage_more_by false kind section left e = refl

stage_more : (kind : CertKind) (section : Section) (left : ℕ) → stage_with kind section (suc left) ≡ Items section (suc left)
stage_more kind section left = stage_more_by (suc left == 0) kind section left refl

items_go : {A : Type 0} (h : Heading) (section : Section) (show : A → List ℕ) (put : List A → Gathered) (Fits : List A → A → Type 0)
    → ((before : List A) (a : A) → Fits before a → with_item h section (put before) (show a) ≡ Some (put (before ++ a ∷ [])))
    → ((before : List A) (a : A) → Fits before a → IsClear (show a))
    → (before items : List A) → EachBehind Fits before items
    → Goes (stands h (put before) (stage_with h.kind section (length items))) (map show items) (stands h (put (before ++ items)) (stage_behind h.kind section))
items_go h section show put Fits each clear before [] fits =
    subst (λ all. Goes (stands h (put before) (stage_behind h.kind section)) [] (stands h (put all) (stage_behind h.kind section))) (sym (append-nil before))
    (goes_none (stands h (put before) (stage_behind h.kind section)))
items_go h section show put Fits each clear before (a ∷ items) fits =
    let left = length items in
    let one : suc left - 1 ≡ left = omega arith in
    let mid = stands h (put (before ++ a ∷ [])) (stage_with h.kind section left) in
    let rest = items_go h section show put Fits each clear (before ++ a ∷ []) items fits.1 in
    let all = subst (λ xs. Goes mid (map show items) (stands h (put xs) (stage_behind h.kind section))) (append_assoc before (a ∷ []) items) rest in
    subst (λ stage. Goes (stands h (put before) stage) (show a ∷ map show items) (stands h (put (before ++ a ∷ items)) (stage_behind h.kind section))) (sym (stage_more h.kind section left))
    (goes_step (stands h (put before) (Items section (suc left))) mid (stands h (put (before ++ a ∷ items)) (stage_behind h.kind section)) (show a) (map show items)
    (λ n. ap (with_more h section (suc left) n) (each before a fits.0) ∙ ap (λ k. stands h (put (before ++ a ∷ [])) (stage_with h.kind section k)) one)
    (clear before a fits.0) all)

-- a section of a number of lines is read
pub list_goes : {A : Type 0} (h : Heading) (section : Section) (word : List ℕ) (most : ℕ) (show : A → List ℕ) (g : Gathered) (put : List A → Gathered) (Fits : List A → A → Type 0)
    → ((l : List ℕ) → begun_by h section g l ≡ option_map (λ (count : ℕ). (put [], count)) (number_in word most l))
    → ((before : List A) (a : A) → Fits before a → with_item h section (put before) (show a) ≡ Some (put (before ++ a ∷ [])))
    → ((before : List A) (a : A) → Fits before a → IsClear (show a))
    → (items : List A) → length items ≤ most → length items < 2 ^ 64 → IsClear word → EachBehind Fits [] items
    → Goes (stands h g (Begin section)) (counted word (length items) ∷ map show items) (stands h (put items) (stage_behind h.kind section))
list_goes h section word most show g put Fits begins each clear items few small word_clear fits =
    goes_step (stands h g (Begin section)) (stands h (put []) (stage_with h.kind section (length items))) (stands h (put items) (stage_behind h.kind section)) (counted word (length items)) (map show items)
    (λ n. ap (with_begun h section n (counted word (length items))) (begins (counted word (length items)) ∙ ap (option_map (λ (count : ℕ). (put [], count))) (number_again word most (length items) few small)))
    (clear_counted word (length items) word_clear small)
    (items_go h section show put Fits each clear [] items fits)

-- a section of one line is read
pub line_goes : (h : Heading) (section : Section) (l : List ℕ) (g new : Gathered) → begun_by h section g l ≡ Some (new, 0) → IsClear l
    → Goes (stands h g (Begin section)) (l ∷ []) (stands h new (stage_behind h.kind section))
line_goes h section l g new is clear =
    goes_step (stands h g (Begin section)) (stands h new (stage_behind h.kind section)) (stands h new (stage_behind h.kind section)) l []
    (λ n. ap (with_begun h section n l) is) clear (goes_none (stands h new (stage_behind h.kind section)))
