-- Lines have no newline inside.
use Rattle.std.proofs.Common.{◌≡◌, ◌==◌, ◌≤◌, ◌<◌, ◌^◌, ℕ, ℤ, pos, negsuc, suc, Bool, true, false, not, ◌&&◌, Option, None, Some, List, [], ◌∷◌, ◌++◌, map, codes, refl, sym, subst, arith}
use Rattle.std.specs.List.{list_all, flat_map, AllByRecursion}
use Rattle.std.specs.Fmt.{decimal, signed_decimal}
use Rattle.std.specs.Str.Parse.{AllDigits}
use Rattle.std.proofs.lemmas.Fmt.{decimal_is_IsNumeral}
use Rattle.std.proofs.lemmas.Bool.{eqb-true}
use Rattle.std.proofs.lemmas.Str.Parse.{digit_from_value}
use Rattle.rst_lex.specs.Bytes.{is_name_start, is_name_byte}
use Rattle.rst_lex.specs.Words.{is_identifier, is_keyword, is_name}
use Rattle.rst_value.specs.declared.tern.Tern.{Tern}
use Rattle.rst_value.specs.declared.tern.Tern.TheVariants.{Zero, One, Unknown}
use Rattle.rst_pair.specs.declared.hop.Hop.{Hop}
use Rattle.rst_pair.specs.declared.query.Kind.{Kind}
use Rattle.rst_pair.specs.declared.query.Kind.TheVariants as queries
use Rattle.rst_pair.specs.declared.journal.Entry.{Entry}
use Rattle.rst_pair.specs.declared.journal.Entry.TheVariants.{Candidate, Conflict, Blocked, Freed, Built}
use Rattle.rst_certificate.specs.Words.{counted, digit, bits_text, place_digit, cube_text, literal_text}
use Rattle.rst_certificate.specs.CertText.{target_text, hop_text, clause_line, query_word, entry_line}
use Rattle.rst_cert_lines.specs.declared.lines.Shape.{Shape}
use Rattle.rst_cert_lines.specs.declared.lines.Place.{Place}
use Rattle.rst_cert_lines.specs.Fits.{IsLiteral, IsEarlier, HopFits, EntryFits}
use Rattle.rst_cert_lines.proofs.Binds.{both_true}

abbrev pub no_break : List ℕ → Bool
no_break [] = true
no_break (b ∷ bs) = not (b == 10) && no_break bs

abbrev pub IsClear : List ℕ → Type 0
IsClear bytes = no_break bytes ≡ true

pub clear_both : (front back : List ℕ) → IsClear front → IsClear back → IsClear (front ++ back)
clear_both [] back h k = k
clear_both (b ∷ front) back h k =
    let p = both_true (not (b == 10)) (no_break front) h in
    rw p.0 (clear_both front back p.1 k)

clear_digit_by : (x : Bool) (c : ℕ) → x ≡ (c == 10) → 48 ≤ c → not x ≡ true
clear_digit_by true c e high = let is = eqb-true c 10 (sym e) in absurd (omega (arith, high, is))
clear_digit_by false c e high = refl

clear_digits : (digits : List ℕ) → AllDigits 10 digits → IsClear digits
clear_digits [] h = refl
clear_digits (c ∷ digits) h = rw (clear_digit_by (c == 10) c refl (digit_from_value c h.0).0) (clear_digits digits h.1)

pub clear_number : (number : ℕ) → number < 2 ^ 64 → IsClear (decimal number)
clear_number number small = clear_digits (decimal number) (decimal_is_IsNumeral number small).0.1

pub clear_counted : (word : List ℕ) (number : ℕ) → IsClear word → number < 2 ^ 64 → IsClear (counted word number)
clear_counted word number h small = clear_both word (32 ∷ decimal number) h (clear_number number small)

clear_bit : (bit : Bool) → not (digit bit == 10) ≡ true
clear_bit true = refl
clear_bit false = refl

pub clear_bits : (bits : List Bool) → IsClear (map digit bits)
clear_bits [] = refl
clear_bits (bit ∷ bits) = rw (clear_bit bit) (clear_bits bits)

clear_place : (place : Tern) → not (place_digit place == 10) ≡ true
clear_place Zero = refl
clear_place One = refl
clear_place Unknown = refl

pub clear_places : (places : List Tern) → IsClear (map place_digit places)
clear_places [] = refl
clear_places (place ∷ places) = rw (clear_place place) (clear_places places)

clear_signed : (literal : ℤ) → IsLiteral literal → IsClear (signed_decimal literal)
clear_signed (pos n) h = clear_number n (omega (arith, h.1))
clear_signed (negsuc n) h = clear_number (suc n) (omega (arith, h))

clear_literals : (literals : List ℤ) → AllByRecursion IsLiteral literals → IsClear (flat_map literal_text literals)
clear_literals [] h = refl
clear_literals (literal ∷ literals) h =
    clear_both (literal_text literal) (flat_map literal_text literals) (clear_both (signed_decimal literal) (32 ∷ []) (clear_signed literal h.0) refl) (clear_literals literals h.1)

pub clear_clause : (clause : List ℤ) → AllByRecursion IsLiteral clause → IsClear (clause_line clause)
clear_clause clause h = clear_both (flat_map literal_text clause) (48 ∷ []) (clear_literals clause h) refl

pub clear_state : (word : List ℕ) (bits : List Bool) → IsClear word → IsClear (word ++ bits_text bits)
clear_state word bits h = clear_both word (bits_text bits) h (clear_bits bits)

clear_target : (word : List ℕ) (before : ℕ) (next : Option ℕ) → IsClear word → before ≤ 2 ^ 32 → IsEarlier before next → IsClear (target_text word next)
clear_target word before None h few fits = h
clear_target word before (Some next) h few fits = clear_number next (omega (arith, few, fits))

pub clear_hop : (shape : Shape) (word : List ℕ) (before : ℕ) (hop : Hop) → IsClear word → before ≤ 2 ^ 32 → HopFits shape before hop → IsClear (hop_text word hop)
clear_hop shape word before hop h few fits =
    let via = clear_both (cube_text hop.cube) (codes " via ") (clear_places hop.cube) refl in
    let input = clear_both (cube_text hop.cube ++ codes " via ") (bits_text hop.input) via (clear_bits hop.input) in
    let space = clear_both (cube_text hop.cube ++ codes " via " ++ bits_text hop.input) (codes " ") input refl in
    clear_both (cube_text hop.cube ++ codes " via " ++ bits_text hop.input ++ codes " ") (target_text word hop.next) space (clear_target word before hop.next h few fits.next)

clear_query : (kind : Kind) → IsClear (query_word kind)
clear_query queries.Split = refl
clear_query queries.Land = refl
clear_query queries.Escape = refl
clear_query queries.Stuck = refl

clear_pair : (text : List ℕ) (pair : List Bool) → IsClear text → IsClear (text ++ codes " pair " ++ bits_text pair)
clear_pair text pair h = clear_both (text ++ codes " pair ") (bits_text pair) (clear_both text (codes " pair ") h refl) (clear_bits pair)

clear_level : (level : Bool) → IsClear (32 ∷ digit level ∷ [])
clear_level true = refl
clear_level false = refl

pub clear_entry : (place : Place) (entry : Entry) → place.blocked ≤ 2 ^ 32 → place.freed ≤ 2 ^ 32 → EntryFits place entry → IsClear (entry_line entry)
clear_entry place (Candidate input level) few_blocked few_freed fits =
    clear_both (counted (codes "candidate") input) (32 ∷ digit level ∷ []) (clear_counted (codes "candidate") input refl (omega (arith, fits))) (clear_level level)
clear_entry place (Conflict kind cube) few_blocked few_freed fits =
    clear_both (codes "conflict " ++ query_word kind ++ codes " ") (cube_text cube) (clear_both (codes "conflict " ++ query_word kind) (codes " ") (clear_query kind) refl) (clear_places cube)
clear_entry place (Blocked hop pair) few_blocked few_freed fits =
    clear_pair (codes "blocked " ++ hop_text (codes "out") hop) pair (clear_hop place.shape (codes "out") place.blocked hop refl few_blocked fits.0)
clear_entry place (Freed hop pair) few_blocked few_freed fits =
    clear_pair (codes "freed " ++ hop_text (codes "in") hop) pair (clear_hop place.shape (codes "in") place.freed hop refl few_freed fits.0)
clear_entry place (Built a b) few_blocked few_freed fits =
    clear_both (codes "built " ++ bits_text a ++ codes " ") (bits_text b) (clear_both (codes "built " ++ bits_text a) (codes " ") (clear_bits a) refl) (clear_bits b)

clear_name_by : (x : Bool) (b : ℕ) → x ≡ (b == 10) → is_name_byte b ≡ true → not x ≡ true
clear_name_by true b e is = let ten = eqb-true b 10 (sym e) in let none : is_name_byte 10 ≡ true = subst (λ c. is_name_byte c ≡ true) ten is in absurd (cc)
clear_name_by false b e is = refl

clear_names : (bytes : List ℕ) → list_all is_name_byte bytes ≡ true → IsClear bytes
clear_names [] h = refl
clear_names (b ∷ bytes) h = let p = both_true (is_name_byte b) (list_all is_name_byte bytes) h in rw (clear_name_by (b == 10) b refl p.0) (clear_names bytes p.1)

clear_start_by : (x : Bool) (b : ℕ) → x ≡ (b == 10) → is_name_start b ≡ true → not x ≡ true
clear_start_by true b e is = let ten = eqb-true b 10 (sym e) in let none : is_name_start 10 ≡ true = subst (λ c. is_name_start c ≡ true) ten is in absurd (cc)
clear_start_by false b e is = refl

clear_identifier : (name : List ℕ) → is_identifier name ≡ true → IsClear name
clear_identifier [] h = refl
clear_identifier (b ∷ bytes) h =
    let p = both_true (is_name_start b) (list_all is_name_byte bytes) h in rw (clear_start_by (b == 10) b refl p.0) (clear_names bytes p.1)

pub clear_name : (name : List ℕ) → is_name name ≡ true → IsClear name
clear_name name h = clear_identifier name (both_true (is_identifier name) (not (is_keyword name)) h).0
