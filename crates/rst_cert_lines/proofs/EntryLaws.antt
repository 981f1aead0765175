-- Units of work.
use Rattle.std.proofs.Common.{◌≡◌, ℕ, ◌+◌, ◌≤◌, ◌<◌, ◌^◌, Bool, true, nat_lt, Some, None, List, [], ◌∷◌, ◌++◌, length, map, codes, refl, sym, ap, subst, ◌∙◌, arith, append_assoc, append-nil}
use Rattle.std.specs.Fmt.{decimal}
use Rattle.std.proofs.lemmas.Bool.{ltb-true, lt-ltb}
use Rattle.std.proofs.lemmas.List.{length-map}
use Rattle.rst_value.specs.declared.tern.Tern.{Tern}
use Rattle.rst_pair.specs.declared.hop.Hop.{Hop}
use Rattle.rst_pair.specs.declared.query.Kind.{Kind}
use Rattle.rst_pair.specs.declared.query.Kind.TheVariants.{Split, Land, Escape, Stuck}
use Rattle.rst_pair.specs.declared.journal.Entry.{Entry}
use Rattle.rst_pair.specs.declared.journal.Entry.TheVariants.{Candidate, Conflict, Blocked, Freed, Built}
use Rattle.rst_certificate.specs.Words.{digit, place_digit, bits_text}
use Rattle.rst_certificate.specs.CertText.{hop_text, query_word, entry_line}
use Rattle.rst_cert_lines.specs.declared.lines.Place.{Place}
use Rattle.rst_cert_lines.specs.Reading.{Read, ◌>>=◌, or_else, after, bits_at, places_at, number_at}
use Rattle.rst_cert_lines.specs.Readers.{hop_at, pair_at, first_bit, candidate_at, kind_at, fits_query, conflict_at, built_at, blocked_entry_at, freed_entry_at, entry_by, entry_at}
use Rattle.rst_cert_lines.specs.Fits.{HopFits, EntryFits}
use Rattle.rst_cert_lines.proofs.Binds.{the_some, no_some, bind_some, bind_go, when_some}
use Rattle.rst_cert_lines.proofs.WordLaws.{after_takes, after_again}
use Rattle.rst_cert_lines.proofs.DigitLaws.{bits_take, bits_again, places_take, places_again}
use Rattle.rst_cert_lines.proofs.NumberLaws.{number_takes, number_again}
use Rattle.rst_cert_lines.proofs.HopLaws.{hop_takes, hop_again, out_is_goal, in_is_goal}

-- the pair of a hop

pair_takes : (registers : ℕ) (text : List ℕ) (it : List Bool × List ℕ) → pair_at registers text ≡ Some it → (text ≡ codes " pair " ++ bits_text it.0 ++ it.1) × (length it.0 ≡ registers + registers)
unfolding pair_at
pair_takes registers text it e =
    let p = bind_some (after (codes " pair =") text) _ it e in
    let bits = bits_take (registers + registers) p.0.1 it p.2 in
    (after_takes (codes " pair =") text p.0 p.1 ∙ ap (λ (t : List ℕ). codes " pair =" ++ t) bits.0, bits.1)

pair_again : (registers : ℕ) (pair : List Bool) (rest : List ℕ) → length pair ≡ registers + registers → pair_at registers (codes " pair " ++ bits_text pair ++ rest) ≡ Some (pair, rest)
unfolding pair_at
pair_again registers pair rest fits =
    bind_go (after (codes " pair =") (codes " pair =" ++ (map digit pair ++ rest))) _ (tt, map digit pair ++ rest) (after_again (codes " pair =") (map digit pair ++ rest))
    ∙ ap (λ (n : ℕ). bits_at n (map digit pair ++ rest)) (sym fits) ∙ bits_again pair rest

record Takes (place : Place) (text : List ℕ) (it : Entry × List ℕ) : Type 0 where
  parts : text ≡ entry_line it.0 ++ it.1
  fits : EntryFits place it.0

-- an input bit

one_bit : (bits : List Bool) → length bits ≡ 1 → map digit bits ≡ digit (first_bit bits) ∷ []
one_bit [] e = absurd (omega (arith, e))
one_bit (bit ∷ []) e = refl
one_bit (bit ∷ other ∷ bits) e = absurd (omega (arith, e))

candidate_parts : (input : ℕ) (level : Bool) (rest : List ℕ) → codes "candidate " ++ (decimal input ++ (32 ∷ digit level ∷ rest)) ≡ entry_line (Candidate input level) ++ rest
candidate_parts input level rest = simp append_assoc

candidate_takes : (place : Place) (before text : List ℕ) (it : Entry × List ℕ) → before ≡ codes "candidate " ++ text → candidate_at text ≡ Some it → Takes place before it
unfolding candidate_at
candidate_takes place before text it is e =
    let input = bind_some (number_at text) _ it e in
    let test = when_some (nat_lt input.0.0 (2 ^ 32)) _ it input.2 in
    let space = bind_some (after (codes " ") input.0.1) _ it test.1 in
    let level = bind_some (bits_at 1 space.0.1) _ it space.2 in
    let took = bits_take 1 space.0.1 level.0 level.1 in
    subst (Takes place before) (the_some (Candidate input.0.0 (first_bit level.0.0), level.0.1) it level.2) (record {
      parts = is ∙ ap (λ (t : List ℕ). codes "candidate " ++ t) ((number_takes text input.0 input.1).0
          ∙ ap (λ (t : List ℕ). decimal input.0.0 ++ t) (after_takes (codes " ") input.0.1 space.0 space.1
          ∙ ap (λ (t : List ℕ). 32 ∷ t) (took.0 ∙ ap (λ (t : List ℕ). t ++ level.0.1) (one_bit level.0.0 took.1))))
          ∙ candidate_parts input.0.0 (first_bit level.0.0) level.0.1;
      fits = ltb-true input.0.0 (2 ^ 32) test.0;
    })

candidate_again : (input : ℕ) (level : Bool) (rest : List ℕ) → input < 2 ^ 32 → candidate_at (decimal input ++ (32 ∷ digit level ∷ rest)) ≡ Some (Candidate input level, rest)
unfolding candidate_at
candidate_again input level rest small =
    let few : input < 2 ^ 64 = omega (arith, small) in
    bind_go (number_at (decimal input ++ (32 ∷ digit level ∷ rest))) _ (input, 32 ∷ digit level ∷ rest) (number_again input (32 ∷ digit level ∷ rest) few refl)
    ∙ rw (lt-ltb input (2 ^ 32) small) (
    bind_go (after (codes " ") (32 ∷ digit level ∷ rest)) _ (tt, digit level ∷ rest) (after_again (codes " ") (digit level ∷ rest))
    ∙ bind_go (bits_at 1 (digit level ∷ rest)) _ (level ∷ [], rest) (bits_again (level ∷ []) rest)
    )

-- a path of a query

kind_takes_by : (a b c d : Read (Unit {0})) (text : List ℕ) (it : Kind × List ℕ)
    → ((found : Unit {0} × List ℕ) → a ≡ Some found → text ≡ codes "split" ++ found.1) → ((found : Unit {0} × List ℕ) → b ≡ Some found → text ≡ codes "land" ++ found.1)
    → ((found : Unit {0} × List ℕ) → c ≡ Some found → text ≡ codes "escape" ++ found.1) → ((found : Unit {0} × List ℕ) → d ≡ Some found → text ≡ codes "stuck" ++ found.1)
    → or_else (a >>= λ it. Some (Split, it.1)) (or_else (b >>= λ it. Some (Land, it.1)) (or_else (c >>= λ it. Some (Escape, it.1)) (d >>= λ it. Some (Stuck, it.1)))) ≡ Some it
    → text ≡ query_word it.0 ++ it.1
kind_takes_by (Some found) b c d text it f g h k e = subst (λ (pair : Kind × List ℕ). text ≡ query_word pair.0 ++ pair.1) (the_some (Split, found.1) it e) (f found refl)
kind_takes_by None (Some found) c d text it f g h k e = subst (λ (pair : Kind × List ℕ). text ≡ query_word pair.0 ++ pair.1) (the_some (Land, found.1) it e) (g found refl)
kind_takes_by None None (Some found) d text it f g h k e = subst (λ (pair : Kind × List ℕ). text ≡ query_word pair.0 ++ pair.1) (the_some (Escape, found.1) it e) (h found refl)
kind_takes_by None None None (Some found) text it f g h k e = subst (λ (pair : Kind × List ℕ). text ≡ query_word pair.0 ++ pair.1) (the_some (Stuck, found.1) it e) (k found refl)
kind_takes_by None None None None text it f g h k e = absurd (no_some it e)

kind_takes : (text : List ℕ) (it : Kind × List ℕ) → kind_at text ≡ Some it → text ≡ query_word it.0 ++ it.1
unfolding kind_at
kind_takes text it e = kind_takes_by (after (codes "split") text) (after (codes "land") text) (after (codes "escape") text) (after (codes "stuck") text) text it
    (λ found f. after_takes (codes "split") text found f) (λ found f. after_takes (codes "land") text found f)
    (λ found f. after_takes (codes "escape") text found f) (λ found f. after_takes (codes "stuck") text found f) e

kind_again : (kind : Kind) (rest : List ℕ) → kind_at (query_word kind ++ rest) ≡ Some (kind, rest)
unfolding kind_at after
kind_again Split rest = refl
kind_again Land rest = refl
kind_again Escape rest = refl
kind_again Stuck rest = refl

conflict_parts : (kind : Kind) (cube : List Tern) (rest : List ℕ)
    → codes "conflict " ++ (query_word kind ++ (codes " =" ++ (map place_digit cube ++ rest))) ≡ entry_line (Conflict kind cube) ++ rest
conflict_parts kind cube rest = simp append_assoc

conflict_takes : (place : Place) (before text : List ℕ) (it : Entry × List ℕ) → before ≡ codes "conflict " ++ text → conflict_at place.shape place.marked place.free text ≡ Some it → Takes place before it
unfolding conflict_at
conflict_takes place before text it is e =
    let kind = bind_some (kind_at text) _ it e in
    let equals = bind_some (after (codes " =") kind.0.1) _ it kind.2 in
    let test = when_some (fits_query place.shape place.marked place.free kind.0.0 (length equals.0.1)) _ it equals.2 in
    let cube = bind_some (places_at (length equals.0.1) equals.0.1) _ it test.1 in
    let took = places_take (length equals.0.1) equals.0.1 cube.0 cube.1 in
    subst (Takes place before) (the_some (Conflict kind.0.0 cube.0.0, cube.0.1) it cube.2) (record {
      parts = is ∙ ap (λ (t : List ℕ). codes "conflict " ++ t) (kind_takes text kind.0 kind.1
          ∙ ap (λ (t : List ℕ). query_word kind.0.0 ++ t) (after_takes (codes " =") kind.0.1 equals.0 equals.1
          ∙ ap (λ (t : List ℕ). codes " =" ++ t) took.0))
          ∙ conflict_parts kind.0.0 cube.0.0 cube.0.1;
      fits = ap (fits_query place.shape place.marked place.free kind.0.0) took.1 ∙ test.0;
    })

conflict_again : (place : Place) (kind : Kind) (cube : List Tern) → fits_query place.shape place.marked place.free kind (length cube) ≡ true
    → conflict_at place.shape place.marked place.free (query_word kind ++ (codes " =" ++ map place_digit cube)) ≡ Some (Conflict kind cube, [])
unfolding conflict_at
conflict_again place kind cube fits =
    let digits = map place_digit cube in
    let count : length (map place_digit cube) ≡ length cube = length-map cube place_digit in
    bind_go (kind_at (query_word kind ++ (codes " =" ++ digits))) _ (kind, codes " =" ++ digits) (kind_again kind (codes " =" ++ digits))
    ∙ bind_go (after (codes " =") (codes " =" ++ digits)) _ (tt, digits) (after_again (codes " =") digits)
    ∙ rw (count, fits) (
    bind_go (places_at (length cube) digits) _ (cube, []) (ap (places_at (length cube)) (sym (append-nil digits)) ∙ places_again cube [])
    )

-- hops and their pairs

hop_entry_parts : (word hop pair rest : List ℕ) → word ++ (hop ++ (codes " pair " ++ pair ++ rest)) ≡ word ++ hop ++ codes " pair " ++ pair ++ rest
hop_entry_parts word hop pair rest = simp append_assoc

blocked_takes : (place : Place) (before text : List ℕ) (it : Entry × List ℕ) → before ≡ codes "blocked " ++ text → blocked_entry_at place.shape place.blocked text ≡ Some it → Takes place before it
unfolding blocked_entry_at
blocked_takes place before text it is e =
    let hop = bind_some (hop_at place.shape (codes "out") place.blocked text) _ it e in
    let pair = bind_some (pair_at place.shape.registers hop.0.1) _ it hop.2 in
    let took_hop = hop_takes place.shape (codes "out") place.blocked text hop.0 hop.1 in
    let took_pair = pair_takes place.shape.registers hop.0.1 pair.0 pair.1 in
    subst (Takes place before) (the_some (Blocked hop.0.0 pair.0.0, pair.0.1) it pair.2) (record {
      parts = is ∙ ap (λ (t : List ℕ). codes "blocked " ++ t) (took_hop.0 ∙ ap (λ (t : List ℕ). hop_text (codes "out") hop.0.0 ++ t) took_pair.0)
          ∙ hop_entry_parts (codes "blocked ") (hop_text (codes "out") hop.0.0) (bits_text pair.0.0) pair.0.1;
      fits = (took_hop.1, took_pair.1);
    })

freed_takes : (place : Place) (before text : List ℕ) (it : Entry × List ℕ) → before ≡ codes "freed " ++ text → freed_entry_at place.shape place.freed text ≡ Some it → Takes place before it
unfolding freed_entry_at
freed_takes place before text it is e =
    let hop = bind_some (hop_at place.shape (codes "in") place.freed text) _ it e in
    let pair = bind_some (pair_at place.shape.registers hop.0.1) _ it hop.2 in
    let took_hop = hop_takes place.shape (codes "in") place.freed text hop.0 hop.1 in
    let took_pair = pair_takes place.shape.registers hop.0.1 pair.0 pair.1 in
    subst (Takes place before) (the_some (Freed hop.0.0 pair.0.0, pair.0.1) it pair.2) (record {
      parts = is ∙ ap (λ (t : List ℕ). codes "freed " ++ t) (took_hop.0 ∙ ap (λ (t : List ℕ). hop_text (codes "in") hop.0.0 ++ t) took_pair.0)
          ∙ hop_entry_parts (codes "freed ") (hop_text (codes "in") hop.0.0) (bits_text pair.0.0) pair.0.1;
      fits = (took_hop.1, took_pair.1);
    })

blocked_again : (place : Place) (hop : Hop) (pair : List Bool) (rest : List ℕ) → place.blocked ≤ 2 ^ 32 → HopFits place.shape place.blocked hop → length pair ≡ place.shape.registers + place.shape.registers
    → blocked_entry_at place.shape place.blocked (hop_text (codes "out") hop ++ (codes " pair " ++ bits_text pair ++ rest)) ≡ Some (Blocked hop pair, rest)
unfolding blocked_entry_at
blocked_again place hop pair rest few fits long =
    let behind = codes " pair " ++ bits_text pair ++ rest in
    bind_go (hop_at place.shape (codes "out") place.blocked (hop_text (codes "out") hop ++ behind)) _ (hop, behind)
    (hop_again place.shape (codes "out") place.blocked hop behind out_is_goal few fits refl)
    ∙ bind_go (pair_at place.shape.registers behind) _ (pair, rest) (pair_again place.shape.registers pair rest long)

freed_again : (place : Place) (hop : Hop) (pair : List Bool) (rest : List ℕ) → place.freed ≤ 2 ^ 32 → HopFits place.shape place.freed hop → length pair ≡ place.shape.registers + place.shape.registers
    → freed_entry_at place.shape place.freed (hop_text (codes "in") hop ++ (codes " pair " ++ bits_text pair ++ rest)) ≡ Some (Freed hop pair, rest)
unfolding freed_entry_at
freed_again place hop pair rest few fits long =
    let behind = codes " pair " ++ bits_text pair ++ rest in
    bind_go (hop_at place.shape (codes "in") place.freed (hop_text (codes "in") hop ++ behind)) _ (hop, behind)
    (hop_again place.shape (codes "in") place.freed hop behind in_is_goal few fits refl)
    ∙ bind_go (pair_at place.shape.registers behind) _ (pair, rest) (pair_again place.shape.registers pair rest long)

-- two states

built_parts : (a b : List Bool) (rest : List ℕ) → codes "built " ++ (codes "=" ++ (map digit a ++ (codes " =" ++ (map digit b ++ rest)))) ≡ entry_line (Built a b) ++ rest
built_parts a b rest = simp append_assoc

built_takes : (place : Place) (before text : List ℕ) (it : Entry × List ℕ) → before ≡ codes "built " ++ text → built_at place.shape.registers text ≡ Some it → Takes place before it
unfolding built_at
built_takes place before text it is e =
    let registers = place.shape.registers in
    let equals = bind_some (after (codes "=") text) _ it e in
    let a = bind_some (bits_at registers equals.0.1) _ it equals.2 in
    let more = bind_some (after (codes " =") a.0.1) _ it a.2 in
    let b = bind_some (bits_at registers more.0.1) _ it more.2 in
    let took_a = bits_take registers equals.0.1 a.0 a.1 in
    let took_b = bits_take registers more.0.1 b.0 b.1 in
    subst (Takes place before) (the_some (Built a.0.0 b.0.0, b.0.1) it b.2) (record {
      parts = is ∙ ap (λ (t : List ℕ). codes "built " ++ t) (after_takes (codes "=") text equals.0 equals.1
          ∙ ap (λ (t : List ℕ). codes "=" ++ t) (took_a.0
          ∙ ap (λ (t : List ℕ). map digit a.0.0 ++ t) (after_takes (codes " =") a.0.1 more.0 more.1
          ∙ ap (λ (t : List ℕ). codes " =" ++ t) took_b.0)))
          ∙ built_parts a.0.0 b.0.0 b.0.1;
      fits = (took_a.1, took_b.1);
    })

built_again : (registers : ℕ) (a b : List Bool) (rest : List ℕ) → length a ≡ registers → length b ≡ registers
    → built_at registers (codes "=" ++ (map digit a ++ (codes " =" ++ (map digit b ++ rest)))) ≡ Some (Built a b, rest)
unfolding built_at
built_again registers a b rest fits_a fits_b =
    let three = map digit b ++ rest in
    let two = codes " =" ++ three in
    let one = map digit a ++ two in
    bind_go (after (codes "=") (codes "=" ++ one)) _ (tt, one) (after_again (codes "=") one)
    ∙ bind_go (bits_at registers one) _ (a, two) (ap (λ (n : ℕ). bits_at n one) (sym fits_a) ∙ bits_again a two)
    ∙ bind_go (after (codes " =") two) _ (tt, three) (after_again (codes " =") three)
    ∙ bind_go (bits_at registers three) _ (b, rest) (ap (λ (n : ℕ). bits_at n three) (sym fits_b) ∙ bits_again b rest)

-- by their first words

entry_takes_by : (place : Place) (a b c d e : Read (Unit {0})) (text : List ℕ) (it : Entry × List ℕ)
    → ((found : Unit {0} × List ℕ) → a ≡ Some found → text ≡ codes "candidate " ++ found.1) → ((found : Unit {0} × List ℕ) → b ≡ Some found → text ≡ codes "conflict " ++ found.1)
    → ((found : Unit {0} × List ℕ) → c ≡ Some found → text ≡ codes "blocked " ++ found.1) → ((found : Unit {0} × List ℕ) → d ≡ Some found → text ≡ codes "freed " ++ found.1)
    → ((found : Unit {0} × List ℕ) → e ≡ Some found → text ≡ codes "built " ++ found.1)
    → entry_by place a b c d e ≡ Some it → Takes place text it
entry_takes_by place (Some x) b c d e text it f g h k m q = candidate_takes place text x.1 it (f x refl) q
entry_takes_by place None (Some x) c d e text it f g h k m q = conflict_takes place text x.1 it (g x refl) q
entry_takes_by place None None (Some x) d e text it f g h k m q = blocked_takes place text x.1 it (h x refl) q
entry_takes_by place None None None (Some x) e text it f g h k m q = freed_takes place text x.1 it (k x refl) q
entry_takes_by place None None None None (Some x) text it f g h k m q = built_takes place text x.1 it (m x refl) q
entry_takes_by place None None None None None text it f g h k m q = absurd (no_some it q)

-- what was read off is a unit of work
pub entry_takes : (place : Place) (text : List ℕ) (it : Entry × List ℕ) → entry_at place text ≡ Some it → (text ≡ entry_line it.0 ++ it.1) × EntryFits place it.0
unfolding entry_at
entry_takes place text it e =
    let took = entry_takes_by place (after (codes "candidate ") text) (after (codes "conflict ") text) (after (codes "blocked ") text) (after (codes "freed ") text) (after (codes "built ") text) text it
    (λ found f. after_takes (codes "candidate ") text found f) (λ found f. after_takes (codes "conflict ") text found f)
    (λ found f. after_takes (codes "blocked ") text found f) (λ found f. after_takes (codes "freed ") text found f)
    (λ found f. after_takes (codes "built ") text found f) e in
    (took.parts, took.fits)

-- a unit of work is read off
pub entry_again : (place : Place) (entry : Entry) → place.blocked ≤ 2 ^ 32 → place.freed ≤ 2 ^ 32 → EntryFits place entry → entry_at place (entry_line entry) ≡ Some (entry, [])
unfolding entry_at after
entry_again place (Candidate input level) few_blocked few_freed fits =
    rw (← append-nil (entry_line (Candidate input level)), ← candidate_parts input level []) (candidate_again input level [] fits)
entry_again place (Conflict kind cube) few_blocked few_freed fits =
    rw (← append-nil (entry_line (Conflict kind cube)), ← conflict_parts kind cube []) (
    ap (λ (t : List ℕ). conflict_at place.shape place.marked place.free (query_word kind ++ (codes " =" ++ t))) (append-nil (map place_digit cube))
    ∙ conflict_again place kind cube fits
    )
entry_again place (Blocked hop pair) few_blocked few_freed fits =
    ap (entry_at place) (sym (append-nil (entry_line (Blocked hop pair))) ∙ sym (hop_entry_parts (codes "blocked ") (hop_text (codes "out") hop) (bits_text pair) []))
    ∙ blocked_again place hop pair [] few_blocked fits.0 fits.1
entry_again place (Freed hop pair) few_blocked few_freed fits =
    ap (entry_at place) (sym (append-nil (entry_line (Freed hop pair))) ∙ sym (hop_entry_parts (codes "freed ") (hop_text (codes "in") hop) (bits_text pair) []))
    ∙ freed_again place hop pair [] few_freed fits.0 fits.1
entry_again place (Built a b) few_blocked few_freed fits =
    ap (entry_at place) (sym (append-nil (entry_line (Built a b))) ∙ sym (built_parts a b []))
    ∙ built_again place.shape.registers a b [] fits.0 fits.1
