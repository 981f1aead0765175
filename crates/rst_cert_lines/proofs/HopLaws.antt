-- Hops.
use Rattle.std.proofs.Common.{◌≡◌, ℕ, ◌+◌, ◌≤◌, ◌<◌, ◌^◌, nat_lt, Option, Some, None, List, ◌++◌, map, codes, refl, sym, ap, subst, ◌∙◌, arith, append_assoc}
use Rattle.std.specs.Fmt.{decimal}
use Rattle.std.proofs.lemmas.Bool.{ltb-true, lt-ltb}
use Rattle.rst_pair.specs.declared.hop.Hop.{Hop}
use Rattle.rst_certificate.specs.Words.{digit, place_digit}
use Rattle.rst_certificate.specs.CertText.{target_text, hop_text}
use Rattle.rst_cert_lines.specs.declared.lines.Shape.{Shape}
use Rattle.rst_cert_lines.specs.Reading.{Read, ◌>>=◌, or_else, after, bits_at, places_at, number_at}
use Rattle.rst_cert_lines.specs.Readers.{no_next, earlier_in, target_at, hop_at, hop_line_at}
use Rattle.rst_cert_lines.specs.Fits.{Ends, IsEarlier, HopFits}
use Rattle.rst_cert_lines.proofs.Binds.{the_some, bind_some, bind_go, chosen}
use Rattle.rst_cert_lines.proofs.WordLaws.{after_takes, after_again}
use Rattle.rst_cert_lines.proofs.DigitLaws.{bits_take, bits_again, places_take, places_again}
use Rattle.rst_cert_lines.proofs.NumberLaws.{number_takes, number_again}

next_takes : (before : ℕ) (text : List ℕ) (it : Option ℕ × List ℕ) → (after (codes "to ") text >>= λ first. number_at first.1 >>= earlier_in before) ≡ Some it
    → (word : List ℕ) → (text ≡ target_text word it.0 ++ it.1) × IsEarlier before it.0
next_takes before text it e word =
    let p = bind_some (after (codes "to ") text) (λ (first : Unit {0} × List ℕ). number_at first.1 >>= earlier_in before) it e in
    let q = bind_some (number_at p.0.1) (earlier_in before) it p.2 in
    let r = chosen (nat_lt q.0.0 before) (Some q.0.0, q.0.1) it q.2 in
    let P : Option ℕ × List ℕ → Type 0 = λ pair. (text ≡ target_text word pair.0 ++ pair.1) × IsEarlier before pair.0 in
    subst P r.1 (
      after_takes (codes "to ") text p.0 p.1 ∙ ap (λ (t : List ℕ). codes "to " ++ t) (number_takes p.0.1 q.0 q.1).0,
      ltb-true q.0.0 before r.0,
    )

target_takes_by : (first : Read (Unit {0})) (word : List ℕ) (before : ℕ) (text : List ℕ) (it : Option ℕ × List ℕ)
    → ((found : Unit {0} × List ℕ) → first ≡ Some found → text ≡ word ++ found.1)
    → or_else (first >>= no_next) (after (codes "to ") text >>= λ first. number_at first.1 >>= earlier_in before) ≡ Some it
    → (text ≡ target_text word it.0 ++ it.1) × IsEarlier before it.0
target_takes_by None word before text it is e = next_takes before text it e word
target_takes_by (Some found) word before text it is e =
    let P : Option ℕ × List ℕ → Type 0 = λ pair. (text ≡ target_text word pair.0 ++ pair.1) × IsEarlier before pair.0 in
    subst P (the_some (None, found.1) it e) (is found refl, tt)

pub target_takes : (word : List ℕ) (before : ℕ) (text : List ℕ) (it : Option ℕ × List ℕ) → target_at word before text ≡ Some it → (text ≡ target_text word it.0 ++ it.1) × IsEarlier before it.0
unfolding target_at
target_takes word before text it e = target_takes_by (after word text) word before text it (λ found f. after_takes word text found f) e

-- the word of a hop without a next one doesn't begin as that of one with
abbrev pub IsGoal : List ℕ → Type 0
IsGoal word = (rest : List ℕ) → after word (codes "to " ++ rest) ≡ None

pub target_again : (word : List ℕ) (before : ℕ) (next : Option ℕ) (rest : List ℕ) → IsGoal word → before ≤ 2 ^ 32 → IsEarlier before next → Ends rest
    → target_at word before (target_text word next ++ rest) ≡ Some (next, rest)
unfolding target_at
target_again word before None rest other small h ends =
    ap (λ (first : Read (Unit {0})). or_else (first >>= no_next) (after (codes "to ") (word ++ rest) >>= λ first. number_at first.1 >>= earlier_in before)) (after_again word rest)
target_again word before (Some next) rest other small h ends =
    let text = decimal next ++ rest in
    let few : next < 2 ^ 64 = omega (arith, small, h) in
    ap (λ (first : Read (Unit {0})). or_else (first >>= no_next) (after (codes "to ") (codes "to " ++ text) >>= λ first. number_at first.1 >>= earlier_in before)) (other text)
    ∙ bind_go (after (codes "to ") (codes "to " ++ text)) (λ (first : Unit {0} × List ℕ). number_at first.1 >>= earlier_in before) (tt, text) (after_again (codes "to ") text)
    ∙ bind_go (number_at text) (earlier_in before) (next, rest) (number_again next rest few ends)
    ∙ rw (lt-ltb next before h) refl

pub out_is_goal : IsGoal (codes "out")
unfolding after
out_is_goal = λ rest. refl

pub in_is_goal : IsGoal (codes "in")
unfolding after
in_is_goal = λ rest. refl

-- the text of a hop, as it is written behind other text
hop_parts : (word : List ℕ) (hop : Hop) (rest : List ℕ)
    → codes "=" ++ (map place_digit hop.cube ++ (codes " via =" ++ (map digit hop.input ++ (codes " " ++ (target_text word hop.next ++ rest))))) ≡ hop_text word hop ++ rest
hop_parts word hop rest = simp append_assoc

pub hop_takes : (shape : Shape) (word : List ℕ) (before : ℕ) (text : List ℕ) (it : Hop × List ℕ) → hop_at shape word before text ≡ Some it
    → (text ≡ hop_text word it.0 ++ it.1) × HopFits shape before it.0
unfolding hop_at
hop_takes shape word before text it e =
    let p = bind_some (after (codes "=") text) _ it e in
    let cube = bind_some (places_at (shape.registers + shape.registers) p.0.1) _ it p.2 in
    let via = bind_some (after (codes " via =") cube.0.1) _ it cube.2 in
    let input = bind_some (bits_at shape.inputs via.0.1) _ it via.2 in
    let space = bind_some (after (codes " ") input.0.1) _ it input.2 in
    let next = bind_some (target_at word before space.0.1) _ it space.2 in
    let took_cube = places_take (shape.registers + shape.registers) p.0.1 cube.0 cube.1 in
    let took_input = bits_take shape.inputs via.0.1 input.0 input.1 in
    let took_next = target_takes word before space.0.1 next.0 next.1 in
    let P : Hop × List ℕ → Type 0 = λ pair. (text ≡ hop_text word pair.0 ++ pair.1) × HopFits shape before pair.0 in
    let hop : Hop = record { cube = cube.0.0; input = input.0.0; next = next.0.0 } in
    subst P (the_some (hop, next.0.1) it next.2) (
      after_takes (codes "=") text p.0 p.1
          ∙ ap (λ (t : List ℕ). codes "=" ++ t) (took_cube.0
          ∙ ap (λ (t : List ℕ). map place_digit hop.cube ++ t) (after_takes (codes " via =") cube.0.1 via.0 via.1
          ∙ ap (λ (t : List ℕ). codes " via =" ++ t) (took_input.0
          ∙ ap (λ (t : List ℕ). map digit hop.input ++ t) (after_takes (codes " ") input.0.1 space.0 space.1
          ∙ ap (λ (t : List ℕ). codes " " ++ t) took_next.0))))
          ∙ hop_parts word hop next.0.1,
      record { cube = took_cube.1; input = took_input.1; next = took_next.1 },
    )

pub hop_again : (shape : Shape) (word : List ℕ) (before : ℕ) (hop : Hop) (rest : List ℕ) → IsGoal word → before ≤ 2 ^ 32 → HopFits shape before hop → Ends rest
    → hop_at shape word before (hop_text word hop ++ rest) ≡ Some (hop, rest)
unfolding hop_at
hop_again shape word before hop rest other small fits ends =
    let five = target_text word hop.next ++ rest in
    let four = map digit hop.input ++ (codes " " ++ five) in
    let three = codes " via =" ++ four in
    let two = map place_digit hop.cube ++ three in
    rw (← hop_parts word hop rest) (
    bind_go (after (codes "=") (codes "=" ++ two)) _ (tt, two) (after_again (codes "=") two)
    ∙ bind_go (places_at (shape.registers + shape.registers) two) _ (hop.cube, three) (ap (λ (n : ℕ). places_at n two) (sym fits.cube) ∙ places_again hop.cube three)
    ∙ bind_go (after (codes " via =") three) _ (tt, four) (after_again (codes " via =") four)
    ∙ bind_go (bits_at shape.inputs four) _ (hop.input, codes " " ++ five) (ap (λ (n : ℕ). bits_at n four) (sym fits.input) ∙ bits_again hop.input (codes " " ++ five))
    ∙ bind_go (after (codes " ") (codes " " ++ five)) _ (tt, five) (after_again (codes " ") five)
    ∙ bind_go (target_at word before five) _ (hop.next, rest) (target_again word before hop.next rest other small fits.next ends)
    )

pub hop_line_takes : (shape : Shape) (word : List ℕ) (before : ℕ) (text : List ℕ) (it : Hop × List ℕ) → hop_line_at shape word before text ≡ Some it
    → (text ≡ (codes "cube " ++ hop_text word it.0) ++ it.1) × HopFits shape before it.0
unfolding hop_line_at
hop_line_takes shape word before text it e =
    let p = bind_some (after (codes "cube ") text) _ it e in
    let took = hop_takes shape word before p.0.1 it p.2 in
    (after_takes (codes "cube ") text p.0 p.1 ∙ ap (λ (t : List ℕ). codes "cube " ++ t) took.0, took.1)

pub hop_line_again : (shape : Shape) (word : List ℕ) (before : ℕ) (hop : Hop) (rest : List ℕ) → IsGoal word → before ≤ 2 ^ 32 → HopFits shape before hop → Ends rest
    → hop_line_at shape word before ((codes "cube " ++ hop_text word hop) ++ rest) ≡ Some (hop, rest)
unfolding hop_line_at
hop_line_again shape word before hop rest other small fits ends =
    bind_go (after (codes "cube ") (codes "cube " ++ (hop_text word hop ++ rest))) _ (tt, hop_text word hop ++ rest) (after_again (codes "cube ") (hop_text word hop ++ rest))
    ∙ hop_again shape word before hop rest other small fits ends
