-- What is read of a line is written so, and what is written is read.
use Rattle.std.proofs.Common.{◌≡◌, ℕ, ◌<◌, ◌^◌, Bool, Some, List, ◌∷◌, ◌++◌, length, map, codes, sym, ap, ◌∙◌, append_assoc}
use Rattle.std.specs.Fmt.{decimal}
use Rattle.rst_value.specs.declared.tern.Tern.{Tern}
use Rattle.rst_certificate.specs.Words.{digit, place_digit, bits_text, counted}
use Rattle.rst_certificate.specs.CertText.{step_line, free_step_line}
use Rattle.rst_cert_lines.specs.Reading.{Read, ◌>>=◌, after, bits_at, places_at, number_at}
use Rattle.rst_cert_lines.specs.Readers.{step_at, free_step_at, counted_at, state_at}
use Rattle.rst_cert_lines.specs.Fits.{Ends}
use Rattle.rst_cert_lines.proofs.Binds.{bind_some, bind_go}
use Rattle.rst_cert_lines.proofs.WordLaws.{after_takes, after_again}
use Rattle.rst_cert_lines.proofs.DigitLaws.{bits_take, bits_again, places_take, places_again}
use Rattle.rst_cert_lines.proofs.NumberLaws.{number_takes, number_again}

pub step_takes : (inputs : ℕ) (text : List ℕ) (it : List Bool × List ℕ) → step_at inputs text ≡ Some it → (text ≡ step_line it.0 ++ it.1) × (length it.0 ≡ inputs)
unfolding step_at
step_takes inputs text it e =
    let p = bind_some (after (codes "step =") text) (λ (step : Unit {0} × List ℕ). bits_at inputs step.1) it e in
    let bits = bits_take inputs p.0.1 it p.2 in
    (after_takes (codes "step =") text p.0 p.1 ∙ ap (λ (r : List ℕ). codes "step =" ++ r) bits.0, bits.1)

pub step_again : (input : List Bool) (rest : List ℕ) → step_at (length input) (step_line input ++ rest) ≡ Some (input, rest)
unfolding step_at
step_again input rest =
    bind_go (after (codes "step =") (codes "step =" ++ (map digit input ++ rest))) (λ (step : Unit {0} × List ℕ). bits_at (length input) step.1) (tt, map digit input ++ rest)
    (after_again (codes "step =") (map digit input ++ rest))
    ∙ bits_again input rest

pub free_step_takes : (inputs : ℕ) (text : List ℕ) (it : List Tern × List ℕ) → free_step_at inputs text ≡ Some it → (text ≡ free_step_line it.0 ++ it.1) × (length it.0 ≡ inputs)
unfolding free_step_at
free_step_takes inputs text it e =
    let p = bind_some (after (codes "step =") text) (λ (step : Unit {0} × List ℕ). places_at inputs step.1) it e in
    let places = places_take inputs p.0.1 it p.2 in
    (after_takes (codes "step =") text p.0 p.1 ∙ ap (λ (r : List ℕ). codes "step =" ++ r) places.0, places.1)

pub free_step_again : (places : List Tern) (rest : List ℕ) → free_step_at (length places) (free_step_line places ++ rest) ≡ Some (places, rest)
unfolding free_step_at
free_step_again places rest =
    bind_go (after (codes "step =") (codes "step =" ++ (map place_digit places ++ rest))) (λ (step : Unit {0} × List ℕ). places_at (length places) step.1) (tt, map place_digit places ++ rest)
    (after_again (codes "step =") (map place_digit places ++ rest))
    ∙ places_again places rest

pub counted_takes : (word text : List ℕ) (it : ℕ × List ℕ) → counted_at word text ≡ Some it → (text ≡ counted word it.0 ++ it.1) × (it.0 < 2 ^ 64)
unfolding counted_at
counted_takes word text it e =
    let p = bind_some (after word text) (λ (first : Unit {0} × List ℕ). after (codes " ") first.1 >>= λ space. number_at space.1) it e in
    let q = bind_some (after (codes " ") p.0.1) (λ (space : Unit {0} × List ℕ). number_at space.1) it p.2 in
    let number = number_takes q.0.1 it q.2 in (
      after_takes word text p.0 p.1
          ∙ ap (λ (r : List ℕ). word ++ r) (after_takes (codes " ") p.0.1 q.0 q.1 ∙ ap (λ (r : List ℕ). 32 ∷ r) number.0)
          ∙ sym (append_assoc word (32 ∷ decimal it.0) it.1),
      number.1,
    )

pub counted_again : (word : List ℕ) (number : ℕ) (rest : List ℕ) → number < 2 ^ 64 → Ends rest → counted_at word (counted word number ++ rest) ≡ Some (number, rest)
unfolding counted_at
counted_again word number rest small ends =
    let next : Unit {0} × List ℕ → Read ℕ = λ first. after (codes " ") first.1 >>= λ space. number_at space.1 in
    ap (λ (t : List ℕ). after word t >>= next) (append_assoc word (32 ∷ decimal number) rest)
    ∙ bind_go (after word (word ++ (32 ∷ decimal number ++ rest))) next (tt, 32 ∷ decimal number ++ rest) (after_again word (32 ∷ decimal number ++ rest))
    ∙ bind_go (after (codes " ") (32 ∷ decimal number ++ rest)) (λ (space : Unit {0} × List ℕ). number_at space.1) (tt, decimal number ++ rest)
    (after_again (codes " ") (decimal number ++ rest))
    ∙ number_again number rest small ends

-- a word and bits
abbrev pub state_text : List ℕ → List Bool → List ℕ
state_text word bits = word ++ 32 ∷ bits_text bits

pub state_takes : (word : List ℕ) (count : ℕ) (text : List ℕ) (it : List Bool × List ℕ) → state_at word count text ≡ Some it → (text ≡ state_text word it.0 ++ it.1) × (length it.0 ≡ count)
unfolding state_at
state_takes word count text it e =
    let p = bind_some (after word text) (λ (first : Unit {0} × List ℕ). after (codes " =") first.1 >>= λ equals. bits_at count equals.1) it e in
    let q = bind_some (after (codes " =") p.0.1) (λ (equals : Unit {0} × List ℕ). bits_at count equals.1) it p.2 in
    let bits = bits_take count q.0.1 it q.2 in (
      after_takes word text p.0 p.1
          ∙ ap (λ (r : List ℕ). word ++ r) (after_takes (codes " =") p.0.1 q.0 q.1 ∙ ap (λ (r : List ℕ). 32 ∷ 61 ∷ r) bits.0)
          ∙ sym (append_assoc word (32 ∷ bits_text it.0) it.1),
      bits.1,
    )

pub state_again : (word : List ℕ) (bits : List Bool) (rest : List ℕ) → state_at word (length bits) (state_text word bits ++ rest) ≡ Some (bits, rest)
unfolding state_at
state_again word bits rest =
    let next : Unit {0} × List ℕ → Read (List Bool) = λ first. after (codes " =") first.1 >>= λ equals. bits_at (length bits) equals.1 in
    ap (λ (t : List ℕ). after word t >>= next) (append_assoc word (32 ∷ bits_text bits) rest)
    ∙ bind_go (after word (word ++ (32 ∷ bits_text bits ++ rest))) next (tt, 32 ∷ bits_text bits ++ rest) (after_again word (32 ∷ bits_text bits ++ rest))
    ∙ bind_go (after (codes " =") (codes " =" ++ (map digit bits ++ rest))) (λ (equals : Unit {0} × List ℕ). bits_at (length bits) equals.1) (tt, map digit bits ++ rest)
    (after_again (codes " =") (map digit bits ++ rest))
    ∙ bits_again bits rest
