-- Fillings of patterns.
use Rattle.std.proofs.Common.{◌≡◌, ◌↔◌, Bool, true, false, List, [], ◌∷◌, length, map, refl, sym, subst, arith}
use Rattle.std.specs.List.{AllZip}
use Rattle.rst_value.specs.declared.tern.Tern.{Tern}
use Rattle.rst_value.specs.Terns.{known, StandsFor}
use Rattle.rst_gate.specs.Machine.{Machine, IsWord}
use Rattle.rst_gate.specs.Patterns.{IsPattern, IsFilling, known_pattern}
use Rattle.rst_gate.proofs.Places.{known-stands}

-- a word fills the pattern that it is
pub word-fills : (word : List (List Bool)) → IsFilling (known_pattern word) word
word-fills [] = tt
word-fills (input ∷ word) = (known-stands input, word-fills word)

known_bit : (bit x : Bool) → StandsFor (known bit) x → x ≡ bit
known_bit true x h = h
known_bit false x h = h

known_bits : (bits xs : List Bool) → AllZip StandsFor (map known bits) xs → xs ≡ bits
known_bits [] [] h = refl
known_bits [] (x ∷ xs) h = absurd h
known_bits (bit ∷ bits) [] h = absurd h
known_bits (bit ∷ bits) (x ∷ xs) h =
    let first : x ≡ bit = known_bit bit x h.0 in let rest : xs ≡ bits = known_bits bits xs h.1 in cc

one_filling : (word filling : List (List Bool)) → IsFilling (known_pattern word) filling → filling ≡ word
one_filling [] [] h = refl
one_filling [] (x ∷ xs) h = absurd h
one_filling (input ∷ word) [] h = absurd h
one_filling (input ∷ word) (x ∷ xs) h =
    let first : x ≡ input = known_bits input x h.0 in let rest : xs ≡ word = one_filling word xs h.1 in cc

pub fillings-known : (word filling : List (List Bool)) → IsFilling (known_pattern word) filling ↔ (filling ≡ word)
fillings-known word filling = (one_filling word filling, λ e. subst (λ w. IsFilling (known_pattern word) w) (sym e) (word-fills word))

pub zip-length : {A B : Type 0} (R : A → B → Type 0) (xs : List A) (ys : List B) → AllZip R xs ys → length xs ≡ length ys
zip-length R [] [] h = refl
zip-length R [] (y ∷ ys) h = absurd h
zip-length R (x ∷ xs) [] h = absurd h
zip-length R (x ∷ xs) (y ∷ ys) h = omega (arith, zip-length R xs ys h.1)

pub fillings-words :
    (m : Machine) (pattern : List (List Tern)) (word : List (List Bool)) → IsPattern m pattern → IsFilling pattern word → IsWord m word
fillings-words m [] [] p h = tt
fillings-words m [] (x ∷ xs) p h = absurd h
fillings-words m (places ∷ pattern) [] p h = absurd h
fillings-words m (places ∷ pattern) (x ∷ xs) p h =
    let same : length places ≡ length x = zip-length StandsFor places x h.0 in
    let here : length places ≡ m.inputs = p.0 in
    (cc, fillings-words m pattern xs p.1 h.1)
