-- Fillings by free bits: each of them agrees with the pattern, and each filling is one of them.
use Rattle.std.proofs.Common.{◌≡◌, ℕ, ◌≤◌, Bool, List, [], ◌∷◌, ◌++◌, length, drop, refl, sym, ap, subst, ◌∙◌, arith, length-drop}
use Rattle.std.proofs.lemmas.List.{nil_from_length, append-nil, drop_at, length-append}
use Rattle.std.specs.List.{AllZip}
use Rattle.rst_value.specs.declared.tern.Tern.{Tern}
use Rattle.rst_value.specs.declared.tern.Tern.TheVariants.{Zero, One, Unknown}
use Rattle.rst_value.specs.Terns.{StandsFor}
use Rattle.rst_gate.specs.Patterns.{IsFilling, free_of, free_count, free_bits, filled_bit, filled_places, filled}

-- a place's bit agrees with it
bit_fills : (place : Tern) (free : List Bool) → StandsFor place (filled_bit place free)
bit_fills Zero free = refl
bit_fills One free = refl
bit_fills Unknown free = tt

places_fill : (places : List Tern) (free : List Bool) → AllZip StandsFor places (filled_places places free)
places_fill [] free = tt
places_fill (place ∷ places) free = (bit_fills place free, places_fill places (drop (free_of place) free))

pub filled-fills : (pattern : List (List Tern)) (free : List Bool) → IsFilling pattern (filled pattern free)
filled-fills [] free = tt
filled-fills (places ∷ pattern) free = (places_fill places free, filled-fills pattern (drop (free_count places) free))

-- what the loop over the cycles has at its end
pub filled_end :
    (pattern : List (List Tern)) (free rest : List Bool) (word : List (List Bool)) (i : ℕ)
    → length pattern ≤ i → filled pattern free ≡ word ++ filled (drop i pattern) rest → IsFilling pattern word
filled_end pattern free rest word i past so_far =
    let none : drop i pattern ≡ [] = nil_from_length (drop i pattern) (omega (arith, length-drop {A = List Tern})) in
    let end : filled pattern free ≡ word ++ [] = rw none at so_far in
    subst (λ w. IsFilling pattern w) (end ∙ append-nil word) (filled-fills pattern free)

-- the bits at the free places
abbrev bits_of : List Tern → List Bool → List Bool
bits_of [] bits = []
bits_of (place ∷ places) [] = []
bits_of (Zero ∷ places) (bit ∷ bits) = bits_of places bits
bits_of (One ∷ places) (bit ∷ bits) = bits_of places bits
bits_of (Unknown ∷ places) (bit ∷ bits) = bit ∷ bits_of places bits

bits_of-count : (places : List Tern) (bits : List Bool) → AllZip StandsFor places bits → length (bits_of places bits) ≡ free_count places
bits_of-count [] [] h = refl
bits_of-count [] (bit ∷ bits) h = absurd h
bits_of-count (place ∷ places) [] h = absurd h
bits_of-count (Zero ∷ places) (bit ∷ bits) h = omega (arith, bits_of-count places bits h.1)
bits_of-count (One ∷ places) (bit ∷ bits) h = omega (arith, bits_of-count places bits h.1)
bits_of-count (Unknown ∷ places) (bit ∷ bits) h = omega (arith, bits_of-count places bits h.1)

same_bits : (b x : Bool) (xs ys : List Bool) → b ≡ x → xs ≡ ys → b ∷ xs ≡ x ∷ ys
same_bits b x xs ys h k = cc

bits_of-filled :
    (places : List Tern) (bits rest : List Bool) → AllZip StandsFor places bits → filled_places places (bits_of places bits ++ rest) ≡ bits
bits_of-filled [] [] rest h = refl
bits_of-filled [] (bit ∷ bits) rest h = absurd h
bits_of-filled (place ∷ places) [] rest h = absurd h
bits_of-filled (Zero ∷ places) (bit ∷ bits) rest h = same_bits _ _ _ _ (sym h.0) (bits_of-filled places bits rest h.1)
bits_of-filled (One ∷ places) (bit ∷ bits) rest h = same_bits _ _ _ _ (sym h.0) (bits_of-filled places bits rest h.1)
bits_of-filled (Unknown ∷ places) (bit ∷ bits) rest h = same_bits _ _ _ _ refl (bits_of-filled places bits rest h.1)

abbrev free_of_word : List (List Tern) → List (List Bool) → List Bool
free_of_word [] word = []
free_of_word (places ∷ pattern) [] = []
free_of_word (places ∷ pattern) (bits ∷ word) = bits_of places bits ++ free_of_word pattern word

free_of_word-count :
    (pattern : List (List Tern)) (word : List (List Bool)) → IsFilling pattern word → length (free_of_word pattern word) ≡ free_bits pattern
free_of_word-count [] [] h = refl
free_of_word-count [] (bits ∷ word) h = absurd h
free_of_word-count (places ∷ pattern) [] h = absurd h
free_of_word-count (places ∷ pattern) (bits ∷ word) h =
    omega (arith, length-append (bits_of places bits) (free_of_word pattern word), bits_of-count places bits h.0, free_of_word-count pattern word h.1)

same_words : (b x : List Bool) (xs ys : List (List Bool)) → b ≡ x → xs ≡ ys → b ∷ xs ≡ x ∷ ys
same_words b x xs ys h k = cc

free_of_word-filled :
    (pattern : List (List Tern)) (word : List (List Bool)) → IsFilling pattern word → filled pattern (free_of_word pattern word) ≡ word
free_of_word-filled [] [] h = refl
free_of_word-filled [] (bits ∷ word) h = absurd h
free_of_word-filled (places ∷ pattern) [] h = absurd h
free_of_word-filled (places ∷ pattern) (bits ∷ word) h =
    same_words _ _ _ _ (bits_of-filled places bits (free_of_word pattern word) h.0)
    (ap (filled pattern) (drop_at (bits_of places bits) (free_of_word pattern word) (free_count places) (bits_of-count places bits h.0))
    ∙ free_of_word-filled pattern word h.1)

pub each_filling :
    (pattern : List (List Tern)) (word : List (List Bool)) → IsFilling pattern word
    → (free : List Bool) × (length free ≡ free_bits pattern) × (filled pattern free ≡ word)
each_filling pattern word h = (free_of_word pattern word, free_of_word-count pattern word h, free_of_word-filled pattern word h)
