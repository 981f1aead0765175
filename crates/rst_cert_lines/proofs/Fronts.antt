-- What is read off a front.
use Rattle.std.proofs.Common.{◌≡◌, arith, ◌-◌, ◌+◌, suc, None, Err, ℤ, ℕ, ◌≤◌, ◌<◌, ◌^◌, true, Some, List, length, map, take, drop, refl, ap, le-leb, lt-ltb}
use Rattle.std.specs.List.{list_all}
use Rattle.std.specs.Fmt.{decimal}
use Rattle.rst_cert_lines.specs.declared.cursor.LineFault.{LineFault}
use Rattle.rst_cert_lines.specs.declared.cursor.LineFault.TheVariants.{Wrong, NoMemory}
use Rattle.rst_cert_lines.specs.Reading.{is_bit, bit_of, bits_at, is_place, place_of, places_at, word_of, number_at, Read, Gives, one_at, literals_with, literals_behind}
use Rattle.rst_cert_lines.proofs.Numbers.{written_number, same_bytes}

pub bits_front : (count : ℕ) (text : List ℕ) → count ≤ length text → list_all is_bit (take count text) ≡ true
    → bits_at count text ≡ Some (map bit_of (take count text), drop count text)
unfolding bits_at
bits_front count text fits all = rw (le-leb _ _ fits, all) refl

pub places_front : (count : ℕ) (text : List ℕ) → count ≤ length text → list_all is_place (take count text) ≡ true
    → places_at count text ≡ Some (map place_of (take count text), drop count text)
unfolding places_at
places_front count text fits all = rw (le-leb _ _ fits, all) refl

pub number_front : (number : ℕ) (text : List ℕ) → number < 2 ^ 64 → decimal number ≡ word_of text
    → number_at text ≡ Some (number, drop (length (word_of text)) text)
unfolding number_at
number_front number text small is =
    rw (written_number number (word_of text) small is, lt-ltb _ _ small, is, same_bytes (word_of text)) refl

-- one more literal of those that may come
pub literals_go : (most counter : ℕ) (before : List ℤ) (text : List ℕ) → counter < most
    → literals_behind (most - counter) before text ≡ literals_with (literals_behind (most - (counter + 1))) before (one_at text)
literals_go most counter before text under =
    let one : most - counter ≡ suc (most - (counter + 1)) = omega arith in
    ap (λ n. literals_behind n before text) one

pub literals_stop : (most counter : ℕ) (before : List ℤ) (text : List ℕ) → most ≤ counter → literals_behind (most - counter) before text ≡ None
literals_stop most counter before text over =
    let none : most - counter ≡ 0 = omega arith in
    ap (λ n. literals_behind n before text) none

-- a fault of a part is one of the whole
pub gives_fault : {A B : Type 0} (part : Read A) (whole : Read B) (fault : LineFault) (left rest : List ℕ) → (part ≡ None → whole ≡ None)
    → Gives part (Err fault) left → Gives whole (Err fault) rest
gives_fault part whole Wrong left rest same given = same given
gives_fault part whole NoMemory left rest same given = tt
