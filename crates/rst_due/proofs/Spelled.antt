-- A command that words spell names its script before its sources, and makes at most 60 stages.
use Rattle.std.proofs.Common.{◌≡◌, ◌∙◌, ℕ, suc, ◌+◌, ◌-◌, ◌*◌, ◌≤◌, ◌<◌, Bool, true, false, ◌&&◌, nat_le, if◌then◌else◌, List, [], ◌∷◌, length, map, codes, bytes_eq, string_bytes, String, Option, Some, None, refl, sym, ap, subst, arith}
use Rattle.std.specs.Option.{option_map}
use Rattle.std.specs.declared.alloc.Global.{Global}
use Rattle.std.proofs.lemmas.Bool.{leb-true}
use Rattle.rst_command.specs.declared.words.Input as read
use Rattle.rst_command.specs.declared.words.Command as reading
use Rattle.rst_command.specs.Commands.{Word, words_from, Input, Command, Check, Known, Demo, is_digit, is_count, is_apart, demo_number, check_of, known_of, demo_of, command_of, plain_input}

-- each source stands behind the script
abbrev IsBehind : Input → Type 0
IsBehind input = (word : Word) (words : List Word) → input.files ≡ word ∷ words → input.script.place < word.place

abbrev IsFew : ℕ → Type 0
IsFew stages = stages ≤ 60

abbrev FewIn : Option ℕ → Type 0
FewIn None = Unit {0}
FewIn (Some stages) = IsFew stages

abbrev FitsIn : Option Command → Type 0
FitsIn None = Unit {0}
FitsIn (Some (Check input cert)) = IsBehind input
FitsIn (Some (Known input)) = IsBehind input
FitsIn (Some (Demo stages)) = IsFew stages

fits_if : (b : Bool) (c d : Option Command) → FitsIn c → FitsIn d → FitsIn (if b then c else d)
fits_if true c d x y = x
fits_if false c d x y = y

few_if : (b : Bool) (c d : Option ℕ) → (b ≡ true → FewIn c) → FewIn d → FewIn (if b then c else d)
few_if true c d x y = x refl
few_if false c d x y = y

-- the first of the sources stands where they begin
first_at : (first place : ℕ) (texts : List (List ℕ)) → place < first → (word : Word) (words : List Word) → words_from first texts ≡ word ∷ words → place < word.place
first_at first place [] less word words is = cc
first_at first place (text ∷ texts) less word words is =
    let at : first ≡ word.place = cc in
    subst (λ (n : ℕ). place < n) at less

check_fits : (words : List (List ℕ)) → FitsIn (check_of words)
check_fits [] = tt
check_fits (top ∷ []) = tt
check_fits (top ∷ script ∷ []) = tt
check_fits (top ∷ script ∷ cert ∷ files) =
    fits_if (is_count (length files) && is_apart script cert files)
    (Some (Check (record { top = top; script = record { place = 2; text = script }; files = words_from 4 files }) cert)) None
    (first_at 4 2 files (omega arith)) tt

known_fits : (words : List (List ℕ)) → FitsIn (known_of words)
known_fits [] = tt
known_fits (top ∷ []) = tt
known_fits (top ∷ script ∷ files) =
    fits_if (is_count (length files)) (Some (Known (record { top = top; script = record { place = 2; text = script }; files = words_from 3 files }))) None
    (first_at 3 2 files (omega arith)) tt

both_left : (a b : Bool) → (a && b) ≡ true → a ≡ true
both_left true b is = refl
both_left false b is = cc

both_right : (a b : Bool) → (a && b) ≡ true → b ≡ true
both_right true b is = is
both_right false b is = cc

digit_most : (least most d : ℕ) → is_digit least most d ≡ true → d ≤ 48 + most
digit_most least most d is = leb-true d (48 + most) (both_right (nat_le (48 + least) d) (nat_le d (48 + most)) is)

number_few : (text : List ℕ) → FewIn (demo_number text)
number_few [] = tt
number_few (d ∷ []) =
    few_if (is_digit 1 9 d) (Some (d - 48)) None (λ is.
    let most : d ≤ 48 + 9 = digit_most 1 9 d is in
    omega (arith, most)) tt
number_few (t ∷ d ∷ []) =
    few_if (is_digit 1 5 t && is_digit 0 9 d) (Some ((t - 48) * 10 + (d - 48))) (if bytes_eq (t ∷ d ∷ []) (codes "60") then Some 60 else None) (λ is.
    let tens : t ≤ 48 + 5 = digit_most 1 5 t (both_left (is_digit 1 5 t) (is_digit 0 9 d) is) in
    let ones : d ≤ 48 + 9 = digit_most 0 9 d (both_right (is_digit 1 5 t) (is_digit 0 9 d) is) in
    omega (arith, tens, ones))
    (few_if (bytes_eq (t ∷ d ∷ []) (codes "60")) (Some 60) None (λ is. omega arith) tt)
number_few (t ∷ d ∷ e ∷ more) = tt

demo_map : (o : Option ℕ) → FewIn o → FitsIn (option_map Demo o)
demo_map None few = tt
demo_map (Some stages) few = few

demo_fits : (words : List (List ℕ)) → FitsIn (demo_of words)
demo_fits [] = tt
demo_fits (number ∷ []) = demo_map (demo_number number) (number_few number)
demo_fits (number ∷ other ∷ more) = tt

command_fits : (words : List (List ℕ)) → FitsIn (command_of words)
command_fits [] = tt
command_fits (name ∷ words) =
    fits_if (bytes_eq name (codes "check")) (check_of words) (if bytes_eq name (codes "known") then known_of words else (if bytes_eq name (codes "demo") then demo_of words else None))
    (check_fits words)
    (fits_if (bytes_eq name (codes "known")) (known_of words) (if bytes_eq name (codes "demo") then demo_of words else None)
    (known_fits words)
    (fits_if (bytes_eq name (codes "demo")) (demo_of words) None (demo_fits words) tt))

-- THE CODE'S COMMANDS

behind : (input : read.Input) → 1 ≤ length input.files.texts.now → IsBehind (plain_input input) → input.script.place < input.files.first
behind input some is = from input.files.texts.now some is
  where
    from : (texts : List (String Global)) → 1 ≤ length texts
        → ((word : Word) (words : List Word) → words_from input.files.first (map string_bytes texts) ≡ word ∷ words → input.script.place < word.place) → input.script.place < input.files.first
    from [] some is = omega (arith, some)
    from (text ∷ texts) some is = is _ _ refl

pub check_before : (words : List (List ℕ)) (input : read.Input) (cert : List ℕ) → 1 ≤ length input.files.texts.now → command_of words ≡ Some (Check (plain_input input) cert)
    → input.script.place < input.files.first
check_before words input cert some spelled = behind input some (subst FitsIn spelled (command_fits words))

pub known_before : (words : List (List ℕ)) (input : read.Input) → 1 ≤ length input.files.texts.now → command_of words ≡ Some (Known (plain_input input))
    → input.script.place < input.files.first
known_before words input some spelled = behind input some (subst FitsIn spelled (command_fits words))

pub demo_few : (words : List (List ℕ)) (stages : ℕ) → command_of words ≡ Some (Demo stages) → stages ≤ 60
demo_few words stages spelled = subst FitsIn spelled (command_fits words)
