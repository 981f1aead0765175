-- The table of commands: which words spell which command. Words stand as their bytes, without the program's name.
--
--     check TOP SCRIPT CERT FILE..    CERT is another word than SCRIPT and each FILE
--     known TOP SCRIPT FILE..
--     demo N                          N from 1 to 60, without leading zeros
--
-- There are 1 to 64 FILEs. All other words are no command.
use Rattle.std.specs.Prelude.{ℕ, suc, ◌+◌, ◌-◌, ◌*◌, nat_le, Bool, ◌&&◌, not, List, [], ◌∷◌, length, map, string_bytes, codes, bytes_eq, if◌then◌else◌, Option, None, Some}
use Rattle.std.specs.Option.{option_map}
use Rattle.std.specs.List.{list_any}
use Rattle.rst_command.specs.declared.words.Word as word
use Rattle.rst_command.specs.declared.words.Files.{Files}
use Rattle.rst_command.specs.declared.words.Input as input
use Rattle.rst_command.specs.declared.words.Command as read
use Rattle.rst_command.specs.declared.words.Command.TheVariants as command

-- a word that names a file: where it stands among the command's words, from 0, and what it says
pub record Word : Type 0 where
  pub place : ℕ
  pub text : List ℕ

-- what a question about a design is read from: the name of the top module, the script, the sources
pub record Input : Type 0 where
  pub top : List ℕ
  pub script : Word
  pub files : List Word

pub data Command : Type 0 where
  -- the input, and CERT
  Check : Input → List ℕ → Command
  Known : Input → Command
  Demo : ℕ → Command

-- words one behind the other from a place on
abbrev pub words_from : ℕ → List (List ℕ) → List Word
words_from place [] = []
words_from place (text ∷ texts) = record { place = place; text = text } ∷ words_from (suc place) texts

-- there are 1 to 64 FILEs
abbrev pub is_count : ℕ → Bool
is_count count = nat_le 1 count && nat_le count 64

abbrev pub has_word : List (List ℕ) → List ℕ → Bool
has_word words text = list_any (λ (word : List ℕ). bytes_eq word text) words

-- CERT is another word than SCRIPT and each FILE
abbrev pub is_apart : List ℕ → List ℕ → List (List ℕ) → Bool
is_apart script cert files = not (bytes_eq cert script) && not (has_word files cert)

-- a digit of at least `least` and at most `most`
abbrev pub is_digit : ℕ → ℕ → ℕ → Bool
is_digit least most b = nat_le (48 + least) b && nat_le b (48 + most)

-- a number from 1 to 60: one digit or two, the first of them not 0
abbrev pub demo_number : List ℕ → Option ℕ
demo_number [] = None
demo_number (d ∷ []) = if is_digit 1 9 d then Some (d - 48) else None
demo_number (t ∷ d ∷ []) =
    if is_digit 1 5 t && is_digit 0 9 d then Some ((t - 48) * 10 + (d - 48))
    else (if bytes_eq (t ∷ d ∷ []) (codes "60") then Some 60 else None)
demo_number (t ∷ d ∷ e ∷ more) = None

-- the words behind `check`
abbrev pub check_of : List (List ℕ) → Option Command
check_of [] = None
check_of (top ∷ []) = None
check_of (top ∷ script ∷ []) = None
check_of (top ∷ script ∷ cert ∷ files) =
    if is_count (length files) && is_apart script cert files
    then Some (Check (record { top = top; script = record { place = 2; text = script }; files = words_from 4 files }) cert)
    else None

-- the words behind `known`
abbrev pub known_of : List (List ℕ) → Option Command
known_of [] = None
known_of (top ∷ []) = None
known_of (top ∷ script ∷ files) =
    if is_count (length files)
    then Some (Known (record { top = top; script = record { place = 2; text = script }; files = words_from 3 files }))
    else None

-- the words behind `demo`
abbrev pub demo_of : List (List ℕ) → Option Command
demo_of [] = None
demo_of (number ∷ []) = option_map Demo (demo_number number)
demo_of (number ∷ other ∷ more) = None

-- The command that the words spell.
abbrev pub command_of : List (List ℕ) → Option Command
command_of [] = None
command_of (name ∷ words) =
    if bytes_eq name (codes "check") then check_of words
    else (if bytes_eq name (codes "known") then known_of words
    else (if bytes_eq name (codes "demo") then demo_of words else None))

-- THE CODE'S VALUES

abbrev pub plain_word : word.Word → Word
plain_word w = record { place = w.place; text = w.text.now }

abbrev pub plain_files : Files → List Word
plain_files files = words_from files.first (map string_bytes files.texts.now)

abbrev pub plain_input : input.Input → Input
plain_input i = record { top = i.top.now; script = plain_word i.script; files = plain_files i.files }

abbrev pub plain_command : read.Command → Command
plain_command (command.Check i cert) = Check (plain_input i) cert.now
plain_command (command.Known i) = Known (plain_input i)
plain_command (command.Demo n) = Demo n
