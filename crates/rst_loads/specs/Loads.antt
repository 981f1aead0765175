-- What the loads of a command give: the texts of its files, in the order of the words, or why the first that gives none doesn't.
-- A load may fail at any place, so these definitions take the place of the word whose load failed, if one did.
use Rattle.std.specs.Prelude.{◌≡◌, ◌≤◌, ◌<◌, ◌++◌, ℕ, nat_le, ◌==◌, Bool, false, List, [], ◌∷◌, length, map, Option, None, Some, Result, Ok, Err, if◌then◌else◌}
use Rattle.std.specs.declared.vec.Vec.{Vec}
use Rattle.std.specs.declared.alloc.Global.{Global}
use Rattle.rst_outside.specs.declared.desk.DeskFile.{DeskFile}
use Rattle.rst_outside.specs.Causes.{Rose}
use Rattle.rst_outside.specs.Files.{bytes_under}
use Rattle.rst_command.specs.Commands.{Word, Input}
use Rattle.rst_loads.specs.declared.loading.Stop.{Stop}
use Rattle.rst_loads.specs.declared.loading.Stop.TheVariants.{Unread, TooLong, NoMemory}
use Rattle.rst_loads.specs.declared.loading.Texts as loading

-- the texts of a command: the script, and the sources in the order of the words
pub record Texts : Type 0 where
  pub script : List ℕ
  pub sources : List (List ℕ)

-- texts as their bytes
abbrev pub bytes_of : List (Vec ℕ Global) → List (List ℕ)
bytes_of texts = map (λ text. text.items) texts

abbrev pub plain_texts : loading.Texts → Texts
plain_texts texts = record { script = texts.script.items; sources = bytes_of texts.sources.items }

-- the most bytes of a text
abbrev pub IsShort : List ℕ → Type 0
IsShort text = length text ≤ 1048576

-- what comes of an answer, or why there is none
abbrev pub and_then : {A B : Type 0} → Result A Stop → (A → Result B Stop) → Result B Stop
and_then (Ok x) next = next x
and_then (Err stop) next = Err stop

-- whether this is the place
abbrev pub is_at : Option ℕ → ℕ → Bool
is_at None place = false
is_at (Some at) place = at == place

-- the text of a file, which has at most 1,048,576 bytes; the word at this place names it
abbrev pub text_in : ℕ → Option (List ℕ) → Result (List ℕ) Stop
text_in place None = Err (Unread place)
text_in place (Some bytes) = if nat_le (length bytes) 1048576 then Ok bytes else Err (TooLong place)

-- what the load of a word gives: it may have failed
abbrev pub load_of : List DeskFile → Option ℕ → Word → Result (List ℕ) Stop
load_of files failed word = if is_at failed word.place then Err (Unread word.place) else text_in word.place (bytes_under word.text files)

-- the texts of words, or the first that gives none
abbrev pub loads_of : List DeskFile → Option ℕ → List Word → Result (List (List ℕ)) Stop
loads_of files failed [] = Ok []
loads_of files failed (word ∷ words) = and_then (load_of files failed word) (λ text. and_then (loads_of files failed words) (λ texts. Ok (text ∷ texts)))

-- The texts of a command's input: first the script is loaded, then the sources.
abbrev pub texts_of : List DeskFile → Option ℕ → Input → Result Texts Stop
texts_of files failed input =
    and_then (load_of files failed input.script) (λ script. and_then (loads_of files failed input.files) (λ sources. Ok (record { script = script; sources = sources })))

-- the places of the words that are loaded
abbrev pub places : Input → List ℕ
places input = input.script.place ∷ map (λ (word : Word). word.place) input.files

-- WORDS OF THE CONTRACTS

-- the place whose load failed, where the loads stopped so
abbrev pub failed_of : Stop → Option ℕ
failed_of (Unread place) = Some place
failed_of (TooLong place) = None
failed_of NoMemory = None

-- a failed load is counted
abbrev pub IsCause : ℕ → ℕ → Stop → Type 0
IsCause before now (Unread place) = Rose before now
IsCause before now (TooLong place) = Unit {0}
IsCause before now NoMemory = Unit {0}

-- the place is this word's
abbrev pub IsUnreadOf : ℕ → Stop → Type 0
IsUnreadOf at (Unread place) = place ≡ at
IsUnreadOf at (TooLong place) = place ≡ at
IsUnreadOf at NoMemory = Unit {0}

-- the place is one from a first on and before an end
abbrev pub IsUnreadIn : ℕ → ℕ → Stop → Type 0
IsUnreadIn first end (Unread place) = (first ≤ place) × (place < end)
IsUnreadIn first end (TooLong place) = (first ≤ place) × (place < end)
IsUnreadIn first end NoMemory = Unit {0}

-- the loads of the words give what stands behind the texts before
abbrev pub LoadsGive : List DeskFile → List Word → List (Vec ℕ Global) → List (Vec ℕ Global) → Type 0
LoadsGive files words before now =
    (more : List (List ℕ)) × (loads_of files None words ≡ Ok more) × (bytes_of now ≡ bytes_of before ++ more)
