-- A test of words, on the strings that they are.
use Rattle.std.proofs.Common.{◌≡◌, refl, ap, ℕ, Bool, List, [], ◌∷◌, map, string_bytes, bytes_eq, ◌||◌}
use Rattle.std.specs.List.{list_any}
use Rattle.std.specs.declared.string.String.{String}
use Rattle.std.specs.declared.alloc.Global.{Global}
use Rattle.rst_command.specs.Commands.{has_word}

pub any_word : (words : List (String Global)) (text : List ℕ) → has_word (map string_bytes words) text ≡ list_any (λ word. bytes_eq (string_bytes word) text) words
any_word [] text = refl
any_word (word ∷ words) text = ap (λ (rest : Bool). bytes_eq (string_bytes word) text || rest) (any_word words text)
