-- Marks as the code tests them, by their length.
use Rattle.std.specs.Prelude.{ℕ, ◌==◌, Bool, ◌||◌, ◌&&◌, List, [], ◌∷◌, if◌then◌else◌}
use Prim.Native.Char.{code}

-- ( ) [ ] { } , ; : . # @ = ? + - ! ~ & | ^ * / % < >
abbrev pub is_mark : ℕ → Bool
is_mark a = (a == code "(") || (a == code ")") || (a == code "[") || (a == code "]") || (a == code "{") || (a == code "}") || (a == code ",") || (a == code ";") || (a == code ":")
    || (a == code ".") || (a == code "#") || (a == code "@") || (a == code "=") || (a == code "?") || (a == code "+") || (a == code "-") || (a == code "!") || (a == code "~")
    || (a == code "&") || (a == code "|") || (a == code "^") || (a == code "*") || (a == code "/") || (a == code "%") || (a == code "<") || (a == code ">")

-- << >> <= >= == != && || ~& ~| ~^ ^~ **
abbrev pub is_mark_of_two : ℕ → ℕ → Bool
is_mark_of_two a b = ((a == code "<") && (b == code "<")) || ((a == code ">") && (b == code ">")) || ((a == code "<") && (b == code "=")) || ((a == code ">") && (b == code "="))
    || ((a == code "=") && (b == code "=")) || ((a == code "!") && (b == code "=")) || ((a == code "&") && (b == code "&")) || ((a == code "|") && (b == code "|"))
    || ((a == code "~") && (b == code "&")) || ((a == code "~") && (b == code "|")) || ((a == code "~") && (b == code "^")) || ((a == code "^") && (b == code "~"))
    || ((a == code "*") && (b == code "*"))

-- <<< >>> === !==
abbrev pub is_mark_of_three : ℕ → ℕ → ℕ → Bool
is_mark_of_three a b c = ((a == code "<") && (b == code "<") && (c == code "<")) || ((a == code ">") && (b == code ">") && (c == code ">"))
    || ((a == code "=") && (b == code "=") && (c == code "=")) || ((a == code "!") && (b == code "=") && (c == code "="))

-- how many bytes the longest mark in front has, or 0
abbrev pub mark_len : List ℕ → ℕ
mark_len [] = 0
mark_len (a ∷ []) = if is_mark a then 1 else 0
mark_len (a ∷ b ∷ []) = if is_mark_of_two a b then 2 else (if is_mark a then 1 else 0)
mark_len (a ∷ b ∷ c ∷ bs) = if is_mark_of_three a b c then 3 else (if is_mark_of_two a b then 2 else (if is_mark a then 1 else 0))
