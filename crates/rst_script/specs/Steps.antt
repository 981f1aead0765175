-- The lines `step NAME=VALUE .. xN`.
use Rattle.std.specs.Prelude.{ℕ, ◌+◌, ◌-◌, ◌^◌, ◌==◌, nat_lt, Bool, false, ◌||◌, List, [], ◌∷◌, ◌++◌, map, Option, Some, None, option_map, option_and_then, Result, Ok, Err, bytes_eq, codes, if◌then◌else◌}
use Rattle.std.specs.List.{list_any}
use Prim.Native.Char.{code}
use Rattle.rst_lex.specs.Words.{is_name}
use Rattle.rst_script.specs.declared.script.Setting.{Setting}
use Rattle.rst_script.specs.declared.script.ScriptFault.{ScriptFault}
use Rattle.rst_script.specs.declared.script.ScriptFault.TheVariants.{BadLine, Repeated, TooMany}
use Rattle.rst_script.specs.Lines.{Line}
use Rattle.rst_script.specs.Numbers.{at_most, repetition, value_number}
use Rattle.rst_script.specs.Choices.{and_then}

-- a step in plain form: its line, how many clock cycles it has, and its settings
pub record PlainStep : Type 0 where
  pub line : ℕ
  pub times : ℕ
  pub values : List Setting

abbrev pub is_sign : ℕ → Bool
is_sign b = b == code "="

-- what stands before the first = of a word, and what behind it
abbrev pub parted : List ℕ → Option (List ℕ × List ℕ)
parted [] = None
parted (b ∷ bs) = if is_sign b then Some ([], bs) else option_map (λ (parts : List ℕ × List ℕ). (b ∷ parts.0, parts.1)) (parted bs)

-- what stands for a value: `*` for free bits, in version 2 alone, or a number below 2^64
abbrev pub value_of : ℕ → List ℕ → Option (Option ℕ)
value_of version text =
    if bytes_eq text (codes "*") then (if version == 2 then Some None else None) else option_map (λ (n : ℕ). Some n) (at_most (2 ^ 64 - 1) (value_number text))

abbrev pub named_setting : ℕ → List ℕ × List ℕ → Option Setting
named_setting version parts = if is_name parts.0 then option_map (λ (value : Option ℕ). record { name = parts.0; value = value }) (value_of version parts.1) else None

-- the setting that a word `NAME=VALUE` is
abbrev pub setting_of : ℕ → List ℕ → Option Setting
setting_of version word = option_and_then (named_setting version) (parted word)

-- how often a step is repeated, by a word that is no setting: it has to be the last
abbrev pub last_of : List ℕ → List (List ℕ) → Option ℕ
last_of word [] = repetition word
last_of word (other ∷ others) = None

-- The settings of a step behind those before, and how often it is repeated: once where no word says it.
abbrev pub settings_in : ℕ → List Setting → List (List ℕ) → Option (List Setting × ℕ)
settings_in version before [] = Some (before, 1)
settings_in version before (word ∷ others) =
    elim (setting_of version word) as (λ _. Option (List Setting × ℕ)) [
      | None ↦ option_map (λ (times : ℕ). (before, times)) (last_of word others)
      | Some setting ↦ settings_in version (before ++ setting ∷ []) others
    ]

-- the words behind the first, where that is `step`
abbrev pub step_words : List (List ℕ) → Option (List (List ℕ))
step_words [] = None
step_words (word ∷ others) = if bytes_eq word (codes "step") then Some others else None

-- the settings of a step's line, and how often it is repeated
abbrev pub step_of : ℕ → List (List ℕ) → Option (List Setting × ℕ)
step_of version words = option_and_then (settings_in version []) (step_words words)

abbrev pub names_set : List Setting → List (List ℕ)
names_set settings = map (λ (setting : Setting). setting.name) settings

abbrev pub is_met : List (List ℕ) → List ℕ → Bool
is_met names name = list_any (λ (other : List ℕ). bytes_eq name other) names

-- whether one of the names was met before, or stands twice
abbrev pub has_twice : List (List ℕ) → List (List ℕ) → Bool
has_twice met [] = false
has_twice met (name ∷ others) = is_met met name || has_twice (met ++ name ∷ []) others

-- the step of a line behind so many clock cycles
abbrev pub step_from : ℕ → ℕ → Option (List Setting × ℕ) → Result PlainStep ScriptFault
step_from cycles line None = Err (BadLine line)
step_from cycles line (Some step) =
    if has_twice [] (names_set step.0) then Err (Repeated line)
    else (if nat_lt 128 (cycles + step.1) then Err (TooMany line) else Ok (record { line = line; times = step.1; values = step.0 }))

abbrev pub step_at : ℕ → ℕ → Line → Result PlainStep ScriptFault
step_at version cycles line = step_from cycles line.number (step_of version line.words)

-- the steps behind those before, which have so many clock cycles
abbrev pub steps_in : ℕ → ℕ → List PlainStep → List Line → Result (List PlainStep) ScriptFault
steps_in version cycles before [] = Ok before
steps_in version cycles before (line ∷ others) = and_then (step_at version cycles line) (λ step. steps_in version (cycles + step.times) (before ++ step ∷ []) others)
