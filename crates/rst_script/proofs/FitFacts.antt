-- One setting, one port or one step more, as loops meet them.
use Rattle.std.proofs.Common.{◌≡◌, ℕ, zero, suc, ◌+◌, ◌-◌, ◌<◌, Bool, cond, Option, Some, List, [], ◌∷◌, ◌++◌, length, get_or, drop, sym, ap, ◌∙◌, append_assoc, arith}
use Rattle.std.specs.Option.{option_or}
use Rattle.std.specs.Str.{bytes_eq}
use Rattle.rst_outside.specs.declared.names.PortBits.{PortBits}
use Rattle.rst_script.specs.declared.script.Setting.{Setting}
use Rattle.rst_script.specs.declared.script.ScriptFault.{ScriptFault}
use Rattle.rst_value.specs.declared.tern.Tern.{Tern}
use Rattle.rst_script.specs.Fitting.{width_in, setting_fault, settings_fault, value_in, place_at, known_places}
use Rattle.rst_script.proofs.Rests.{next_of}

pub width_here : (ports : List PortBits) (i : ℕ) (port : PortBits) (name : List ℕ) (b : Bool) → i < length ports → port ≡ get_or ports i port → bytes_eq port.name name ≡ b
    → width_in (drop i ports) name ≡ cond b (Some port.width) (width_in (drop (i + 1) ports) name)
width_here ports i port name b h e same =
    ap (λ (left : List PortBits). width_in left name) (next_of ports i port h e)
    ∙ ap (λ found. cond found (Some port.width) (width_in (drop (i + 1) ports) name)) same

pub value_here : (settings : List Setting) (i : ℕ) (setting : Setting) (name : List ℕ) (b : Bool) → i < length settings → setting ≡ get_or settings i setting
    → bytes_eq setting.name name ≡ b → value_in (drop i settings) name ≡ cond b setting.value (value_in (drop (i + 1) settings) name)
value_here settings i setting name b h e same =
    ap (λ (left : List Setting). value_in left name) (next_of settings i setting h e)
    ∙ ap (λ found. cond found setting.value (value_in (drop (i + 1) settings) name)) same

pub fault_here : (ports : List PortBits) (line : ℕ) (settings : List Setting) (i : ℕ) (setting : Setting) (fault : Option ScriptFault) → i < length settings
    → setting ≡ get_or settings i setting → fault ≡ setting_fault ports line setting
    → settings_fault ports line (drop i settings) ≡ option_or fault (settings_fault ports line (drop (i + 1) settings))
fault_here ports line settings i setting fault h e found =
    ap (settings_fault ports line) (next_of settings i setting h e) ∙ ap (λ fault. option_or fault (settings_fault ports line (drop (i + 1) settings))) (sym found)

-- one place more of a number
pub known_more : (cube : List Tern) (left value : ℕ) (place : Tern) → 0 < left → place ≡ place_at value (left - 1)
    → (cube ++ place ∷ []) ++ known_places (left - 1) value ≡ cube ++ known_places left value
known_more cube zero value place h e = absurd (omega (arith, h))
known_more cube (suc weight) value place h e =
    let same : suc weight - 1 ≡ weight = omega arith in
    append_assoc cube (place ∷ []) (known_places (suc weight - 1) value)
    ∙ (ap (λ first. cube ++ first ∷ known_places (suc weight - 1) value) e ∙ ap (λ k. cube ++ place_at value k ∷ known_places k value) same)
