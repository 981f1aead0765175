-- The shape of the patterns that steps give, and their free bits.
use Rattle.std.proofs.Common.{◌≡◌, ℕ, zero, suc, ◌+◌, ◌*◌, ◌≤◌, Bool, true, false, cond, nat_lt, Option, Some, None, Result, Ok, Err, List, [], ◌∷◌, ◌++◌, length, replicate, refl, sym, ap, subst, ◌∙◌, length-append, arith}
use Rattle.std.specs.List.{AllByRecursion}
use Rattle.std.specs.Option.{option_or}
use Rattle.std.proofs.lemmas.Bool.{leb-false}
use Rattle.std.proofs.lemmas.List.Sums.{sum_by-cons}
use Rattle.rst_outside.specs.declared.names.PortBits.{PortBits}
use Rattle.rst_value.specs.declared.tern.Tern.{Tern}
use Rattle.rst_value.specs.declared.tern.Tern.TheVariants.{Unknown}
use Rattle.rst_gate.specs.Patterns.{free_count, free_bits}
use Rattle.rst_script.specs.declared.script.Setting.{Setting}
use Rattle.rst_script.specs.declared.script.ScriptFault.{ScriptFault}
use Rattle.rst_script.specs.declared.script.ScriptFault.TheVariants.{TooFree}
use Rattle.rst_script.specs.Steps.{PlainStep}
use Rattle.rst_script.specs.Fitting.{settings_fault, value_in, known_places, places_of, cube_of, step_free, first_fault, pattern_of, unless, fit_of}
use Rattle.rst_script.specs.Limits.{cycles_of, bits_of, IsFit}

length_replicate : {A : Type 0} (n : ℕ) (x : A) → length (replicate n x) ≡ n
length_replicate zero x = refl
length_replicate (suc n) x = ap suc (length_replicate n x)

length_known : (width value : ℕ) → length (known_places width value) ≡ width
length_known zero value = refl
length_known (suc width) value = ap suc (length_known width value)

length_places : (width : ℕ) (value : Option ℕ) → length (places_of width value) ≡ width
length_places width None = length_replicate width Unknown
length_places width (Some value) = length_known width value

length_cube : (ports : List PortBits) (settings : List Setting) → length (cube_of ports settings) ≡ bits_of ports
length_cube [] settings = refl
length_cube (port ∷ ports) settings =
    let here = length_places port.width (value_in settings port.name) in
    let others = length_cube ports settings in
    let whole = sum_by-cons (λ (port : PortBits). port.width) port ports in
    length-append (places_of port.width (value_in settings port.name)) (cube_of ports settings) ∙ omega (arith, here, others, whole)

all_append : {A : Type 0} (P : A → Type 0) (xs ys : List A) → AllByRecursion P xs → AllByRecursion P ys → AllByRecursion P (xs ++ ys)
all_append P [] ys h k = k
all_append P (x ∷ xs) ys h k = (h.0, all_append P xs ys h.1 k)

all_replicate : {A : Type 0} (P : A → Type 0) (n : ℕ) (x : A) → P x → AllByRecursion P (replicate n x)
all_replicate P zero x h = tt
all_replicate P (suc n) x h = (h, all_replicate P n x h)

places_fit : (ports : List PortBits) (steps : List PlainStep) → AllByRecursion (λ (places : List Tern). length places ≡ bits_of ports) (pattern_of ports steps)
places_fit ports [] = tt
places_fit ports (step ∷ steps) =
    all_append (λ (places : List Tern). length places ≡ bits_of ports) (replicate step.times (cube_of ports step.values)) (pattern_of ports steps)
    (all_replicate (λ (places : List Tern). length places ≡ bits_of ports) step.times (cube_of ports step.values) (length_cube ports step.values))
    (places_fit ports steps)

cycles_fit : (ports : List PortBits) (steps : List PlainStep) → length (pattern_of ports steps) ≡ cycles_of steps
cycles_fit ports [] = refl
cycles_fit ports (step ∷ steps) =
    let here = length_replicate step.times (cube_of ports step.values) in
    let others = cycles_fit ports steps in
    let whole = sum_by-cons (λ (step : PlainStep). step.times) step steps in
    length-append (replicate step.times (cube_of ports step.values)) (pattern_of ports steps) ∙ omega (arith, here, others, whole)

free_append : (a b : List (List Tern)) → free_bits (a ++ b) ≡ free_bits a + free_bits b
free_append [] b = omega arith
free_append (places ∷ a) b = let others = free_append a b in omega (arith, others)

free_replicate : (n : ℕ) (places : List Tern) → free_bits (replicate n places) ≡ n * free_count places
free_replicate zero places = omega arith
free_replicate (suc n) places = let others = free_replicate n places in omega (arith, others)

-- the free bits of a step are those of its cubes
pub free_step : (ports : List PortBits) (step : PlainStep) (steps : List PlainStep)
    → free_bits (pattern_of ports (step ∷ steps)) ≡ step_free ports step + free_bits (pattern_of ports steps)
free_step ports step steps =
    free_append (replicate step.times (cube_of ports step.values)) (pattern_of ports steps)
    ∙ ap (λ n. n + free_bits (pattern_of ports steps)) (free_replicate step.times (cube_of ports step.values))

no_fault_first : (a b : Option ScriptFault) → option_or a b ≡ None → b ≡ None
no_fault_first None b e = e
no_fault_first (Some fault) b e = absurd (cc)

not_too_free : (free line : ℕ) (rest : Option ScriptFault) (x : Bool) → x ≡ nat_lt 1024 free → cond x (Some (TooFree line)) rest ≡ None → (free ≤ 1024) × (rest ≡ None)
not_too_free free line rest true e f = absurd (cc)
not_too_free free line rest false e f = (let few = leb-false (suc 1024) free (sym e) in omega (arith, few), f)

few_free : (ports : List PortBits) (free : ℕ) (steps : List PlainStep) → free ≤ 1024 → first_fault ports free steps ≡ None → free + free_bits (pattern_of ports steps) ≤ 1024
few_free ports free [] h e = omega (arith, h)
few_free ports free (step ∷ steps) h e =
    let more = free + step_free ports step in
    let p = not_too_free more step.line (first_fault ports more steps) (nat_lt 1024 more) refl
    (no_fault_first (settings_fault ports step.line step.values) (cond (nat_lt 1024 more) (Some (TooFree step.line)) (first_fault ports more steps)) e) in
    let others : more + free_bits (pattern_of ports steps) ≤ 1024 = few_free ports more steps p.0 p.1 in
    let all = free_step ports step steps in
    omega (arith, others, all)

value_of_ok : {A : Type 0} → A → Result A ScriptFault → A
value_of_ok d (Ok x) = x
value_of_ok d (Err fault) = d

no_fault : {A : Type 0} (fault : Option ScriptFault) (x y : A) → unless fault x ≡ Ok y → (fault ≡ None) × (x ≡ y)
unfolding value_of_ok
no_fault None x y e = (refl, ap (value_of_ok x) e)
no_fault (Some fault) x y e = absurd (cc)

pub fits : (ports : List PortBits) (steps : List PlainStep) (pattern : List (List Tern)) → fit_of ports steps ≡ Ok pattern → IsFit ports steps pattern
fits ports steps pattern e =
    let p = no_fault (first_fault ports 0 steps) (pattern_of ports steps) pattern e in
    subst (IsFit ports steps) p.1 (record {
      cycles = cycles_fit ports steps;
      places = places_fit ports steps;
      free = let few = few_free ports 0 steps (omega arith) p.0 in omega (arith, few);
    })
