-- The ports of a design have as many bits as the design has.
use Rattle.std.proofs.Common.{◌≡◌, ◌∙◌, ◌≤◌, ℕ, suc, ◌+◌, Bool, true, false, cond, List, [], ◌∷◌, map, sum, Option, Some, None, refl, sym, ap, subst}
use Rattle.std.specs.Prelude.{slice_get}
use Rattle.std.proofs.lemmas.List.Sums.{sum-map, sum_by-cons}
use Rattle.rst_outside.specs.declared.names.PortBits.{PortBits}
use Rattle.rst_net.specs.declared.signal.Role.{Role}
use Rattle.rst_net.specs.declared.signal.Role.TheVariants as role
use Rattle.rst_net.specs.Units.{PlainSignal, PlainFlat, plain_signal}
use Rattle.rst_net.specs.declared.signal.Signal.{Signal}
use Rattle.rst_cycle.specs.Signals.{Whole, same_role, with_role_from, with_role, width_in, width_of}
use Rattle.rst_cycle.specs.Cycle.{bit_count}
use Rattle.rst_flow.specs.Nets.{HasFewBits}
use Rattle.rst_ports.specs.Ports.{port_of, ports_with, port_in, port_at, output_ports}
use Rattle.rst_report.specs.Heads.{width_sum, KeepsLimits}
use Rattle.rst_report.specs.declared.head.Head.{Head}

sum_more : {X : Type 0} (f : X → ℕ) (x : X) (xs : List X) → sum (map f (x ∷ xs)) ≡ f x + sum (map f xs)
sum_more f x xs = sum-map f (x ∷ xs) ∙ (sum_by-cons f x xs ∙ ap (λ (n : ℕ). f x + n) (sym (sum-map f xs)))

one_more : (b : Bool) (port : PortBits) (ports : List PortBits) (i : ℕ) (others : List Whole) → width_sum ports ≡ bit_count others
    → width_sum (cond b (port ∷ ports) ports) ≡ bit_count (cond b (record { number = i; width = port.width } ∷ others) others)
one_more true port ports i others is =
    ap (λ (n : ℕ). port.width + n) is ∙ sym (sum_more (λ (s : Whole). s.width) (record { number = i; width = port.width }) others)
one_more false port ports i others is = is

widths_from : (i : ℕ) (role : Role) (signals : List PlainSignal) → width_sum (ports_with role signals) ≡ bit_count (with_role_from i role signals)
widths_from i role [] = refl
widths_from i role (s ∷ signals) = one_more (same_role s.role role) (port_of s) (ports_with role signals) i (with_role_from (suc i) role signals) (widths_from (suc i) role signals)

pub widths_are : (role : Role) (signals : List PlainSignal) → width_sum (ports_with role signals) ≡ bit_count (with_role role signals)
widths_are role signals = widths_from 0 role signals

port_width : (s : Option PlainSignal) → (port_in s).width ≡ width_in s
port_width None = refl
port_width (Some s) = refl

outputs_are : (signals : List PlainSignal) (numbers : List ℕ) → width_sum (output_ports signals numbers) ≡ sum (map (width_of signals) numbers)
outputs_are signals [] = refl
outputs_are signals (n ∷ numbers) =
    ap (λ (w : ℕ). w + width_sum (output_ports signals numbers)) (port_width (slice_get signals n))
    ∙ (ap (λ (m : ℕ). width_of signals n + m) (outputs_are signals numbers) ∙ sym (sum_more (width_of signals) n numbers))

-- as the code makes it
pub head_keeps : (head : Head) (flat : PlainFlat) → HasFewBits flat.signals flat.outputs → head.inputs ≡ ports_with role.Input flat.signals → head.outputs ≡ output_ports flat.signals flat.outputs
    → head.registers ≡ ports_with role.Register flat.signals → KeepsLimits head
head_keeps head flat few inputs outputs registers = record {
  registers = subst (λ (n : ℕ). n ≤ 512) (sym (ap width_sum registers ∙ widths_are role.Register flat.signals)) few.registers;
  inputs = subst (λ (n : ℕ). n ≤ 256) (sym (ap width_sum inputs ∙ widths_are role.Input flat.signals)) few.inputs;
  outputs = subst (λ (n : ℕ). n ≤ 256) (sym (ap width_sum outputs ∙ outputs_are flat.signals flat.outputs)) few.output_bits;
}

pub outs_same : (signals signals_to : List Signal) (numbers numbers_to : List ℕ) → signals ≡ signals_to → numbers ≡ numbers_to
    → output_ports (map plain_signal signals) numbers ≡ output_ports (map plain_signal signals_to) numbers_to
outs_same signals signals_to numbers numbers_to s n =
    ap (λ (z : List Signal). output_ports (map plain_signal z) numbers) s ∙ ap (λ (z : List ℕ). output_ports (map plain_signal signals_to) z) n
