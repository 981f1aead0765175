-- The limits of bits, as the rows of elaboration count them and as the netlist does.
use Rattle.std.proofs.Common.{◌≡◌, ◌∙◌, refl, ap, subst, ℕ, suc, ◌+◌, ◌≤◌, nat_lt, Bool, true, false, cond, List, [], ◌∷◌, ◌++◌, Option, Some, None, map, fold, arith}
use Rattle.std.specs.List.{flat_map, enumerate_from, slice_get}
use Rattle.std.proofs.lemmas.Bool.Decides.{nat_tests}
use Rattle.rst_tree.specs.Trees.{Text}
use Rattle.rst_net.specs.declared.signal.Role.{Role}
use Rattle.rst_net.specs.declared.signal.Role.TheVariants as role
use Rattle.rst_net.specs.Units.{PlainSignal, PlainFlat}
use Rattle.rst_names.specs.declared.faults.ElabCode.{ElabCode}
use Rattle.rst_names.specs.declared.faults.ElabCode.TheVariants as code
use Rattle.rst_names.specs.Faults.{Fault, first, fault_if}
use Rattle.rst_drivers.specs.declared.limits.Limited.TheVariants as limited
use Rattle.rst_drivers.specs.FlatRows.{many_drivers, undriven, counts, bits_where, width_or, output_bits, registers_text, inputs_text, outputs_text, bit_limits, flat_faults}
use Rattle.rst_cycle.specs.Signals.{Whole, same_role, with_role_from, width_in, width_of}
use Rattle.rst_flow.specs.Nets.{HasFewBits}

-- neither part has a first fault where the whole has none
none_front : (a b : List Fault) → first (a ++ b) ≡ None → first a ≡ None
none_front [] b e = refl
none_front (x ∷ a) b e = absurd cc

none_behind : (a b : List Fault) → first (a ++ b) ≡ None → first b ≡ None
none_behind [] b e = e
none_behind (x ∷ a) b e = absurd cc

no_fault : (b : Bool) (c : ElabCode) (name : Text) (n : ℕ) → first (fault_if b c name n) ≡ None → b ≡ false
no_fault true c name n e = absurd cc
no_fault false c name n e = refl

at_most : (m n : ℕ) → nat_lt m n ≡ false → n ≤ m
at_most m n e = grind (arith, nat_tests)

-- ---- bits by role

nothing : (n : ℕ) → n + 0 ≡ n
nothing n = omega arith

-- one signal more, by its role
step : (f : Role → Bool) (r : Role) (a w i : ℕ) (rest : List PlainSignal) (role_is : Role)
    → f r ≡ same_role r role_is
    → ((a : ℕ) → fold (λ x (s : PlainSignal). x + cond (f s.role) s.extent.width 0) a rest ≡ fold (λ x y. x + y) a (map (λ (s : Whole). s.width) (with_role_from (suc i) role_is rest)))
    → fold (λ x (s : PlainSignal). x + cond (f s.role) s.extent.width 0) (a + cond (f r) w 0) rest
    ≡ fold (λ x y. x + y) a (map (λ (s : Whole). s.width) (cond (same_role r role_is) (record { number = i; width = w } ∷ with_role_from (suc i) role_is rest) (with_role_from (suc i) role_is rest)))
step f r a w i rest role_is same go = cases (same_role r role_is) same
  where
    cases : (b : Bool) → f r ≡ b
        → fold (λ x (s : PlainSignal). x + cond (f s.role) s.extent.width 0) (a + cond (f r) w 0) rest
        ≡ fold (λ x y. x + y) a (map (λ (s : Whole). s.width) (cond b (record { number = i; width = w } ∷ with_role_from (suc i) role_is rest) (with_role_from (suc i) role_is rest)))
    cases true e = ap (λ (b : Bool). fold (λ x (s : PlainSignal). x + cond (f s.role) s.extent.width 0) (a + cond b w 0) rest) e ∙ go (a + w)
    cases false e =
        ap (λ (b : Bool). fold (λ x (s : PlainSignal). x + cond (f s.role) s.extent.width 0) (a + cond b w 0) rest) e
        ∙ ap (λ (n : ℕ). fold (λ x (s : PlainSignal). x + cond (f s.role) s.extent.width 0) n rest) (nothing a) ∙ go a

bits_from : (f : Role → Bool) (role_is : Role) → ((r : Role) → f r ≡ same_role r role_is) → (signals : List PlainSignal) (a i : ℕ)
    → fold (λ x (s : PlainSignal). x + cond (f s.role) s.extent.width 0) a signals ≡ fold (λ x y. x + y) a (map (λ (s : Whole). s.width) (with_role_from i role_is signals))
bits_from f role_is same [] a i = refl
bits_from f role_is same (s ∷ signals) a i = step f s.role a s.extent.width i signals role_is (same s.role) (λ b. bits_from f role_is same signals b (suc i))

is_register : (r : Role) → counts limited.Registers r ≡ same_role r role.Register
is_register role.Clock = refl
is_register role.Input = refl
is_register role.Register = refl
is_register role.Block = refl
is_register role.Wire = refl
is_register role.Idle = refl

is_input : (r : Role) → counts limited.Inputs r ≡ same_role r role.Input
is_input role.Clock = refl
is_input role.Input = refl
is_input role.Register = refl
is_input role.Block = refl
is_input role.Wire = refl
is_input role.Idle = refl

-- ---- bits of outputs

same_width : (o : Option PlainSignal) → width_or o ≡ width_in o
same_width None = refl
same_width (Some s) = refl

outputs_from : (signals : List PlainSignal) (a : ℕ) (outputs : List ℕ)
    → fold (λ x o. x + width_or (slice_get signals o)) a outputs ≡ fold (λ x y. x + y) a (map (width_of signals) outputs)
outputs_from signals a [] = refl
outputs_from signals a (o ∷ outputs) =
    ap (λ b. fold (λ x p. x + width_or (slice_get signals p)) (a + b) outputs) (same_width (slice_get signals o)) ∙ outputs_from signals (a + width_of signals o) outputs

pub few : (flat : PlainFlat) → first (flat_faults flat) ≡ None → HasFewBits flat.signals flat.outputs
few flat none =
    let registers = bits_where (counts limited.Registers) flat.signals in
    let inputs = bits_where (counts limited.Inputs) flat.signals in
    let behind = none_behind (flat_map (undriven flat) (enumerate_from 0 flat.signals)) (bit_limits flat)
    (none_behind (flat_map (many_drivers flat) (enumerate_from 0 flat.signals)) (flat_map (undriven flat) (enumerate_from 0 flat.signals) ++ bit_limits flat) none) in
    let first_fault = fault_if (nat_lt 512 registers) code.Limit registers_text 0 in
    let second_fault = fault_if (nat_lt 256 inputs) code.Limit inputs_text 0 in
    let third_fault = fault_if (nat_lt 256 (output_bits flat)) code.Limit outputs_text 0 in
    let others = none_behind first_fault (second_fault ++ third_fault) behind in
    record {
      registers = subst (λ n. n ≤ 512) (bits_from (counts limited.Registers) role.Register is_register flat.signals 0 0)
          (at_most 512 registers (no_fault (nat_lt 512 registers) code.Limit registers_text 0 (none_front first_fault (second_fault ++ third_fault) behind)));
      inputs = subst (λ n. n ≤ 256) (bits_from (counts limited.Inputs) role.Input is_input flat.signals 0 0)
          (at_most 256 inputs (no_fault (nat_lt 256 inputs) code.Limit inputs_text 0 (none_front second_fault third_fault others)));
      output_bits = subst (λ n. n ≤ 256) (outputs_from flat.signals 0 flat.outputs)
          (at_most 256 (output_bits flat) (no_fault (nat_lt 256 (output_bits flat)) code.Limit outputs_text 0 (none_behind second_fault third_fault others)));
    }
