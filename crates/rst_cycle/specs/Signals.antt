-- The signals of a flat design by their numbers and their roles.
use Rattle.std.specs.Prelude.{ℕ, suc, Bool, true, false, cond, List, [], ◌∷◌, Option, Some, None, slice_get}
use Rattle.rst_net.specs.declared.signal.Role.{Role}
use Rattle.rst_net.specs.declared.signal.Role.TheVariants.{Clock, Input, Register, Block, Wire, Idle}
use Rattle.rst_net.specs.Units.{PlainSignal}

-- a signal's number and its width
pub record Whole : Type 0 where
  pub number : ℕ
  pub width : ℕ

abbrev pub same_role : Role → Role → Bool
same_role Clock Clock = true
same_role Input Input = true
same_role Register Register = true
same_role Block Block = true
same_role Wire Wire = true
same_role Idle Idle = true
same_role _ _ = false

-- the signals from a number on that have a role, in flat order
abbrev pub with_role_from : ℕ → Role → List PlainSignal → List Whole
with_role_from i role [] = []
with_role_from i role (s ∷ signals) =
    cond (same_role s.role role) (record { number = i; width = s.extent.width } ∷ with_role_from (suc i) role signals) (with_role_from (suc i) role signals)

abbrev pub with_role : Role → List PlainSignal → List Whole
with_role role signals = with_role_from 0 role signals

-- the width and the role of a signal; a number without a signal has no bit, and nothing drives it
abbrev pub width_in : Option PlainSignal → ℕ
width_in None = 0
width_in (Some s) = s.extent.width

abbrev pub role_in : Option PlainSignal → Role
role_in None = Idle
role_in (Some s) = s.role

abbrev pub width_of : List PlainSignal → ℕ → ℕ
width_of signals i = width_in (slice_get signals i)

abbrev pub role_of : List PlainSignal → ℕ → Role
role_of signals i = role_in (slice_get signals i)

-- whether units may drive a signal with this role
abbrev pub is_wired : Role → Bool
is_wired Block = true
is_wired Wire = true
is_wired Idle = true
is_wired _ = false
