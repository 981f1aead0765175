-- What is read of registers rests on the resets' signals alone.
use Rattle.std.proofs.Common.{◌≡◌, ℕ, suc, Bool, true, false, cond, List, [], ◌∷◌, Option, Some, None, arith, refl, ap}
use Rattle.std.specs.List.{Contains}
use Rattle.rst_width.specs.Values.{Valuation}
use Rattle.rst_net.specs.declared.unit.Reset.{Reset}
use Rattle.rst_net.specs.Statements.{Statement, Block, If, Case, Set, Empty}
use Rattle.rst_net.specs.Units.{PlainProcess}
use Rattle.rst_cycle.specs.Bits.{has_bit, same_bit}
use Rattle.rst_cycle.specs.Drivers.{sets}
use Rattle.rst_cycle.specs.Resets.{BitReset, forced, branch_reset, process_reset, or_else, reset_of, read_bit}

module _ (u v : Valuation) (held : Bool) (i place : ℕ) where
  abbrev IsRead : Option BitReset → Type 0
  IsRead o = read_bit o u held ≡ read_bit o v held

  some_read : (r : BitReset) → u r.signal ≡ v r.signal → IsRead (Some r)
  some_read r e = ap (λ (n : ℕ). cond (same_bit (has_bit n 0) r.level) r.value held) e

  test_read : (b : Bool) (r : BitReset) → u r.signal ≡ v r.signal → IsRead (cond b (Some r) None)
  test_read true r e = some_read r e
  test_read false r e = refl

  branch_read : (reset : Reset) (body : Statement) → u reset.signal ≡ v reset.signal → IsRead (branch_reset reset body i place)
  branch_read reset (If condition first second) e = test_read (sets first i place)
      (record { signal = reset.signal; level = reset.level; value = has_bit (forced first i) place }) e
  branch_read reset (Block statements) e = refl
  branch_read reset (Case selector arms otherwise full) e = refl
  branch_read reset (Set set) e = refl
  branch_read reset Empty e = refl

  process_read :
      (o : Option Reset) (body : Statement) → ((reset : Reset) → o ≡ Some reset → u reset.signal ≡ v reset.signal)
      → IsRead (elim o [ None ↦ None | Some reset ↦ branch_reset reset body i place ])
  process_read None body same = refl
  process_read (Some reset) body same = branch_read reset body (same reset refl)

  else_read : (o rest : Option BitReset) → IsRead o → IsRead rest → IsRead (or_else o rest)
  else_read None rest h k = k
  else_read (Some r) rest h k = h

  pub same_read :
      (clocked : List PlainProcess) → ((process : PlainProcess) (reset : Reset) → Contains clocked process → process.reset ≡ Some reset
      → u reset.signal ≡ v reset.signal)
      → read_bit (reset_of clocked i place) u held ≡ read_bit (reset_of clocked i place) v held
  same_read [] same = refl
  same_read (process ∷ processes) same =
      else_read (process_reset process i place) (reset_of processes i place)
      (process_read process.reset process.body (λ reset e. same process reset (0, omega arith, refl) e))
      (same_read processes (λ other reset within e. same other reset (suc within.0, (let l = within.1 in omega (arith, l)), within.2) e))
