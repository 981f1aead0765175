-- Two settled valuations of a design in order are one.
use Rattle.std.proofs.Common.{◌≡◌, ◌∙◌, ℕ, zero, suc, ◌%◌, ◌^◌, ◌<◌, ◌⊎◌, Bool, true, false, List, length, Some, arith, refl, sym, ap, subst, inl, inr}
use Rattle.std.specs.List.{slice_get}
use Rattle.std.proofs.lemmas.Bool.{cases_lt, cases_eq, cases_Bool}
use Rattle.std.proofs.lemmas.Option.{slice_get_within, same_Some}
use Rattle.std.proofs.Math.Pow.{pow_mono}
use Rattle.rst_word.specs.Words.{PlainWord}
use Rattle.rst_width.specs.Values.{Valuation}
use Rattle.rst_net.specs.declared.signal.Role.{Role}
use Rattle.rst_net.specs.declared.signal.Role.TheVariants as role
use Rattle.rst_net.specs.Units.{PlainDriver, PlainProcess, Assign, Process, PlainFlat}
use Rattle.rst_net.specs.Statements.{PlainSet}
use Rattle.rst_cycle.specs.Bits.{has_bit}
use Rattle.rst_cycle.specs.Signals.{width_of, role_of, with_role, is_wired}
use Rattle.rst_cycle.specs.Effects.{target_width}
use Rattle.rst_cycle.specs.Drivers.{target_has, sets, drives}
use Rattle.rst_cycle.specs.Cycle.{Settled, given, is_driven}
use Rattle.rst_settled.specs.Orderly.{IsOrderly}
use Rattle.rst_settled.proofs.Bits.{same_number, bit_past}
use Rattle.rst_settled.proofs.Targets.{bit, bits_alike}
use Rattle.rst_settled.proofs.SameValues.{same_value}
use Rattle.rst_settled.proofs.SameBlocks.{block_alike}
use Rattle.rst_settled.proofs.Members.{found, contains_at, no_width, no_bit}
use Rattle.rst_settled.proofs.SameResets.{same_read}

pub role_cases : (r : Role) → ((r ≡ role.Input) ⊎ (r ≡ role.Register)) ⊎ ((r ≡ role.Clock) ⊎ (is_wired r ≡ true))
role_cases role.Clock = inr (inl refl)
role_cases role.Input = inl (inl refl)
role_cases role.Register = inl (inr refl)
role_cases role.Block = inr (inr refl)
role_cases role.Wire = inr (inr refl)
role_cases role.Idle = inr (inr refl)

module _ (flat : PlainFlat) (state input : List Bool) (orderly : IsOrderly flat) (u v : Valuation) (s : Settled flat state input u)
    (t : Settled flat state input v) where
  -- the bits that the first units drive are alike
  abbrev AlikeUpto : ℕ → Type 0
  AlikeUpto n =
      (k : ℕ) (unit : PlainDriver) → k < n → slice_get flat.units k ≡ Some unit → (i place : ℕ) → place < 64 → drives unit i place ≡ true
      → bit u i place ≡ bit v i place

  word_u : (i : ℕ) → u i < 2 ^ 64
  word_u i = let one = s.in_range i in let other = pow_mono (orderly.design.widths i) in omega (arith, one, other)

  word_v : (i : ℕ) → v i < 2 ^ 64
  word_v i = let one = t.in_range i in let other = pow_mono (orderly.design.widths i) in omega (arith, one, other)

  input_alike : (i : ℕ) → role_of flat.signals i ≡ role.Input → u i ≡ v i
  input_alike i e = s.inputs i e ∙ sym (t.inputs i e)

  register_alike : (i place : ℕ) → role_of flat.signals i ≡ role.Register → bit u i place ≡ bit v i place
  register_alike i place e =
      elim (cases_lt place (width_of flat.signals i)) [
        | inl l ↦
            s.registers i place e l
            ∙ (same_read u v (has_bit (given (with_role role.Register flat.signals) state i) place) i place flat.clocked
            (λ process reset within is. input_alike reset.signal (orderly.design.resets process reset within is))
            ∙ sym (t.registers i place e l))
        | inr l ↦ bit_past (u i) (width_of flat.signals i) place (s.in_range i) l ∙ sym (bit_past (v i) (width_of flat.signals i) place (t.in_range i) l)
      ]

  wired_alike :
      (n : ℕ) → AlikeUpto n → (i place : ℕ) → place < 64 → is_wired (role_of flat.signals i) ≡ true
      → ((k : ℕ) (unit : PlainDriver) → slice_get flat.units k ≡ Some unit → drives unit i place ≡ true → k < n) → bit u i place ≡ bit v i place
  wired_alike n earlier i place l wired before =
      elim (cases_Bool (is_driven flat i place)) [
        | inl d ↦
            let driver = found (λ unit. drives unit i place) flat.units d in
            earlier driver.place driver.item (before driver.place driver.item driver.at driver.holds) driver.at i place l driver.holds
        | inr d ↦ s.undriven i place wired d ∙ sym (t.undriven i place wired d)
      ]

  known_alike :
      (n : ℕ) → AlikeUpto n → (i place : ℕ) → place < 64
      → (i < length flat.signals → (k : ℕ) (unit : PlainDriver) → slice_get flat.units k ≡ Some unit → drives unit i place ≡ true → k < n)
      → bit u i place ≡ bit v i place
  known_alike n earlier i place l before =
      elim (cases_lt i (length flat.signals)) [
        | inl there ↦
            elim (role_cases (role_of flat.signals i)) [
              | inl (inl e) ↦ ap (λ m. has_bit m place) (input_alike i e)
              | inl (inr e) ↦ register_alike i place e
              | inr (inl e) ↦ ap (λ m. has_bit m place) (s.clocks i e ∙ sym (t.clocks i e))
              | inr (inr e) ↦ wired_alike n earlier i place l e (before there)
            ]
        | inr past ↦
            let none = no_width flat.signals i past in
            no_bit (u i) (width_of flat.signals i) place (s.in_range i) none ∙ sym (no_bit (v i) (width_of flat.signals i) place (t.in_range i) none)
      ]

  assign_alike : (n : ℕ) → AlikeUpto n → (set : PlainSet) → slice_get flat.units n ≡ Some (Assign set) → (i place : ℕ)
      → target_has set.target i place ≡ true → bit u i place ≡ bit v i place
  assign_alike n earlier set at =
      let within = contains_at flat.units n (Assign set) at in
      let same = same_value u v word_u word_v set.value
      (record {
        same = λ j p l r. known_alike n earlier j p l
            (λ there k unit here d. orderly.order k n (record { before = unit; behind = Assign set; at_a = here; at_b = at; feeds = record { signal = j; place = p; known = there; driven = d; read = r }; not_own = λ _. refl }));
      }) in
      bits_alike set.target u v (s.units (Assign set) within ∙ (ap (λ (w : PlainWord). w.value % 2 ^ target_width set.target) same
      ∙ sym (t.units (Assign set) within)))

  own : (n k : ℕ) (unit : PlainDriver) (process : PlainProcess) (i place : ℕ) → slice_get flat.units n ≡ Some (Process process) → slice_get flat.units k ≡ Some unit
      → drives unit i place ≡ true → sets process.body i place ≡ false → k ≡ n → ⊥
  own n k unit process i place at here d unset e =
      let same : unit ≡ Process process = same_Some unit (Process process) (sym here ∙ (ap (slice_get flat.units) e ∙ at)) in
      let driven : drives (Process process) i place ≡ true = subst (λ (x : PlainDriver). drives x i place ≡ true) same d in
      cc

  block_same : (n : ℕ) → AlikeUpto n → (process : PlainProcess) → slice_get flat.units n ≡ Some (Process process) → (i place : ℕ) → place < 64
      → sets process.body i place ≡ true → bit u i place ≡ bit v i place
  block_same n earlier process at i place l d =
      let within = contains_at flat.units n (Process process) at in
      s.units (Process process) within i place d
      ∙ (block_alike (width_of flat.signals) orderly.design.widths process.body (orderly.design.sound (Process process) within)
      (orderly.blocking (Process process) within) (orderly.latch (Process process) within) u v s.in_range t.in_range
      (λ j p l r unset. known_alike n earlier j p l
      (λ there k unit here d. orderly.order k n (record {
        before = unit;
        behind = Process process;
        at_a = here;
        at_b = at;
        feeds = record { signal = j; place = p; known = there; driven = d; read = r };
        not_own = λ e. absurd (own n k unit process j p at here d unset e);
      })))
      i place l d
      ∙ sym (t.units (Process process) within i place d))

  unit_alike : (n : ℕ) → AlikeUpto n → (unit : PlainDriver) → slice_get flat.units n ≡ Some unit → (i place : ℕ) → place < 64
      → drives unit i place ≡ true → bit u i place ≡ bit v i place
  unit_alike n earlier (Assign set) at i place l d = assign_alike n earlier set at i place d
  unit_alike n earlier (Process process) at i place l d = block_same n earlier process at i place l d

  all_alike : (n : ℕ) → AlikeUpto n
  all_alike zero k unit l at = absurd (omega arith)
  all_alike (suc n) k unit l at =
      elim (cases_eq k n) [
        | inl e ↦ unit_alike n (all_alike n) unit (ap (slice_get flat.units) (sym e) ∙ at)
        | inr other ↦ all_alike n k unit (omega (arith, other)) at
      ]

  pub one_value : (i : ℕ) → u i ≡ v i
  one_value i =
      same_number 64 (u i) (v i) (word_u i) (word_v i)
      (λ p l. known_alike (length flat.units) (all_alike (length flat.units)) i p l (λ there k unit at d. slice_get_within flat.units k unit at))
