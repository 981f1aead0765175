-- Blocks that hold nothing, from two valuations that agree on what they read and don't set.
use Rattle.std.proofs.Common.{◌≡◌, ◌∙◌, ℕ, ◌<◌, ◌≤◌, ◌^◌, Bool, true, false, not, ◌&&◌, ◌||◌, None, refl, ap, inl, inr}
use Rattle.std.proofs.lemmas.Bool.{and_parts, cases_Bool, not-true}
use Rattle.rst_width.specs.Values.{Valuation}
use Rattle.rst_net.specs.Statements.{Statement}
use Rattle.rst_cycle.specs.Effects.{beginning, effect}
use Rattle.rst_cycle.specs.Drivers.{target_has, sets}
use Rattle.rst_blocks.specs.Reads.{reads_in}
use Rattle.rst_blocks.specs.Surely.{surely, early}
use Rattle.rst_blocks.specs.Blocks.{NoneHeld}
use Rattle.rst_blocks.specs.Sets.{first_set}
use Rattle.rst_settled.specs.Designs.{IsSound}
use Rattle.rst_settled.proofs.Targets.{bit}
use Rattle.rst_settled.proofs.Bodies.{early_before, early_unread}
use Rattle.rst_settled.proofs.SameEffects.{statement_known}

-- what a bit that isn't held tells
record IsSafe (body : Statement) (i place : ℕ) : Type 0 where
  pub sure : surely i place body false ≡ true
  pub late : early i place body false ≡ false

safe_of : (s b e : Bool) → (s && (not b || e)) ≡ false → s ≡ true → (b ≡ true) × (e ≡ false)
safe_of true true e h k = (refl, h)
safe_of true false e h k = absurd cc
safe_of false b e h k = absurd cc

safe : (body : Statement) → NoneHeld body → (i place : ℕ) → place < 64 → sets body i place ≡ true → IsSafe body i place
safe body none i place l h =
    let parts = safe_of (sets body i place) (surely i place body false) (early i place body false) (none i place l) h in
    record { sure = parts.0; late = parts.1 }

-- known before a block are the bits that it reads and doesn't set
abbrev known_before : Statement → ℕ → ℕ → Bool
known_before body i place = target_has (reads_in body) i place && not (sets body i place)

not_known : (r s : Bool) → s ≡ true → (r && not s) ≡ false
not_known true s h = ap not h
not_known false s h = refl

surely_known : (r s : Bool) → r ≡ true → s ≡ false → (r && not s) ≡ true
surely_known true s h k = ap not k
surely_known false s h k = absurd cc

module _ (room : ℕ → ℕ) (narrow : (i : ℕ) → room i ≤ 64) (body : Statement) (sound : IsSound room body) (blocking : first_set false body ≡ None) where
  pub block_below : (v : Valuation) → ((i : ℕ) → v i < 2 ^ room i) → (i : ℕ) → (effect body (beginning v v)).last i < 2 ^ room i
  block_below v below =
      (statement_known room narrow body (λ i place. true) (beginning v v) (beginning v v) sound blocking (λ i place l. early_before i place body)
      (record { seen_p = refl; seen_q = refl; below_p = below; below_q = below; same = λ i place l e. refl })).below_p

  module _ (none : NoneHeld body) where
    late : (i place : ℕ) → place < 64 → early i place body (known_before body i place) ≡ false
    late i place l =
        elim (cases_Bool (sets body i place)) [
          | inl t ↦ ap (early i place body) (not_known (target_has (reads_in body) i place) (sets body i place) t) ∙ (safe body none i place l t).late
          | inr t ↦ elim (cases_Bool (target_has (reads_in body) i place)) [
            | inl r ↦ ap (early i place body) (surely_known (target_has (reads_in body) i place) (sets body i place) r t) ∙ early_before i place body
            | inr r ↦ early_unread i place body (known_before body i place) r
          ]
        ]

    pub block_alike :
        (u v : Valuation) → ((i : ℕ) → u i < 2 ^ room i) → ((i : ℕ) → v i < 2 ^ room i)
        → ((i place : ℕ) → place < 64 → target_has (reads_in body) i place ≡ true → sets body i place ≡ false → bit u i place ≡ bit v i place)
        → (i place : ℕ) → place < 64 → sets body i place ≡ true → bit (effect body (beginning u u)).last i place ≡ bit (effect body (beginning v v)).last i place
    block_alike u v below_u below_v same i place l h =
        (statement_known room narrow body (known_before body) (beginning u u) (beginning v v) sound blocking late
        (record {
          seen_p = refl;
          seen_q = refl;
          below_p = below_u;
          below_q = below_v;
          same = λ j at l e.
              let parts = and_parts (target_has (reads_in body) j at) (not (sets body j at)) e in
              same j at l parts.0 (not-true (sets body j at) parts.1);
        })).same i place l
        (ap (surely i place body) (not_known (target_has (reads_in body) i place) (sets body i place) h) ∙ (safe body none i place l h).sure)
