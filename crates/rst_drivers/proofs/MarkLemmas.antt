-- Marks of several tests, one after the other.
use Rattle.std.proofs.Common.{◌≡◌, ◌∙◌, ℕ, ◌<◌, Bool, false, ◌||◌, List, length, refl, sym, ap, subst}
use Rattle.rst_drivers.specs.Marks.{stands, Marks}
use Rattle.rst_drivers.proofs.Tests.{or_assoc, or_false}

pub marks_none : (marks : List Bool) → Marks (λ _. false) marks marks
marks_none marks = record { count = refl; each = λ i _. or_false (stands marks i) }

pub marks_then : (f g : ℕ → Bool) (a b c : List Bool) → Marks f a b → Marks g b c → Marks (λ i. f i || g i) a c
marks_then f g a b c h k = record {
  count = k.count ∙ h.count;
  each = λ i within. k.each i (subst (λ n. i < n) (sym h.count) within) ∙ ap (λ x. x || g i) (h.each i within) ∙ or_assoc (stands a i) (f i) (g i);
}

-- What the rest marks completes what all mark.
pub record Left (rest all : ℕ → Bool) (old new : List Bool) : Type 0 where
  pub count : length new ≡ length old
  pub each : (i : ℕ) → i < length old → (stands new i || rest i) ≡ (stands old i || all i)

pub left_all : (all : ℕ → Bool) (marks : List Bool) → Left all all marks marks
left_all all marks = record { count = refl; each = λ i _. refl }

pub left_step : (f g all : ℕ → Bool) (a b c : List Bool) → Left (λ i. f i || g i) all a b → Marks f b c → Left g all a c
left_step f g all a b c h k = record {
  count = k.count ∙ h.count;
  each = λ i within.
      ap (λ x. x || g i) (k.each i (subst (λ n. i < n) (sym h.count) within)) ∙ or_assoc (stands b i) (f i) (g i) ∙ h.each i within;
}

pub left_none : (all : ℕ → Bool) (a b : List Bool) → Left (λ _. false) all a b → Marks all a b
left_none all a b h = record { count = h.count; each = λ i within. or_false (stands b i) ∙ h.each i within }

pub ruleset marking = (marks_none, marks_then, left_all, left_step, left_none)
