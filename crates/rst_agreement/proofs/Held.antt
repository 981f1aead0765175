-- What clocked blocks leave a signal with rests on what is held of that signal alone.
use Rattle.std.proofs.Common.{◌≡◌, ◌∙◌, ℕ, ◌/◌, ◌^◌, Bool, true, false, cond, eqb, List, [], ◌∷◌, refl, ap}
use Rattle.rst_word.specs.Words.{PlainWord}
use Rattle.rst_word.specs.Unary.{is_true}
use Rattle.rst_width.specs.Values.{Valuation, value}
use Rattle.rst_net.specs.declared.signal.Slice.{Slice}
use Rattle.rst_net.specs.Statements.{PlainSet, Label, Statement, Statements, Arms, Default, Block, If, Case, Set, Empty, end, more, no_arm, arm, no_default, default}
use Rattle.rst_net.specs.Units.{PlainProcess}
use Rattle.rst_cycle.specs.Bits.{replaced}
use Rattle.rst_cycle.specs.Effects.{Progress, beginning, with_slice, target_width, with_target, set_to, set_effect, is_chosen, effect, effects, arms_effect, default_effect}
use Rattle.rst_cycle.specs.Cycle.{clocked_effect}

target_at : (slices : List Slice) (n : ℕ) (u v : Valuation) (i : ℕ) → u i ≡ v i → with_target slices n u i ≡ with_target slices n v i
target_at [] n u v i same = same
target_at (slice ∷ slices) n u v i same =
    let part : ℕ = n / 2 ^ target_width slices in
    target_at slices n (with_slice slice part u) (with_slice slice part v) i
    (ap (λ m. cond (eqb i slice.signal) (replaced slice.low slice.width m part) m) same)

-- reads see the same, and one signal is left with the same
record Alike (i : ℕ) (p q : Progress) : Type 0 where
  pub seen : p.seen ≡ q.seen
  pub last : p.last i ≡ q.last i

module _ (i : ℕ) where
  either : (b c : Bool) (p q r s : Progress) → b ≡ c → Alike i p r → Alike i q s → Alike i (cond b p q) (cond c r s)
  either true true p q r s e h k = h
  either false false p q r s e h k = k
  either true false p q r s e h k = cc
  either false true p q r s e h k = cc

  set_alike : (set : PlainSet) (n m : ℕ) (p q : Progress) → n ≡ m → Alike i p q → Alike i (set_to set n p) (set_to set m q)
  set_alike set n m p q e h = record {
    seen = λ j. cond set.blocking (with_target set.target (e j) (h.seen j)) (h.seen j);
    last = target_at set.target n p.last q.last i h.last ∙ ap (λ k. with_target set.target k q.last i) e;
  }

  mutual
    effect_alike : (st : Statement) (p q : Progress) → Alike i p q → Alike i (effect st p) (effect st q)
    effect_alike (Block statements) p q h = all_alike statements p q h
    effect_alike (If condition first second) p q h =
        either (is_true (value p.seen condition)) (is_true (value q.seen condition)) (effect first p) (effect second p) (effect first q) (effect second q)
        (ap (λ u. is_true (value u condition)) h.seen) (effect_alike first p q h) (effect_alike second p q h)
    effect_alike (Case selector arms otherwise full) p q h =
        arms_alike arms (value p.seen selector) (value q.seen selector) (ap (λ u. value u selector) h.seen) (λ r. default_effect otherwise r)
        (default_alike otherwise) p q h
    effect_alike (Set set) p q h = set_alike set (value p.seen set.value).value (value q.seen set.value).value p q (ap (λ u. (value u set.value).value) h.seen) h
    effect_alike Empty p q h = h

    all_alike : (statements : Statements) (p q : Progress) → Alike i p q → Alike i (effects statements p) (effects statements q)
    all_alike end p q h = h
    all_alike (more statement statements) p q h = all_alike statements (effect statement p) (effect statement q) (effect_alike statement p q h)

    arms_alike :
        (arms : Arms) (w z : PlainWord) → w ≡ z → (behind : Progress → Progress) → ((p q : Progress) → Alike i p q → Alike i (behind p) (behind q))
        → (p q : Progress) → Alike i p q → Alike i (arms_effect w arms behind p) (arms_effect z arms behind q)
    arms_alike no_arm w z e behind last p q h = last p q h
    arms_alike (arm labels body arms) w z e behind last p q h =
        either (is_chosen p.seen w labels) (is_chosen q.seen z labels) (effect body p) (arms_effect w arms behind p) (effect body q) (arms_effect z arms behind q)
        (λ j. is_chosen (h.seen j) (e j) labels) (effect_alike body p q h) (arms_alike arms w z e behind last p q h)

    default_alike : (otherwise : Default) (p q : Progress) → Alike i p q → Alike i (default_effect otherwise p) (default_effect otherwise q)
    default_alike no_default p q h = h
    default_alike (default statement) p q h = effect_alike statement p q h

  pub clocked_at : (signals : Valuation) (processes : List PlainProcess) (u v : Valuation) → u i ≡ v i → clocked_effect signals processes u i ≡ clocked_effect signals processes v i
  clocked_at signals [] u v same = same
  clocked_at signals (process ∷ processes) u v same =
      clocked_at signals processes (effect process.body (beginning signals u)).last (effect process.body (beginning signals v)).last
      (effect_alike process.body (beginning signals u) (beginning signals v) (record { seen = refl; last = same })).last
