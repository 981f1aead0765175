-- A case that is found full is covered.
use Rattle.std.proofs.Common.{◌≡◌, ◌∙◌, ℕ, zero, suc, ◌+◌, ◌-◌, ◌^◌, ◌<◌, Bool, true, false, not, ◌&&◌, ◌||◌, List, [], ◌∷◌, eqb, leb, arith, refl, sym, ap, subst, inl, inr}
use Rattle.std.specs.List.{list_any, list_all}
use Rattle.std.specs.Int.Bits.{bit_and}
use Rattle.std.proofs.lemmas.Bool.{and_parts, or_left, or_right, or_cases, not-true, eqb-true}
use Rattle.std.proofs.lemmas.Bool.Decides.{leb_tells}
use Rattle.std.proofs.lemmas.List.Folds.{list_any-append}
use Rattle.rst_tree.specs.Statements as tree
use Rattle.rst_word.specs.Words.{PlainWord, extended, filled, top_bit}
use Rattle.rst_width.specs.declared.typed_expr.Shape.{Shape}
use Rattle.rst_width.specs.Scopes.{Names}
use Rattle.rst_width.specs.Typed.{Typed, Node, typed, shape_of, names_signal}
use Rattle.rst_width.specs.Typed as node
use Rattle.rst_width.specs.Values.{Valuation, value, number_at, constant_word}
use Rattle.rst_width.specs.Fit.{IsFit}
use Rattle.rst_width.specs.Reads.{ReadsInside}
use Rattle.rst_width.proofs.OneValue.{same_value}
use Rattle.rst_width.proofs.ValueWords.{value-word}
use Rattle.rst_net.specs.Statements.{Label, Default}
use Rattle.rst_cycle.specs.Effects as run
use Rattle.rst_typing.specs.Typing.{inner_width, brought_value, matches, all_below, is_full, labels_of, typed_arms, typed_labels}
use Rattle.rst_statement_values.specs.Fits.{any_chosen, has_default, IsCovered}
use Rattle.rst_typed_fits.proofs.Bits.{agrees}

-- a test that holds of all numbers below one
below_passes : (n : ℕ) (test : ℕ → Bool) → all_below n test ≡ true → (i : ℕ) → i < n → test i ≡ true
unfolding all_below
below_passes zero test h i k = absurd (omega (arith, k))
below_passes (suc n) test h i k =
    let both = and_parts (all_below n test) (test n) h in
    elim (leb_tells (suc i) n) [
      | inl t ↦ below_passes n test both.0 i (omega (arith, t.1))
      | inr t ↦ let same : n ≡ i = omega (arith, k, t.1) in sym (ap test same) ∙ both.1
    ]

-- nothing is filled in where there is no place
nothing_filled : (b : Bool) (k : ℕ) → filled b k k ≡ 0
nothing_filled true k = omega arith
nothing_filled false k = refl

-- The value of a selector is that of its bits by itself, brought to the width and sign of the case.
record Brought (signals : Valuation) (selector : Typed) (k : ℕ) : Type 0 where
  pub number : ℕ
  pub below : number < 2 ^ k
  pub is : brought_value (shape_of selector) k number ≡ (value signals selector).value

module _ (room : ℕ → ℕ) (signals : Valuation) (small : (i : ℕ) → signals i < 2 ^ room i) where
  plain_brought : (shape : Shape) (n : Node) (k : ℕ) → IsFit (typed shape n) → ReadsInside room (typed shape n) → shape.width ≡ k → Brought signals (typed shape n) k
  plain_brought shape n k fit reads same = record {
    number = number_at signals shape n;
    below = subst (λ w. number_at signals shape n < 2 ^ w) same (value-word room signals small (typed shape n) fit reads).fits;
    is = subst (λ w. number_at signals shape n + filled (shape.signed && top_bit w (number_at signals shape n)) w shape.width ≡ number_at signals shape n) same
        (omega (arith, nothing_filled (shape.signed && top_bit shape.width (number_at signals shape n)) shape.width));
  }

  brought : (selector : Typed) (k : ℕ) → IsFit selector → ReadsInside room selector → inner_width selector ≡ k → Brought signals selector k
  brought (typed shape (node.Extend e)) k fit reads same = record {
    number = (value signals e).value;
    below = subst (λ w. (value signals e).value < 2 ^ w) (width_is e ∙ same) (value-word room signals small e fit.1.1 reads).fits;
    is = subst (λ w. (value signals e).value + filled (shape.signed && top_bit w (value signals e).value) w shape.width ≡ (extended shape.width shape.signed (value signals e)).value) (width_is e ∙ same) refl;
  }
    where
      width_is : (x : Typed) → (value signals x).width ≡ (shape_of x).width
      width_is (typed s n) = refl
  brought (typed shape n) k fit reads same = plain_brought shape n k fit reads same

  -- a constant label that matches by arithmetic is chosen
  one_chosen : (w : PlainWord) (l : Label) → names_signal l.value ≡ false → matches w.value l ≡ true → run.matches signals w l ≡ true
  one_chosen w l constant h =
      let is = eqb-true (w.value - bit_and w.value l.mask) (constant_word l.value).value h in
      agrees w.width l.mask w.value (value signals l.value).value
      (is ∙ ap (λ (x : PlainWord). x.value) (sym (same_value signals (λ _. 0) l.value constant)))

  label_chosen : (w : PlainWord) (ls : List Label) → list_all (λ l. not (names_signal l.value)) ls ≡ true → list_any (matches w.value) ls ≡ true → run.is_chosen signals w ls ≡ true
  label_chosen w [] constant h = h
  label_chosen w (l ∷ ls) constant h =
      let all = and_parts (not (names_signal l.value)) (list_all (λ l. not (names_signal l.value)) ls) constant in
      elim (or_cases (matches w.value l) (list_any (matches w.value) ls) h) [
        | inl t ↦ or_left (run.matches signals w l) (run.is_chosen signals w ls) (one_chosen w l (not-true (names_signal l.value) all.0) t)
        | inr t ↦ or_right (run.matches signals w l) (run.is_chosen signals w ls) (label_chosen w ls all.1 t)
      ]

  -- the labels of all arms
  arm_chosen : (names : Names) (shape : Shape) (w : PlainWord) (arms : tree.Arms) → any_chosen signals w (typed_arms names shape arms) ≡ run.is_chosen signals w (labels_of names shape arms)
  arm_chosen names shape w tree.no_arm = refl
  arm_chosen names shape w (tree.labels es s others) =
      ap (λ b. run.is_chosen signals w (typed_labels names shape es) || b) (arm_chosen names shape w others)
      ∙ sym (list_any-append (run.matches signals w) (typed_labels names shape es) (labels_of names shape others))
  arm_chosen names shape w (tree.otherwise s others) = arm_chosen names shape w others

  full_chosen : (k : ℕ) (selector : Typed) (ls : List Label) → IsFit selector → ReadsInside room selector → is_full k selector ls ≡ true → run.is_chosen signals (value signals selector) ls ≡ true
  full_chosen k selector ls fit reads full =
      let tests = all_below (2 ^ k) (λ v. list_any (matches (brought_value (shape_of selector) k v)) ls) in
      let constant = list_all (λ l. not (names_signal l.value)) ls in
      let one = and_parts (leb k 8) (eqb (inner_width selector) k && (constant && tests)) full in
      let two = and_parts (eqb (inner_width selector) k) (constant && tests) one.1 in
      let three = and_parts constant tests two.1 in
      let b = brought selector k fit reads (eqb-true (inner_width selector) k two.0) in
      label_chosen (value signals selector) ls three.0
      (subst (λ n. list_any (matches n) ls ≡ true) b.is (below_passes (2 ^ k) (λ v. list_any (matches (brought_value (shape_of selector) k v)) ls) three.1 b.number b.below))

pub covered : (room : ℕ → ℕ) (names : Names) (shape : Shape) (k : ℕ) (selector : Typed) (arms : tree.Arms) (otherwise : Default) → IsFit selector → ReadsInside room selector
    → IsCovered room (is_full k selector (labels_of names shape arms)) selector (typed_arms names shape arms) otherwise
covered room names shape k selector arms otherwise fit reads = λ full signals small.
    or_left (any_chosen signals (value signals selector) (typed_arms names shape arms)) (has_default otherwise)
    (arm_chosen room signals small names shape (value signals selector) arms ∙ full_chosen room signals small k selector (labels_of names shape arms) fit reads full)
