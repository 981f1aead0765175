use Rattle.std.proofs.Common.{◌≡◌, ◌∙◌, ℕ, ◌*◌, ◌%◌, ◌^◌, true, false, sym, ap, arith}
use Rattle.std.specs.List.{list_any}
use Rattle.std.proofs.lemmas.Nat.{one_shl}
use Rattle.rst_typing.specs.Typing.{matches, brought_value}
use Rattle.rst_typing.specs.Refusals.{labels_in}
use Rattle.rst_typing.proofs.Full.{all_below-none, all_below-more, all_below-fails}
use Rattle.rst_typing.proofs.labels.all_match.Goals as goal

pub loop-value-init : goal.loop-value-init
loop-value-init c = all_below-none (λ v. list_any (matches (brought_value c.args.shape c.args.width v)) (labels_in c.args.arms.now))

pub loop-value-preserved : goal.loop-value-preserved
loop-value-preserved c =
    let here : list_any (matches (brought_value c.args.shape c.args.width c.loop-value.value)) (labels_in c.args.arms.now) ≡ true =
    ap (λ (n : ℕ). list_any (matches n) (labels_in c.args.arms.now)) (sym c.brought_value.ensures) ∙ sym c.any_matches.ensures ∙ c.if-not-any_matches.false in
    all_below-more c.loop-value.value (λ v. list_any (matches (brought_value c.args.shape c.args.width v)) (labels_in c.args.arms.now)) c.loop-value.invariant here

pub returns-then-not-any_matches : goal.returns-then-not-any_matches
returns-then-not-any_matches c =
    let count : 1 * 2 ^ c.args.width % 2 ^ 64 ≡ 2 ^ c.args.width = one_shl c.args.width 64 (omega arith) in
    let here : list_any (matches (brought_value c.args.shape c.args.width c.loop-value.value)) (labels_in c.args.arms.now) ≡ false =
    ap (λ (n : ℕ). list_any (matches n) (labels_in c.args.arms.now)) (sym c.brought_value.ensures) ∙ sym c.any_matches.ensures ∙ c.if-not-any_matches.true in
    sym (all_below-fails (2 ^ c.args.width) c.loop-value.value (λ v. list_any (matches (brought_value c.args.shape c.args.width v)) (labels_in c.args.arms.now)) (omega (arith, count)) here)
