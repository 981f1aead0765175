use Rattle.std.proofs.Common.{◌≡◌, ◌∙◌, sym, ap, ℕ, ◌+◌, ◌-◌, ◌^◌, ◌≤◌, drop, take, length, List, arith, rules}
use Rattle.std.proofs.lemmas.List.{take_rest}
use Rattle.rst_net.specs.declared.signal.Slice.{Slice}
use Rattle.rst_cycle.specs.Drivers.{target_has}
use Rattle.rst_weight.specs.Counts.{bits_among}
use Rattle.rst_weight.specs.Plain.{cut, first_fresh}
use Rattle.rst_weight.proofs.Bits.{bits_turn, bits_end}
use Rattle.rst_weight.proofs.counts.bits_among.Goals as goal

-- a slice up to the end
whole : (xs : List Slice) (k : ℕ) → take (length xs - k) (drop k xs) ≡ drop k xs
whole xs k = search (rules, take_rest)

step : (sum f rest before total next : ℕ) → before ≡ f + rest → next ≡ cut (sum + f) → cut (sum + before) ≡ cut total → (next ≤ 2 ^ 64 - 1) × (cut (next + rest) ≡ cut total)
step sum f rest before total next e n t = (omega arith, omega arith)

pub loop-index-preserved : goal.loop-index-preserved
loop-index-preserved c =
    let xs = c.args.slices.now in
    let k = c.loop-index.index in
    let rest = bits_among (target_has (drop (k + 1) xs)) c.args.count in
    let first : c.first_fresh.result ≡ first_fresh (drop k xs) c.args.count = c.first_fresh.ensures ∙ ap (λ (ys : List Slice). first_fresh ys c.args.count) (whole xs k) in
    step c.loop-index.sum c.first_fresh.result rest (bits_among (target_has (drop k xs)) c.args.count) (bits_among (target_has xs) c.args.count) c.saturating_add-sum.result
    (bits_turn xs k c.args.count (omega arith) ∙ ap (λ n. n + rest) (sym first)) c.saturating_add-sum.ensures c.loop-index.invariant.1

pub returns : goal.returns
returns c = omega (arith, bits_end c.args.slices.now c.loop-index.index c.args.count (omega arith))
