use Rattle.std.proofs.Common.{◌≡◌, ◌<◌, ◌≤◌, ◌∙◌, ap, arith, length, take, drop, get_or}
use Rattle.std.proofs.lemmas.List.{length-take-le}
use Rattle.rst_clause.specs.Parts.{begin_of}
use Rattle.rst_clause.proofs.PartLemmas.{part_within}
use Rattle.rst_check.proofs.HintSteps.{range_split}
use Rattle.rst_check.proofs.hints.numbers_at.Goals as goal

pub split_at-requires-2 : goal.split_at-requires-2
split_at-requires-2 c =
    let lt : c.args.line < length c.args.ends.now = omega (arith, c.if-line-ends.false) in
    let within = part_within 0 c.args.ends.now c.requires.0 c.args.line c.requires.1 lt in
    omega (arith, within.1, c.requires.2)

pub split_at-requires-3 : goal.split_at-requires-3
split_at-requires-3 c =
    let lt : c.args.line < length c.args.ends.now = omega (arith, c.if-line-ends.false) in
    let within = part_within 0 c.args.ends.now c.requires.0 c.args.line c.requires.1 lt in
    let fits : get_or c.args.ends.now c.args.line 0 ≤ length c.args.numbers.now = omega (arith, within.1, c.requires.2) in
    let len : length c.split_at-2.result.0.now ≡ get_or c.args.ends.now c.args.line 0 =
    ap (λ z. length z) c.split_at-2.ensures.front ∙ length-take-le (get_or c.args.ends.now c.args.line 0) c.args.numbers.now fits in
    omega (arith, len, c.start_of-from.ensures, within.0)

pub returns : goal.returns
returns c =
    let lt : c.args.line < length c.args.ends.now = omega (arith, c.if-line-ends.false) in
    let within = part_within 0 c.args.ends.now c.requires.0 c.args.line c.requires.1 lt in
    c.split_at-3.ensures.back ∙ ap (λ z. drop c.start_of-from.result z) c.split_at-2.ensures.front
    ∙ ap (λ n. drop n (take (get_or c.args.ends.now c.args.line 0) c.args.numbers.now)) c.start_of-from.ensures
    ∙ range_split c.args.numbers.now (begin_of 0 c.args.ends.now c.args.line) (get_or c.args.ends.now c.args.line 0) within.0
