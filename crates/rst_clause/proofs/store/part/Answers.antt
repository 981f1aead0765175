use Rattle.std.proofs.Common.{◌≡◌, ◌≤◌, ◌∙◌, sym, ap, subst, length, take, drop, get_or}
use Rattle.std.proofs.lemmas.List.{length-take-le}
use Rattle.rst_clause.specs.Parts.{begin_of}
use Rattle.rst_clause.proofs.PartLemmas.{part_within, parts-at, range-split}
use Rattle.rst_clause.proofs.store.part.Goals as goal

pub split_at-requires : goal.split_at-requires
split_at-requires c = (part_within 0 c.args.ends.now (length c.args.lits.now) c.args.i c.requires.ends c.requires.place).1

pub split_at-requires-2 : goal.split_at-requires-2
split_at-requires-2 c =
    let within = part_within 0 c.args.ends.now (length c.args.lits.now) c.args.i c.requires.ends c.requires.place in
    let len : length c.split_at.result.0.now ≡ get_or c.args.ends.now c.args.i 0 =
    ap (λ z. length z) c.split_at.ensures.front ∙ length-take-le (get_or c.args.ends.now c.args.i 0) c.args.lits.now within.1 in
    subst (λ n. c.start_of-from.result ≤ n) (sym len) (subst (λ n. n ≤ get_or c.args.ends.now c.args.i 0) (sym c.start_of-from.ensures) within.0)

pub returns : goal.returns
returns c =
    let within = part_within 0 c.args.ends.now (length c.args.lits.now) c.args.i c.requires.ends c.requires.place in
    c.split_at-2.ensures.back ∙ ap (λ z. drop c.start_of-from.result z) c.split_at.ensures.front
    ∙ ap (λ n. drop n (take (get_or c.args.ends.now c.args.i 0) c.args.lits.now)) c.start_of-from.ensures
    ∙ range-split c.args.lits.now (begin_of 0 c.args.ends.now c.args.i) (get_or c.args.ends.now c.args.i 0) within.0
    ∙ sym (parts-at 0 c.args.ends.now c.args.lits.now c.args.i c.requires.place)
