use Rattle.std.proofs.Common.{◌≡◌, ◌∙◌, ◌<◌, arith, ap, sym, length}
use Rattle.std.specs.declared.vec.Vec.{Vec}
use Rattle.rst_lower.specs.WireWords.{widths_of}
use Rattle.rst_statement_gates.specs.declared.marks.Mark.{Mark}
use Rattle.rst_statement_gates.specs.Choices.{held_words}
use Rattle.rst_statement_gates.proofs.Marking.{inside}
use Rattle.rst_statement_gates.proofs.Merging.{matches_first, as_many, merge_turn}
use Rattle.rst_statement_gates.proofs.waiting.merge.Goals as goal

pub word-requires : goal.word-requires
word-requires c =
    let marks = c.args.waiting.now.marks.items in
    let there = inside (length c.args.wires.now) marks c.loop-k.k c.index-mark.result.now c.requires.ready.ascend (omega arith) in
    let same = ap (λ (m : Mark). m.signal) c.index-mark.ensures in
    omega (arith, there, same, c.loop-k.invariant.count)

pub merge_word-requires-clause-one_width : goal.merge_word-requires-clause-one_width
merge_word-requires-clause-one_width c =
    let marks = c.args.waiting.now.marks.items in
    let words = c.args.waiting.now.words.items in
    let many = as_many (widths_of c.args.wires.now) marks words c.requires.ready.matches in
    let first = matches_first (widths_of c.args.wires.now) marks words c.loop-k.k c.index-mark.result.now c.index.result.now (omega arith) (omega (arith, many))
    c.index-mark.ensures c.index.ensures c.loop-k.invariant.matches in
    ap length c.as_slice.ensures.value ∙ (first ∙ (sym (λ j. c.loop-k.invariant.widths j c.index-mark.result.now.signal) ∙ sym (ap length c.word.ensures)))

pub replace-requires : goal.replace-requires
replace-requires c =
    let marks = c.args.waiting.now.marks.items in
    let there = inside (length c.args.wires.now) marks c.loop-k.k c.index-mark.result.now c.requires.ready.ascend (omega arith) in
    let same = ap (λ (m : Mark). m.signal) c.index-mark.ensures in
    omega (arith, there, same, c.loop-k.invariant.count)

pub loop-k-preserved : goal.loop-k-preserved
loop-k-preserved c =
    let marks = c.args.waiting.now.marks.items in
    let words = c.args.waiting.now.words.items in
    let many = as_many (widths_of c.args.wires.now) marks words c.requires.ready.matches in
    let there = inside (length c.args.wires.now) marks c.loop-k.k c.index-mark.result.now c.requires.ready.ascend (omega arith) in
    let same = ap (λ (m : Mark). m.signal) c.index-mark.ensures in
    merge_turn c.args.gates.now c.args.wires.now c.args.waiting.now.test marks (held_words words) marks words c.loop-k.k c.index-mark.result.now c.index.result.now
    c.loop-k.gates c.merge_word.new.gates c.loop-k.wires c.replace.new.self c.as_slice.result.now c.word.result.now c.in_ok-word.word.items
    (omega arith) (omega (arith, many)) c.index-mark.ensures c.index.ensures (omega (arith, there, same)) c.loop-k.invariant c.as_slice.ensures.value c.word.ensures
    c.in_ok-word.ensures.gates c.in_ok-word.ensures.bits c.replace.ensures c.in_ok-word.ensures.stand c.in_ok-word.ensures.width c.in_ok-word.ensures.grows c.in_ok-word.ensures.few
