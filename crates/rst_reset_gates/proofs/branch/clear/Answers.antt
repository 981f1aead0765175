use Rattle.std.proofs.Common.{◌∙◌, ap, set, get_or}
use Rattle.rst_net.specs.declared.signal.Slice.{Slice}
use Rattle.rst_reset_gates.proofs.TableLemmas.{cleared_turn, cleared_end}
use Rattle.rst_reset_gates.proofs.branch.clear.Goals as goal

pub loop-slice-preserved : goal.loop-slice-preserved
loop-slice-preserved c =
    let d : Slice = record { signal = 0; low = 0; width = 0 } in
    let k = c.loop-slice.slice-index in
    let ss = c.args.slices.now in
    cleared_turn ss k d c.args.blank.now c.loop-slice.wires c.replace.new.self c.loop-slice-test.true c.requires.inside c.loop-slice.invariant
    (c.replace.ensures ∙ ap (set c.loop-slice.wires (get_or ss k d).signal) (c.in_ok-word.ensures.items ∙ c.word.ensures))

pub returns : goal.returns
returns c = cleared_end c.args.slices.now c.loop-slice.slice-index c.args.blank.now c.loop-slice.wires c.loop-slice-test.false c.loop-slice.invariant
