use Rattle.std.proofs.Common.{◌≡◌, ◌∙◌, refl, sym, arith}
use Rattle.std.proofs.lemmas.Slice.Eq.{slice_eq-Decides}
use Rattle.std.specs.Cmp.{booleans_Decides}
use Rattle.rst_early.proofs.Reading.{read_same, not_true}
use Rattle.rst_early.proofs.apart.differ.Goals as goal

pub returns-then-ne : goal.returns-then-ne
returns-then-ne c = λ yes same.
    let read : c.index-first-i.result ≡ c.index-second-i.result =
    read_same c.args.first.now c.args.second.now c.loop-i.i c.index-first-i.result c.index-second-i.result (omega arith) same
    c.index-first-i.is c.index-second-i.is in
    let decides = slice_eq-Decides booleans_Decides c.as_slice.result.now c.as_slice-in-loop-i.result.now _ refl in
    not_true _ (sym c.ne.ensures ∙ c.if-ne.true) (decides.1 (c.as_slice.ensures ∙ read ∙ sym c.as_slice-in-loop-i.ensures))
