use Rattle.std.proofs.Common.{◌∙◌, ◌<◌, arith, sym, ap, set, Some, length}
use Rattle.std.specs.Vec.{with_item}
use Rattle.rst_reset_gates.specs.Tables.{row_of}
use Rattle.rst_reset_gates.proofs.TableLemmas.{rows_set, rows_read}
use Rattle.rst_reset_gates.proofs.table.ResetTable.put.Goals as goal

pub returns-then-place-len : goal.returns-then-place-len
returns-then-place-len c =
    let rows = c.self.inside.rows.items in
    let i = c.args.signal in
    let row = c.index_mut-row.result.now in
    let below : i < length rows = omega (arith, c.if-signal-len.true, c.len.ensures) in
    let is = ap (λ v. v.items) c.index_mut-row.ensures.value ∙ (sym (rows_read rows i row below) ∙ ap (λ rs. row_of rs i) c.self.view_is) in
    rows_set rows i (with_item row c.args.place (Some c.args.reset)) ∙ (λ j. set (c.self.view_is j) i (set (is j) c.args.place (Some c.args.reset)))
