use Rattle.std.proofs.Common.{◌≡◌, ◌++◌, length, take, drop, min, ap, ◌∙◌, arith}
use Rattle.std.proofs.lemmas.List.{take_min, drop_min}
use Rattle.rst_report.specs.Rows.{values_text}
use Rattle.rst_report.proofs.Loops.{values_more}
use Rattle.rst_report.proofs.rows.put_values.Goals as goal

pub loop-port-preserved : goal.loop-port-preserved
loop-port-preserved c =
    let rest = c.loop-port.rest.now in
    let cut : c.min-width.result ≡ min c.port-item.result.width (length c.loop-port.rest.now) = c.min-width.ensures ∙ ap (λ width. min width (length c.loop-port.rest.now)) c.from.ensures in
    values_more c.args.mark c.args.ports.now c.loop-port.port-index c.port-item.result rest c.split_at.result.0.now c.split_at.result.1.now c.as_slice.result.now c.loop-port.text
    c.put_value.new.text (c.args.text.now ++ values_text c.args.mark c.args.ports.now c.args.places.now) (omega arith) c.port-item.is c.as_slice.ensures
    (c.split_at.ensures.front ∙ (ap (λ n. take n rest) cut ∙ take_min c.port-item.result.width rest))
    (c.split_at.ensures.back ∙ (ap (λ n. drop n rest) cut ∙ drop_min c.port-item.result.width rest))
    c.in_ok-put_value.ensures c.loop-port.invariant
