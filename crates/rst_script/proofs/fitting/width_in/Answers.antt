use Rattle.std.proofs.Common.{◌≡◌, true, false, sym, ◌∙◌, arith}
use Rattle.std.specs.Str.{bytes_eq}
use Rattle.rst_script.proofs.FitFacts.{width_here}
use Rattle.rst_script.proofs.fitting.width_in.Goals as goal

pub returns-then-eq : goal.returns-then-eq
returns-then-eq c =
    let same : bytes_eq c.port-item.result.name c.args.name.now ≡ true = cc (c.if-eq.true, c.eq.ensures, c.as_slice.ensures) in
    sym (width_here c.args.ports.now c.loop-port.port-index c.port-item.result c.args.name.now true (omega arith) c.port-item.is same) ∙ c.loop-port.invariant

pub loop-port-preserved : goal.loop-port-preserved
loop-port-preserved c =
    let other : bytes_eq c.port-item.result.name c.args.name.now ≡ false = cc (c.if-eq.false, c.eq.ensures, c.as_slice.ensures) in
    sym (width_here c.args.ports.now c.loop-port.port-index c.port-item.result c.args.name.now false (omega arith) c.port-item.is other) ∙ c.loop-port.invariant
