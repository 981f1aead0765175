use Rattle.std.proofs.Common.{◌≡◌, true, false, sym, ◌∙◌, arith}
use Rattle.std.specs.Str.{bytes_eq}
use Rattle.rst_script.proofs.FitFacts.{value_here}
use Rattle.rst_script.proofs.fitting.value_in.Goals as goal

pub returns-then-eq : goal.returns-then-eq
returns-then-eq c =
    let same : bytes_eq c.setting-item.result.name c.args.name.now ≡ true = cc (c.if-eq.true, c.eq.ensures, c.as_slice.ensures) in
    sym (value_here c.args.settings.now c.loop-setting.setting-index c.setting-item.result c.args.name.now true (omega arith) c.setting-item.is same) ∙ c.loop-setting.invariant

pub loop-setting-preserved : goal.loop-setting-preserved
loop-setting-preserved c =
    let other : bytes_eq c.setting-item.result.name c.args.name.now ≡ false = cc (c.if-eq.false, c.eq.ensures, c.as_slice.ensures) in
    sym (value_here c.args.settings.now c.loop-setting.setting-index c.setting-item.result c.args.name.now false (omega arith) c.setting-item.is other) ∙ c.loop-setting.invariant
