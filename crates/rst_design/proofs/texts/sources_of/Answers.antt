use Rattle.std.proofs.Common.{subst, arith}
use Rattle.std.proofs.lemmas.Result.{err_from_is_err_and}
use Rattle.rst_hierarchy.specs.Tables.{modules_in}
use Rattle.rst_tree.specs.Modules.{plain_source}
use Rattle.rst_reject.specs.Steps.{StopsBy}
use Rattle.rst_design.specs.Texts.{SpellsModules, TextGives}
use Rattle.rst_design.proofs.Turns.{file_refused, file_spelled, file_formed}
use Rattle.rst_design.proofs.texts.sources_of.Goals as goal

pub returns-in_err-source_of-clause-refused : goal.returns-in_err-source_of-clause-refused
returns-in_err-source_of-clause-refused c =
    let p = err_from_is_err_and c.from_residual.result c.from_residual.ensures.1 in
    let numbered = subst (λ n. StopsBy (TextGives n c.deref.result.now) c.in_err-source_of.field-0.0) c.loop-text.invariant.number c.in_err-source_of.ensures.refused in
    let of_file = subst (λ text. StopsBy (TextGives c.loop-text.text-index text) c.in_err-source_of.field-0.0) c.deref.ensures.value numbered in
    rw (p.1, p.2) (file_refused c.args.files.now c.loop-text.text-index c.text-item.result c.loop-text-test.true c.text-item.is
    (modules_in c.loop-text.sources.items) c.in_err-source_of.field-0.0 c.loop-text.invariant.spelled of_file)

pub loop-text-preserved : goal.loop-text-preserved
loop-text-preserved c =
    let source = c.in_ok-source_of.field-0 in
    let spelled = subst (λ text. SpellsModules text (plain_source source)) c.deref.ensures.value c.in_ok-source_of.ensures.spelled in
    record {
      number = omega arith;
      spelled = file_spelled c.args.files.now c.loop-text.text-index c.text-item.result c.loop-text-test.true c.text-item.is
          c.loop-text.sources.items c.push.new.self.items source c.in_ok-push.ensures.items c.loop-text.invariant.spelled spelled;
      formed = file_formed c.loop-text.sources.items c.push.new.self.items source c.in_ok-push.ensures.items c.loop-text.invariant.formed c.in_ok-source_of.ensures.formed;
    }
