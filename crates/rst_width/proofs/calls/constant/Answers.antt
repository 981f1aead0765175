use Rattle.std.proofs.Common.{subst}
use Rattle.std.specs.Prelude.{IfOk}
use Rattle.rst_tree.specs.Trees.{plain}
use Rattle.rst_word.specs.Plain.{plain_word}
use Rattle.rst_width.specs.Scopes.{Names}
use Rattle.rst_width.specs.Answers.{Gives, HasValue, constant_answer}
use Rattle.rst_width.proofs.NameTables.{names_alone}
use Rattle.rst_width.proofs.calls.constant.Goals as goal

pub returns-clause-exact : goal.returns-clause-exact
returns-clause-exact c =
    subst (λ (names : Names). Gives plain_word c.constant_among.result (constant_answer names (plain c.args.expr.now) c.args.context))
    (names_alone c.args.scope.now c.new-unshaped.result c.new-unshaped.ensures) c.constant_among.ensures.exact

pub returns-clause-value : goal.returns-clause-value
returns-clause-value c =
    subst (λ (names : Names). IfOk c.constant_among.result (λ w. HasValue names (plain c.args.expr.now) c.args.context (plain_word w)))
    (names_alone c.args.scope.now c.new-unshaped.result c.new-unshaped.ensures) c.constant_among.ensures.value
