use Rattle.std.proofs.Common.{◌∙◌, ap}
use Rattle.rst_pair.proofs.Related.{related_when}
use Rattle.rst_pair.proofs.front.in_relation.Goals as goal

pub returns-then-agreed : goal.returns-then-agreed
returns-then-agreed c =
    related_when c.args.front.now c.args.both.now c.as_slice-equal.result.now c.as_slice-pair.result.now c.as_slice-blocked.result.now
    c.agree_on-agreed.result c.in_some-found.result
    (c.as_slice-equal.ensures ∙ ap (λ f. f.equal) c.front.view_is)
    (c.as_slice-blocked.ensures.value ∙ ap (λ f. f.blocked) c.front.view_is)
    c.as_slice-pair.ensures c.if-agreed.true c.agree_on-agreed.ensures c.in_some-found.ensures
