use Rattle.rst_check.proofs.check.refutes_by.Goals as goal

pub returns : goal.returns
returns c = (
  (λ e. record {
    in_range = c.are_in_range.ensures.0 c.if-not-are_in_range.false;
    follows = c.in_ok-yes.ensures.0 e;
    ends = c.ends_empty.ensures.0 c.if-not-ends_empty.false;
  }),
  (λ h. c.in_ok-yes.ensures.1 h.follows),
)
