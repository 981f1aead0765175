use Rattle.rst_instances.proofs.parameters.push_item.Goals as goal

pub returns-in-Params-clause-added : goal.returns-in-Params-clause-added
returns-in-Params-clause-added c = λ m outside links set old. rw c.in-Params.is (c.push_values.ensures.added m outside links set old)
