use Rattle.rst_elab.proofs.elaborating.flat_of_all.Goals as goal

pub returns-clause-passes : goal.returns-clause-passes
returns-clause-passes c = λ modules p ps all. c.flat_with.ensures.passes modules p ps all c.in_ok-prefixes.ensures

pub returns-clause-refused : goal.returns-clause-refused
returns-clause-refused c = λ modules p ps all. c.flat_with.ensures.refused modules p ps all c.in_ok-prefixes.ensures
