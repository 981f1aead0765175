use Rattle.rst_elab.proofs.elaborating.flat_with.Goals as goal

pub returns-clause-passes : goal.returns-clause-passes
returns-clause-passes c = λ modules p ps all prefixes.
    c.flattened.ensures.passes modules p ps (record { whole = record { declared = all.declared; instances = all.instances; prefixes = prefixes }; all = all.same })

pub returns-clause-refused : goal.returns-clause-refused
returns-clause-refused c = λ modules p ps all prefixes.
    c.flattened.ensures.refused modules p ps (record { whole = record { declared = all.declared; instances = all.instances; prefixes = prefixes }; all = all.same })
