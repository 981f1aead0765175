use Rattle.std.proofs.Common.{◌++◌, List, [], sym, ap, subst, ◌∙◌}
use Rattle.rst_tree.specs.Modules.{plain_range}
use Rattle.rst_width.specs.Scopes.{Names}
use Rattle.rst_names.specs.Faults.{Fault, Refuses, first, fault_at}
use Rattle.rst_names.proofs.RowLemmas.{refuses_head}
use Rattle.rst_instances.specs.Parameters.{ends_answer}
use Rattle.rst_instances.specs.Rows.{range_fault}
use Rattle.rst_instances.proofs.extents.range_passes.Goals as goal

pub returns-in-None-clause-passes : goal.returns-in-None-clause-passes
returns-in-None-clause-passes c =
    let name = c.args.place.now.prefix ++ c.args.d.now.name.now in
    let answer = c.in_ok-ends.ensures ∙ ap (λ (n : Names). ends_answer n (plain_range c.args.d.now.range.now)) c.names_of.ensures in
    ap first (sym (c.in-None.ensures name ∙ ap (range_fault c.args.row name) answer))

pub returns-in-Some-clause-refused : goal.returns-in-Some-clause-refused
returns-in-Some-clause-refused c =
    let name = c.args.place.now.prefix ++ c.args.d.now.name.now in
    let answer = c.in_ok-ends.ensures ∙ ap (λ (n : Names). ends_answer n (plain_range c.args.d.now.range.now)) c.names_of.ensures in
    subst (λ (fs : List Fault). Refuses c.at_name.result fs) (c.in-Some.ensures name ∙ ap (range_fault c.args.row name) answer)
    (refuses_head c.at_name.result (fault_at c.in-Some.code name 0) [] c.at_name.ensures)
