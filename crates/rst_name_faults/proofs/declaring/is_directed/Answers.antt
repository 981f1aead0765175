use Rattle.rst_names.specs.Declarations.{declarations, declares, is_input}
use Rattle.rst_name_faults.specs.Tables.{module_of}
use Rattle.rst_name_faults.proofs.declaring.is_directed.Goals as goal
use Rattle.std.proofs.Common.{ap, ◌∙◌}
use Rattle.rst_names.specs.Declarations.{is_output}
use Rattle.rst_names.specs.Tables.{Total}
use Rattle.rst_name_faults.proofs.UseLemmas.{either_true, either_false, directed}

pub returns-then-summary : goal.returns-then-summary
returns-then-summary c =
    let m = module_of c.args.facts.now in
    let name = c.args.name.now in
    let told = c.summary-summary.ensures.declared m c.requires in
    either_true (declares is_input (declarations m) name) (declares is_output (declarations m) name) c.summary-summary.result.input (ap (λ (t : Total). t.input) told) c.if-summary.true
    ∙ directed (declarations m) name

pub returns-else-summary : goal.returns-else-summary
returns-else-summary c =
    let m = module_of c.args.facts.now in
    let name = c.args.name.now in
    let told = c.summary-summary.ensures.declared m c.requires in
    either_false (declares is_input (declarations m) name) (declares is_output (declarations m) name) c.summary-summary.result.input c.summary-summary.result.output
    (ap (λ (t : Total). t.input) told) (ap (λ (t : Total). t.output) told) c.if-summary.false
    ∙ directed (declarations m) name
