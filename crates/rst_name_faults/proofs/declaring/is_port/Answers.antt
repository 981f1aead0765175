use Rattle.rst_names.specs.Names.{same_text}
use Rattle.rst_names.specs.Declarations.{ports}
use Rattle.rst_name_faults.specs.Tables.{module_of}
use Rattle.rst_name_faults.proofs.declaring.is_port.Goals as goal
use Rattle.std.proofs.Common.{ap, is_some, ◌∙◌}
use Rattle.rst_name_faults.proofs.UseLemmas.{some_place}

pub returns : goal.returns
returns c =
    let m = module_of c.args.facts.now in
    let name = c.args.name.now in
    c.contains_key.ensures ∙ ap is_some (c.requires.port_places name) ∙ some_place (λ n. same_text n name) (ports m)
