use Rattle.std.proofs.Common.{ap, ◌∙◌}
use Rattle.rst_tree.specs.Targets.{plain_target}
use Rattle.rst_names.specs.Names.{names_in_target}
use Rattle.rst_names.specs.Faults.{first}
use Rattle.rst_name_faults.proofs.UseLemmas.{undeclared_names}
use Rattle.rst_name_faults.proofs.uses.no_name_in_target.Goals as goal

pub returns : goal.returns
returns c = c.first_in_target.ensures ∙ ap first (undeclared_names c.args.facts.now c.requires (names_in_target (plain_target c.args.target.now)))
