use Rattle.std.proofs.Common.{ap, ◌∙◌}
use Rattle.rst_tree.specs.Trees.{plain}
use Rattle.rst_names.specs.Names.{names_in}
use Rattle.rst_names.specs.Faults.{first}
use Rattle.rst_name_faults.proofs.UseLemmas.{undeclared_names}
use Rattle.rst_name_faults.proofs.uses.no_name.Goals as goal

pub returns : goal.returns
returns c = c.first_in.ensures ∙ ap first (undeclared_names c.args.facts.now c.requires (names_in (plain c.args.expr.now)))
