use Rattle.rst_tree.specs.Trees.{plain}
use Rattle.rst_names.specs.Names.{names_in}
use Rattle.rst_names.specs.Tables.{is_signal_in}
use Rattle.rst_items.proofs.FormLemmas.{none_found}
use Rattle.rst_items.proofs.reset_forms.names_no_signal.Goals as goal

pub returns : goal.returns
returns c = none_found (is_signal_in c.args.facts.now) (names_in (plain c.args.expr.now)) c.first_in.result c.is_none.result c.is_none.ensures c.first_in.ensures
