use Rattle.std.proofs.Common.{Bor}
use Rattle.std.specs.Option.{option_map}
use Rattle.rst_tree.specs.declared.module.Range.{Range}
use Rattle.rst_tree.specs.Modules.{plain_range}
use Rattle.rst_names.proofs.SameLemmas.{same_from}
use Rattle.rst_names.proofs.same.same_range.Goals as goal

pub returns-clause-same : goal.returns-clause-same
returns-clause-same c =
    let range = λ (r : Bor Range). plain_range r.now in
    same_from c.is_one.result (option_map range c.args.a) (option_map range c.args.b) c.is_one.ensures
