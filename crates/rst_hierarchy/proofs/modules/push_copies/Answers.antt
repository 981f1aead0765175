use Rattle.std.proofs.Common.{◌≡◌, ◌++◌, map}
use Rattle.rst_hierarchy.specs.Tables.{plain_modules, place_named}
use Rattle.rst_hierarchy.proofs.modules.push_copies.Goals as goal
use Rattle.std.proofs.Common.{None, sym, ap, append-nil, ◌∙◌}
use Rattle.rst_tree.specs.Modules.{plain_copied}
use Rattle.rst_hierarchy.proofs.PlaceLemmas.{places-none}

pub returns-in_default : goal.returns-in_default
returns-in_default c =
    let ms = plain_modules c.args.modules.now in
    let made = c.args.made.now.items in
    let none : place_named ms c.args.instance.now.«module» ≡ None = sym (c.place.ensures c.requires) ∙ c.in_default.is in
    sym (ap (λ l. made ++ l) (places-none ms c.args.instance.now.«module» none (map plain_copied c.args.instance.now.copies.items)) ∙ append-nil made)
