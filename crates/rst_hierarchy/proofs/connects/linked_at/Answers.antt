use Rattle.std.proofs.Common.{◌≡◌, None, slice_get, sym, subst, ◌∙◌}
use Rattle.std.specs.Option.{option_copied}
use Rattle.rst_hierarchy.specs.Hierarchy.{module_named}
use Rattle.rst_hierarchy.specs.Tables.{plain_modules, LinksOf}
use Rattle.rst_name_faults.proofs.BuildLemmas.{got}
use Rattle.rst_hierarchy.proofs.LinkLemmas.{linked_named, none_linked}
use Rattle.rst_hierarchy.proofs.connects.linked_at.Goals as goal

pub returns-in-Some : goal.returns-in-Some
returns-in-Some c =
    let ms = plain_modules c.args.modules.now in
    let name = c.args.name.now in
    let found : option_copied c.get.result ≡ slice_get c.args.all.now c.in-Some.place = got c.args.all.now c.in-Some.place c.get.result c.get.ensures.lookup in
    subst (LinksOf (module_named ms name)) (sym found) (linked_named ms c.args.all.now name c.in-Some.place c.requires.linked (sym (c.place.ensures c.requires.table) ∙ c.in-Some.is))

pub returns-in-None : goal.returns-in-None
returns-in-None c =
    let ms = plain_modules c.args.modules.now in
    let name = c.args.name.now in
    subst (λ o. LinksOf o None) (sym (none_linked ms name (sym (c.place.ensures c.requires.table) ∙ c.in-None.is))) tt
