use Rattle.std.proofs.Common.{map, nat_eq, List, Bor}
use Rattle.std.specs.Cmp.Lexicographic.{pointwise}
use Rattle.indexmap.specs.IndexMap.{get}
use Rattle.rst_tree.specs.Modules.{plain_module}
use Rattle.rst_names.specs.Names.{same_text}
use Rattle.rst_hierarchy.proofs.modules.places.Goals as goal
use Rattle.std.proofs.Common.{position, refl, ap, ◌∙◌, arith}
use Rattle.std.proofs.lemmas.List.{take_all, length-map}
use Rattle.rst_tree.specs.declared.module.Module.{Module}
use Rattle.rst_tree.specs.Modules.{PlainModule}
use Rattle.rst_names.proofs.TableLemmas.{goes_on}
use Rattle.rst_name_faults.proofs.BuildLemmas.{seen_at}

pub loop-place-preserved : goal.loop-place-preserved
loop-place-preserved c =
    let list = c.args.list.now in
    let r = c.index-list-place.result in
    let seen = λ (r : Bor Module). plain_module r.now in
    let is = seen_at seen list list c.loop-place.place r refl c.loop-place-test.true c.index-list-place.is in
    goes_on (λ (k : PlainModule). k.name) (map seen list) c.loop-place.place (seen r) is
    (get (pointwise nat_eq) c.loop-place.made) (get (pointwise nat_eq) c.put_place.new.made) c.loop-place.invariant c.in_ok-put_place.ensures

pub returns : goal.returns
returns c =
    let ms = map (λ (r : Bor Module). plain_module r.now) c.args.list.now in
    λ name. c.loop-place.invariant name ∙ ap (λ (l : List PlainModule). position (λ k. same_text k.name name) l) (take_all c.loop-place.place ms (simp length-map (omega arith)))
