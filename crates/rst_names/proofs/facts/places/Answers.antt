use Rattle.std.proofs.Common.{◌≡◌, List, map, position, nat_eq, Some, slice_get, ap, ◌∙◌, arith, Bor}
use Rattle.std.specs.Option.{option_map}
use Rattle.std.specs.Cmp.Lexicographic.{pointwise}
use Rattle.std.proofs.lemmas.List.{take_all, length-map}
use Rattle.std.proofs.lemmas.Option.{slice_get-map}
use Rattle.indexmap.specs.IndexMap.{get}
use Rattle.rst_tree.specs.Trees.{Text}
use Rattle.rst_names.specs.Names.{same_text}
use Rattle.rst_names.proofs.Turns.{read}
use Rattle.rst_names.proofs.TableLemmas.{goes_on}
use Rattle.rst_names.proofs.facts.places.Goals as goal

pub loop-at-preserved : goal.loop-at-preserved
loop-at-preserved c =
    let names = c.args.names.now in
    let name = c.index-names-at.result in
    let now = λ (n : Bor Text). n.now in
    let is : slice_get (map now names) c.loop-at.at ≡ Some name.now =
    slice_get-map now names c.loop-at.at ∙ ap (option_map now) (read names c.loop-at.at name (omega arith) c.index-names-at.is) in
    goes_on (λ n. n) (map now names) c.loop-at.at name.now is
    (get (pointwise nat_eq) c.loop-at.made) (get (pointwise nat_eq) c.place.new.made) c.loop-at.invariant c.in_ok-place.ensures

pub returns : goal.returns
returns c =
    let names = map (λ (n : Bor Text). n.now) c.args.names.now in
    λ name. c.loop-at.invariant name ∙ ap (λ (ns : List Text). position (λ n. same_text n name) ns) (take_all c.loop-at.at names (simp length-map (omega arith)))
