use Rattle.std.proofs.Common.{List, position, nat_eq, ap, ◌∙◌, arith}
use Rattle.std.specs.Cmp.Lexicographic.{pointwise}
use Rattle.std.proofs.lemmas.List.{take_all}
use Rattle.indexmap.specs.IndexMap.{get}
use Rattle.rst_names.specs.Names.{same_text}
use Rattle.rst_names.proofs.Turns.{read}
use Rattle.rst_names.proofs.TableLemmas.{goes_on}
use Rattle.rst_instances.specs.declared.design.Located.{Located}
use Rattle.rst_items.proofs.links.by_prefix.Goals as goal

pub loop-place-preserved : goal.loop-place-preserved
loop-place-preserved c =
    let all = c.args.all.now in
    let located = c.index-all-place.result in
    goes_on (λ (l : Located). l.place.prefix) all c.loop-place.place located (read all c.loop-place.place located (omega arith) c.index-all-place.is)
    (get (pointwise nat_eq) c.loop-place.made) (get (pointwise nat_eq) c.put_prefix.new.made) c.loop-place.invariant c.in_ok-put_prefix.ensures

pub returns : goal.returns
returns c =
    let all = c.args.all.now in
    λ prefix. c.loop-place.invariant prefix ∙ ap (λ (ls : List Located). position (λ l. same_text l.place.prefix prefix) ls) (take_all c.loop-place.place all (omega arith))
