use Rattle.std.proofs.Common.{◌++◌, ◌≤◌, length, drop, map, sym, ap, ◌∙◌, arith, drop_of_length-le, append-nil, Bor}
use Rattle.std.specs.Option.{option_map}
use Rattle.rst_tree.specs.Trees.{Text, plain}
use Rattle.rst_instances.specs.Parameters.{linked_in_order}
use Rattle.rst_instances.specs.Tables.{plain_linked}
use Rattle.rst_instances.proofs.ValueLemmas.{ordered_none}
use Rattle.rst_instances.proofs.parameters.push_ordered.Goals as goal

pub returns : goal.returns
returns c =
    let vs = c.args.values.now in
    let i = c.loop-place.place in
    let past : length vs ≤ i = omega arith in
    let made = map plain_linked c.loop-place.made.items in
    let ns = map (λ (m : Bor Text). m.now) (drop i c.args.names.now) in
    sym (append-nil made) ∙ ap (λ l. made ++ l) (sym (ordered_none ns)) ∙ ap (λ l. made ++ linked_in_order ns (map (option_map plain) l)) (sym (drop_of_length-le vs past)) ∙ c.loop-place.invariant
