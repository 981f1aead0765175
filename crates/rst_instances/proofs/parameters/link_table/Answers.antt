use Rattle.std.proofs.Common.{◌+◌, ◌≤◌, length, drop, map, nat_eq, sym, ap, ◌∙◌, arith, drop_of_length-le}
use Rattle.std.specs.Cmp.Lexicographic.{pointwise}
use Rattle.std.specs.Option.{option_map, option_or}
use Rattle.indexmap.specs.IndexMap.{get}
use Rattle.rst_names.specs.Names.{same_text}
use Rattle.rst_names.proofs.Turns.{at, read}
use Rattle.rst_instances.specs.Parameters.{link_to}
use Rattle.rst_instances.specs.Tables.{plain_linked}
use Rattle.rst_instances.proofs.NoteLemmas.{noted_turn, option_or-map, option_or-none}
use Rattle.rst_instances.proofs.parameters.link_table.Goals as goal

pub loop-link-preserved : goal.loop-link-preserved
loop-link-preserved c = λ name.
    let xs = c.args.links.now in
    let i = c.loop-link.link-index in
    let x = c.link-item.result in
    let is = read xs i x c.loop-link-test.true c.link-item.is in
    let before = get (pointwise nat_eq) c.loop-link.made name in
    let here = same_text x.name.now name in
    noted_turn (option_map plain_linked before) (option_map plain_linked (get (pointwise nat_eq) c.note.new.table name)) (plain_linked x) here
    (link_to (map plain_linked (drop (i + 1) xs)) name) (link_to (map plain_linked xs) name)
    (ap (option_map plain_linked) (c.in_ok-note.ensures name) ∙ option_or-map plain_linked before here x)
    (ap (λ l. option_or (option_map plain_linked before) (link_to (map plain_linked l) name)) (sym (at xs i x is).back) ∙ c.loop-link.invariant name)

pub returns : goal.returns
returns c = λ name.
    let xs = c.args.links.now in
    let past : length xs ≤ c.loop-link.link-index = omega arith in
    let now = option_map plain_linked (get (pointwise nat_eq) c.loop-link.made name) in
    sym (option_or-none now) ∙ ap (λ l. option_or now (link_to (map plain_linked l) name)) (sym (drop_of_length-le xs past)) ∙ c.loop-link.invariant name
