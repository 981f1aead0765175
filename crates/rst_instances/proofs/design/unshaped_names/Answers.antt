use Rattle.std.proofs.Common.{◌+◌, ◌≤◌, List, [], ◌∷◌, length, drop, map, nat_eq, sym, ap, ◌∙◌, arith, drop_of_length-le}
use Rattle.std.proofs.Math.Path.{fun_ext}
use Rattle.std.specs.Cmp.Lexicographic.{pointwise}
use Rattle.indexmap.specs.IndexMap.{get}
use Rattle.rst_width.specs.Scopes.{later_of, either_of}
use Rattle.rst_names.specs.Declarations.{Declaration}
use Rattle.rst_names.specs.Tables.{plain_declaration}
use Rattle.rst_names.proofs.Turns.{at}
use Rattle.rst_instances.specs.Parameters.{laters, names_from}
use Rattle.rst_instances.proofs.KnownLemmas.{names_step, laters-more, either_of-none}
use Rattle.rst_instances.proofs.TurnLemmas.{there_at}
use Rattle.rst_instances.proofs.design.unshaped_names.Goals as goal

pub loop-d-preserved : goal.loop-d-preserved
loop-d-preserved c = λ name.
    let xs = c.args.facts.now.declarations.items in
    let i = c.loop-d.d-index in
    let d = c.d-item.result in
    let is = there_at c.deref-d-items.result.now xs i d c.deref-d-items.ensures.value c.loop-d-test.true c.d-item.is in
    names_step (later_of (get (pointwise nat_eq) c.loop-d.entries name)) (later_of (get (pointwise nat_eq) c.note_later.new.entries name)) (names_from (laters (map plain_declaration xs)) name)
    (laters (plain_declaration d ∷ [])) (laters (map plain_declaration (drop (i + 1) xs))) (laters (map plain_declaration (drop i xs))) name
    (ap (λ l. laters (map plain_declaration l)) (at xs i d is).back ∙ laters-more (plain_declaration d) (map plain_declaration (drop (i + 1) xs)))
    (c.in_ok-note_later.ensures name) (c.loop-d.invariant name)

pub returns : goal.returns
returns c = λ m is. fun_ext (λ name.
    let xs = c.args.facts.now.declarations.items in
    let past : length xs ≤ c.loop-d.d-index = omega (arith, ap length c.deref-d-items.ensures.value) in
    let now = later_of (get (pointwise nat_eq) c.loop-d.entries name) in
    sym (either_of-none now) ∙ ap (λ l. either_of now (names_from (laters (map plain_declaration l)) name)) (sym (drop_of_length-le xs past)) ∙ c.loop-d.invariant name
    ∙ ap (λ (ds : List Declaration). names_from (laters ds) name) is.declared)
