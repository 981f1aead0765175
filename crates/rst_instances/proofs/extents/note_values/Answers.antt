use Rattle.std.proofs.Common.{◌+◌, ◌≤◌, [], ◌∷◌, length, drop, map, nat_eq, sym, ap, ◌∙◌, arith, drop_of_length-le}
use Rattle.std.specs.Cmp.Lexicographic.{pointwise}
use Rattle.indexmap.specs.IndexMap.{get}
use Rattle.rst_width.specs.Scopes.{meaning_of, either_of}
use Rattle.rst_names.proofs.Turns.{at, read}
use Rattle.rst_instances.specs.Parameters.{names_from, known_values}
use Rattle.rst_instances.specs.Tables.{plain_valued}
use Rattle.rst_instances.proofs.KnownLemmas.{names_step, known_values-append, either_of-none}
use Rattle.rst_instances.proofs.extents.note_values.Goals as goal

pub loop-valued-preserved : goal.loop-valued-preserved
loop-valued-preserved c = λ name.
    let xs = c.args.values.now in
    let i = c.loop-valued.valued-index in
    let v = c.valued-item.result in
    let is = read xs i v c.loop-valued-test.true c.valued-item.is in
    names_step (meaning_of (get (pointwise nat_eq) c.loop-valued.entries name)) (meaning_of (get (pointwise nat_eq) c.note_value.new.entries name))
    (either_of (meaning_of (get (pointwise nat_eq) c.args.entries.now name)) (names_from (known_values (map plain_valued xs)) name))
    (known_values (plain_valued v ∷ [])) (known_values (map plain_valued (drop (i + 1) xs))) (known_values (map plain_valued (drop i xs))) name
    (ap (λ l. known_values (map plain_valued l)) (at xs i v is).back ∙ known_values-append (plain_valued v ∷ []) (map plain_valued (drop (i + 1) xs)))
    (c.in_ok-note_value.ensures name) (c.loop-valued.invariant name)

pub returns : goal.returns
returns c = λ name.
    let xs = c.args.values.now in
    let past : length xs ≤ c.loop-valued.valued-index = omega arith in
    let now = meaning_of (get (pointwise nat_eq) c.loop-valued.entries name) in
    sym (either_of-none now) ∙ ap (λ l. either_of now (names_from (known_values (map plain_valued l)) name)) (sym (drop_of_length-le xs past)) ∙ c.loop-valued.invariant name
