use Rattle.std.proofs.Common.{◌≡◌, [], ◌∷◌, ◌++◌, map, sym, ap, ◌∙◌}
use Rattle.std.proofs.lemmas.List.{map-append}
use Rattle.rst_width.specs.Scopes.{names_of}
use Rattle.rst_instances.specs.Parameters.{names_from, known_values}
use Rattle.rst_instances.specs.Tables.{plain_valued}
use Rattle.rst_instances.proofs.KnownLemmas.{known_more}
use Rattle.rst_instances.proofs.parameters.add_value.Goals as goal

pub returns-clause-known : goal.returns-clause-known
returns-clause-known c = λ is.
    let old = c.args.made.now.list.items in
    let more : map plain_valued c.push.new.self.items ≡ map plain_valued old ++ plain_valued c.args.valued ∷ [] =
    ap (map plain_valued) c.in_ok-push.ensures.items ∙ map-append plain_valued old (c.args.valued ∷ []) in
    record {
      scope_names = known_more (names_of c.args.made.now.scope) (names_of (record { entries = c.note_value.new.entries })) (map plain_valued old) (plain_valued c.args.valued) is.scope_names c.in_ok-note_value.ensures
          ∙ ap (λ vs. names_from (known_values vs)) (sym more);
    }
