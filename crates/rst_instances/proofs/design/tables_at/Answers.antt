use Rattle.std.proofs.Common.{◌≡◌, length, map, refl, sym, ap, ◌∙◌, arith}
use Rattle.std.proofs.lemmas.List.{length-map}
use Rattle.std.proofs.lemmas.Option.{slice_get_read}
use Rattle.rst_hierarchy.specs.Tables.{module_of}
use Rattle.rst_instances.specs.Tables.{later_names}
use Rattle.rst_instances.proofs.PlaceLemmas.{facts_at, later_at}
use Rattle.rst_instances.proofs.design.tables_at.Goals as goal

pub returns-clause-within : goal.returns-clause-within
returns-clause-within c = λ modules h.
    let facts = c.args.design.now.facts.now in
    let same : length facts ≡ length modules = sym (length-map facts module_of) ∙ ap length h.declared.of in
    omega (arith, c.in_ok-facts.ensures.lookup.3.0)

pub returns-clause-right : goal.returns-clause-right
returns-clause-right c = λ modules h.
    let facts = c.args.design.now.facts.now in
    let names = c.as_slice.result.now in
    record {
      declared = facts_at modules facts c.args.of c.in_ok-facts.facts.now h.declared
          (slice_get_read facts (length facts) c.args.of c.in_ok-facts.facts.now refl c.in_ok-facts.ensures.lookup.3.0 c.in_ok-facts.ensures.lookup.1);
      later = later_at modules names c.args.of c.in_ok-unshaped.unshaped.now (ap (map later_names) c.as_slice.ensures.value ∙ h.later)
          (slice_get_read names (length names) c.args.of c.in_ok-unshaped.unshaped.now refl c.in_ok-unshaped.ensures.lookup.3.0 c.in_ok-unshaped.ensures.lookup.1);
    }
