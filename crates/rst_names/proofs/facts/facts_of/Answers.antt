use Rattle.std.proofs.Common.{◌≡◌, List, map, position, nat_eq, refl, ap, ◌∙◌, Bor}
use Rattle.std.specs.Cmp.Lexicographic.{pointwise}
use Rattle.indexmap.specs.IndexMap.{get}
use Rattle.rst_tree.specs.Trees.{Text}
use Rattle.rst_tree.specs.Modules.{plain_module}
use Rattle.rst_names.specs.declared.facts as facts
use Rattle.rst_names.specs.declared.forms as code
use Rattle.rst_names.specs.Names.{same_text}
use Rattle.rst_names.specs.Declarations.{Declaration, Declared, signals}
use Rattle.rst_names.specs.Tables.{plain_declaration, plain_declared, total_or, total_in}
use Rattle.rst_names.proofs.FactLemmas.{joined, signals-of}
use Rattle.rst_names.proofs.facts.facts_of.Goals as goal

pub returns : goal.returns
returns c =
    let m = plain_module c.args.module.now in
    let now = λ (ns : List (Bor Text)). map (λ (n : Bor Text). n.now) ns in
    let shown = λ (ds : List code.Declaration.Declaration). map plain_declaration ds in
    let names = now c.in_ok-ports.ports.items in
    let ds = shown c.in_ok-declarations.declarations.items in
    let table = c.in_ok-summaries.summaries in
    let places = c.in_ok-port_places.port_places in
    let totals : (name : Text) → total_or (get (pointwise nat_eq) table name) ≡ total_in ds name =
    λ name. c.in_ok-summaries.ensures name ∙ ap (λ (xs : List code.Declaration.Declaration). total_in (shown xs) name) c.deref.ensures.value in
    let placed : (name : Text) → get (pointwise nat_eq) places name ≡ position (λ n. same_text n name) names =
    λ name. c.in_ok-port_places.ensures name ∙ ap (λ (xs : List (Bor Text)). position (λ n. same_text n name) (now xs)) c.deref-2.ensures.value in
    let made : map plain_declared c.in_ok-signals.signals.items ≡ signals m =
    c.in_ok-signals.ensures
    ∙ ap (λ (xs : List (Bor Text)). joined table places (shown c.deref-4.result.now) (now xs)) c.deref-3.ensures.value
    ∙ ap (λ (xs : List code.Declaration.Declaration). joined table places (shown xs) names) c.deref-4.ensures.value
    ∙ signals-of m table places ds names c.in_ok-declarations.ensures c.in_ok-ports.ensures totals placed in
    record {
      of = refl;
      declared = c.in_ok-declarations.ensures;
      port_names = c.in_ok-ports.ensures;
      port_places = λ name. placed name ∙ ap (λ (ns : List Text). position (λ n. same_text n name) ns) c.in_ok-ports.ensures;
      settable_names = c.in_ok-settable.ensures;
      signal_facts = made;
      signal_places = λ name. c.in_ok-signal_places.ensures name
          ∙ ap (λ (xs : List facts.Declared.Declared). position (λ (d : Declared). same_text d.name name) (map plain_declared xs)) c.deref-5.ensures.value
          ∙ ap (λ (ds : List Declared). position (λ d. same_text d.name name) ds) made;
      summaries = λ name. totals name ∙ ap (λ (ds : List Declaration). total_in ds name) c.in_ok-declarations.ensures;
    }
