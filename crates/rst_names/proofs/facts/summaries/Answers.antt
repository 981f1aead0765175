use Rattle.std.proofs.Common.{◌≡◌, map, cond, Some, slice_get, sym, ap, ◌∙◌, arith}
use Rattle.std.specs.Option.{option_map}
use Rattle.std.proofs.lemmas.Option.{slice_get-map}
use Rattle.rst_names.specs.Names.{same_text}
use Rattle.rst_names.specs.Tables.{Total, plain_declaration, with_declaration}
use Rattle.rst_names.proofs.Turns.{read}
use Rattle.rst_names.proofs.SummaryLemmas.{total_more}
use Rattle.rst_names.proofs.facts.summaries.Goals as goal

pub loop-d-preserved : goal.loop-d-preserved
loop-d-preserved c =
    let ds = c.args.declarations.now in
    let d = c.d-item.result in
    let i = c.loop-d.d-index in
    let plain = plain_declaration d in
    let is : slice_get (map plain_declaration ds) i ≡ Some plain =
    slice_get-map plain_declaration ds i ∙ ap (option_map plain_declaration) (read ds i d (omega arith) c.d-item.is) in
    λ q. c.in_ok-add.ensures q
    ∙ ap (λ (t : Total). cond (same_text plain.name q) (with_declaration t plain) t) (c.loop-d.invariant q)
    ∙ sym (total_more (map plain_declaration ds) i plain q is)
