use Rattle.std.proofs.Common.{◌≡◌, map, sym, ap, ◌∙◌, add-one, arith}
use Rattle.rst_hierarchy.specs.Hierarchy.{leads}
use Rattle.rst_hierarchy.specs.Tables.{plain_modules, rows_of, direct_row, doubled}
use Rattle.rst_hierarchy.proofs.ReachLemmas.{direct-leads, doubled-leads}
use Rattle.rst_hierarchy.proofs.reach.reaches.Goals as goal

pub loop-turn-init : goal.loop-turn-init
loop-turn-init c =
    let modules = plain_modules c.args.modules.now in
    c.in_ok-rows.ensures ∙ ap (map (direct_row modules)) c.requires.placed ∙ direct-leads modules

pub loop-turn-preserved : goal.loop-turn-preserved
loop-turn-preserved c =
    let modules = plain_modules c.args.modules.now in
    c.in_ok-rows-2.ensures ∙ ap (λ rows. doubled (map (λ r. r.items) rows)) c.deref.ensures.value ∙ ap doubled c.loop-turn.invariant
    ∙ doubled-leads modules c.loop-turn._turn ∙ ap (λ n. rows_of (leads n modules) modules) (sym (add-one c.loop-turn._turn))

pub returns : goal.returns
returns c =
    let modules = plain_modules c.args.modules.now in
    let all : c.loop-turn._turn ≡ 8 = omega arith in
    c.loop-turn.invariant ∙ ap (λ n. rows_of (leads n modules) modules) all
