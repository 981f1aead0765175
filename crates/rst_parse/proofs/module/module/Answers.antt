use Rattle.std.proofs.Common.{◌≡◌, ◌<◌, length, ap, arith}
use Rattle.std.specs.Prelude.{Some}
use Rattle.std.proofs.lemmas.Grind.{common_steps}
use Rattle.std.proofs.lemmas.List.{nil_from_length}
use Rattle.std.proofs.lemmas.Result.{err_from_is_err_and}
use Rattle.rst_tree.specs.Modules.{plain_module}
use Rattle.rst_grammar.proofs.ExactModules.{module_sound, module_only}
use Rattle.rst_parse.proofs.Whole.{module_fails}
use Rattle.rst_parse.proofs.module.module.Goals as goal

pub returns-in_err-found-clause-only : goal.returns-in_err-found-clause-only
returns-in_err-found-clause-only c = λ m spelled small.
    let p = err_from_is_err_and c.from_residual.result c.from_residual.ensures.1 in
    rw (p.1, p.2) (module_fails c.in_err-found.field-0.0 200 c.args.symbols.now m c.in_err-found.ensures spelled small)

pub returns-then-not-is_empty-clause-only : goal.returns-then-not-is_empty-clause-only
returns-then-not-is_empty-clause-only c = λ m spelled small.
    let only = module_only 200 c.args.symbols.now c.in_ok-found.rest.now m (plain_module c.in_ok-found.found) c.in_ok-found.ensures spelled small in
    let none = ap length only.1 in
    let some : 0 < length c.in_ok-found.rest.now = grind (arith, common_steps) in
    absurd (omega arith)

pub returns-clause-found : goal.returns-clause-found
returns-clause-found c =
    let none : length c.in_ok-found.rest.now ≡ 0 = grind (arith, common_steps) in
    module_sound 200 c.args.symbols.now c.in_ok-found.rest.now (plain_module c.in_ok-found.found) c.in_ok-found.ensures (nil_from_length c.in_ok-found.rest.now none)

pub returns-clause-only : goal.returns-clause-only
returns-clause-only c = λ m spelled small.
    ap Some (module_only 200 c.args.symbols.now c.in_ok-found.rest.now m (plain_module c.in_ok-found.found) c.in_ok-found.ensures spelled small).0
