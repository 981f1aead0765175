use Rattle.std.proofs.Common.{◌≡◌, ◌∙◌, Result, Ok, Err, OnErr, ap, get_or, set, List, ℕ}
use Rattle.std.proofs.lemmas.List.{set-get_or}
use Rattle.rst_watch.proofs.state.note.Goals as goal

on_err : {X E : Type 0} (r : Result X E) (P : Type 0) → P → OnErr r P
on_err (Ok x) P p = tt
on_err (Err e) P p = p

pub returns-in_err-push-clause-err : goal.returns-in_err-push-clause-err
returns-in_err-push-clause-err c =
    let was : c.push.new.self ≡ get_or c.args.lists.now.items c.place_of.result c.index_mut.result.now = c.in_err-push.ensures.err ∙ c.index_mut.ensures.value in
    on_err c.from_residual.result _
    (ap (λ (z : List ℕ). set c.args.lists.now.items c.place_of.result z) was ∙ set-get_or c.args.lists.now.items c.place_of.result c.index_mut.result.now)
