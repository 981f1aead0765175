use Rattle.std.proofs.Common.{◌≡◌, ◌<◌, ◌∙◌, ◌++◌, ◌∷◌, [], length, get_or, set, subst, sym}
use Rattle.std.specs.List.{Contains}
use Rattle.std.proofs.lemmas.List.{get_or_default}
use Rattle.std.proofs.lemmas.List.Elements.{Contains-append_left}
use Rattle.rst_clause.proofs.Noting.{keeps_join, keeps_set, noted_set}
use Rattle.rst_clause.proofs.indexed.note.Goals as goal

pub returns-in_err-push-clause-kept : goal.returns-in_err-push-clause-kept
returns-in_err-push-clause-kept c =
    let lt : c.args.place < length c.reach.new.lists.items = c.in_ok-reach.ensures.reached in
    let was : c.index_mut.result.now ≡ get_or c.reach.new.lists.items c.args.place [] =
    c.index_mut.ensures.value ∙ get_or_default c.reach.new.lists.items c.args.place c.index_mut.result.now [] lt in
    let e : c.push.new.self ≡ c.index_mut.result.now = c.in_err-push.ensures.err in
    keeps_join c.args.lists.now.items c.reach.new.lists.items (set c.reach.new.lists.items c.args.place c.push.new.self) c.in_ok-reach.ensures.kept
    (keeps_set c.reach.new.lists.items c.args.place c.push.new.self lt (λ n h. subst (λ z. Contains z n) (sym (e ∙ was)) h))

pub returns-clause-kept : goal.returns-clause-kept
returns-clause-kept c =
    let lt : c.args.place < length c.reach.new.lists.items = c.in_ok-reach.ensures.reached in
    let was : c.index_mut.result.now ≡ get_or c.reach.new.lists.items c.args.place [] =
    c.index_mut.ensures.value ∙ get_or_default c.reach.new.lists.items c.args.place c.index_mut.result.now [] lt in
    let e : c.push.new.self ≡ c.index_mut.result.now ++ c.args.number ∷ [] = c.in_ok-push.ensures.ok in
    keeps_join c.args.lists.now.items c.reach.new.lists.items (set c.reach.new.lists.items c.args.place c.push.new.self) c.in_ok-reach.ensures.kept
    (keeps_set c.reach.new.lists.items c.args.place c.push.new.self lt (λ n h. subst (λ z. Contains z n) (sym e)
    (Contains-append_left c.index_mut.result.now (c.args.number ∷ []) n (subst (λ z. Contains z n) (sym was) h))))

pub returns-clause-noted : goal.returns-clause-noted
returns-clause-noted c =
    let e : c.push.new.self ≡ c.index_mut.result.now ++ c.args.number ∷ [] = c.in_ok-push.ensures.ok in
    subst (λ z. Contains (get_or (set c.reach.new.lists.items c.args.place z) c.args.place []) c.args.number) (sym e)
    (noted_set c.reach.new.lists.items c.args.place c.args.number c.index_mut.result.now c.in_ok-reach.ensures.reached)
