use Rattle.std.proofs.Common.{◌≡◌, map, ◌+◌, ◌∷◌, Bor}
use Rattle.std.specs.Option.{option_map}
use Rattle.rst_names.specs.Faults.{Tells, first}
use Rattle.rst_names.specs.Names.{same_text}
use Rattle.rst_names.specs.Tables.{plain_declaration}
use Rattle.rst_name_faults.specs.NameRows.{twice}
use Rattle.rst_name_faults.specs.Tables.{plain_seen, follows, seen_after, module_of}
use Rattle.rst_name_faults.proofs.declaring.twice_passes.Goals as goal
use Rattle.std.proofs.Common.{take, drop, sym, ap, subst, ◌∙◌}
use Rattle.rst_names.specs.declared.faults.ElabCode.TheVariants as code
use Rattle.rst_names.specs.Faults.{fault_at}
use Rattle.rst_names.specs.Declarations.{of_name}
use Rattle.rst_names.proofs.RowLemmas.{refuses_same, refuses_head}
use Rattle.rst_name_faults.specs.declared.declaring.Seen.{Seen}
use Rattle.rst_name_faults.specs.NameRows.{twice_behind}
use Rattle.rst_name_faults.specs.Tables.{kept_of}
use Rattle.rst_name_faults.proofs.BuildLemmas.{seen_at}
use Rattle.rst_name_faults.proofs.SeenLemmas.{seen_copied, follows-kept, kept_more, twice_refuses, twice_goes_on}

pub returns-then-not-may_follow-clause-refused : goal.returns-then-not-may_follow-clause-refused
returns-then-not-may_follow-clause-refused c =
    let m = module_of c.args.facts.now in
    let items = c.args.facts.now.declarations.items in
    let ds = map plain_declaration items in
    let i = c.loop-d.d-index in
    let d = plain_declaration c.d-item.result in
    let e = c.refusal.result in
    let is = seen_at plain_declaration c.deref-d-items.result.now items i c.d-item.result c.deref-d-items.ensures.value c.loop-d-test.true c.d-item.is in
    let kept : option_map (λ (s : Bor Seen). plain_seen s.now) c.get.result ≡ kept_of (of_name d.name (take i ds)) = seen_copied c.get.result ∙ (ap (option_map plain_seen) c.get.ensures.value ∙ c.loop-d.invariant.table d.name) in
    let told = c.may_follow.ensures ∙ (ap (λ o. follows o d) kept ∙ follows-kept (of_name d.name (take i ds)) d) in
    refuses_same e (fault_at code.Twice d.name 0 ∷ twice_behind (take (i + 1) ds) (drop (i + 1) ds)) (twice m)
    (ap first (sym (twice_refuses ds i d is c.may_follow.result told c.if-not-may_follow.true)) ∙ c.loop-d.invariant.left)
    (refuses_head e (fault_at code.Twice d.name 0) (twice_behind (take (i + 1) ds) (drop (i + 1) ds))
    (subst (λ t. Tells e (fault_at code.Twice t 0)) c.as_slice.ensures c.refusal.ensures))

pub loop-d-preserved : goal.loop-d-preserved
loop-d-preserved c =
    let items = c.args.facts.now.declarations.items in
    let ds = map plain_declaration items in
    let i = c.loop-d.d-index in
    let d = plain_declaration c.d-item.result in
    let is = seen_at plain_declaration c.deref-d-items.result.now items i c.d-item.result c.deref-d-items.ensures.value c.loop-d-test.true c.d-item.is in
    let kept : option_map (λ (s : Bor Seen). plain_seen s.now) c.get.result ≡ kept_of (of_name d.name (take i ds)) = seen_copied c.get.result ∙ (ap (option_map plain_seen) c.get.ensures.value ∙ c.loop-d.invariant.table d.name) in
    let told = c.may_follow.ensures ∙ (ap (λ o. follows o d) kept ∙ follows-kept (of_name d.name (take i ds)) d) in
    record {
      table = λ q. c.in_ok-put_seen.ensures q ∙ (ap (λ o. seen_after o (same_text d.name q) d) (c.loop-d.invariant.table q) ∙ sym (kept_more ds i d is q));
      left = ap first (sym (twice_goes_on ds i d is c.may_follow.result told c.if-not-may_follow.false)) ∙ c.loop-d.invariant.left;
    }
