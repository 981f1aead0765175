use Rattle.std.proofs.Common.{◌≡◌, ◌||◌, map, take, nat_eq, is_some, true, false}
use Rattle.std.specs.Option.{option_map}
use Rattle.std.specs.Cmp.Lexicographic.{pointwise}
use Rattle.indexmap.specs.IndexSet.{contains}
use Rattle.rst_tree.specs.Modules.{plain_link}
use Rattle.rst_names.specs.Faults.{first}
use Rattle.rst_names.specs.Names.{same_text, is_among}
use Rattle.rst_hierarchy.proofs.connects.names_twice.Goals as goal
use Rattle.std.proofs.Common.{Some, slice_get, refl, sym, ap, ◌∙◌}
use Rattle.std.proofs.lemmas.Option.{slice_get-map}
use Rattle.rst_tree.specs.Modules.{PlainLink}
use Rattle.rst_name_faults.proofs.BuildLemmas.{seen_at}
use Rattle.rst_hierarchy.proofs.LinkLemmas.{from_not, from_not_true, stands_twice, stands_first, among_more}

pub returns-then-not-new : goal.returns-then-not-new
returns-then-not-new c =
    let links = c.args.links.now in
    let names = map (λ (k : PlainLink). k.name) (map plain_link links) in
    let i = c.loop-link.link-index in
    let link = c.link-item.result in
    let is : slice_get names i ≡ Some link.name =
    slice_get-map (λ (k : PlainLink). k.name) (map plain_link links) i ∙ ap (option_map (λ (k : PlainLink). k.name)) (seen_at plain_link links links i link refl c.loop-link-test.true c.link-item.is) in
    let told : is_among (take i names) link.name ≡ true = sym (c.loop-link.invariant.table link.name) ∙ from_not (contains (pointwise nat_eq) c.loop-link.seen link.name) (sym c.in_ok-new.ensures.new ∙ c.if-not-new.true) in
    sym (ap is_some (sym c.loop-link.invariant.left ∙ stands_twice names i link.name is told))

pub loop-link-preserved : goal.loop-link-preserved
loop-link-preserved c =
    let links = c.args.links.now in
    let names = map (λ (k : PlainLink). k.name) (map plain_link links) in
    let i = c.loop-link.link-index in
    let link = c.link-item.result in
    let is : slice_get names i ≡ Some link.name =
    slice_get-map (λ (k : PlainLink). k.name) (map plain_link links) i ∙ ap (option_map (λ (k : PlainLink). k.name)) (seen_at plain_link links links i link refl c.loop-link-test.true c.link-item.is) in
    let told : is_among (take i names) link.name ≡ false = sym (c.loop-link.invariant.table link.name) ∙ from_not_true (contains (pointwise nat_eq) c.loop-link.seen link.name) (sym c.in_ok-new.ensures.new ∙ c.if-not-new.false) in
    record {
      table = λ q. c.in_ok-new.ensures.names q ∙ (ap (λ b. b || same_text link.name q) (c.loop-link.invariant.table q) ∙ sym (among_more names i link.name is q));
      left = ap first (sym (stands_first names i link.name is told)) ∙ c.loop-link.invariant.left;
    }
