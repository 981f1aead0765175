use Rattle.std.proofs.Common.{◌≡◌, ◌∙◌, refl, sym, ap, subst, ℕ, ◌≤◌, List, length, map}
use Rattle.std.proofs.lemmas.List.{length-map}
use Rattle.rst_net.specs.declared.unit.Driver.{Driver}
use Rattle.rst_net.specs.Units.{PlainDriver, plain_signal, plain_driver, plain_process}
use Rattle.rst_flow.specs.Edges.{picks, IsUnitOrder}
use Rattle.rst_flow.specs.Nets.{IsInOrder, IsLight}
use Rattle.rst_flow.specs.Tables.{IsChoice}
use Rattle.rst_flow.proofs.Picked.{is_choice, in_order, picks-map}
use Rattle.rst_flow.proofs.Sums.{same_weight}
use Rattle.rst_flow.proofs.flowing.net_of.Goals as goal

choice : (count : ℕ) (units : List Driver) (order : List ℕ) → IsUnitOrder count (map plain_driver units) order → IsChoice (length units) order
choice count units order o = subst (λ n. IsChoice n order) (o.edges.vertices ∙ length-map units plain_driver) (is_choice o.graph order o.steps)

pub ordered-requires : goal.ordered-requires
ordered-requires c = choice (length (map plain_signal c.args.flat.signals.items)) c.args.flat.units.items c.args.order.now c.requires.passes.ordered

same_units : (units made : List Driver) (order : List ℕ) → made ≡ picks units order → map plain_driver made ≡ picks (map plain_driver units) order
same_units units made order e = ap (λ (us : List Driver). map plain_driver us) e ∙ picks-map plain_driver units order

pub invariant_of-result : goal.invariant_of-result
invariant_of-result c =
    let units = map plain_driver c.args.flat.units.items in
    let signals = map plain_signal c.args.flat.signals.items in
    let clocked = map plain_process c.args.flat.clocked.items in
    let same = same_units c.args.flat.units.items c.in_ok-units.units.items c.args.order.now c.in_ok-units.ensures in
    record {
      in_order = subst (λ (us : List PlainDriver). IsInOrder (length c.args.flat.signals.items) us) (sym same)
          (subst (λ n. IsInOrder n (picks units c.args.order.now)) (length-map c.args.flat.signals.items plain_signal) (in_order (length signals) units c.args.order.now c.requires.passes.ordered));
      few = c.requires.few;
      light = subst (λ (us : List PlainDriver). IsLight signals us clocked) (sym same)
          (subst (λ n. n ≤ 16384) (sym (same_weight signals clocked (length signals) units c.args.order.now c.requires.passes.ordered)) c.requires.passes.light);
    }

pub returns : goal.returns
returns c = record {
  order = c.args.order.now;
  passes = c.requires.passes;
  signals = refl;
  units = same_units c.args.flat.units.items c.in_ok-units.units.items c.args.order.now c.in_ok-units.ensures;
  clocked = refl;
  outputs = refl;
}
