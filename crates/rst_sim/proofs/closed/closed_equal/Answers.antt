use Rattle.std.proofs.Common.{◌≡◌, ◌∙◌, ◌<◌, length, ap, sym, arith}
use Rattle.rst_gate.specs.ClosedSets.{next_support}
use Rattle.rst_sim.specs.Supports.{narrowed, members}
use Rattle.rst_sim.proofs.Sets.{within-itself, within-through, within-counted, narrowed-within, length-narrowed, members-narrowed, closed-within-narrowed, turn-smaller}
use Rattle.rst_sim.proofs.closed.closed_equal.Goals as goal

pub narrowing-init : goal.narrowing-init
narrowing-init c =
    let same : c.in_ok-set.set ≡ c.args.known.now = c.in_ok-set.ensures ∙ c.as_slice.ensures in
    record {
      is_state = ap length same ∙ c.requires;
      within = rw same (within-itself c.args.known.now);
      largest = λ other within closed. rw same within;
    }

pub returns-then-count-clause-closed : goal.returns-then-count-clause-closed
returns-then-count-clause-closed c =
    let smaller : c.in_ok-smaller.smaller ≡ narrowed c.narrowing.set (next_support c.args.gates.now c.narrowing.set) =
    turn-smaller c.args.gates.now c.narrowing.set c.in_ok-smaller.smaller c.in_ok-below.below.items c.as_slice-in-narrowing.result.now
    c.as_slice-in-narrowing-2.result.now c.as_slice-in-narrowing-3.result.now c.as_slice-in-narrowing.ensures
    c.in_ok-below.ensures.value c.as_slice-in-narrowing-2.ensures c.as_slice-in-narrowing-3.ensures.value c.in_ok-smaller.ensures in
    let below : c.in_ok-below.below.items ≡ next_support c.args.gates.now c.narrowing.set =
    c.in_ok-below.ensures.value ∙ ap (next_support c.args.gates.now) c.as_slice-in-narrowing.ensures in
    let lengths : length c.narrowing.set ≡ length (next_support c.args.gates.now c.narrowing.set) =
    c.narrowing.invariant.is_state ∙ sym c.in_ok-below.ensures.count ∙ ap length below in
    let first : c.count.result ≡ members c.in_ok-smaller.smaller = c.count.ensures ∙ ap members c.as_slice-in-narrowing-4.ensures in
    let second : c.count-in-narrowing.result ≡ members c.narrowing.set =
    c.count-in-narrowing.ensures ∙ ap members c.as_slice-in-narrowing-5.ensures in
    within-counted c.narrowing.set (next_support c.args.gates.now c.narrowing.set) lengths
    (ap members (sym smaller) ∙ sym first ∙ c.if-count.true ∙ second)

pub narrowing-smaller : goal.narrowing-smaller
narrowing-smaller c =
    let smaller : c.in_ok-smaller.smaller ≡ narrowed c.narrowing.set (next_support c.args.gates.now c.narrowing.set) =
    turn-smaller c.args.gates.now c.narrowing.set c.in_ok-smaller.smaller c.in_ok-below.below.items c.as_slice-in-narrowing.result.now
    c.as_slice-in-narrowing-2.result.now c.as_slice-in-narrowing-3.result.now c.as_slice-in-narrowing.ensures
    c.in_ok-below.ensures.value c.as_slice-in-narrowing-2.ensures c.as_slice-in-narrowing-3.ensures.value c.in_ok-smaller.ensures in
    let first : c.count.result ≡ members c.in_ok-smaller.smaller = c.count.ensures ∙ ap members c.as_slice-in-narrowing-4.ensures in
    let second : c.count-in-narrowing.result ≡ members c.narrowing.set =
    c.count-in-narrowing.ensures ∙ ap members c.as_slice-in-narrowing-5.ensures in
    let at_most = members-narrowed c.narrowing.set (next_support c.args.gates.now c.narrowing.set) in
    let same = ap members smaller in
    let fewer : members c.in_ok-smaller.smaller < members c.narrowing.set = omega (arith, first, second, at_most, same, c.if-count.false) in
    fewer

pub narrowing-preserved : goal.narrowing-preserved
narrowing-preserved c =
    let smaller : c.in_ok-smaller.smaller ≡ narrowed c.narrowing.set (next_support c.args.gates.now c.narrowing.set) =
    turn-smaller c.args.gates.now c.narrowing.set c.in_ok-smaller.smaller c.in_ok-below.below.items c.as_slice-in-narrowing.result.now
    c.as_slice-in-narrowing-2.result.now c.as_slice-in-narrowing-3.result.now c.as_slice-in-narrowing.ensures
    c.in_ok-below.ensures.value c.as_slice-in-narrowing-2.ensures c.as_slice-in-narrowing-3.ensures.value c.in_ok-smaller.ensures in
    let below : c.in_ok-below.below.items ≡ next_support c.args.gates.now c.narrowing.set =
    c.in_ok-below.ensures.value ∙ ap (next_support c.args.gates.now) c.as_slice-in-narrowing.ensures in
    let lengths : length c.narrowing.set ≡ length (next_support c.args.gates.now c.narrowing.set) =
    c.narrowing.invariant.is_state ∙ sym c.in_ok-below.ensures.count ∙ ap length below in
    record {
      is_state = ap length smaller ∙ length-narrowed c.narrowing.set _ lengths ∙ c.narrowing.invariant.is_state;
      within = rw smaller
          (within-through _ c.narrowing.set c.args.known.now (narrowed-within c.narrowing.set _ lengths) c.narrowing.invariant.within);
      largest = λ other within closed. rw smaller
          (closed-within-narrowed c.args.gates.now other c.narrowing.set closed (c.narrowing.invariant.largest other within closed));
    }
