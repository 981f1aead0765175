use Rattle.std.proofs.Common.{◌≡◌, ◌≤◌, ◌-◌, ◌++◌, drop}
use Rattle.rst_pair.specs.Queries.{sharing_state}
use Rattle.rst_pairinv.proofs.states.sharing_state.Given as goal

abbrev pub invariant-loop-i : goal.invariant-loop-i
invariant-loop-i l = record {
  value : sharing_state l.count l.marks l.left l.bits
      ≡ l.state.items ++ sharing_state (l.count - l.i) (drop l.i l.marks) (drop l.i l.left) (drop l.next l.bits);
  most : l.next ≤ l.i;
}
