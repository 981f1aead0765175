-- Shared gates as an algebra: the state is the gates so far, and a value is an edge.
use Rattle.std.specs.Prelude.{true}
use Rattle.rst_gate.specs.declared.edge.Edge.{Edge}
use Rattle.rst_gate.specs.GateLists.{GateList}
use Rattle.rst_gate.specs.SharedGates.{constant_edge, turned, asked_and, asked_xor, asked_mux}
use Rattle.rst_terms.specs.Algebras.{Algebra}

abbrev pub gates_so_far : Algebra GateList Edge
gates_so_far = record {
  constant = constant_edge;
  negation = turned true;
  both = asked_and;
  differ = asked_xor;
  choice = asked_mux;
}
