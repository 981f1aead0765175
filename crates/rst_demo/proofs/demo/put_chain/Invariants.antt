use Rattle.std.proofs.Common.{◌≡◌, ◌++◌}
use Rattle.rst_demo.specs.Demo.{chain_lines}
use Rattle.rst_demo.proofs.demo.put_chain.Given as goal

abbrev pub invariant-loop-before : goal.invariant-loop-before
invariant-loop-before l = l.text ≡ l.fn.text ++ chain_lines l.before
