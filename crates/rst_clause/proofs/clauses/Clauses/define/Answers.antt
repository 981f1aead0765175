use Rattle.std.proofs.Common.{◌∙◌, ◌+◌, ◌++◌, ap, arith, ℤ, List}
use Rattle.std.proofs.Math.Logic.{∥∥₁_map}
use Rattle.rst_clause.proofs.Ranges.{defined_push, AreClauses-more}
use Rattle.rst_clause.proofs.clauses.Clauses.define.Goals as goal

pub invariant_of-self-2 : goal.invariant_of-self-2
invariant_of-self-2 c =
    let all = c.in_ok-append.ensures.ok ∙ ap (λ (m : List (List ℤ)). c.args.self.now.fixed ++ m) c.requires.next.2 in
    record {
      few = c.requires.room;
      below = omega (arith, c.args.self.now.below);
      defined = ∥∥₁_map c.args.self.now.defined (λ d. defined_push c.args.self.now.free c.args.self.now.vars c.args.self.now.fixed c.append.new.self c.requires.next.0 d c.requires.next.1 all);
      in_range = AreClauses-more c.args.self.now.vars (c.args.self.now.vars + 1) c.args.self.now.required (omega arith) c.args.self.now.in_range;
    }
