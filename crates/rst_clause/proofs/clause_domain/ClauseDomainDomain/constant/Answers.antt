use Rattle.std.proofs.Common.{arith, ◌≡◌, ◌∙◌, ◌<◌, ◌+◌, sym, ap, subst, cond, refl, Bool, ℕ, ℤ, suc, pos, negsuc}
use Rattle.rst_clause.specs.Literals.{opposite, literal_holds, IsLiteral}
use Rattle.rst_clause.proofs.Ranges.{false_of}
use Rattle.rst_clause.proofs.Extending.{false_value, constant_value, constant_in_range, both_equal}
use Rattle.rst_clause.proofs.clause_domain.ClauseDomainDomain.constant.Goals as goal
use Rattle.rst_clause.proofs.clause_domain.ClauseDomainDomain.constant.Goals.{then-bit, else-bit}

pub overflow_add-self : goal.overflow_add-self
overflow_add-self c =
    let few : c.args.self.now.clauses.vars < 2147483648 = c.args.self.now.clauses.few in
    let below : c.args.self.now.clauses.free < c.args.self.now.clauses.vars = c.args.self.now.clauses.below in
    omega arith

pub of_variable-low-requires-clause-fits : goal.of_variable-low-requires-clause-fits
of_variable-low-requires-clause-fits c =
    let few : c.args.self.now.clauses.vars < 2147483648 = c.args.self.now.clauses.few in
    let below : c.args.self.now.clauses.free < c.args.self.now.clauses.vars = c.args.self.now.clauses.below in
    omega arith

pub returns-clause-law : goal.returns-clause-law
returns-clause-law c world choice begins s =
    let one : c.args.self.now.clauses.free + 1 ≡ suc c.args.self.now.clauses.free = omega arith in
    let low : c.of_variable-low.result ≡ pos (suc c.args.self.now.clauses.free) = c.of_variable-low.ensures ∙ ap pos one in
    let is : c.if-bit.result ≡ cond c.args.bit (negsuc c.args.self.now.clauses.free) (pos (suc c.args.self.now.clauses.free)) = elim c.if-bit.branch [
      | then-bit w ↦ w.result-is ∙ w.opposite.ensures ∙ ap opposite low ∙ ap (λ (b : Bool). cond b (negsuc c.args.self.now.clauses.free) (pos (suc c.args.self.now.clauses.free))) (sym w.if-bit.true)
      | else-bit w ↦ w.result-is ∙ low ∙ ap (λ (b : Bool). cond b (negsuc c.args.self.now.clauses.free) (pos (suc c.args.self.now.clauses.free))) (sym w.if-bit.false)
    ] in
    ap (λ (z : ℤ). literal_holds choice z) is ∙ constant_value choice c.args.self.now.clauses.free c.args.bit
    (false_value c.args.self.now.clauses.free c.args.self.now.clauses.vars c.args.self.now.clauses.fixed c.args.self.now.clauses.defined choice s)

pub returns-clause-gives : goal.returns-clause-gives
returns-clause-gives c =
    let one : c.args.self.now.clauses.free + 1 ≡ suc c.args.self.now.clauses.free = omega arith in
    let low : c.of_variable-low.result ≡ pos (suc c.args.self.now.clauses.free) = c.of_variable-low.ensures ∙ ap pos one in
    let is : c.if-bit.result ≡ cond c.args.bit (negsuc c.args.self.now.clauses.free) (pos (suc c.args.self.now.clauses.free)) = elim c.if-bit.branch [
      | then-bit w ↦ w.result-is ∙ w.opposite.ensures ∙ ap opposite low ∙ ap (λ (b : Bool). cond b (negsuc c.args.self.now.clauses.free) (pos (suc c.args.self.now.clauses.free))) (sym w.if-bit.true)
      | else-bit w ↦ w.result-is ∙ low ∙ ap (λ (b : Bool). cond b (negsuc c.args.self.now.clauses.free) (pos (suc c.args.self.now.clauses.free))) (sym w.if-bit.false)
    ] in
    both_equal _ _ _ _ (ap (λ (n : ℕ). cond c.args.bit (opposite (pos n)) (pos n)) (false_of c.args.self.now.clauses.free c.args.self.now.clauses.vars c.args.self.now.clauses.fixed c.args.self.now.clauses.defined) ∙ sym is)
    refl

pub returns-clause-held_result : goal.returns-clause-held_result
returns-clause-held_result c =
    let one : c.args.self.now.clauses.free + 1 ≡ suc c.args.self.now.clauses.free = omega arith in
    let low : c.of_variable-low.result ≡ pos (suc c.args.self.now.clauses.free) = c.of_variable-low.ensures ∙ ap pos one in
    let is : c.if-bit.result ≡ cond c.args.bit (negsuc c.args.self.now.clauses.free) (pos (suc c.args.self.now.clauses.free)) = elim c.if-bit.branch [
      | then-bit w ↦ w.result-is ∙ w.opposite.ensures ∙ ap opposite low ∙ ap (λ (b : Bool). cond b (negsuc c.args.self.now.clauses.free) (pos (suc c.args.self.now.clauses.free))) (sym w.if-bit.true)
      | else-bit w ↦ w.result-is ∙ low ∙ ap (λ (b : Bool). cond b (negsuc c.args.self.now.clauses.free) (pos (suc c.args.self.now.clauses.free))) (sym w.if-bit.false)
    ] in
    subst (λ (z : ℤ). IsLiteral c.args.self.now.clauses.vars z) (sym is) (constant_in_range c.args.self.now.clauses.free c.args.self.now.clauses.vars c.args.bit c.args.self.now.clauses.below)
