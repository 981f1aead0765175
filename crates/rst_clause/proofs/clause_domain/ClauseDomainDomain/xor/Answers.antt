use Rattle.std.proofs.Common.{◌-◌, ◌^◌, ◌≤◌, arith, refl}
use Rattle.rst_value.specs.Bits.{bit_xor}
use Rattle.rst_clause.specs.Operations.Operation.{xor_of}
use Rattle.rst_clause.proofs.Ranges.{lits2}
use Rattle.rst_clause.proofs.Gates.{stands_more}
use Rattle.rst_clause.proofs.NextGate.{gate_behind, gate_gives, gate_law}
use Rattle.rst_clause.proofs.clause_domain.ClauseDomainDomain.xor.Goals as goal

pub of_variable-z-requires-clause-fits : goal.of_variable-z-requires-clause-fits
of_variable-z-requires-clause-fits c = let room : 1 ≤ 2 ^ 31 - 1 - c.args.self.now.clauses.vars = c.requires.room _ refl in omega arith

pub define-requires-clause-next : goal.define-requires-clause-next
define-requires-clause-next c =
    gate_behind (xor_of c.args.a c.args.b) _ _ _ c.of_variable-z.ensures c.in_ok-gate.ensures
    (lits2 c.args.self.now.clauses.vars c.args.a c.args.b c.requires.held_a c.requires.held_b)

pub returns-clause-law : goal.returns-clause-law
returns-clause-law c world x y sa sb choice begins s =
    gate_law (xor_of c.args.a c.args.b) _ _ _ c.of_variable-z.ensures c.in_ok-gate.ensures
    c.args.self.now.clauses.free _ _ c.in_ok-define.ensures.ok (lits2 c.args.self.now.clauses.vars c.args.a c.args.b c.requires.held_a c.requires.held_b)
    world (bit_xor x y) (λ v b s i. bit_xor (sa v b s i) (sb v b s i)) choice (rw (← c.in_ok-define.ensures.free) begins) s

pub returns-clause-gives : goal.returns-clause-gives
returns-clause-gives c =
    gate_gives (xor_of c.args.a c.args.b) _ _ _ c.of_variable-z.ensures c.in_ok-gate.ensures _ _ _ c.in_ok-define.ensures.ok c.args.self.now.clauses.defined

pub returns-clause-keeps_bits : goal.returns-clause-keeps_bits
returns-clause-keeps_bits c world v bit h choice begins s =
    stands_more c.args.self.now.clauses.free c.args.self.now.clauses.fixed c.in_ok-gate.gate world v bit h
    choice (rw (← c.in_ok-define.ensures.free) begins) (rw (← c.in_ok-define.ensures.ok) s)
