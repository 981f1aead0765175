use Rattle.std.proofs.Common.{◌+◌, ◌-◌, length, subst, sym, ap, ◌∙◌, arith}
use Rattle.std.proofs.lemmas.Result.{err_from_is_err_and}
use Rattle.rst_tree.specs.Trees.{plain, plain_all}
use Rattle.rst_grammar.specs.Reading.{readers, binary_in, list_from}
use Rattle.rst_read.proofs.Chains.{with_front}
use Rattle.rst_read.proofs.Lists.{more_by, of_trees, list_begins, comma_goes_on, comma_stops, comma_fails, comma_done}
use Rattle.rst_read.specs.Gives.{Gives, seen}
use Rattle.rst_read.proofs.Steps.{full_at, operand_at, binary_at, full_none, operand_none, binary_none, tail_goes, tail_ends, tail_err, tail_out}
use Rattle.rst_read.proofs.expressions.+read.Goals as goal

pub read_expression-returns-then-limit-eq0-clause-reads : goal.read_expression-returns-then-limit-eq0-clause-reads
read_expression-returns-then-limit-eq0-clause-reads t c = full_none _ _ c.if-limit-eq0.true

pub read_expression-returns-clause-reads : goal.read_expression-returns-clause-reads
read_expression-returns-clause-reads t c = subst (λ r. Gives seen c.full_in.result r) (sym (full_at c.args.limit c.args.symbols.now c.if-limit-eq0.false)) c.full_in.ensures.reads

pub operand-returns-then-limit-eq0-clause-reads : goal.operand-returns-then-limit-eq0-clause-reads
operand-returns-then-limit-eq0-clause-reads t c = operand_none _ _ c.if-limit-eq0.true

pub operand-returns-clause-reads : goal.operand-returns-clause-reads
operand-returns-clause-reads t c = subst (λ r. Gives seen c.operand_in.result r) (sym (operand_at c.args.limit c.args.symbols.now c.if-limit-eq0.false)) c.operand_in.ensures.reads

pub binary-returns-then-limit-eq0-clause-reads : goal.binary-returns-then-limit-eq0-clause-reads
binary-returns-then-limit-eq0-clause-reads t c = binary_none _ _ _ c.if-limit-eq0.true

pub binary-returns-clause-reads : goal.binary-returns-clause-reads
binary-returns-clause-reads t c = subst (λ r. Gives seen c.binary_in.result r) (sym (binary_at c.args.limit c.args.least c.args.symbols.now c.if-limit-eq0.false)) c.binary_in.ensures.reads

pub binary_in-returns-in_default-clause-reads : goal.binary_in-returns-in_default-clause-reads
binary_in-returns-in_default-clause-reads t c =
    sym c.loop.invariant.reads ∙ tail_ends (readers c.args.below) c.args.below _ (c.from-end.result - c.loop.counter) c.args.least (plain c.loop.left.tree) c.loop.rest.now (omega arith) (sym c.in_default.ensures)

pub binary_in-returns-in_err-next-clause-reads : goal.binary_in-returns-in_err-next-clause-reads
binary_in-returns-in_err-next-clause-reads t c =
    let p = err_from_is_err_and c.from_residual-in_err-next.result c.from_residual-in_err-next.ensures.1 in
    rw (p.1, p.2) (tail_err c.in_err-next.field-0.0 (readers c.args.below) c.args.below (c.from-end.result + 1 - c.loop.counter) (c.from-end.result - c.loop.counter) c.args.least (plain c.loop.left.tree) c.loop.rest.now c.in-Some.after.now c.in-Some.op (binary_in (readers c.args.below) c.args.below c.args.least c.args.symbols.now) (omega arith) (sym c.in-Some.ensures) c.in_err-next.ensures.reads c.loop.invariant.reads)

pub binary_in-loop-preserved : goal.binary_in-loop-preserved
binary_in-loop-preserved t c = record {
  reads = sym (tail_goes (readers c.args.below) c.args.below (c.from-end.result + 1 - c.loop.counter) (c.from-end.result + 1 - (c.loop.counter + 1)) c.args.least (plain c.loop.left.tree) (plain c.in_ok-next.next.tree) c.loop.rest.now c.in-Some.after.now c.in_ok-next.after.now c.in-Some.op (omega arith) (sym c.in-Some.ensures) c.in_ok-next.ensures.reads) ∙ c.loop.invariant.reads;
  within = c.in_ok-next.ensures.within;
}

pub binary_in-returns-clause-reads : goal.binary_in-returns-clause-reads
binary_in-returns-clause-reads t c =
    sym c.loop.invariant.reads ∙ tail_out (readers c.args.below) c.args.below (c.from-end.result + 1 - c.loop.counter) c.args.least (plain c.loop.left.tree) c.loop.rest.now (omega arith)

pub list_from-loop-init : goal.list_from-loop-init
list_from-loop-init t c = record {
  reads = list_begins (readers c.args.below) (length c.args.rest.now - 0) (plain_all c.in_ok-all.all.trees.items) (plain c.args.first.tree) c.args.rest.now c.in_ok-all.rest.now c.in_ok-all.ensures.trees c.in_ok-all.ensures.behind (omega arith);
  within = omega (arith, c.in_ok-all.ensures.depth);
}

pub list_from-returns-in_default-clause-reads : goal.list_from-returns-in_default-clause-reads
list_from-returns-in_default-clause-reads t c =
    comma_stops of_trees (readers c.args.below).full (length c.args.rest.now - c.loop.counter) (plain_all c.loop.all.trees.items) c.loop.rest.now _ (sym c.in_default.ensures) c.loop.invariant.reads

pub list_from-returns-in_err-next-clause-reads : goal.list_from-returns-in_err-next-clause-reads
list_from-returns-in_err-next-clause-reads t c =
    let p = err_from_is_err_and c.from_residual-in_err-next.result c.from_residual-in_err-next.ensures.1 in
    rw (p.1, p.2) (comma_fails of_trees c.in_err-next.field-0.0 (readers c.args.below).full (length c.args.rest.now - c.loop.counter) (length c.args.rest.now - (c.loop.counter + 1)) (plain_all c.loop.all.trees.items) c.loop.rest.now c.in-Some.after.now (list_from (readers c.args.below) (plain c.args.first.tree) c.args.rest.now) (omega arith) (sym c.in-Some.ensures) c.in_err-next.ensures.reads c.loop.invariant.reads)

pub list_from-loop-preserved : goal.list_from-loop-preserved
list_from-loop-preserved t c =
    let full = (readers c.args.below).full in
    let j = length c.args.rest.now - (c.loop.counter + 1) in
    let again = comma_goes_on of_trees full (length c.args.rest.now - c.loop.counter) j (plain_all c.loop.all.trees.items) (plain c.in_ok-next.next.tree) c.loop.rest.now c.in-Some.after.now c.in_ok-next.after.now (list_from (readers c.args.below) (plain c.args.first.tree) c.args.rest.now) (omega arith) (sym c.in-Some.ensures) c.in_ok-next.ensures.reads c.loop.invariant.reads in
    record {
      reads = ap (λ f. with_front of_trees f (more_by of_trees full j c.in_ok-next.after.now)) c.in_ok-all-2.ensures.0 ∙ again;
      within = omega (arith, c.in_ok-all-2.ensures.1, c.loop.invariant.within, c.in_ok-next.ensures.within);
    }

pub list_from-returns-clause-reads : goal.list_from-returns-clause-reads
list_from-returns-clause-reads t c =
    comma_done of_trees (readers c.args.below).full (length c.args.rest.now - c.loop.counter) (plain_all c.loop.all.trees.items) c.loop.rest.now _ (omega arith) c.loop.invariant.reads
