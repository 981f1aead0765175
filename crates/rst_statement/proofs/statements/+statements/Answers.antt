use Rattle.std.proofs.Common.{◌≡◌, ◌+◌, ◌-◌, length, subst, sym, ap, ◌∙◌, arith}
use Rattle.std.proofs.lemmas.Result.{err_from_is_err_and}
use Rattle.rst_tree.specs.Statements.{plain_stmt, plain_stmts, plain_arm, plain_arms, no_arm}
use Rattle.rst_tree.specs.WellFormed.{defaults}
use Rattle.rst_grammar.specs.Reading.{readers}
use Rattle.rst_grammar.specs.ReadStatement.{stmt_reader, until_end, arms_in}
use Rattle.rst_read.specs.Gives.{Gives}
use Rattle.rst_statement.specs.Seen.{seen_stmt}
use Rattle.rst_read.proofs.Chains.{with_front, begins}
use Rattle.rst_statement.proofs.Until.{of_statements, of_arms, end_stops, end_goes_on, end_fails, end_missing, arms_stop, arms_go_on, arms_fail, arms_missing}
use Rattle.rst_statement.proofs.Steps.{stmt_at, stmt_none}
use Rattle.rst_statement.proofs.statements.+statements.Goals as goal

pub read_statement-returns-then-limit-eq0-clause-reads : goal.read_statement-returns-then-limit-eq0-clause-reads
read_statement-returns-then-limit-eq0-clause-reads t c = stmt_none _ _ c.if-limit-eq0.true

pub read_statement-returns-clause-reads : goal.read_statement-returns-clause-reads
read_statement-returns-clause-reads t c = subst (λ r. Gives seen_stmt c.stmt_in.result r) (sym (stmt_at c.args.limit c.args.symbols.now c.if-limit-eq0.false)) c.stmt_in.ensures.reads

pub until_end-loop-init : goal.until_end-loop-init
until_end-loop-init t c =
    let ts = c.args.rest.now in
    let stmt = stmt_reader c.args.below in
    let all : length ts - 0 ≡ length ts = omega arith in
    record {
      reads = begins of_statements (plain_stmts c.no_stmts-all.result.0.stmts.items) (until_end stmt (length ts - 0) c.no_stmts-all.result.1.now) c.no_stmts-all.ensures.stmts
          ∙ ap (until_end stmt (length ts - 0)) c.no_stmts-all.ensures.behind ∙ ap (λ n. until_end stmt n ts) all;
      within = omega (arith, c.no_stmts-all.ensures.depth);
    }

pub until_end-returns-in-Some-clause-reads : goal.until_end-returns-in-Some-clause-reads
until_end-returns-in-Some-clause-reads t c =
    end_stops (stmt_reader c.args.below) (length c.args.rest.now - c.loop.counter) (length c.args.rest.now - (c.loop.counter + 1)) (plain_stmts c.loop.all.stmts.items) c.loop.rest.now c.in-Some.after.now _ (omega arith) (sym c.in-Some.ensures) c.loop.invariant.reads

pub until_end-returns-in_err-next-clause-reads : goal.until_end-returns-in_err-next-clause-reads
until_end-returns-in_err-next-clause-reads t c =
    let p = err_from_is_err_and c.from_residual.result c.from_residual.ensures.1 in
    rw (p.1, p.2) (end_fails c.in_err-next.field-0.0 (stmt_reader c.args.below) (length c.args.rest.now - c.loop.counter) (length c.args.rest.now - (c.loop.counter + 1)) (plain_stmts c.loop.all.stmts.items) c.loop.rest.now (until_end (stmt_reader c.args.below) (length c.args.rest.now) c.args.rest.now) (omega arith) (sym c.in_default.ensures) c.in_err-next.ensures.reads c.loop.invariant.reads)

pub until_end-loop-preserved : goal.until_end-loop-preserved
until_end-loop-preserved t c =
    let j = length c.args.rest.now - (c.loop.counter + 1) in
    let again = end_goes_on (stmt_reader c.args.below) (length c.args.rest.now - c.loop.counter) j (plain_stmts c.loop.all.stmts.items) (plain_stmt c.in_ok-next.next.stmt) c.loop.rest.now c.in_ok-next.after.now (until_end (stmt_reader c.args.below) (length c.args.rest.now) c.args.rest.now) (omega arith) (sym c.in_default.ensures) c.in_ok-next.ensures.reads c.loop.invariant.reads in
    record {
      reads = ap (λ f. with_front of_statements f (until_end (stmt_reader c.args.below) j c.in_ok-next.after.now)) c.in_ok-all.ensures.0 ∙ again;
      within = omega (arith, c.in_ok-all.ensures.1, c.loop.invariant.within, c.in_ok-next.ensures.within);
    }

pub until_end-returns-clause-reads : goal.until_end-returns-clause-reads
until_end-returns-clause-reads t c =
    end_missing (stmt_reader c.args.below) (length c.args.rest.now - c.loop.counter) (plain_stmts c.loop.all.stmts.items) c.loop.rest.now _ (omega arith) c.loop.invariant.reads

pub arms_in-loop-init : goal.arms_in-loop-init
arms_in-loop-init t c =
    let ts = c.args.rest.now in
    let below = readers c.args.below in
    let stmt = stmt_reader c.args.below in
    let all : length ts - 0 ≡ length ts = omega arith in
    record {
      reads = begins of_arms (plain_arms c.no_arms-all.result.0.arms.items) (arms_in below stmt c.args.wild (length ts - 0) 1 c.no_arms-all.result.1.now) c.no_arms-all.ensures.arms
          ∙ ap (arms_in below stmt c.args.wild (length ts - 0) 1) c.no_arms-all.ensures.behind ∙ ap (λ n. arms_in below stmt c.args.wild n 1 ts) all;
      within = omega (arith, c.no_arms-all.ensures.depth);
    }

pub arms_in-returns-in-Some-clause-reads : goal.arms_in-returns-in-Some-clause-reads
arms_in-returns-in-Some-clause-reads t c =
    arms_stop (readers c.args.below) (stmt_reader c.args.below) c.args.wild (length c.args.rest.now - c.loop.counter) (length c.args.rest.now - (c.loop.counter + 1)) c.loop.most_defaults (plain_arms c.loop.all.arms.items) c.loop.rest.now c.in-Some.after.now _ (omega arith) (sym c.in-Some.ensures) c.loop.invariant.reads

pub arms_in-returns-in_err-next-clause-reads : goal.arms_in-returns-in_err-next-clause-reads
arms_in-returns-in_err-next-clause-reads t c =
    let p = err_from_is_err_and c.from_residual.result c.from_residual.ensures.1 in
    rw (p.1, p.2) (arms_fail c.in_err-next.field-0.0 (readers c.args.below) (stmt_reader c.args.below) c.args.wild (length c.args.rest.now - c.loop.counter) (length c.args.rest.now - (c.loop.counter + 1)) c.loop.most_defaults (plain_arms c.loop.all.arms.items) c.loop.rest.now (arms_in (readers c.args.below) (stmt_reader c.args.below) c.args.wild (length c.args.rest.now) 1 c.args.rest.now) (omega arith) (sym c.in_default.ensures) c.in_err-next.ensures.reads c.loop.invariant.reads)

pub arms_in-loop-preserved : goal.arms_in-loop-preserved
arms_in-loop-preserved t c =
    let below = readers c.args.below in
    let stmt = stmt_reader c.args.below in
    let wild = c.args.wild in
    let arm = plain_arm c.in_ok-next.next.arm no_arm in
    let behind = c.in_ok-next.after.now in
    let j = length c.args.rest.now - (c.loop.counter + 1) in
    let most : c.defaults_left-most_defaults.result ≡ c.loop.most_defaults - defaults arm = c.defaults_left-most_defaults.ensures ∙ ap (λ n. c.loop.most_defaults - n) c.in_ok-next.next.counted in
    let again = arms_go_on below stmt wild (length c.args.rest.now - c.loop.counter) j c.loop.most_defaults (plain_arms c.loop.all.arms.items) arm c.loop.rest.now behind (arms_in below stmt wild (length c.args.rest.now) 1 c.args.rest.now) (omega arith) (sym c.in_default.ensures) c.in_ok-next.ensures.reads c.loop.invariant.reads in
    record {
      reads = ap (λ n. with_front of_arms (plain_arms c.in_ok-all.all.arms.items) (arms_in below stmt wild j n behind)) most
          ∙ ap (λ f. with_front of_arms f (arms_in below stmt wild j (c.loop.most_defaults - defaults arm) behind)) c.in_ok-all.ensures.0 ∙ again;
      within = omega (arith, c.in_ok-all.ensures.1, c.loop.invariant.within, c.in_ok-next.ensures.within);
    }

pub arms_in-returns-clause-reads : goal.arms_in-returns-clause-reads
arms_in-returns-clause-reads t c =
    arms_missing (readers c.args.below) (stmt_reader c.args.below) c.args.wild (length c.args.rest.now - c.loop.counter) c.loop.most_defaults (plain_arms c.loop.all.arms.items) c.loop.rest.now _ (omega arith) c.loop.invariant.reads
