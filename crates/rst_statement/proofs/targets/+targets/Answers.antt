use Rattle.std.proofs.Common.{◌+◌, ◌-◌, length, take, drop, subst, sym, ap, ◌∙◌, arith}
use Rattle.std.proofs.lemmas.Grind.{common_steps}
use Rattle.std.proofs.lemmas.Result.{err_from_is_err_and}
use Rattle.rst_tree.specs.Targets.{plain_target, plain_targets}
use Rattle.rst_grammar.specs.ReadStatement.{target_in, target_join, target_reader}
use Rattle.rst_read.specs.Gives.{Gives}
use Rattle.rst_statement.specs.Seen.{seen_target}
use Rattle.rst_statement.specs.Parts.{targets_in}
use Rattle.rst_read.proofs.Chains.{with_front}
use Rattle.rst_read.proofs.Lists.{more_by, comma_goes_on, comma_stops, comma_fails, comma_done}
use Rattle.rst_statement.proofs.Lists.{of_targets, targets_begin}
use Rattle.rst_statement.proofs.Steps.{target_at, target_none, join_is}
use Rattle.rst_statement.proofs.targets.+targets.Goals as goal

pub read_target-returns-then-limit-eq0-clause-reads : goal.read_target-returns-then-limit-eq0-clause-reads
read_target-returns-then-limit-eq0-clause-reads t c = target_none _ _ c.if-limit-eq0.true

pub read_target-returns-clause-reads : goal.read_target-returns-clause-reads
read_target-returns-clause-reads t c = subst (λ r. Gives seen_target c.target_in.result r) (sym (target_at c.args.limit c.args.symbols.now c.if-limit-eq0.false)) c.target_in.ensures.reads

pub targets_in-loop-init : goal.targets_in-loop-init
targets_in-loop-init t c = record {
  reads = targets_begin (target_reader c.args.below) (length c.in_ok-first.rest.now - 0) (plain_targets c.in_ok-all.all.targets.items) (plain_target c.in_ok-first.first.target) c.args.symbols.now c.in_ok-first.rest.now c.in_ok-all.rest.now c.in_ok-first.ensures.reads c.in_ok-all.ensures.targets c.in_ok-all.ensures.behind (omega arith);
  within = omega (arith, c.in_ok-all.ensures.depth, c.in_ok-first.ensures.within);
}

pub targets_in-returns-in_default-clause-reads : goal.targets_in-returns-in_default-clause-reads
targets_in-returns-in_default-clause-reads t c =
    comma_stops of_targets (target_reader c.args.below) (length c.in_ok-first.rest.now - c.loop.counter) (plain_targets c.loop.all.targets.items) c.loop.rest.now _ (sym c.in_default.ensures) c.loop.invariant.reads

pub targets_in-returns-in_err-next-clause-reads : goal.targets_in-returns-in_err-next-clause-reads
targets_in-returns-in_err-next-clause-reads t c =
    let p = err_from_is_err_and c.from_residual-in_err-next.result c.from_residual-in_err-next.ensures.1 in
    rw (p.1, p.2) (comma_fails of_targets c.in_err-next.field-0.0 (target_reader c.args.below) (length c.in_ok-first.rest.now - c.loop.counter) (length c.in_ok-first.rest.now - (c.loop.counter + 1)) (plain_targets c.loop.all.targets.items) c.loop.rest.now c.in-Some.after.now (targets_in (target_reader c.args.below) c.args.symbols.now) (omega arith) (sym c.in-Some.ensures) c.in_err-next.ensures.reads c.loop.invariant.reads)

pub targets_in-loop-preserved : goal.targets_in-loop-preserved
targets_in-loop-preserved t c =
    let j = length c.in_ok-first.rest.now - (c.loop.counter + 1) in
    let again = comma_goes_on of_targets (target_reader c.args.below) (length c.in_ok-first.rest.now - c.loop.counter) j (plain_targets c.loop.all.targets.items) (plain_target c.in_ok-next.next.target) c.loop.rest.now c.in-Some.after.now c.in_ok-next.after.now (targets_in (target_reader c.args.below) c.args.symbols.now) (omega arith) (sym c.in-Some.ensures) c.in_ok-next.ensures.reads c.loop.invariant.reads in
    record {
      reads = ap (λ f. with_front of_targets f (more_by of_targets (target_reader c.args.below) j c.in_ok-next.after.now)) c.in_ok-all-2.ensures.0 ∙ again;
      within = omega (arith, c.in_ok-all-2.ensures.1, c.loop.invariant.within, c.in_ok-next.ensures.within);
    }

pub targets_in-returns-clause-reads : goal.targets_in-returns-clause-reads
targets_in-returns-clause-reads t c =
    comma_done of_targets (target_reader c.args.below) (length c.in_ok-first.rest.now - c.loop.counter) (plain_targets c.loop.all.targets.items) c.loop.rest.now _ (omega arith) c.loop.invariant.reads

pub target_in-returns-in-Terminal-OpenBrace-clause-reads : goal.target_in-returns-in-Terminal-OpenBrace-clause-reads
unfolding target_in
target_in-returns-in-Terminal-OpenBrace-clause-reads t c =
    let ts = c.args.symbols.now in
    let rest = take (length ts - 1) (drop 1 ts) in
    let target = target_reader c.args.below in
    let joined : Gives seen_target c.join_of.result (target_join target rest) = subst (λ r. Gives seen_target c.join_of.result r) (sym (join_is target rest)) c.join_of.ensures.reads in
    grind (arith, common_steps)
