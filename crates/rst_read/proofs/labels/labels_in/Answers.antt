use Rattle.std.proofs.Common.{◌+◌, ◌-◌, length, sym, ap, ◌∙◌, arith}
use Rattle.std.proofs.lemmas.Result.{err_from_is_err_and}
use Rattle.rst_tree.specs.Trees.{plain, plain_all}
use Rattle.rst_grammar.specs.Reading.{readers}
use Rattle.rst_grammar.specs.ReadStatement.{label_in, labels_in}
use Rattle.rst_read.proofs.Chains.{with_front}
use Rattle.rst_read.proofs.Lists.{more_by, of_trees, labels_begin, comma_goes_on, comma_stops, comma_fails, comma_done}
use Rattle.rst_read.proofs.labels.labels_in.Goals as goal

pub loop-init : goal.loop-init
loop-init c = record {
  reads = labels_begin (readers c.args.below) c.args.wild (length c.in_ok-first.rest.now - 0) (plain_all c.in_ok-all.all.trees.items) (plain c.in_ok-first.first.tree) c.args.symbols.now c.in_ok-first.rest.now c.in_ok-all.rest.now c.in_ok-first.ensures.reads c.in_ok-all.ensures.trees c.in_ok-all.ensures.behind (omega arith);
  within = omega (arith, c.in_ok-all.ensures.depth, c.in_ok-first.ensures.within);
}

pub returns-in_default-clause-reads : goal.returns-in_default-clause-reads
returns-in_default-clause-reads c =
    comma_stops of_trees (label_in (readers c.args.below) c.args.wild) (length c.in_ok-first.rest.now - c.loop.counter) (plain_all c.loop.all.trees.items) c.loop.rest.now _ (sym c.in_default.ensures) c.loop.invariant.reads

pub returns-in_err-next-clause-reads : goal.returns-in_err-next-clause-reads
returns-in_err-next-clause-reads c =
    let p = err_from_is_err_and c.from_residual-in_err-next.result c.from_residual-in_err-next.ensures.1 in
    rw (p.1, p.2) (comma_fails of_trees c.in_err-next.field-0.0 (label_in (readers c.args.below) c.args.wild) (length c.in_ok-first.rest.now - c.loop.counter) (length c.in_ok-first.rest.now - (c.loop.counter + 1)) (plain_all c.loop.all.trees.items) c.loop.rest.now c.in-Some.after.now (labels_in (readers c.args.below) c.args.wild c.args.symbols.now) (omega arith) (sym c.in-Some.ensures) c.in_err-next.ensures.reads c.loop.invariant.reads)

pub loop-preserved : goal.loop-preserved
loop-preserved c =
    let read = label_in (readers c.args.below) c.args.wild in
    let j = length c.in_ok-first.rest.now - (c.loop.counter + 1) in
    let again = comma_goes_on of_trees read (length c.in_ok-first.rest.now - c.loop.counter) j (plain_all c.loop.all.trees.items) (plain c.in_ok-next.next.tree) c.loop.rest.now c.in-Some.after.now c.in_ok-next.after.now (labels_in (readers c.args.below) c.args.wild c.args.symbols.now) (omega arith) (sym c.in-Some.ensures) c.in_ok-next.ensures.reads c.loop.invariant.reads in
    record {
      reads = ap (λ f. with_front of_trees f (more_by of_trees read j c.in_ok-next.after.now)) c.in_ok-all-2.ensures.0 ∙ again;
      within = omega (arith, c.in_ok-all-2.ensures.1, c.loop.invariant.within, c.in_ok-next.ensures.within);
    }

pub returns-clause-reads : goal.returns-clause-reads
returns-clause-reads c =
    comma_done of_trees (label_in (readers c.args.below) c.args.wild) (length c.in_ok-first.rest.now - c.loop.counter) (plain_all c.loop.all.trees.items) c.loop.rest.now _ (omega arith) c.loop.invariant.reads
