use Rattle.rst_watch.proofs.States.{watching_added, watching_put_back, true_guarded}
use Rattle.rst_watch.proofs.learn.add_true.Goals as goal

pub returns-in_err-add-clause-watching : goal.returns-in_err-add-clause-watching
returns-in_err-add-clause-watching c =
    watching_put_back c.args.s.now c.add.new.store c.add.new.pairs c.requires.watching c.in_err-add.ensures.store_err c.in_err-add.ensures.pairs_err

pub returns-clause-watching : goal.returns-clause-watching
returns-clause-watching c =
    watching_added c.args.s.now c.add.new.store c.add.new.pairs c.args.clause.now (record { first = c.args.lit; second = c.args.lit }) c.requires.watching c.requires.root c.requires.in_range
    c.in_ok-add.ensures.store c.in_ok-add.ensures.pairs (true_guarded c.args.s.now c.args.clause.now c.args.lit _ c.requires.root c.requires.has c.requires.is_true)
