use Rattle.std.proofs.Common.{ap}
use Rattle.rst_clause.specs.Trails.{Trail'}
use Rattle.rst_watch.proofs.States.{watching_taken_back}
use Rattle.rst_watch.proofs.levels.back.Goals as goal

pub returns-in-Some-clause-watching : goal.returns-in-Some-clause-watching
returns-in-Some-clause-watching c =
    watching_taken_back c.args.s.now c.truncate.new.self c.in-Some.floor c.pop.new.self c.requires.watching c.in-Some.ensures (ap (λ (t : Trail'). t.vars) c.truncate.ensures)
    (ap (λ (t : Trail'). t.lits) c.truncate.ensures)
