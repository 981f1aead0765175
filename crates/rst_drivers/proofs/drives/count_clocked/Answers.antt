use Rattle.std.proofs.Common.{◌≡◌, ◌++◌, ◌∷◌, [], true, sym, subst}
use Rattle.rst_net.specs.Units.{plain_process}
use Rattle.rst_net.specs.Statements.{plain_stmt}
use Rattle.rst_drivers.specs.Drives.{sets_of}
use Rattle.rst_drivers.specs.Counts.{with_block, counted, AreCounted}
use Rattle.rst_drivers.proofs.Counting.{clocked_counted}
use Rattle.rst_drivers.proofs.drives.count_clocked.Goals as goal

pub returns : goal.returns
returns c = λ places bs cs before.
    let e : c.count_stmt.new.drives ≡ counted (with_block c.in_ok-next.next true) c.args.drives.now (sets_of (plain_stmt c.args.process.now.body.value)) = cc in
    subst (λ ds. AreCounted places bs (cs ++ plain_process c.args.process.now ∷ []) c.in_ok-next.next ds) (sym e)
    (clocked_counted places bs cs c.args.number c.in_ok-next.next c.args.drives.now (plain_process c.args.process.now) c.in_ok-next.ensures before)
