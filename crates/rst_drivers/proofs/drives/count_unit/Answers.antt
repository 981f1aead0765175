use Rattle.std.proofs.Common.{◌≡◌, ◌++◌, ◌∷◌, [], false, sym, subst}
use Rattle.std.proofs.lemmas.List.{append-nil}
use Rattle.rst_net.specs.Units.{plain_driver, plain_process}
use Rattle.rst_net.specs.Statements.{plain_stmt}
use Rattle.rst_drivers.specs.Drives.{sets_of, assigned, blocks_of}
use Rattle.rst_drivers.specs.Counts.{with_assign, with_block, counted, AreCounted}
use Rattle.rst_drivers.proofs.Counting.{places_counted, block_counted}
use Rattle.rst_drivers.proofs.drives.count_unit.Goals as goal

pub returns-in-Assign : goal.returns-in-Assign
returns-in-Assign c = λ places bs before.
    let target = c.in-Assign.set.value.target.items in
    let e : c.count_assign.new.drives ≡ counted with_assign c.args.drives.now target = cc in
    subst (λ u. AreCounted (places ++ assigned (plain_driver u)) (bs ++ blocks_of (plain_driver u)) [] c.args.number c.count_assign.new.drives) (sym c.in-Assign.is)
    (subst (λ l. AreCounted (places ++ target) l [] c.args.number c.count_assign.new.drives) (sym (append-nil bs))
    (subst (λ ds. AreCounted (places ++ target) bs [] c.args.number ds) (sym e) (places_counted places bs [] c.args.number c.args.drives.now target before)))

pub returns-in_ok-next-in-Process : goal.returns-in_ok-next-in-Process
returns-in_ok-next-in-Process c = λ places bs before.
    let process = c.in-Process.process.value in
    let next = c.in_ok-next-in-Process.next in
    let e : c.count_stmt.new.drives ≡ counted (with_block next false) c.args.drives.now (sets_of (plain_stmt process.body.value)) = cc in
    subst (λ u. AreCounted (places ++ assigned (plain_driver u)) (bs ++ blocks_of (plain_driver u)) [] next c.count_stmt.new.drives) (sym c.in-Process.is)
    (subst (λ l. AreCounted l (bs ++ plain_process process ∷ []) [] next c.count_stmt.new.drives) (sym (append-nil places))
    (subst (λ ds. AreCounted places (bs ++ plain_process process ∷ []) [] next ds) (sym e)
    (block_counted places bs [] c.args.number next c.args.drives.now (plain_process process) c.in_ok-next-in-Process.ensures before)))
