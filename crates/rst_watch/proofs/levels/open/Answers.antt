use Rattle.std.proofs.Common.{◌∙◌, ◌∷◌, subst, sym, ap, ℕ, List}
use Rattle.rst_watch.specs.Watching.{IsWatching}
use Rattle.rst_watch.proofs.States.{watching_opened}
use Rattle.rst_watch.proofs.levels.open.Goals as goal

pub returns-clause-watching : goal.returns-clause-watching
returns-clause-watching c =
    subst (λ (z : List ℕ). IsWatching (record c.args.s.now { floors = z }))
    (sym (c.in_ok-push.ensures.ok ∙ ap (λ (n : ℕ). n ∷ c.args.s.now.floors) c.len-floor.ensures.value))
    (watching_opened c.args.s.now c.requires.watching c.requires.settled)
