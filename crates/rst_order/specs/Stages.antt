-- What a progress stands for, as words of the proofs.
use Rattle.std.specs.Prelude.{ℕ}
use Rattle.rst_order.specs.declared.progress.Progress.{Progress}
use Rattle.rst_order.specs.Walks.{Stage, queued}

abbrev pub stage : Progress → Stage
stage p = record { passed = p.passed.items; placed = p.placed.items; ready = queued p.ready; order = p.order.items }
