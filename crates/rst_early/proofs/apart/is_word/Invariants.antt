use Rattle.std.proofs.Common.{◌≡◌, drop, length}
use Rattle.std.specs.List.{AllByRecursion}
use Rattle.rst_early.proofs.apart.is_word.Given as goal

abbrev pub invariant-loop-input : goal.invariant-loop-input
invariant-loop-input l =
    AllByRecursion (λ input. length input ≡ l.count) (drop l.input-index l.word) → AllByRecursion (λ input. length input ≡ l.count) l.word
