use Rattle.std.proofs.Common.{◌≡◌, ◌-◌, ◌*◌}
use Rattle.rst_word.specs.Plain.{plain_word}
use Rattle.rst_width.specs.Values.{repeated}
use Rattle.rst_width.proofs.values.repeated.Given as goal

-- what stands there so far, followed by the words that are left, is the whole repetition
abbrev pub invariant-loop : goal.invariant-loop
invariant-loop l = (repeated (l.count - l.counter) (plain_word l.front) (plain_word l.word) ≡ repeated (l.count - 1) (plain_word l.word) (plain_word l.word)) × (l.front.width ≡ l.counter * l.word.width)
