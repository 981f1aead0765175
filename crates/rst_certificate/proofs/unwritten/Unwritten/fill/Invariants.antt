use Rattle.std.proofs.Common.{◌≡◌, ◌+◌, ◌++◌, [], length, false, if◌then◌else◌}
use Rattle.rst_certificate.proofs.unwritten.Unwritten.fill.Given as goal

abbrev pub invariant-loop-more : goal.invariant-loop-more
invariant-loop-more l = (l.piece ++ l.self.text ≡ l.initial.self.text) × (l.more ≡ false → l.self.text ≡ []) × (l.room + length l.piece ≡ 65536)

abbrev pub decreases-loop-more : goal.decreases-loop-more
decreases-loop-more l = l.self.work + (if l.more then 1 else 0)
