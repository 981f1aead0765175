use Rattle.std.proofs.Common.{◌≡◌, ◌-◌, [], length}
use Rattle.rst_cert_lines.specs.Reading.{literals_behind}
use Rattle.rst_cert_lines.proofs.cursor.Cursor.literals.Given as goal

abbrev pub invariant-loop : goal.invariant-loop
invariant-loop l = literals_behind (l.end - l.counter) l.clause l.self ≡ literals_behind (length l.fn.self) [] l.fn.self
