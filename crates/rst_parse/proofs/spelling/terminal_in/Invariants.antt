use Rattle.std.proofs.Common.{◌≡◌, drop, map}
use Rattle.rst_parse.specs.Spelling.{terminal_in}
use Rattle.rst_parse.proofs.spelling.terminal_in.Given as goal

abbrev pub invariant-loop-row : goal.invariant-loop-row
invariant-loop-row l = terminal_in (map (λ row. (row.0.now, row.1)) (drop l.row-index l.rows)) l.text ≡ terminal_in (map (λ row. (row.0.now, row.1)) l.rows) l.text
