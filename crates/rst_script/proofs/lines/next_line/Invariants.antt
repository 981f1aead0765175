use Rattle.std.proofs.Common.{◌≡◌, ◌+◌, ◌≤◌, length}
use Rattle.rst_script.specs.Lines.{lines, said_lines}
use Rattle.rst_script.proofs.lines.next_line.Given as goal

abbrev pub invariant-loop-line : goal.invariant-loop-line
invariant-loop-line l = record {
  said : said_lines l.number (lines l.rest) ≡ said_lines l.before (lines l.text);
  counted : l.number + length (lines l.rest) ≡ l.before + length (lines l.text);
  few : l.number + length l.rest ≤ 1048576;
  shorter : length l.rest ≤ length l.text;
}

abbrev pub decreases-loop-line : goal.decreases-loop-line
decreases-loop-line l = length l.rest
