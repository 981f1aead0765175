use Rattle.std.proofs.Common.{◌≡◌, length}
use Rattle.std.specs.List.{All}
use Rattle.rst_design.specs.Texts.{IsShort}
use Rattle.rst_design_rows.proofs.files.files_of.Given as goal

abbrev pub invariant-loop-text : goal.invariant-loop-text
invariant-loop-text l = record {
  few : length l.files.items ≡ l.text-index;
  short : All IsShort l.files.items;
}
