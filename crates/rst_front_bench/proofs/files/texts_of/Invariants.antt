use Rattle.std.specs.List.{All}
use Rattle.rst_design.specs.Texts.{IsShort}
use Rattle.rst_front_bench.proofs.files.texts_of.Given as goal

abbrev pub invariant-loop-name : goal.invariant-loop-name
invariant-loop-name g l = All IsShort l.texts.items
