use Rattle.std.proofs.Common.{◌≡◌, take}
use Rattle.std.specs.List.{All}
use Rattle.rst_tree.specs.WellFormed.{WellFormed}
use Rattle.rst_hierarchy.specs.Tables.{modules_in}
use Rattle.rst_design.specs.Texts.{texts_of, Spells}
use Rattle.rst_design.proofs.texts.sources_of.Given as goal

abbrev pub invariant-loop-text : goal.invariant-loop-text
invariant-loop-text l = record {
  number : l.file ≡ l.text-index;
  spelled : Spells (texts_of (take l.text-index l.files)) (modules_in l.sources.items);
  formed : All WellFormed (modules_in l.sources.items);
}
