use Rattle.rst_width.specs.Answers.{typed_answer}
use Rattle.rst_typing.specs.Typing.{answer_faults, typed_at}
use Rattle.rst_typed_fits.proofs.Leaves.{none_first, at_fit, at_reads, at_fits}
use Rattle.rst_typed_fits.proofs.Slices.{slices_inside, slices_narrow, slices_whole}
use Rattle.rst_typed_fits.proofs.laws.typed_expressions_fit.Goals as goal

pub returns : goal.returns
returns c = record {
  fits = λ room names e width right inside none. at_fits room names right inside e width (none_first (answer_faults (typed_answer names e width)) none);
  shape = λ names e width right none. (at_fit names right e width (none_first (answer_faults (typed_answer names e width)) none)).at;
  slices = λ room names e width right inside none.
      let good = none_first (answer_faults (typed_answer names e width)) none in
      slices_inside room (typed_at names e width) (at_fit names right e width good).fit (at_reads room names right inside e width good);
  narrow = λ names e width right none. slices_narrow (typed_at names e width) (at_fit names right e width (none_first (answer_faults (typed_answer names e width)) none)).fit;
  whole = λ names e width right none can. slices_whole (typed_at names e width) (at_fit names right e width (none_first (answer_faults (typed_answer names e width)) none)).fit can;
}
