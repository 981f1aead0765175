use Rattle.rst_width.specs.Answers.{typed_answer}
use Rattle.rst_typing.specs.Typing.{answer_faults, set_faults}
use Rattle.rst_typed_fits.proofs.Leaves.{none_first}
use Rattle.rst_typed_fits.proofs.Fitting.{parts_fit, set_fits}
use Rattle.rst_typed_fits.proofs.laws.typed_sets_fit.Goals as goal

pub returns : goal.returns
returns c = record {
  sets = λ room names target e blocking right inside none. set_fits room names right inside target e blocking (none_first (set_faults names target e) none);
  parts = λ room names target e width blocking right inside slices wide none.
      parts_fit room names right inside target e width blocking slices wide (none_first (answer_faults (typed_answer names e width)) none);
}
