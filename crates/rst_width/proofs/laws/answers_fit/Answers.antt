use Rattle.std.proofs.Common.{true, false, arith}
use Rattle.rst_width.specs.Fit.{IsFitAt}
use Rattle.rst_width.specs.Reads.{ReadsInside}
use Rattle.rst_width.specs.Answers.{own_shape, widened_shape, placed_shape}
use Rattle.rst_width.proofs.AnswersFit.{typed-fits, placed-fits, of_ok}
use Rattle.rst_width.proofs.ReadsSized.{typed-reads}
use Rattle.rst_width.proofs.laws.answers_fit.Goals as goal

pub returns : goal.returns
returns c = record {
  typed = λ names right e width t is. of_ok (IsFitAt (widened_shape (own_shape names e) width)) _ t is (typed-fits names right e width);
  placed = λ names right e context t is. of_ok (IsFitAt (placed_shape (own_shape names e) context)) _ t is (placed-fits names right e context);
  typed_inside = λ widths names right inside e width t is.
      of_ok (ReadsInside widths) _ t is (typed-reads widths names right inside true false e (widened_shape (own_shape names e) width) (omega arith));
  placed_inside = λ widths names right inside e context t is.
      of_ok (ReadsInside widths) _ t is (typed-reads widths names right inside true false e (placed_shape (own_shape names e) context) (omega arith));
}
