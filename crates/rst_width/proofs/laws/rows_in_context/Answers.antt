use Rattle.std.proofs.Common.{refl, true, false}
use Rattle.rst_width.specs.Sizing.{Moving, Comparing, Deciding}
use Rattle.rst_width.specs.Answers.{widened_shape, placed_shape}
use Rattle.rst_width.proofs.TableRows as rows
use Rattle.rst_width.proofs.laws.rows_in_context.Goals as goal

pub returns : goal.returns
returns c = record {
  literal = λ names n c. refl;
  undeclared = rows.undeclared;
  signal = rows.signal;
  parameter = rows.parameter;
  bit = λ names n i c. refl;
  part = λ names n h l c. refl;
  parentheses = λ names e c. refl;
  signs = rows.signs;
  reductions = rows.reductions;
  sums = rows.sums;
  divisions = rows.divisions;
  shifts = λ names op a b c h. rows.of_kind names op Moving a b c h;
  comparisons = λ names op a b c h. rows.of_kind names op Comparing a b c h;
  decisions = λ names op a b c h. rows.of_kind names op Deciding a b c h;
  choices = λ names t a b c. refl;
  joins = rows.joins;
  repetitions = rows.repetitions;
  signed = λ names e c. rows.cast names true e c;
  unsigned = λ names e c. rows.cast names false e c;
  alone = λ names e. rows.brought_by names (λ x. x) e;
  widened = λ names e width. rows.brought_by names (λ x. widened_shape x width) e;
  placed = λ names e c. rows.brought_by names (λ x. placed_shape x c) e;
}
