-- What loops over the parts of a join keep.
use Rattle.std.proofs.Common.{◌≡◌, refl, ℕ, ◌+◌, Option, Some, None, add-one}
use Rattle.rst_word.specs.declared.word.Word.{Word}
use Rattle.rst_word.specs.Words.{PlainWord, joined}
use Rattle.rst_word.specs.Plain.{plain_word}
use Rattle.rst_width.specs.Typed.{TypedList}
use Rattle.rst_width.specs.Values.{repeated, joined_parts, joined_behind}
use Rattle.rst_width.specs.Fit.{AreFit, widths}
use Rattle.rst_width.specs.Fronts.{width_of_front}

-- parts behind what is joined so far
abbrev pub parts_behind : Option Word → TypedList → PlainWord
parts_behind None left = joined_parts (λ _. 0) left
parts_behind (Some front) left = joined_behind (λ _. 0) (plain_word front) left

-- with the parts that are left behind it, what is joined so far is the whole join
pub record StillJoins (whole : TypedList) (front : Option Word) (left : TypedList) : Type 0 where
  pub same : parts_behind front left ≡ joined_parts (λ _. 0) whole
  pub width : width_of_front front + widths left ≡ widths whole
  pub fit : AreFit left

-- one more word behind what stands there
pub repeated-step : (left : ℕ) (front w : PlainWord) → repeated (left + 1) front w ≡ repeated left (joined front w) w
repeated-step left front w = rw add-one refl
