-- The weight of statements: how many gates they ask for at most.
use Rattle.std.specs.Prelude.{ℕ, zero, suc, ◌+◌, ◌*◌, Bool, ◌||◌, cond, List, [], ◌∷◌}
use Rattle.rst_width.specs.Typed.{shape_of}
use Rattle.rst_typed_terms.specs.Weights.{expression_weight}
use Rattle.rst_net.specs.Statements.{Label, Statement, Statements, Arms, Default, Block, If, Case, Set, Empty, end, more, no_arm, arm, no_default, default}
use Rattle.rst_cycle.specs.Bits.{digit}
use Rattle.rst_cycle.specs.Drivers.{sets, arms_set, default_sets}

-- how many places below a number pass a test
unfoldable pub places_below : (ℕ → Bool) → ℕ → ℕ
places_below test zero = 0
places_below test (suc place) = digit (test place) + places_below test place

-- how many bits of the signals below a number pass a test; no signal has more than 64
unfoldable pub bits_among : (ℕ → ℕ → Bool) → ℕ → ℕ
bits_among test zero = 0
bits_among test (suc i) = places_below (test i) 64 + bits_among test i

-- A statement over signals of these widths, of which there are `count`.
module _ (widths : ℕ → ℕ) (count : ℕ) where
  -- the labels of an arm, each of which is compared with a selector of this width
  abbrev pub labels_weight : ℕ → List Label → ℕ
  labels_weight width [] = 0
  labels_weight width (label ∷ labels) = 2 * width + 1 + (expression_weight widths label.value + labels_weight width labels)

  abbrev mutual
    -- Behind an `if`, and behind each arm, every bit that the statement sets anywhere is chosen.
    pub statement_weight : Statement → ℕ
    statement_weight (Block statements) = all_weight statements
    statement_weight (If condition first second) =
        (shape_of condition).width + bits_among (λ i place. sets first i place || sets second i place) count
        + (expression_weight widths condition + (statement_weight first + statement_weight second))
    statement_weight (Case selector arms otherwise full) =
        expression_weight widths selector
        + (arms_weight (shape_of selector).width (bits_among (λ i place. arms_set arms i place || default_sets otherwise i place) count) arms + default_weight otherwise)
    statement_weight (Set set) = expression_weight widths set.value
    statement_weight Empty = 0

    pub all_weight : Statements → ℕ
    all_weight end = 0
    all_weight (more statement statements) = statement_weight statement + all_weight statements

    -- the arms over a selector of this width, in a case that sets so many bits
    pub arms_weight : ℕ → ℕ → Arms → ℕ
    arms_weight width bits no_arm = 0
    arms_weight width bits (arm labels body arms) = labels_weight width labels + (bits + (statement_weight body + arms_weight width bits arms))

    pub default_weight : Default → ℕ
    default_weight no_default = 0
    default_weight (default statement) = statement_weight statement
