-- The terms of statements, over any algebra: what they leave the signals' bits with. In a combinational block each set is seen by the
-- reads behind it; in a clocked one the reads see the bits that stand when it begins (IEEE 1364-2001, clause 9.2). Each operation is
-- asked for where it stands, so the order of the gates is that of the lines.
use Rattle.std.specs.Prelude.{ℕ, ◌/◌, ◌%◌, nat_eq, Bool, true, false, ◌||◌, List, [], ◌∷◌, if◌then◌else◌}
use Rattle.rst_width.specs.Typed.{Typed}
use Rattle.rst_terms.specs.declared.kinds.Connective.TheVariants.{Or}
use Rattle.rst_terms.specs.Algebras.{Algebra, Step}
use Rattle.rst_terms.specs.Recurrences.{reduced, equal}
use Rattle.rst_typed_terms.specs.Expressions.{expression_bits}
use Rattle.rst_net.specs.Statements.{Label, Statement, Statements, Arms, Default, Block, If, Case, Set, Empty, end, more, no_arm, arm, no_default, default}
use Rattle.rst_cycle.specs.Drivers.{sets, arms_set, default_sets}
use Rattle.rst_statement_terms.specs.Targets.{Words, word_of, with_target, merged}

-- what reads see: the bits that stand when a clocked block begins, or those that stand now
pub data Sight (X : Type 0) : Type 0 where
  Held : Words X → Sight X
  Current : Sight X

abbrev pub seen : {X : Type 0} → Sight X → Words X → ℕ → List X
seen (Held words) now i = word_of words i
seen Current now i = word_of now i

-- the bits that a mask leaves out of the comparison are dropped
abbrev pub unmasked : {X : Type 0} → ℕ → List X → List X
unmasked mask [] = []
unmasked mask (x ∷ xs) = if nat_eq (mask % 2) 1 then unmasked (mask / 2) xs else x ∷ unmasked (mask / 2) xs

-- whether each label matches the selector: its expression, and then whether all bits are equal that aren't masked
abbrev pub label_bits : {S X : Type 0} → Algebra S X → (ℕ → List X) → List X → S → List Label → Step S (List X)
label_bits A signals selector s [] = (s, [])
label_bits A signals selector s (label ∷ labels) =
    let e = expression_bits A signals s label.value in
    let m = equal A e.0 (unmasked label.mask selector) (unmasked label.mask e.1) in
    let rest = label_bits A signals selector m.0 labels in
    (rest.0, m.1 ∷ rest.1)

-- whether the last arm is taken untested: the labels match whatever the selector is, and nothing stands behind the arm
abbrev pub is_last : Bool → Arms → Default → Bool
is_last full no_arm no_default = full
is_last full _ _ = false

abbrev mutual
  pub statement_bits : {S X : Type 0} → Algebra S X → Sight X → S → Words X → Statement → Step S (Words X)
  statement_bits A reads s words (Block statements) = all_bits A reads s words statements
  -- the condition, its `or`, the first branch, the second branch, and then the muxes
  statement_bits A reads s words (If condition first second) =
      let c = expression_bits A (seen reads words) s condition in
      let test = reduced A Or c.0 c.1 in
      let y = statement_bits A reads test.0 words first in
      let n = statement_bits A reads y.0 words second in
      merged A n.0 test.1 (λ i place. sets first i place || sets second i place) 0 y.1 n.1
  -- the selector, and then the chain of the arms
  statement_bits A reads s words (Case selector arms otherwise full) =
      let c = expression_bits A (seen reads words) s selector in
      arm_bits A reads c.1 full c.0 words arms otherwise (λ t ws. default_bits A reads t ws otherwise)
  statement_bits A reads s words (Set set) =
      let v = expression_bits A (seen reads words) s set.value in
      (v.0, with_target set.target v.1 words)
  statement_bits A reads s words Empty = (s, words)

  pub all_bits : {S X : Type 0} → Algebra S X → Sight X → S → Words X → Statements → Step S (Words X)
  all_bits A reads s words end = (s, words)
  all_bits A reads s words (more statement statements) =
      let r = statement_bits A reads s words statement in
      all_bits A reads r.0 r.1 statements

  -- The chain of a case: each arm is an `if` whose condition is the `or` of its labels' matches. At its end stand the bits of the default.
  pub arm_bits : {S X : Type 0} → Algebra S X → Sight X → List X → Bool → S → Words X → Arms → Default → (S → Words X → Step S (Words X)) → Step S (Words X)
  arm_bits A reads selector full s words no_arm otherwise behind = behind s words
  arm_bits A reads selector full s words (arm labels body arms) otherwise behind =
      if is_last full arms otherwise then statement_bits A reads s words body
      else
      (let m = label_bits A (seen reads words) selector s labels in
      let test = reduced A Or m.0 m.1 in
      let y = statement_bits A reads test.0 words body in
      let n = arm_bits A reads selector full y.0 words arms otherwise behind in
      merged A n.0 test.1 (λ i place. sets body i place || (arms_set arms i place || default_sets otherwise i place)) 0 y.1 n.1)

  -- without a default nothing changes
  pub default_bits : {S X : Type 0} → Algebra S X → Sight X → S → Words X → Default → Step S (Words X)
  default_bits A reads s words no_default = (s, words)
  default_bits A reads s words (default statement) = statement_bits A reads s words statement
