use Rattle.std.proofs.Common.{◌≡◌, ◌∙◌, ◌+◌, suc, refl, subst, arith, false, length, below_more}
use Rattle.rst_solve.specs.Choices.{Knows, AllKnownTo}
use Rattle.rst_solve.proofs.Steps.{below_decided}
use Rattle.rst_solve.proofs.tree.descend.Goals as goal

pub loop-bit-preserved-then-is_known : goal.loop-bit-preserved-then-is_known
loop-bit-preserved-then-is_known c = record {
  below = c.loop-bit.invariant.below;
  complete = c.loop-bit.invariant.complete;
  known = below_more (λ i. Knows c.loop-bit.t.trail.lits i) c.loop-bit.bit c.loop-bit.invariant.known (c.is_known.ensures.known c.if-is_known.true);
  paths = c.loop-bit.invariant.paths;
}

pub returns-then-not-complete-clause-below : goal.returns-then-not-complete-clause-below
returns-then-not-complete-clause-below c =
    below_decided _ _ _ c.loop-bit.t c.spread.new.t (record { bit = c.loop-bit.bit; value = false; floor = length c.loop-bit.t.trail.lits }) refl c.loop-bit.invariant.below
    c.in_ok-complete.ensures.at (c.in_ok-complete.ensures.levels ∙ c.in_ok-decide.ensures.levels) (c.in_ok-complete.ensures.log ∙ c.in_ok-decide.ensures.log)
    (c.in_ok-complete.ensures.paths ∙ c.in_ok-decide.ensures.paths)

pub loop-bit-preserved : goal.loop-bit-preserved
loop-bit-preserved c = record {
  below = below_decided _ _ _ c.loop-bit.t c.spread.new.t (record { bit = c.loop-bit.bit; value = false; floor = length c.loop-bit.t.trail.lits }) refl c.loop-bit.invariant.below
      c.in_ok-complete.ensures.at (c.in_ok-complete.ensures.levels ∙ c.in_ok-decide.ensures.levels) (c.in_ok-complete.ensures.log ∙ c.in_ok-decide.ensures.log)
      (c.in_ok-complete.ensures.paths ∙ c.in_ok-decide.ensures.paths);
  complete = c.in_ok-complete.ensures.complete c.if-not-complete.false;
  known = let n : suc c.loop-bit.bit ≡ c.loop-bit.bit + 1 = omega arith in subst (λ m. AllKnownTo c.spread.new.t.trail.lits m) n (c.in_ok-complete.ensures.known (suc c.loop-bit.bit) c.in_ok-decide.ensures.known);
  paths = c.in_ok-complete.ensures.paths ∙ c.in_ok-decide.ensures.paths ∙ c.loop-bit.invariant.paths;
}

pub returns-clause-known : goal.returns-clause-known
returns-clause-known c = λ _ bit lt. c.loop-bit.invariant.known bit (omega arith)
