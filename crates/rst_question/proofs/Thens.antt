-- What a chain of two steps that came to an answer went through.
use Rattle.std.proofs.Common.{◌≡◌, ◌⊎◌, inl, inr, Result, Ok, Err, subst, sym}
use Rattle.rst_reject.specs.Steps.{Then, refused, goes_on}

module _ {A B R : Type 0} {First : Result A R → Type 0} {Rest : A → Result B R → Type 0} where
  -- a refusal is that of the first step, or of the rest
  pub refusal_of : (r : R) → Then First Rest (Err r) → First (Err r) ⊎ ((a : A) × First (Ok a) × Rest a (Err r))
  refusal_of r (refused s f e) =
      let same : s ≡ r = cc in
      inl (subst (λ (x : R). First (Err x)) same f)
  refusal_of r (goes_on a f x) = inr (a, f, x)

  -- a value is that of the rest
  pub value_of : (b : B) → Then First Rest (Ok b) → (a : A) × First (Ok a) × Rest a (Ok b)
  value_of b (refused s f e) = cc
  value_of b (goes_on a f x) = (a, f, x)
