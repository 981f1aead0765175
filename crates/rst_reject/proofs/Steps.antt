-- Chains of steps.
use Rattle.std.proofs.Common.{◌≡◌, Result, Ok, Err, refl, subst}
use Rattle.rst_reject.specs.declared.reject.Reject.{Reject}
use Rattle.rst_reject.specs.declared.stop.Stop.{Stop}
use Rattle.rst_reject.specs.declared.stop.Stop.TheVariants as stops
use Rattle.rst_reject.specs.Steps.{Then, refused, goes_on, HasOneAnswer, StopsBy}

-- Where each step comes to one answer, both together do.
module _ {A B R : Type 0} {First : Result A R → Type 0} {Rest : A → Result B R → Type 0} (one : HasOneAnswer First) (others : (a : A) → HasOneAnswer (Rest a)) where
  pub one_answer : HasOneAnswer (Then First Rest)
  one_answer p q (refused r f e) (refused s g h) = let same = one (Err r) (Err s) f g in cc
  one_answer p q (refused r f e) (goes_on b g y) = let same = one (Err r) (Ok b) f g in cc
  one_answer p q (goes_on a f x) (refused s g h) = let same = one (Ok a) (Err s) f g in cc
  one_answer p q (goes_on a f x) (goes_on b g y) =
      let same : a ≡ b = let oks = one (Ok a) (Ok b) f g in cc in
      others b p q (subst (λ c. Rest c p) same x) y

-- ---- calls that stop

-- where the first step stops, the chain does
pub stops_first : {A B : Type 0} (First : Result A Reject → Type 0) (Rest : A → Result B Reject → Type 0) (stop : Stop) → StopsBy First stop → StopsBy (Then First Rest) stop
stops_first First Rest (stops.Rejected r) h = refused r h refl
stops_first First Rest stops.NoMemory h = tt

-- where the first step gives a value and the rest stops, the chain does
pub stops_behind : {A B : Type 0} (First : Result A Reject → Type 0) (Rest : A → Result B Reject → Type 0) (a : A) (stop : Stop) → First (Ok a) → StopsBy (Rest a) stop → StopsBy (Then First Rest) stop
stops_behind First Rest a (stops.Rejected r) first h = goes_on a first h
stops_behind First Rest a stops.NoMemory first h = tt
