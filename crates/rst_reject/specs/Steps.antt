-- Steps that come one behind another, each of which may refuse.
--
-- A step is a relation: it says what it comes to, a value or a refusal. A chain of steps comes to the first refusal, or to the value
-- of the last step. So where each step comes to one answer, the chain does (`proofs/Steps.antt`).
use Rattle.std.specs.Prelude.{◌≡◌, Result, Ok, Err}
use Rattle.rst_reject.specs.declared.stop.Stop.{Stop}
use Rattle.rst_reject.specs.declared.reject.Reject.{Reject}
use Rattle.rst_reject.specs.Rejects.{IfRejected}

-- The first step refuses, and the rest is not asked; or it gives a value, and the rest answers for it.
pub data Then {A B R : Type 0} (First : Result A R → Type 0) (Rest : A → Result B R → Type 0) (answer : Result B R) : Type 0 where
  refused : (r : R) → First (Err r) → answer ≡ Err r → Then First Rest answer
  goes_on : (a : A) → First (Ok a) → Rest a answer → Then First Rest answer

-- a step comes to one answer
abbrev pub HasOneAnswer : {A R : Type 0} → (Result A R → Type 0) → Type 0
HasOneAnswer Step = (p q : Result _ _) → Step p → Step q → p ≡ q

-- a call that stops does so with the refusal that a step comes to, unless memory ran out
abbrev pub StopsBy : {A : Type 0} → (Result A Reject → Type 0) → Stop → Type 0
StopsBy Step stop = IfRejected stop (λ r. Step (Err r))
