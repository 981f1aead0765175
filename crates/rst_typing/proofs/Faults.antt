-- The first of joined lists of faults, and the faults of an answer.
use Rattle.std.proofs.Common.{◌≡◌, List, [], ◌∷◌, ◌++◌, Some, Err, refl, sym, subst}
use Rattle.std.specs.Prelude.{Result}
use Rattle.rst_width.specs.declared.typed_expr.WidthFault.{WidthFault}
use Rattle.rst_width.specs.declared.typed_expr.WidthFault.TheVariants as fault
use Rattle.rst_width.specs.Sized.{Answer}
use Rattle.rst_width.specs.Typed.{plain_typed}
use Rattle.rst_width.specs.Answers.{Gives}
use Rattle.rst_names.specs.Faults.{first}
use Rattle.rst_typing.specs.Typing.{answer_faults}
use Rattle.rst_typing.specs.Refusals.{IsFirst}

first-front : {X : Type 0} (a b : List X) (x : X) → first a ≡ Some x → first (a ++ b) ≡ Some x
first-front [] b x h = cc
first-front (y ∷ a) b x h = h

-- the first of the front is the first of the whole
pub is_first-front : (e : WidthFault) (a b : List WidthFault) → IsFirst e a → IsFirst e (a ++ b)
is_first-front e a b h = record { is_first = λ other. first-front a b e (h.is_first other) }

-- where the front has no fault, the rest counts
pub is_first-behind : (e : WidthFault) (a b : List WidthFault) → a ≡ [] → IsFirst e b → IsFirst e (a ++ b)
is_first-behind e a b none h = subst (λ (l : List WidthFault). IsFirst e (l ++ b)) (sym none) h

-- memory that ran out is free
pub is_first-memory : (e : WidthFault) (faults : List WidthFault) → e ≡ fault.NoMemory → IsFirst e faults
is_first-memory e faults ran = record { is_first = λ other. absurd (other ran) }

-- a list that is the same
pub is_first-same : (e : WidthFault) (a b : List WidthFault) → a ≡ b → IsFirst e a → IsFirst e b
is_first-same e a b same h = subst (IsFirst e) same h

-- two lists without a fault
pub none-joined : (a b : List WidthFault) → a ≡ [] → b ≡ [] → (a ++ b) ≡ []
none-joined a b none h = subst (λ (l : List WidthFault). (l ++ b) ≡ []) (sym none) h

-- the fault that a call gives
pub is_first-given : {X Y : Type 0} (view : X → Y) (e : WidthFault) (answer : Result Y WidthFault) → Gives view (Err e) answer → IsFirst e (answer_faults answer)
is_first-given view (fault.NoName n) answer h = rw h (record { is_first = λ other. refl })
is_first-given view fault.TooWide answer h = rw h (record { is_first = λ other. refl })
is_first-given view fault.ZeroWidth answer h = rw h (record { is_first = λ other. refl })
is_first-given view fault.BadSelect answer h = rw h (record { is_first = λ other. refl })
is_first-given view fault.MayLeaveRange answer h = rw h (record { is_first = λ other. refl })
is_first-given view fault.NotConstant answer h = rw h (record { is_first = λ other. refl })
is_first-given view fault.ZeroDivisor answer h = rw h (record { is_first = λ other. refl })
is_first-given view fault.NoMemory answer h = record { is_first = λ other. absurd (other refl) }

-- the fault of a typed form
pub is_first_typed : (e : WidthFault) (answer : Answer) → Gives plain_typed (Err e) answer → IsFirst e (answer_faults answer)
is_first_typed e answer h = is_first-given plain_typed e answer h

pub ruleset firsts = (is_first-front, is_first-behind, is_first-memory, is_first_typed, none-joined)
