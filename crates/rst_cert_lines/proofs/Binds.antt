-- Reading one thing behind another.
use Rattle.std.proofs.Common.{◌≡◌, ℕ, Bool, true, false, cond, ◌&&◌, Option, Some, None, List, refl, ap}
use Rattle.rst_cert_lines.specs.Reading.{Read, ◌>>=◌, when}

pub value_of_some : {A : Type 0} → A → Option A → A
value_of_some d (Some x) = x
value_of_some d None = d

pub the_some : {A : Type 0} (x y : A) → Some x ≡ Some y → x ≡ y
unfolding value_of_some
the_some x y e = ap (value_of_some x) e

pub no_some : {A : Type 0} (x : A) → None ≡ Some x → ⊥
no_some x e = cc

-- what was read behind another was read behind it
pub bind_some : {A B : Type 0} (read : Read A) (next : A × List ℕ → Read B) (it : B × List ℕ) → (read >>= next) ≡ Some it
    → (found : A × List ℕ) × (read ≡ Some found) × (next found ≡ Some it)
bind_some None next it e = absurd (no_some it e)
bind_some (Some found) next it e = (found, refl, e)

pub bind_go : {A B : Type 0} (read : Read A) (next : A × List ℕ → Read B) (found : A × List ℕ) → read ≡ Some found → (read >>= next) ≡ next found
bind_go read next found e = ap (λ r. r >>= next) e

-- what was chosen by a test
pub chosen : {A : Type 0} (test : Bool) (x it : A) → cond test (Some x) None ≡ Some it → (test ≡ true) × (x ≡ it)
chosen true x it e = (refl, the_some x it e)
chosen false x it e = absurd (no_some it e)

pub when_some : {A : Type 0} (test : Bool) (read : Read A) (it : A × List ℕ) → when test read ≡ Some it → (test ≡ true) × (read ≡ Some it)
when_some true read it e = (refl, e)
when_some false read it e = absurd (no_some it e)

pub both_true : (a b : Bool) → (a && b) ≡ true → (a ≡ true) × (b ≡ true)
both_true true b e = (refl, e)
both_true false b e = absurd (cc)
