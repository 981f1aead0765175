-- What the operators of words are made of: constants, `not`, `and`, `xor`, `mux`, where the last three may change a state.
use Rattle.std.specs.Prelude.{Bool}
use Rattle.rst_value.specs.declared.tern.Tern.{Tern}
use Rattle.rst_value.specs.Terns.{known}
use Rattle.rst_gate.specs.Operations.{Operations, on_bits, on_terns}

-- the state behind an operation, and its answer
abbrev pub Step : Type 0 → Type 0 → Type 0
Step S X = S × X

-- `choice s c t e` is the `mux` of the select c, the value t where it is one, and the value e where it is zero
pub record Algebra (S X : Type 0) : Type 0 where
  pub constant : Bool → X
  pub negation : X → X
  pub both : S → X → X → Step S X
  pub differ : S → X → X → Step S X
  pub choice : S → X → X → X → Step S X

-- operations without a state
abbrev pub pure : {X : Type 0} → (Bool → X) → Operations X → Algebra (Unit {0}) X
pure constant O = record {
  constant = constant;
  negation = O.negation;
  both = λ s a b. (s, O.both a b);
  differ = λ s a b. (s, O.differ a b);
  choice = λ s c a b. (s, O.choice c a b);
}

abbrev pub bits : Algebra (Unit {0}) Bool
bits = pure (λ b. b) on_bits

abbrev pub terns : Algebra (Unit {0}) Tern
terns = pure known on_terns
