-- Two and three values have the laws of the folds.
use Rattle.std.proofs.Common.{◌≡◌, Bool, true, false, not, ◌&&◌, refl, arith}
use Rattle.rst_value.specs.Bits.{bit_xor}
use Rattle.rst_value.specs.declared.tern.Tern.{Tern}
use Rattle.rst_value.specs.declared.tern.Tern.TheVariants.{Zero, One, Unknown}
use Rattle.rst_value.specs.Terns.{not_table, and_table, xor_table}
use Rattle.rst_gate.specs.Operations.{on_bits, on_terns}
use Rattle.rst_gate.proofs.SharedMeaning.{Folds}

bits_twice : (a : Bool) → not (not a) ≡ a
bits_twice true = refl
bits_twice false = refl

bits_turned : (a b : Bool) → (a && b) ≡ (b && a)
bits_turned true true = refl
bits_turned true false = refl
bits_turned false true = refl
bits_turned false false = refl

xor_turned : (a b : Bool) → bit_xor a b ≡ bit_xor b a
xor_turned true true = refl
xor_turned true false = refl
xor_turned false true = refl
xor_turned false false = refl

pub bits_fold : Folds on_bits
bits_fold = record {
  twice = bits_twice;
  both_low = λ a. refl;
  both_high = λ a. refl;
  both_turned = bits_turned;
  differ_low = λ a. refl;
  differ_high = λ a. refl;
  differ_turned = xor_turned;
  choice_low = λ a b. refl;
  choice_high = λ a b. refl;
}

terns_twice : (a : Tern) → not_table (not_table a) ≡ a
terns_twice Zero = refl
terns_twice One = refl
terns_twice Unknown = refl

terns_turned : (a b : Tern) → and_table a b ≡ and_table b a
terns_turned a b = grind arith

txor_turned : (a b : Tern) → xor_table a b ≡ xor_table b a
txor_turned a b = grind arith

pub terns_fold : Folds on_terns
terns_fold = record {
  twice = terns_twice;
  both_low = λ a. refl;
  both_high = λ a. refl;
  both_turned = terns_turned;
  differ_low = λ a. refl;
  differ_high = λ a. refl;
  differ_turned = txor_turned;
  choice_low = λ a b. refl;
  choice_high = λ a b. refl;
}
